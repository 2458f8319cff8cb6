-- The split by a rank's seat.
use Rattle.std.proofs.Common.{◌≡◌, ◌∙◌, ap, sym, subst, arith, pos, rules, zero-add, ℕ, ◌<◌, Some, None, refl, length, vec_len}
use Rattle.std.specs.Prelude.{slice_get}
use Rattle.std.specs.List.{AllZip}
use Rattle.std.proofs.lemmas.Int.{ints}
use Rattle.std.proofs.lemmas.Option.{slice_get_within}
use Rattle.mpicall.specs.declared.call.Call.TheVariants.{Split}
use mir.Syntax.{w32}
use mir.Val.{of_z, to_z}
use Rattle.closing.specs.inner.Numbered.{IsSeatOf}
use Rattle.closing.specs.Numbers.{preface_lines}
use Rattle.closing.specs.inner.Prefaces.{seat_in}
use Rattle.closing.proofs.KeyedLemmas.{zip_back}
use Rattle.closing.proofs.PrefaceLemmas.{line_room, seat_room, split_none, split_some}
use Rattle.closing.proofs.SeatLemmas.{split_same}
use Rattle.closing.proofs.numbers.Preface.split.Goals as goal

pub returns-in-Some : goal.returns-in-Some
returns-in-Some c =
    λ run count keys has at small.
    let self = c.args.self.now in
    let h = has.is in
    let line = zip_back (AllZip (IsSeatOf run)) has.lines (preface_lines run) c.args.line keys has.same at in
    let here = line.0 in
    let less : c.args.rank < self.ranks = subst (λ (n : ℕ). c.args.rank < n) (sym has.ranks) small in
    let within = slice_get_within has.lines c.args.line here line.1 in
    let room = line_room c.args.line (length has.lines) self.ranks (vec_len self.seats) within (self.seats.ok.0 ∙ h.room) in
    let seat = c.in-Some.seat in
    let read = c.seat_of.ensures (seat_room c.args.line self.ranks self.ranks c.args.rank (vec_len self.seats) (vec_len self.seats) refl refl less room) in
    let k : seat_in c.args.rank here ≡ Some seat = cc (read, h.seats c.args.line c.args.rank here line.1 less, c.in-Some.is) in
    let s = split_some c.args.rank 0 here seat k in
    let colour : slice_get self.colours.items seat.comm ≡ Some s.place = ap (λ n. slice_get self.colours.items n) s.comm ∙ h.colours c.args.line s.place here s.it line.1 s.at in
    let split = split_same run c.args.rank 0 here keys line.2 in
    let got : c.colour_of.result ≡ Some s.place = c.colour_of.ensures ∙ colour in
    let key : to_z w32 (of_z w32 c.from.result) ≡ pos seat.place = first_of (omega (arith, ints), grind (arith, ints), search rules) in
    ap (λ z. Split 0 c.colour_of.result z (Some seat.comm)) key
    ∙ ap (λ o. Split 0 o (pos seat.place) (Some seat.comm)) got
    ∙ ap (λ n. Split 0 (Some n) (pos seat.place) (Some seat.comm)) (sym (zero-add s.place))
    ∙ sym s.split ∙ split

pub returns-in-None : goal.returns-in-None
returns-in-None c =
    λ run count keys has at small.
    let self = c.args.self.now in
    let h = has.is in
    let line = zip_back (AllZip (IsSeatOf run)) has.lines (preface_lines run) c.args.line keys has.same at in
    let here = line.0 in
    let less : c.args.rank < self.ranks = subst (λ (n : ℕ). c.args.rank < n) (sym has.ranks) small in
    let within = slice_get_within has.lines c.args.line here line.1 in
    let room = line_room c.args.line (length has.lines) self.ranks (vec_len self.seats) within (self.seats.ok.0 ∙ h.room) in
    let read = c.seat_of.ensures (seat_room c.args.line self.ranks self.ranks c.args.rank (vec_len self.seats) (vec_len self.seats) refl refl less room) in
    let k : seat_in c.args.rank here ≡ None = cc (read, h.seats c.args.line c.args.rank here line.1 less, c.in-None.is) in
    sym (split_none c.args.rank 0 here k) ∙ split_same run c.args.rank 0 here keys line.2
