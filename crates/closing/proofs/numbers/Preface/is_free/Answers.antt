-- Members one after the other.
use Rattle.std.proofs.Common.{◌≡◌, ◌∙◌, ℕ, ap, arith, sym, Bool, true, false, not, get_or, Some, is_some, refl, vec_len}
use Rattle.std.specs.Prelude.{slice_get}
use Rattle.std.specs.List.{list_any}
use Rattle.std.proofs.lemmas.Option.{slice_get-get_or}
use Rattle.closing.specs.inner.Prefaces.{is_seat, seat_at}
use Rattle.closing.proofs.NumberLists.{any_found, any_step}
use Rattle.closing.proofs.PrefaceLemmas.{seat_room, seat_test}
use Rattle.closing.proofs.numbers.Preface.is_free.Goals as goal

pub returns-then-is_some : goal.returns-then-is_some
returns-then-is_some c =
    λ ranks room.
    let self = c.args.self.now in
    let group = c.args.group.now in
    let n = c.loop-member.member-index in
    let x = get_or group n 0 in
    let t : ℕ → Bool = λ rank. is_seat (seat_at self c.args.line rank) in
    let e : slice_get group n ≡ Some x = slice_get-get_or group n 0 (omega arith) in
    let at : seat_at self c.args.line x ≡ Some c.seat_of.result = c.seat_of.ensures (seat_room c.args.line self.ranks self.ranks x (vec_len self.seats) (vec_len self.seats) refl refl (ranks n x e) room) in
    let s : is_some c.seat_of.result ≡ true = cc (c.is_some.ensures, c.if-is_some.true) in
    let has : t x ≡ true = ap is_seat at ∙ seat_test c.seat_of.result ∙ s in
    sym (ap not (any_found t group n x (list_any t group) e has (c.loop-member.invariant ranks room)))

pub loop-member-preserved : goal.loop-member-preserved
loop-member-preserved c =
    λ ranks room.
    let self = c.args.self.now in
    let group = c.args.group.now in
    let n = c.loop-member.member-index in
    let x = get_or group n 0 in
    let t : ℕ → Bool = λ rank. is_seat (seat_at self c.args.line rank) in
    let e : slice_get group n ≡ Some x = slice_get-get_or group n 0 (omega arith) in
    let at : seat_at self c.args.line x ≡ Some c.seat_of.result = c.seat_of.ensures (seat_room c.args.line self.ranks self.ranks x (vec_len self.seats) (vec_len self.seats) refl refl (ranks n x e) room) in
    let s : is_some c.seat_of.result ≡ false = cc (c.is_some.ensures, c.if-is_some.false) in
    let has : t x ≡ false = ap is_seat at ∙ seat_test c.seat_of.result ∙ s in
    any_step t group n x (list_any t group) e has (c.loop-member.invariant ranks room)
