-- Lines one after the other.
use Rattle.std.proofs.Common.{◌≡◌, ◌∙◌, ℕ, ◌<◌, ◌≤◌, ap, arith, sym, Bool, true, false, length, drop, vec_len}
use Rattle.std.specs.List.{list_any}
use Rattle.closing.specs.inner.Prefaces.{first_free, is_seat, seat_at, shares}
use Rattle.closing.proofs.NumberLists.{drop_past, get_some}
use Rattle.closing.proofs.PrefaceLemmas.{free_found, free_more, line_room, not_false, not_true, shares_seats}
use Rattle.closing.proofs.numbers.Preface.first_free.Goals as goal

pub returns-then-is_free : goal.returns-then-is_free
returns-then-is_free c =
    λ ranks next lines h.
    let self = c.args.self.now in
    let group = c.args.group.now in
    let n = c.loop-line.line in
    let t : ℕ → Bool = λ rank. is_seat (seat_at self n rank) in
    let within : n < length lines = omega (arith, h.count) in
    let at = get_some lines n within in
    let says = c.is_free.ensures ranks (line_room n (length lines) self.ranks (vec_len self.seats) within (self.seats.ok.0 ∙ h.room)) in
    let free : list_any t group ≡ false = not_true (list_any t group) (sym says ∙ c.if-is_free.true) in
    let none : shares group at.0 ≡ false = sym (shares_seats self next n lines at.0 group h at.1 ranks) ∙ free in
    free_found group lines n at.0 (first_free group lines) at.1 none (c.loop-line.invariant ranks next lines h)

pub loop-line-preserved : goal.loop-line-preserved
loop-line-preserved c =
    λ ranks next lines h.
    let self = c.args.self.now in
    let group = c.args.group.now in
    let n = c.loop-line.line in
    let t : ℕ → Bool = λ rank. is_seat (seat_at self n rank) in
    let within : n < length lines = omega (arith, h.count) in
    let at = get_some lines n within in
    let says = c.is_free.ensures ranks (line_room n (length lines) self.ranks (vec_len self.seats) within (self.seats.ok.0 ∙ h.room)) in
    let taken : list_any t group ≡ true = not_false (list_any t group) (sym says ∙ c.if-is_free.false) in
    let some : shares group at.0 ≡ true = sym (shares_seats self next n lines at.0 group h at.1 ranks) ∙ taken in
    free_more group lines n at.0 (first_free group lines) at.1 some (c.loop-line.invariant ranks next lines h)

pub returns : goal.returns
returns c =
    λ ranks next lines h.
    let group = c.args.group.now in
    let n = c.loop-line.line in
    let past : length lines ≤ n = omega (arith, h.count) in
    let none : first_free group (drop n lines) ≡ 0 = ap (λ xs. first_free group xs) (drop_past lines n past) in
    let inv = c.loop-line.invariant ranks next lines h in
    omega (arith, h.count)
