-- Some of the members that are left have a seat exactly if some of all have.
use Rattle.std.proofs.Common.{◌≡◌, ◌+◌, ◌*◌, ◌≤◌, drop, vec_len}
use Rattle.std.specs.List.{list_any}
use Rattle.closing.specs.inner.Prefaces.{AreRanks, is_seat, seat_at}
use Rattle.closing.proofs.numbers.Preface.is_free.Given as goal

abbrev pub invariant-loop-member : goal.invariant-loop-member
invariant-loop-member l = AreRanks l.self.ranks l.group → l.line * l.self.ranks + l.self.ranks ≤ vec_len l.self.seats → list_any (λ rank. is_seat (seat_at l.self l.line rank)) (drop l.member-index l.group) ≡ list_any (λ rank. is_seat (seat_at l.self l.line rank)) l.group
