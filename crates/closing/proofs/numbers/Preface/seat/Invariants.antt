-- What stands with the seats of the members that are left is what stands with those of all.
use Rattle.std.proofs.Common.{◌≡◌, ◌+◌, ◌*◌, ◌≤◌, drop, vec_len}
use Rattle.closing.specs.inner.Prefaces.{AreRanks, seats_with}
use Rattle.closing.proofs.numbers.Preface.seat.Given as goal

abbrev pub invariant-loop-place : goal.invariant-loop-place
invariant-loop-place l = record {
  ranks : l.self.ranks ≡ l.fn.self.ranks;
  sizes : l.self.sizes.items ≡ l.fn.self.sizes.items;
  colours : l.self.colours.items ≡ l.fn.self.colours.items;
  room : vec_len l.self.seats ≡ vec_len l.fn.self.seats;
  seats : AreRanks l.fn.self.ranks l.group → l.line * l.fn.self.ranks + l.fn.self.ranks ≤ vec_len l.fn.self.seats →
      seats_with l.self.seats.items (l.line * l.fn.self.ranks) l.comm l.place (drop l.place l.group)
      ≡ seats_with l.fn.self.seats.items (l.line * l.fn.self.ranks) l.comm 0 l.group;
}
