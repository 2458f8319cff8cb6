-- Those so far are named.
use Rattle.std.proofs.Common.{◌≡◌, length, take}
use Rattle.closing.specs.inner.Numbered.{AreNamed}
use Rattle.closing.proofs.numbers.named_of.Given as goal

abbrev pub invariant-loop-place : goal.invariant-loop-place
invariant-loop-place l = record {
  count : length l.named.items ≡ l.place;
  named : AreNamed l.keys (take l.place l.numbers) l.named.items;
}
