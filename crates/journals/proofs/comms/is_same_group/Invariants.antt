-- What is left of both groups is the same where the groups are.
use Rattle.std.proofs.Common.{◌≡◌, length}
use Rattle.std.specs.Str.{bytes_eq}
use Rattle.journals.specs.inner.Naturals.{naturals, AreNatural}
use Rattle.journals.proofs.comms.is_same_group.Given as goal

abbrev pub invariant-loop-group : goal.invariant-loop-group
invariant-loop-group l = record {
  group : AreNatural l.group;
  other : AreNatural l.other;
  same : bytes_eq (naturals l.group) (naturals l.other) ≡ bytes_eq (naturals l.initial.group) (naturals l.initial.other);
}

abbrev pub decreases-loop-group : goal.decreases-loop-group
decreases-loop-group l = length l.group
