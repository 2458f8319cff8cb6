use Rattle.std.proofs.Common.{◌≡◌, ◌+◌, ℕ, true, false, Some, None}
use Rattle.std.specs.Prelude.{is_some, length, slice_index, if◌then◌else◌}
use Rattle.moves.specs.inner.Positions.{AreReached, HaveInHand, AreSettled, GoOn, left_to_do}
use Rattle.moves.proofs.settle.settle.Given as goal

abbrev pub invariant-loop-next : goal.invariant-loop-next
invariant-loop-next l = record {
  come : (rank : ℕ) → l.next ≡ Some rank → l.has_come ≡ true → AreReached l.world l.positions rank (slice_index l.positions.stands.items rank);
  in_hand : (rank : ℕ) → l.next ≡ Some rank → l.has_come ≡ false → HaveInHand l.world l.positions rank;
  settled : l.next ≡ None → AreSettled l.world l.positions;
  goes_on : GoOn l.fn.positions l.positions;
}

abbrev pub decreases-loop-next : goal.decreases-loop-next
decreases-loop-next l = left_to_do l.world l.positions + (if l.has_come then length l.world.pairs.recording + 1 else 0) + (if is_some l.next then 1 else 0)
