use Rattle.std.proofs.Common.{◌≡◌, ◌<◌, ◌≤◌, true, false, slice_index}
use Rattle.moves.specs.inner.Positions.{AreReached, HaveInHand, GoOn, calls_left}
use Rattle.moves.proofs.settle.settle_rank.Given as goal

-- the calls left fall once the rank has moved on; until then all is as it was
abbrev pub invariant-loop-has_come : goal.invariant-loop-has_come
invariant-loop-has_come l = record {
  come : l.has_come ≡ true → AreReached l.world l.positions l.rank (slice_index l.positions.stands.items l.rank);
  in_hand : l.has_come ≡ false → HaveInHand l.world l.positions l.rank;
  goes_on : GoOn l.fn.positions l.positions;
  no_more : calls_left l.world l.positions ≤ calls_left l.world l.fn.positions;
  fewer : l.fn.has_come ≡ false → l.has_come ≡ true → calls_left l.world l.positions < calls_left l.world l.fn.positions;
  same : l.has_come ≡ false → l.positions ≡ l.fn.positions;
  later : l.fn.has_come ≡ true → l.has_come ≡ true;
}

abbrev pub decreases-loop-has_come : goal.decreases-loop-has_come
decreases-loop-has_come l = calls_left l.world l.positions
