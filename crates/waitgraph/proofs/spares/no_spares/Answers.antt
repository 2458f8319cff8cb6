use Rattle.std.proofs.Common.{arith}
use Rattle.waitgraph.proofs.BucketLemmas.{none_more}
use Rattle.waitgraph.proofs.spares.no_spares.Goals as goal

pub loop-rank-preserved : goal.loop-rank-preserved
loop-rank-preserved c = record {
  len = omega (arith, c.loop-rank.invariant.len, c.in_ok-push.ensures.len);
  none = λ rank. rw c.in_ok-push.ensures.items (none_more c.loop-rank.spares.items c.new.result c.loop-rank.invariant.none c.new.ensures.items rank);
}
