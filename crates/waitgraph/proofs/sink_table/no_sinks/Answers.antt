use Rattle.waitgraph.proofs.BucketLemmas.{none_more}
use Rattle.waitgraph.proofs.sink_table.no_sinks.Goals as goal

pub loop-rank-preserved : goal.loop-rank-preserved
loop-rank-preserved c rank = rw c.in_ok-push.ensures.items (none_more c.loop-rank.by_rank.items c.new.result c.loop-rank.invariant c.new.ensures.items rank)
