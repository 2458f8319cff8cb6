use Rattle.std.proofs.Common.{refl, arith}
use Rattle.waitgraph.proofs.SinkTableLemmas.{one_more}
use Rattle.waitgraph.proofs.sink_table.SinkTable.new.Goals as goal

pub loop-sink-init : goal.loop-sink-init
loop-sink-init c rank within = c.in_ok-by_rank.ensures rank

pub loop-sink-preserved : goal.loop-sink-preserved
loop-sink-preserved c rank within =
    one_more rank c.args.all.now c.loop-sink.sink-index _ _ _ _ (omega arith) refl (c.loop-sink.invariant rank (omega (arith, within, c.add.ensures.len))) (c.in_ok-add.ensures.more rank (omega (arith, within, c.add.ensures.len)))
