use Rattle.waitgraph.proofs.SinkTableLemmas.{got, those_found}
use Rattle.waitgraph.proofs.sink_table.SinkTable.of.Goals as goal

pub returns-in-Some : goal.returns-in-Some
returns-in-Some c =
    those_found c.args.rank c.self.inside.all.now c.args.self.now c.as_slice.result.now c.self.inside.by_rank.items c.in-Some.own.now c.self.view_is c.as_slice.ensures.value c.self.invariant
    (got c.deref.result.now c.self.inside.by_rank.items c.from.result c.args.rank c.in-Some.own.now c.deref.ensures.value c.from.ensures c.in-Some.ensures.lookup.3)
