use Rattle.waitgraph.proofs.WithoutPendingLemmas.{without_pending_it_is_the_graph}
use Rattle.waitgraph.proofs.graph.pending.without_pending_it_is_the_graph.Goals as goal

pub returns : goal.returns
returns c = without_pending_it_is_the_graph
