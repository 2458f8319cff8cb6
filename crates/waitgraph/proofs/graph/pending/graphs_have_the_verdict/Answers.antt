use Rattle.waitgraph.proofs.PendingVerdictLemmas.{graphs_have_the_verdict}
use Rattle.waitgraph.proofs.graph.pending.graphs_have_the_verdict.Goals as goal

pub returns : goal.returns
returns c = graphs_have_the_verdict
