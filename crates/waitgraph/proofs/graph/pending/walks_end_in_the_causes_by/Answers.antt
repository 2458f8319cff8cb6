use Rattle.waitgraph.proofs.PendingWalkLemmas.{walks_end_in_the_causes_by}
use Rattle.waitgraph.proofs.graph.pending.walks_end_in_the_causes_by.Goals as goal

pub returns : goal.returns
returns c = walks_end_in_the_causes_by
