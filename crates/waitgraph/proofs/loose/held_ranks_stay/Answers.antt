use Rattle.waitgraph.proofs.DeadlockLemmas.{held_ranks_stay}
use Rattle.waitgraph.proofs.loose.held_ranks_stay.Goals as goal

pub returns : goal.returns
returns c = held_ranks_stay
