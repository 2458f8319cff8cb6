use Rattle.waitgraph.proofs.PendingLemmas.{without_pending_the_held_are_the_same}
use Rattle.waitgraph.proofs.pending.without_pending_the_held_are_the_same.Goals as goal

pub returns : goal.returns
returns c = without_pending_the_held_are_the_same
