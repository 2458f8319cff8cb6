use Rattle.waitgraph.proofs.DeadlockLemmas.{the_held_are_the_greatest}
use Rattle.waitgraph.proofs.loose.the_held_are_the_greatest.Goals as goal

pub returns : goal.returns
returns c = the_held_are_the_greatest
