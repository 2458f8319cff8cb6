use Rattle.waitgraph.proofs.VerdictLemmas.{without_open_the_stuck_are_held}
use Rattle.waitgraph.proofs.verdict.without_open_the_stuck_are_held.Goals as goal

pub returns : goal.returns
returns c = without_open_the_stuck_are_held
