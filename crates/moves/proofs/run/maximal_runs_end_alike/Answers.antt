use Rattle.moves.proofs.RunLemmas.{maximal_runs_end_alike}
use Rattle.moves.proofs.run.maximal_runs_end_alike.Goals as goal

pub returns : goal.returns
returns c = maximal_runs_end_alike
