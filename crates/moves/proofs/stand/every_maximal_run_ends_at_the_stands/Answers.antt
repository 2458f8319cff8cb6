use Rattle.moves.proofs.StandLemmas.{every_maximal_run_ends_at_the_stands}
use Rattle.moves.proofs.stand.every_maximal_run_ends_at_the_stands.Goals as goal

pub returns : goal.returns
returns c = every_maximal_run_ends_at_the_stands
