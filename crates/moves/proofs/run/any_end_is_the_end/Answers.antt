use Rattle.moves.proofs.RunLemmas.{any_end_is_the_end}
use Rattle.moves.proofs.run.any_end_is_the_end.Goals as goal

pub returns : goal.returns
returns c = any_end_is_the_end
