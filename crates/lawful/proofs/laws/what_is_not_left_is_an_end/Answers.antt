use Rattle.lawful.proofs.EndLemmas.{what_is_not_left_is_an_end}
use Rattle.lawful.proofs.laws.what_is_not_left_is_an_end.Goals as goal

pub returns : goal.returns
returns c = what_is_not_left_is_an_end
