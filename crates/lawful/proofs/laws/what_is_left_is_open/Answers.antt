use Rattle.lawful.proofs.EndLemmas.{what_is_left_is_open}
use Rattle.lawful.proofs.laws.what_is_left_is_open.Goals as goal

pub returns : goal.returns
returns c = what_is_left_is_open
