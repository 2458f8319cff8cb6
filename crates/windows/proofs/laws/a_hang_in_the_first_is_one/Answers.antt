use Rattle.windows.proofs.CutHeld.{a_hang_in_the_first_is_one}
use Rattle.windows.proofs.laws.a_hang_in_the_first_is_one.Goals as goal

pub returns : goal.returns
returns c = a_hang_in_the_first_is_one
