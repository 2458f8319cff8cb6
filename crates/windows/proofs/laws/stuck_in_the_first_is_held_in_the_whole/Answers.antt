use Rattle.windows.proofs.CutHeld.{stuck_in_the_first_is_held_in_the_whole}
use Rattle.windows.proofs.laws.stuck_in_the_first_is_held_in_the_whole.Goals as goal

pub returns : goal.returns
returns c = stuck_in_the_first_is_held_in_the_whole
