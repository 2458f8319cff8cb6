use Rattle.windows.proofs.CutHeld.{after_a_free_window_the_second_decides}
use Rattle.windows.proofs.laws.after_a_free_window_the_second_decides.Goals as goal

pub returns : goal.returns
returns c = after_a_free_window_the_second_decides
