use Rattle.windows.proofs.RightWindows.{windows_are_right}
use Rattle.windows.proofs.laws.windows_are_right.Goals as goal

pub returns : goal.returns
returns c = windows_are_right
