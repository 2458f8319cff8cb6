use Rattle.windows.proofs.CutChains.{after_free_windows_the_rest_decides}
use Rattle.windows.proofs.laws.after_free_windows_the_rest_decides.Goals as goal

pub returns : goal.returns
returns c = after_free_windows_the_rest_decides
