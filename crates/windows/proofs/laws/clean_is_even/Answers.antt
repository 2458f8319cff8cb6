use Rattle.windows.proofs.EvenCuts.{clean_is_even}
use Rattle.windows.proofs.laws.clean_is_even.Goals as goal

pub returns : goal.returns
returns c = clean_is_even
