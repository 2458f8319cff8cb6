use Rattle.windows.proofs.CutChains.{stuck_in_the_first_that_is_not_free}
use Rattle.windows.proofs.laws.stuck_in_the_first_that_is_not_free.Goals as goal

pub returns : goal.returns
returns c = stuck_in_the_first_that_is_not_free
