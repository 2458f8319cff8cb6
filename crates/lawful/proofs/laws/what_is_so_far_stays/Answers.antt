use Rattle.lawful.proofs.SoFarSteps.{what_is_so_far_stays}
use Rattle.lawful.proofs.laws.what_is_so_far_stays.Goals as goal

pub returns : goal.returns
returns c = what_is_so_far_stays
