use Rattle.callstore.proofs.WaveLemmas.{waves_stay}
use Rattle.callstore.proofs.wave.waves_stay.Goals as goal

pub returns : goal.returns
returns c = waves_stay
