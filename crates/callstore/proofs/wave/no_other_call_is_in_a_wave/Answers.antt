use Rattle.callstore.proofs.WaveLemmas.{no_other_call_is_in_a_wave}
use Rattle.callstore.proofs.wave.no_other_call_is_in_a_wave.Goals as goal

pub returns : goal.returns
returns c = no_other_call_is_in_a_wave
