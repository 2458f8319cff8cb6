use Rattle.callstore.proofs.WaveLemmas.{the_call_in_a_wave_joins_it}
use Rattle.callstore.proofs.wave.the_call_in_a_wave_joins_it.Goals as goal

pub returns : goal.returns
returns c = the_call_in_a_wave_joins_it
