use Rattle.callstore.proofs.WaveLemmas.{a_wave_has_one_call_of_each_rank}
use Rattle.callstore.proofs.wave.a_wave_has_one_call_of_each_rank.Goals as goal

pub returns : goal.returns
returns c = a_wave_has_one_call_of_each_rank
