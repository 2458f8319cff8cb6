use Rattle.pairing.proofs.ProbedLemmas.{the_next_receive_takes_it}
use Rattle.pairing.proofs.probed.the_next_receive_takes_it.Goals as goal

pub returns : goal.returns
returns c = the_next_receive_takes_it
