use Rattle.pairing.proofs.ProbedLemmas.{probed_sends_stay}
use Rattle.pairing.proofs.probed.probed_sends_stay.Goals as goal

pub returns : goal.returns
returns c = probed_sends_stay
