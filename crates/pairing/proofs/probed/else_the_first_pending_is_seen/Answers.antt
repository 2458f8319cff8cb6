use Rattle.pairing.proofs.ProbedLemmas.{else_the_first_pending_is_seen}
use Rattle.pairing.proofs.probed.else_the_first_pending_is_seen.Goals as goal

pub returns : goal.returns
returns c = else_the_first_pending_is_seen
