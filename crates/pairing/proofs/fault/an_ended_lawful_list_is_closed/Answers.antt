use Rattle.pairing.proofs.FaultLemmas.{an_ended_lawful_list_is_closed}
use Rattle.pairing.proofs.fault.an_ended_lawful_list_is_closed.Goals as goal

pub returns : goal.returns
returns c = an_ended_lawful_list_is_closed
