use Rattle.lawful.proofs.FaultLemmas.{no_other_fault}
use Rattle.lawful.proofs.laws.no_other_fault.Goals as goal

pub returns : goal.returns
returns c = no_other_fault
