use Rattle.pairing.proofs.RequestLaws.{no_two_starts_are_active}
use Rattle.pairing.proofs.fault.no_two_starts_are_active.Goals as goal

pub returns : goal.returns
returns c = no_two_starts_are_active
