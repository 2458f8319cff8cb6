use Rattle.pairing.proofs.RequestLaws.{each_wait_has_its_starts}
use Rattle.pairing.proofs.fault.each_wait_has_its_starts.Goals as goal

pub returns : goal.returns
returns c = each_wait_has_its_starts
