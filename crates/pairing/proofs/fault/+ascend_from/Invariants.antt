use Rattle.std.proofs.Common.{length}
use Rattle.pairing.proofs.fault.+ascend_from.Given as goal

abbrev pub decreases-ascend_from : goal.decreases-ascend_from
decreases-ascend_from l = length l.numbers.now
