use Rattle.std.proofs.Common.{length}
use Rattle.pairing.proofs.fault.+each_differs.Given as goal

abbrev pub decreases-each_differs : goal.decreases-each_differs
decreases-each_differs l = length l.numbers.now
