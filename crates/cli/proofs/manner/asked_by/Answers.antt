use Rattle.std.proofs.Common.{Bool, List, Some, ap}
use Rattle.cli.proofs.manner.asked_by.Goals as goal

pub returns-in-Some : goal.returns-in-Some
returns-in-Some c = rw c.in-Some.is (ap (λ (marks : List Bool). Some marks) c.marks_of.ensures)
