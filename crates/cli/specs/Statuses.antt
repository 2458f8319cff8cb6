-- The numbers of the exit statuses, and the status of a verdict.
use Rattle.std.specs.Prelude.{ℕ}
use Rattle.waitgraph.specs.declared.verdict.Verdict.{Verdict}
use Rattle.waitgraph.specs.declared.verdict.Verdict.TheVariants as verdict
use Rattle.cli.specs.declared.status.Status.{Status}
use Rattle.cli.specs.declared.status.Status.TheVariants.{Free, Hang, Refused, Usage, Fault, Unfinished}

abbrev pub code_of : Status → ℕ
code_of Free = 0
code_of Hang = 1
code_of Refused = 2
code_of Usage = 3
code_of Fault = 4
code_of Unfinished = 5

abbrev pub status_of_verdict : Verdict → Status
status_of_verdict verdict.Free = Free
status_of_verdict verdict.Hang = Hang
status_of_verdict verdict.Unfinished = Unfinished
