-- The program's faults: the status of each, and what becomes of the faults of the crates below.
use Rattle.std.specs.Prelude.{if◌then◌else◌}
use Rattle.mpigroup.specs.declared.fault.HeadFault.{HeadFault}
use Rattle.gather.specs.declared.fault.RankFault.TheVariants.{OfSource}
use Rattle.gather.specs.declared.fault.RunFault.{RunFault}
use Rattle.gather.specs.declared.fault.RunFault.TheVariants as run
use Rattle.mpicall.specs.declared.lint.LintFault.{LintFault}
use Rattle.cli.specs.declared.fault.Fault.{Fault}
use Rattle.cli.specs.declared.fault.Fault.TheVariants.{RefusedJournal, UncleanCut, Head, FileCount, Refused, Failed, LintRefused, LintFailed, Memory, Unproved, Write}
use Rattle.cli.specs.declared.status.Status.{Status}
use Rattle.cli.specs.declared.status.Status.TheVariants as status
use Rattle.driver.specs.VerdictContract.{is_from_outside}

-- a fault of the texts is a refusal, a wrong number of files one of usage, and all else a fault of the machine
abbrev pub status_of_fault : Fault → Status
status_of_fault (Head fault) = status.Refused
status_of_fault (FileCount ranks files) = status.Usage
status_of_fault (Refused refusal) = status.Refused
status_of_fault (LintRefused fault) = status.Refused
status_of_fault (RefusedJournal rank fault) = status.Refused
status_of_fault (UncleanCut entry) = status.Refused
status_of_fault fault = status.Fault

abbrev pub of_head : HeadFault → Fault
of_head fault = Head fault

abbrev pub of_run : RunFault → Fault
of_run run.Memory = Memory
of_run (run.Unproved rank) = Unproved rank
of_run run.Write = Write
of_run (run.Refused refusal) = if is_from_outside refusal.fault then Failed refusal else Refused refusal

abbrev pub of_lint : LintFault → Fault
of_lint fault = if is_from_outside (OfSource fault.fault) then LintFailed fault else LintRefused fault
