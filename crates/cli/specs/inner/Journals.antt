-- What proofs and private contracts cite, in addition to the definitions of `specs/Journals.antt`: how faults of the
-- crates below are reported.
use Rattle.std.specs.Prelude.{ℕ, List}
use Rattle.std.specs.Borrow.{Bor}
use Rattle.judging.specs.declared.close.CloseFault.{CloseFault}
use Rattle.judging.specs.declared.close.CloseFault.TheVariants as closed
use Rattle.judging.specs.declared.judge.JudgeFault.{JudgeFault}
use Rattle.judging.specs.declared.judge.JudgeFault.TheVariants as judged
use Rattle.judging.specs.declared.read.ReadFault.{ReadFault}
use Rattle.judging.specs.declared.read.ReadFault.TheVariants as read
use Rattle.cli.specs.declared.fault.Fault.{Fault}
use Rattle.cli.specs.declared.fault.Fault.TheVariants.{OpenJournal, RefusedJournal, FailedJournal, UncleanCut, Make, Head, Refused, Memory, Unproved, Write, WriteFile}

-- of the journals in a folder
abbrev pub of_read : Bor (List ℕ) → ReadFault → Fault
of_read folder (read.Open rank) = OpenJournal folder rank
of_read folder (read.Refused rank fault) = RefusedJournal rank fault
of_read folder (read.ReadFailed rank line) = FailedJournal rank line
of_read folder read.Memory = Memory

abbrev pub of_judge : Bor (List ℕ) → JudgeFault → Fault
of_judge folder (judged.Read fault) = of_read folder fault
of_judge folder (judged.Head fault) = Head fault
of_judge folder (judged.Refused refusal) = Refused refusal
of_judge folder judged.Unended = Unproved 0
of_judge folder (judged.Unclean entry) = UncleanCut entry
of_judge folder judged.Memory = Memory
of_judge folder judged.Write = Write

-- and of a recording that is written into another one
abbrev pub of_close : Bor (List ℕ) → Bor (List ℕ) → CloseFault → Fault
of_close folder out (closed.Read fault) = of_read folder fault
of_close folder out closed.Make = Make out
of_close folder out closed.Write = WriteFile
of_close folder out closed.Memory = Memory
