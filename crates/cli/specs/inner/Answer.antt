-- What the parts of the program hand to one another: a status that goes with standard output, or a complaint
-- for standard error.
use Rattle.std.specs.Prelude.{◌≡◌, ◌≢◌, ◌⊎◌, ℕ, Option, Result, Ok, Err, List, ⊤, string_bytes}
use Rattle.clap.specs.Walk.{Text}
use Rattle.cli.specs.ExitContract.{EndsInFault, IsTried}
use Rattle.cli.specs.Faults.{status_of_fault}
use Rattle.cli.specs.FaultTexts.{line_of_fault}
use Rattle.cli.specs.Outputs.{Written, Nothing, Becomes, Writes, FailsToWrite, Tries}
use Rattle.cli.specs.inner.Outputs.{LeavesAtFault}
use Rattle.cli.specs.declared.fault.Fault.{Fault}
use Rattle.cli.specs.declared.fault.Fault.TheVariants.{Memory, Write}
use Rattle.cli.specs.declared.program.Complaint.{Complaint}
use Rattle.cli.specs.declared.program.Complaint.TheVariants as complaint
use Rattle.cli.specs.declared.status.Status.{Status}
use Rattle.cli.specs.declared.status.Status.TheVariants as status

-- the statuses that go with standard error
abbrev pub IsOfError : Status → Type 0
IsOfError status.Usage = ⊤
IsOfError status.Fault = ⊤
IsOfError _ = ⊥

module _ {O : Type 0} (written : O → Option (List ℕ)) (failures : O → ℕ) where
  -- a text was written and the status is the wanted one, or that write failed
  abbrev pub Shows : O → O → Text → Status → Result Status Complaint → Type 0
  Shows old new text wanted (Ok ended) = (ended ≡ wanted) × Writes written failures old new text
  Shows old new text wanted (Err (complaint.Usage said)) = ⊥
  Shows old new text wanted (Err (complaint.Fault fault)) = (fault ≡ Write) × FailsToWrite written failures old new text

  -- a refusal's line was written, or that write failed, or memory ran out for it; any other fault is a
  -- complaint
  abbrev pub Refuses : O → O → Fault → Result Status Complaint → Type 0
  Refuses old new fault (Ok ended) = (ended ≡ status.Refused) × (status_of_fault fault ≡ status.Refused) × Writes written failures old new (line_of_fault fault)
  Refuses old new fault (Err (complaint.Usage said)) = ⊥
  Refuses old new fault (Err (complaint.Fault told)) =
      IsOfError (status_of_fault told) × (((told ≡ fault) × (new ≡ old))
      ⊎ ((status_of_fault fault ≡ status.Refused) × (((told ≡ Memory) × (new ≡ old)) ⊎ ((told ≡ Write) × FailsToWrite written failures old new (line_of_fault fault)))))

  -- what was done, or a refusal, is on standard output; else there is a complaint: of words, or a fault that
  -- may be reported
  abbrev pub IsAnswered : (Status → Written → Written → Type 0) → (Fault → Type 0) → O → O → Result Status Complaint → Type 0
  IsAnswered is_done may_end_in old new (Ok ended) =
      (out : Written) × Becomes written failures old new out × (is_done ended out Nothing ⊎ ((fault : Fault) × may_end_in fault × EndsInFault fault ended out Nothing))
  IsAnswered is_done may_end_in old new (Err (complaint.Usage said)) =
      (new ≡ old) × ((err : Written) → IsTried (string_bytes said) err → is_done status.Usage Nothing err)
  IsAnswered is_done may_end_in old new (Err (complaint.Fault fault)) =
      IsOfError (status_of_fault fault) × may_end_in fault × LeavesAtFault written failures old new fault

module _ {E : Type 0} (written : E → Option (List ℕ)) (failures : E → ℕ) where
  -- the fault was reported by its line, or that there was no memory for that line
  abbrev pub TellsFaultLine : E → E → Fault → Status → Type 0
  TellsFaultLine old new fault ended =
      (told : Fault) × ((told ≡ fault) ⊎ ((told ≡ Memory) × (fault ≢ Write))) × (ended ≡ status_of_fault told) × Tries written failures old new (line_of_fault told)

  -- the complaint was written
  abbrev pub Complains : E → E → Complaint → Status → Type 0
  Complains old new (complaint.Usage said) ended = (ended ≡ status.Usage) × Tries written failures old new (string_bytes said)
  Complains old new (complaint.Fault fault) ended = TellsFaultLine old new fault ended
