-- What an answer says of each rank, by the trace of its source, be the others' known or not.
use Rattle.std.specs.Prelude.{◌≡◌, ℕ, ◌<◌, ◌≤◌, true, false, ⊤, Option, None, option_and_then, IfSome, Some, List, length, slice_get}
use Rattle.mpicall.specs.Source.{coming}
use Rattle.mpicall.specs.declared.source.Source.{Source}
use Rattle.mpicall.specs.Trace.{Trace}
use Rattle.mpicall.specs.Device.{one_more, AppendsBeginning}
use Rattle.mpicall.specs.declared.call.Call.{Call}
use Rattle.mpigroup.specs.Groups.{Groups, ranks_of}
use Rattle.std.specs.Io.KnownBytes.{Appends}
use Rattle.moves.specs.declared.reading.Reading.{Reading}
use Rattle.waitgraph.specs.declared.verdict.Verdict.{Verdict}
use Rattle.report.specs.Reports.{IsReport}
use Rattle.report.specs.declared.write.Format.{Format}
use Rattle.callstore.specs.Recordings.{Lists, calls_of, IsClosed}
use Rattle.gather.specs.Outcomes.{fault_of_rank}
use Rattle.driver.specs.VerdictContract.{is_from_outside}
use Rattle.gather.specs.declared.fault.Refusal.{Refusal}
use Rattle.gather.specs.declared.fault.RunFault.{RunFault}
use Rattle.gather.specs.declared.fault.RunFault.TheVariants.{Memory, Unproved, Refused, Write}

-- the refusal of a rank is that of its trace, a fault from outside aside
abbrev pub IsRefusalOf : Groups → ℕ → Trace → Refusal → Type 0
IsRefusalOf groups rank trace refusal =
    is_from_outside refusal.fault ≡ false → fault_of_rank groups rank trace ≡ Some (refusal.call, refusal.fault)

-- a fault from outside comes after records of the rank's trace
abbrev pub IsPlacedIn : Trace → Refusal → Type 0
IsPlacedIn trace refusal = is_from_outside refusal.fault ≡ true → refusal.call ≤ length trace.records

-- the calls of a rank, by the trace of its source where that is known: all of its records, and no fault
abbrev pub AcceptsRank : Groups → ℕ → Option Trace → List Call → Type 0
AcceptsRank groups rank told calls = IfSome told (λ trace. (calls ≡ trace.records) × (fault_of_rank groups rank trace ≡ None))

-- what is known of the trace of a rank's source
abbrev pub told_by : {I : Type 0} → (I → Option (List ℕ)) → List (Source I) → ℕ → Option Trace
told_by left sources rank = option_and_then (coming left) (slice_get sources rank)

-- a rank has no fault, by the trace of its source where that is known
abbrev pub HasNoFault : Groups → ℕ → Option Trace → Type 0
HasNoFault groups rank told = IfSome told (λ trace. fault_of_rank groups rank trace ≡ None)

-- the recording has the calls of each rank, by the known traces of their sources, and is closed
pub record AcceptsAll (groups : Groups) (told : ℕ → Option Trace) (lists : Lists) : Type 0 where
  pub one_a_rank : length lists ≡ ranks_of groups
  pub closed : IsClosed lists
  pub accepted : (rank : ℕ) → rank < length lists → AcceptsRank groups rank (told rank) (calls_of lists rank)

-- the refusal is that of its rank, and no lower rank has a fault, by the known traces of their sources
pub record IsLowestRefusal (groups : Groups) (told : ℕ → Option Trace) (refusal : Refusal) : Type 0 where
  pub is_rank : refusal.rank < ranks_of groups
  pub lowest : (rank : ℕ) → rank < refusal.rank → HasNoFault groups rank (told rank)
  pub its_own : IfSome (told refusal.rank) (λ trace. IsRefusalOf groups refusal.rank trace refusal)
  pub place : IfSome (told refusal.rank) (λ trace. IsPlacedIn trace refusal)

abbrev pub RefusesRun : Groups → (ℕ → Option Trace) → RunFault → Type 0
RefusesRun groups told Memory = ⊤
RefusesRun groups told (Unproved rank) = ⊤
RefusesRun groups told (Refused refusal) = IsLowestRefusal groups told refusal
RefusesRun groups told Write = ⊥

-- what a report leaves on the output where it fails: only a failed write, which adds one to the count of
-- failures, leaves a prefix of it
abbrev pub LeavesRunReport : {O : Type 0} → (O → Option (List ℕ)) → (O → ℕ) → O → O → List ℕ → RunFault → Type 0
LeavesRunReport written failures old new report Memory = new ≡ old
LeavesRunReport written failures old new report (Unproved rank) = ⊥
LeavesRunReport written failures old new report (Refused refusal) = ⊥
LeavesRunReport written failures old new report Write =
    AppendsBeginning (written old) (written new) report × (failures new ≡ one_more (failures old))

-- the report of a recording follows what was there
abbrev pub Reported : {O : Type 0} → (O → Option (List ℕ)) → O → O → Format → Reading → Groups → Lists → Verdict → Type 0
Reported written old new format reading groups recording verdict =
    (report : List ℕ) × IsReport format reading groups recording verdict report × Appends (written old) (written new) report

-- or the output is left as by a report that failed
abbrev pub NotReported : {O : Type 0} → (O → Option (List ℕ)) → (O → ℕ) → O → O → Format → Reading → Groups → Lists → RunFault → Type 0
NotReported written failures old new format reading groups recording fault =
    (verdict : Verdict) × (report : List ℕ) × IsReport format reading groups recording verdict report
    × LeavesRunReport written failures old new report fault
