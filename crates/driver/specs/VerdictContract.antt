-- What an answer says of traces, where the sources' inputs know them. These are the words of `run`; what it
-- rests on speaks of each rank alone, by the words of `Ranks`.
use Rattle.moves.specs.declared.reading.Reading.{Reading}
use Rattle.std.specs.Prelude.{◌≡◌, ◌↔◌, ℕ, ◌<◌, ◌≤◌, Bool, true, false, ⊤, Option, Some, None, List, length, slice_get, All}
use Rattle.std.specs.List.{AllZip}
use Rattle.mpicall.specs.Lines.{lines_of}
use Rattle.mpicall.specs.Source.{coming, ended, unread}
use Rattle.mpicall.specs.declared.source.Source.{Source}
use Rattle.mpicall.specs.declared.source.Stage.{Stage}
use Rattle.mpicall.specs.declared.source.Stage.TheVariants as stage
use Rattle.mpicall.specs.declared.fault.Ending.TheVariants.{Sealed, Torn}
use Rattle.mpicall.specs.Trace.{Trace, IsTraceOf, end_with_behind, ends_here}
use Rattle.mpicall.specs.declared.fault.SourceFault.TheVariants.{ReadFailed, GateStopped, ThreadNotStarted}
use Rattle.mpigroup.specs.Groups.{Groups}
use Rattle.moves.specs.Runs.{IsTheEnd}
use Rattle.moves.specs.Needs.{can_move}
use Rattle.moves.specs.Stands.{stands_of}
use Rattle.waitgraph.specs.Held.{is_some_left_open}
use Rattle.gather.specs.Outcomes.{fault_of_rank, refusal_of, recording_of_traces, SomeRankCannotEnd}
use Rattle.waitgraph.specs.Verdicts.{IsVerdictOf}
use Rattle.waitgraph.specs.declared.verdict.Verdict.{Verdict}
use Rattle.waitgraph.specs.declared.verdict.Verdict.TheVariants.{Hang}
use Rattle.gather.specs.declared.fault.RankFault.{RankFault}
use Rattle.gather.specs.declared.fault.RankFault.TheVariants.{OfSource}
use Rattle.gather.specs.declared.fault.Refusal.{Refusal}
use Rattle.gather.specs.declared.fault.RunFault.{RunFault}
use Rattle.gather.specs.declared.fault.RunFault.TheVariants.{Refused}

-- the fault is none of the bytes: a read failed, the gate stopped the reading, or no thread started
abbrev pub is_from_outside : RankFault → Bool
is_from_outside (OfSource ReadFailed) = true
is_from_outside (OfSource GateStopped) = true
is_from_outside (OfSource ThreadNotStarted) = true
is_from_outside fault = false

-- no record was asked of the sources so far
abbrev pub AreFresh : {I : Type 0} → List (Source I) → Type 0
AreFresh sources = All (λ source. ended source ≡ None) sources

-- the trace is the one still to come, by how far the source is and the bytes that it has not used
abbrev pub IsTraceAt : Stage → Option (List ℕ) → Trace → Type 0
IsTraceAt stage.Reading bytes trace = (text : List ℕ) × (bytes ≡ Some text) × IsTraceOf (lines_of text) trace
IsTraceAt stage.Ended bytes trace = (text : List ℕ) × (bytes ≡ Some text) × (trace ≡ ends_here (end_with_behind (lines_of text)))
IsTraceAt stage.Done bytes trace = trace ≡ ends_here Sealed
IsTraceAt (stage.Failed fault) bytes trace = trace ≡ ends_here (Torn fault)

-- the trace is still to come of the source, whose input knows the bytes that are left
abbrev pub IsToCome : {I : Type 0} → (I → Option (List ℕ)) → Source I → Trace → Type 0
IsToCome left source trace = IsTraceAt source.stage (unread left source) trace

-- Law: that is the trace which reading the lines gives.
abbrev pub TheTraceToComeIsRead : {I : Type 0} → (I → Option (List ℕ)) → Type 0
TheTraceToComeIsRead {I} left = (source : Source I) (trace : Trace) → IsToCome left source trace ↔ (coming left source ≡ Some trace)

-- the sources have these traces, one a rank
abbrev pub Tells : {I : Type 0} → (I → Option (List ℕ)) → List (Source I) → List Trace → Type 0
Tells left sources traces = AllZip (IsToCome left) sources traces

-- the refusal is that of the lowest rank that has a fault over these traces; where its fault comes from outside,
-- no lower rank has one, and the rank's trace has all the records before it
pub record IsRefusalOver (groups : Groups) (traces : List Trace) (refusal : Refusal) : Type 0 where
  pub is_rank : refusal.rank < length traces
  pub lowest : (rank : ℕ) (trace : Trace) → rank < refusal.rank → slice_get traces rank ≡ Some trace → fault_of_rank groups rank trace ≡ None
  pub its_own : is_from_outside refusal.fault ≡ false → refusal_of groups traces ≡ Some refusal
  pub place : (trace : Trace) → slice_get traces refusal.rank ≡ Some trace → is_from_outside refusal.fault ≡ true → refusal.call ≤ length trace.records

abbrev pub RefusesOver : Groups → List Trace → RunFault → Type 0
RefusesOver groups traces (Refused refusal) = IsRefusalOver groups traces refusal
RefusesOver groups traces fault = ⊤

-- The verdict is that of these traces: every maximal run over them ends at the final positions, and it is hang exactly
-- if some rank is held there; if no list was left open, exactly if some rank comes to its Finalize in no run.
pub record IsVerdictOver (reading : Reading) (groups : Groups) (traces : List Trace) (verdict : Verdict) : Type 0 where
  pub value : IsVerdictOf reading groups (recording_of_traces traces) verdict
  pub stands : IsTheEnd (can_move reading groups (recording_of_traces traces)) (length (recording_of_traces traces)) (stands_of reading groups (recording_of_traces traces))
  pub closed : is_some_left_open (recording_of_traces traces) ≡ false → (verdict ≡ Hang) ↔ SomeRankCannotEnd reading groups (recording_of_traces traces)
