-- The answer of a run over the sources of its ranks: the refusal of the lowest rank that has a fault, or
-- the recording of all their records with its verdict.
use Rattle.mpicall.specs.Names.{Rank, Place}
use Rattle.moves.specs.declared.reading.Reading.{Reading}
use Rattle.std.specs.Prelude.{◌≡◌, ℕ, ◌+◌, ◌<◌, true, false, if◌then◌else◌, Option, Some, None, List, [], ◌∷◌, ◌++◌, length, map}
use Rattle.mpicall.specs.Trace.{Trace, trace_of}
use Rattle.mpicall.specs.declared.call.Call.{Call}
use Rattle.mpicall.specs.declared.fault.Ending.{Ending}
use Rattle.mpicall.specs.declared.fault.Ending.TheVariants.{Sealed, Torn}
use Rattle.mpicall.specs.declared.fault.SourceFault.TheVariants.{NoFinalize}
use Rattle.mpigroup.specs.Groups.{Groups}
use Rattle.callstore.specs.Recordings.{Lists, is_ended}
use Rattle.pairing.specs.Faults.{fault_of}
use Rattle.pairing.specs.declared.fault.CallFault.{CallFault}
use Rattle.moves.specs.Runs.{State}
use Rattle.moves.specs.Stands.{IsRunOver, end_over, is_at_end}
use Rattle.gather.specs.declared.fault.RankFault.{RankFault}
use Rattle.gather.specs.declared.fault.RankFault.TheVariants.{OfCall, OfSource}
use Rattle.gather.specs.declared.fault.Refusal.{Refusal}

-- a fault of a rank, with its place: the number of the rank's records before it
abbrev pub PlacedFault : Type 0
PlacedFault = ℕ × RankFault

-- the fault with which a rank ends after its calls: that of its source's end, if that is one; or that none of
-- its calls ends its list
abbrev pub fault_of_end : Ending → List Call → Option PlacedFault
fault_of_end Sealed calls = if is_ended calls then None else Some (length calls, OfSource NoFinalize)
fault_of_end (Torn fault) calls = Some (length calls, OfSource fault)

-- Law: a text whose trace ends without a fault has its end record as its last.
abbrev pub ASealedTextHasItsEndRecord : Type 0
ASealedTextHasItsEndRecord = (text : List ℕ) → (trace_of text).end ≡ Sealed → is_ended (trace_of text).records ≡ true

-- the fault of a call at a place, or else what comes after it
abbrev pub or_behind : Place → Option CallFault → Option PlacedFault → Option PlacedFault
or_behind place None behind = behind
or_behind place (Some fault) behind = Some (place, OfCall fault)

-- the first fault of a rank after the calls `before`, which have none: the first record that has a fault
-- after those before it, at its place; without one, the fault of the end after all of them
abbrev pub fault_onward : Groups → Rank → (List Call → Option PlacedFault) → List Call → List Call →
    Option PlacedFault
fault_onward groups rank of_end before [] = of_end before
fault_onward groups rank of_end before (call ∷ calls) =
    or_behind (length before) (fault_of groups rank before call) (fault_onward groups rank of_end (before ++ call ∷ []) calls)

-- the first fault of a rank over its source's trace, with its place
unfoldable pub fault_of_rank : Groups → Rank → Trace → Option PlacedFault
fault_of_rank groups rank trace = fault_onward groups rank (fault_of_end trace.end) [] trace.records

-- the refusal of a rank, or else that of the ranks after it
abbrev pub refusal_or : Rank → Option PlacedFault → Option Refusal → Option Refusal
refusal_or rank None behind = behind
refusal_or rank (Some (place, fault)) behind = Some (record { rank = rank; call = place; fault = fault })

-- the refusal of the lowest rank, from `rank` on, that has a fault over its source's trace
abbrev pub refusal_from : Groups → Rank → List Trace → Option Refusal
refusal_from groups rank [] = None
refusal_from groups rank (trace ∷ traces) = refusal_or rank (fault_of_rank groups rank trace) (refusal_from groups (rank + 1) traces)

-- the refusal of a run; None where no rank has a fault
abbrev pub refusal_of : Groups → List Trace → Option Refusal
refusal_of groups traces = refusal_from groups 0 traces

-- the recording that the traces of all ranks make
abbrev pub recording_of_traces : List Trace → Lists
recording_of_traces traces = map (λ trace. trace.records) traces

-- some rank comes to its end record in no run over the recording
pub record SomeRankCannotEnd (reading : Reading) (groups : Groups) (recording : Lists) : Type 0 where
  pub rank : Rank
  pub is_rank : rank < length recording
  pub in_no_run : (states : List State) → IsRunOver reading groups recording states → is_at_end recording (end_over recording states) rank ≡ false
