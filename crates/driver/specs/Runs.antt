-- What a run answers, by what is read of its ranks' sources: put on their feeds by threads, or entered by turns.
use Rattle.std.specs.Prelude.{◌≡◌, ◌≢◌, ◌⊎◌, ℕ, ◌+◌, ◌<◌, ⊤, Bool, false, Option, Some, None, List, [], ◌∷◌}
use Rattle.mpicall.specs.Trace.{Trace, ends_here}
use Rattle.mpicall.specs.declared.call.Call.{Call}
use Rattle.mpicall.specs.declared.source.Source.{Source}
use Rattle.mpicall.specs.declared.fault.Ending.{Ending}
use Rattle.mpicall.specs.declared.fault.Ending.TheVariants.{Sealed, Torn}
use Rattle.mpicall.specs.declared.fault.SourceFault.TheVariants.{GateStopped, NoFinalize, ReadFailed, ThreadNotStarted}
use Rattle.mpigroup.specs.Groups.{Groups, ranks_of}
use Rattle.gather.specs.Outcomes.{refusal_of}
use Rattle.callstore.specs.Recordings.{is_ended}
use Rattle.gather.specs.FeedContract.{line_behind, Begins, StopsAs, AreAsked, passages}
use Rattle.driver.specs.VerdictContract.{IsToCome}
use Rattle.gather.specs.declared.fault.RankFault.TheVariants.{OfSource}
use Rattle.gather.specs.declared.fault.Refusal.{Refusal}
use Rattle.gather.specs.declared.fault.RunFault.{RunFault}
use Rattle.gather.specs.declared.fault.RunFault.TheVariants.{Memory, Unproved, Refused, Write}

-- the end of what is read of a trace with this end, by whether its last record ends the list: what is left of a
-- source that gave its end record before has no end of its own
abbrev pub end_by : Ending → Bool → Ending
end_by Sealed false = Torn NoFinalize
end_by end ended = end

-- these calls and this end are all of the trace, or a prefix of its records where the gate or a failed read stopped
-- them
abbrev pub IsReadAs : Trace → List Call → Ending → Type 0
IsReadAs told calls (Torn GateStopped) = Begins calls told.records
IsReadAs told calls (Torn ReadFailed) = Begins calls told.records
IsReadAs told calls end = (told.records ≡ calls) × (end ≡ end_by told.end (is_ended told.records))

-- what was read of a source, by its trace where that is known, and by what the gate may answer at its lines
pub record IsRead (IsTold : Trace → Type 0) (may_answer : ℕ → Bool → Type 0) (trace : Trace) : Type 0 where
  pub whole : (told : Trace) → IsTold told → IsReadAs told trace.records trace.end
  pub stopped : StopsAs may_answer trace.records trace.end
  pub asked : AreAsked may_answer (passages trace.records trace.end)

-- or nothing, of a thread that didn't start
abbrev pub IsReadOrNotStarted : (Trace → Type 0) → (ℕ → Bool → Type 0) → Trace → Type 0
IsReadOrNotStarted IsTold may_answer trace = IsRead IsTold may_answer trace ⊎ (trace ≡ ends_here (Torn ThreadNotStarted))

-- each rank's trace, from `rank` on, was read of the source at its place
abbrev pub AreRead : {I : Type 0} → (I → Option (List ℕ)) → (ℕ → ℕ → Bool → Type 0) → ℕ → List (Source I) → List Trace → Type 0
AreRead left may_answer rank [] [] = ⊤
AreRead left may_answer rank (source ∷ sources) (trace ∷ traces) =
    IsReadOrNotStarted (IsToCome left source) (may_answer rank) trace × AreRead left may_answer (rank + 1) sources traces
AreRead left may_answer rank sources traces = ⊥

-- the refusal is that of the lowest rank that has a fault over what was read of the sources
pub record IsRefusalOfFeeds {I : Type 0} (left : I → Option (List ℕ)) (may_answer : ℕ → ℕ → Bool → Type 0) (sources : List (Source I)) (groups : Groups) (refusal : Refusal) : Type 0 where
  pub traces : List Trace
  pub read : AreRead left may_answer 0 sources traces
  pub over : refusal_of groups traces ≡ Some refusal

abbrev pub RefusesFeeds : {I : Type 0} → (I → Option (List ℕ)) → (ℕ → ℕ → Bool → Type 0) → List (Source I) → Groups → RunFault → Type 0
RefusesFeeds left may_answer sources groups Memory = ⊤
RefusesFeeds left may_answer sources groups (Unproved rank) = rank < ranks_of groups
RefusesFeeds left may_answer sources groups (Refused refusal) = IsRefusalOfFeeds left may_answer sources groups refusal
RefusesFeeds left may_answer sources groups Write = ⊤

-- no rank is refused over what was read of the sources, for whose every line the gate was asked
pub record AcceptsFeeds {I : Type 0} (left : I → Option (List ℕ)) (may_answer : ℕ → ℕ → Bool → Type 0) (sources : List (Source I)) (groups : Groups) : Type 0 where
  pub traces : List Trace
  pub read : AreRead left may_answer 0 sources traces
  pub over : refusal_of groups traces ≡ None

-- where a run reports that the gate stopped the reading, it might do so at that rank and line
abbrev pub StopsWhereAllowed : (ℕ → ℕ → Bool → Type 0) → RunFault → Type 0
StopsWhereAllowed may_answer (Refused refusal) = refusal.fault ≡ OfSource GateStopped → may_answer refusal.rank (line_behind refusal.call) false
StopsWhereAllowed may_answer fault = ⊤

-- a run by turns starts no thread, and its sources' ends need no proof
abbrev pub IsOfTurns : RunFault → Type 0
IsOfTurns (Refused refusal) = refusal.fault ≢ OfSource ThreadNotStarted
IsOfTurns (Unproved rank) = ⊥
IsOfTurns fault = ⊤
