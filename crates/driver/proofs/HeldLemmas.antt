-- What the items of the ranks' feeds say of the traces that the sources tell.
use Rattle.moves.specs.declared.reading.Reading.{Reading}
use Rattle.std.proofs.Common.{◌≡◌, ⊎_elim, ℕ, zero, suc, ◌+◌, ◌<◌, ◌≤◌, ◌-◌, Bool, true, false, Option, Some, None, Ok, Err, IfOk, IfErr, OnOk, IfSome, unwrap_or, option_and_then, Result, All, List, [], ◌∷◌, ◌++◌, length, length-append, map, slice_get, refl, sym, ap, subst, ◌∙◌, arith, append_assoc, append-nil, get_or, inl, inr}
use Rattle.std.specs.List.{range_with_len}
use Rattle.std.proofs.lemmas.List.FromFn.{length-range_with_len}
use Rattle.std.proofs.lemmas.Option.{none-some, slice_get-map, slice_get-get_or, slice_get_within}
use Rattle.std.proofs.lemmas.Bool.{false≢true}
use Rattle.std.proofs.lemmas.List.{length-map}
use Rattle.std.specs.Option.{option_map}
use Rattle.mpicall.specs.Trace.{Trace}
use Rattle.mpicall.specs.Source.{coming}
use Rattle.mpicall.specs.declared.call.Call.{Call}
use Rattle.mpicall.specs.declared.fault.SourceFault.{SourceFault}
use Rattle.mpicall.specs.declared.fault.SourceFault.TheVariants.{Line, TextAfterFinalize, NoFinalize, ReadFailed, GateStopped, ThreadNotStarted}
use Rattle.mpicall.specs.declared.source.Source.{Source}
use Rattle.mpigroup.specs.Groups.{Groups, ranks_of}
use Rattle.pairing.specs.Faults.{fault_of}
use Rattle.pairing.specs.declared.fault.CallFault.{CallFault}
use Rattle.callstore.specs.Recordings.{Lists, calls_of, is_ended, IsClosed}
use Rattle.rankfeed.specs.Items.{calls_among, end_mark_of, end_the_list, item_ends_list, last_behind}
use Rattle.rankfeed.specs.Rings.{FeedName, feed_ring, receipt_ring, sent_by, sent_whole}
use Rattle.mpicall.specs.declared.fault.Ending.{Ending}
use Rattle.mpicall.specs.declared.fault.Ending.TheVariants.{Sealed, Torn}
use Rattle.rankfeed.specs.declared.item.Item.{Item}
use Rattle.rankfeed.specs.declared.item.Item.TheVariants.{Entry}
use Rattle.rankfeed.specs.declared.answer.Unsealed.{Unsealed}
use Rattle.rankfeed.specs.declared.ring.Feed.{Feed}
use Rattle.rankfeed.specs.declared.ring.Receipt.{Receipt}
use Rattle.gather.specs.Outcomes.{PlacedFault, fault_of_rank, fault_onward, fault_of_end, or_behind, refusal_or, refusal_from, refusal_of, recording_of_traces}
use Rattle.gather.specs.Closes.{Closes}
use Rattle.gather.specs.inner.Closes.{IsOutcomeOver}
use Rattle.gather.specs.FeedContract.{marked, end_behind, mark_of, Begins, EndsAs, StopsAs, IsFed, line_behind}
use Rattle.driver.specs.inner.Ranks.{told_by, AcceptsAll, AcceptsRank, HasNoFault, IsLowestRefusal, IsPlacedIn, IsRefusalOf}
use Rattle.gather.specs.Receipts.{trace_of_items, AreReceiptsOf, missing_from, first_missing, traces_held}
use Rattle.gather.specs.Collected.{Kept, nothing_kept}
use Rattle.gather.specs.Collectors.{rings, kept}
use Rattle.driver.proofs.ToldLemmas.{read_is_to_come, to_come_is_read, told_if_whole, whole_if_told}
use Rattle.driver.specs.Runs.{end_by, AcceptsFeeds, AreRead, IsReadAs, IsReadOrNotStarted, IsRefusalOfFeeds, RefusesFeeds, StopsWhereAllowed}
use Rattle.driver.specs.inner.Runs.{receipt_of, receipt_in, AreFedBy, IsOutcomeOfFeeds, IsSameSession, of_close}
use Rattle.gather.specs.declared.outcome.CloseFault.{CloseFault}
use Rattle.gather.specs.declared.outcome.CloseFault.TheVariants.{Memory, Unproved, Refused}
use Rattle.gather.specs.declared.collector.Collector.{Collector}
use Rattle.gather.specs.Takers.{rank_fed, IsFreshFeed}
use Rattle.driver.specs.Threads.{IsFedOrNotStarted, AreFedFrom}
use Rattle.driver.specs.VerdictContract.{is_from_outside, IsToCome}
use Rattle.gather.specs.declared.fault.RankFault.{RankFault}
use Rattle.gather.specs.declared.fault.RankFault.TheVariants.{OfCall, OfSource}
use Rattle.gather.specs.declared.fault.Refusal.{Refusal}
use Rattle.moves.specs.Analysed.{Analysed}
use Rattle.driver.specs.declared.threads.FeedResult.{FeedResult}
use Rattle.gather.proofs.CloseLemmas.{own_none, behind_none, same_end}
use Rattle.gather.proofs.FedLemmas.{marked_calls, marked_end}
use Rattle.gather.proofs.CollectedLemmas.{torn_has_fault}

-- One rank's first fault: over its items, and over the trace that its source tells.

-- a fault that is told at a place, if any is, comes from outside
abbrev pub outside_at : Option PlacedFault → Bool
outside_at None = false
outside_at (Some fault) = is_from_outside fault.1

or_own : (place : ℕ) (own : Option CallFault) (x y : Option PlacedFault) → outside_at (or_behind place own x) ≡ false → (outside_at x ≡ false → x ≡ y) → or_behind place own x ≡ or_behind place own y
or_own place None x y inside same = same inside
or_own place (Some fault) x y inside same = refl

-- after a stop from outside: the fault lies before it, so it is that of whatever goes on there
before_stop : (groups : Groups) (rank : ℕ) (before calls rest : List Call) (fault : SourceFault) (end : Ending) → is_from_outside (OfSource fault) ≡ true → outside_at (fault_onward groups rank (fault_of_end (Torn fault)) before calls) ≡ false → fault_onward groups rank (fault_of_end (Torn fault)) before calls ≡ fault_onward groups rank (fault_of_end end) before (calls ++ rest)
before_stop groups rank before [] rest fault end stop inside = absurd (false≢true (sym inside ∙ stop))
before_stop groups rank before (call ∷ calls) rest fault end stop inside =
    or_own (length before) (fault_of groups rank before call) _ _ inside (before_stop groups rank (before ++ call ∷ []) calls rest fault end stop)

-- a list is ended by calls as by items
ended_alike : (call : Call) (calls : List Call) → item_ends_list (last_behind (Some (Entry call)) (map Entry calls)) ≡ is_ended (call ∷ calls)
ended_alike call [] = refl
ended_alike call (next ∷ calls) =
    let e : suc (suc (length calls)) - 1 ≡ suc (suc (length calls) - 1) = omega arith in
    rw e (ended_alike next calls)

pub same_ended : (calls : List Call) → end_the_list (map Entry calls) ≡ is_ended calls
same_ended [] = refl
same_ended (call ∷ calls) = ended_alike call calls

-- the mark after all the records of a trace tells its end
by_ends : (ends : Bool) (records : List Call) → is_ended records ≡ ends → fault_of_end (end_behind ends) records ≡ fault_of_end Sealed records
by_ends true records is = refl
by_ends false records is = rw is refl

end_told : (records : List Call) (end : Ending) → fault_of_end (mark_of records end) records ≡ fault_of_end end records
end_told records (Torn fault) = refl
end_told records Sealed = by_ends (end_the_list (map Entry records)) records (sym (same_ended records))

-- the first fault over calls with their mark
abbrev pub held_fault : Groups → ℕ → List Call → Ending → Option PlacedFault
held_fault groups rank calls end = fault_onward groups rank (fault_of_end end) [] calls

whole_agrees : (groups : Groups) (rank : ℕ) (trace : Trace) (calls : List Call) (end : Ending) → (trace.records ≡ calls) × (end ≡ mark_of trace.records trace.end) → held_fault groups rank calls end ≡ fault_onward groups rank (fault_of_end trace.end) [] trace.records
whole_agrees groups rank trace calls end whole =
    ap (λ (xs : List Call). held_fault groups rank xs end) (sym whole.0)
    ∙ ap (held_fault groups rank trace.records) whole.1
    ∙ same_end groups rank (fault_of_end (mark_of trace.records trace.end)) (fault_of_end trace.end) [] trace.records (end_told trace.records trace.end)

stop_agrees : (groups : Groups) (rank : ℕ) (trace : Trace) (calls : List Call) (fault : SourceFault) → Begins calls trace.records → is_from_outside (OfSource fault) ≡ true → outside_at (held_fault groups rank calls (Torn fault)) ≡ false → held_fault groups rank calls (Torn fault) ≡ fault_onward groups rank (fault_of_end trace.end) [] trace.records
stop_agrees groups rank trace calls fault begins stop inside =
    before_stop groups rank [] calls begins.0 fault trace.end stop inside ∙ ap (λ (xs : List Call). fault_onward groups rank (fault_of_end trace.end) [] xs) (sym begins.1)

agrees_as : (groups : Groups) (rank : ℕ) (trace : Trace) (calls : List Call) (end : Ending) → EndsAs trace calls end → outside_at (held_fault groups rank calls end) ≡ false → held_fault groups rank calls end ≡ fault_onward groups rank (fault_of_end trace.end) [] trace.records
agrees_as groups rank trace calls Sealed ends inside = whole_agrees groups rank trace calls Sealed ends
agrees_as groups rank trace calls (Torn (Line fault)) ends inside = whole_agrees groups rank trace calls (Torn (Line fault)) ends
agrees_as groups rank trace calls (Torn TextAfterFinalize) ends inside = whole_agrees groups rank trace calls (Torn TextAfterFinalize) ends
agrees_as groups rank trace calls (Torn NoFinalize) ends inside = whole_agrees groups rank trace calls (Torn NoFinalize) ends
agrees_as groups rank trace calls (Torn ThreadNotStarted) ends inside = whole_agrees groups rank trace calls (Torn ThreadNotStarted) ends
agrees_as groups rank trace calls (Torn ReadFailed) ends inside = stop_agrees groups rank trace calls ReadFailed ends refl inside
agrees_as groups rank trace calls (Torn GateStopped) ends inside = stop_agrees groups rank trace calls GateStopped ends refl inside

abbrev pub trace_by : List Call → Ending → Trace
trace_by calls end = record { records = calls; end = end }

held_trace : (calls : List Call) (end : Ending) (items : List Item) → items ≡ marked calls end → trace_of_items items ≡ trace_by calls end
held_trace calls end items is =
    ap trace_of_items is
    ∙ ap (λ (xs : List Call). trace_by xs (unwrap_or (end_mark_of (marked calls end)) (Torn NoFinalize))) (marked_calls calls end)
    ∙ ap (λ (mark : Option Ending). trace_by calls (unwrap_or mark (Torn NoFinalize))) (marked_end calls end)

fault_held : (groups : Groups) (rank : ℕ) (calls : List Call) (end : Ending) (items : List Item) → items ≡ marked calls end → fault_of_rank groups rank (trace_of_items items) ≡ held_fault groups rank calls end
unfolding fault_of_rank
fault_held groups rank calls end items is = ap (fault_of_rank groups rank) (held_trace calls end items is)

-- What is read of a trace, as a trace and as items.

mark_by : (ended : Bool) → end_behind ended ≡ end_by Sealed ended
mark_by true = refl
mark_by false = refl

mark_is : (records : List Call) (end : Ending) → mark_of records end ≡ end_by end (is_ended records)
mark_is records (Torn fault) = refl
mark_is records Sealed = ap end_behind (same_ended records) ∙ mark_by (is_ended records)

read_as : (told : Trace) (calls : List Call) (end : Ending) → EndsAs told calls end → IsReadAs told calls end
read_as told calls Sealed ends = (ends.0, ends.1 ∙ mark_is told.records told.end)
read_as told calls (Torn (Line fault)) ends = (ends.0, ends.1 ∙ mark_is told.records told.end)
read_as told calls (Torn TextAfterFinalize) ends = (ends.0, ends.1 ∙ mark_is told.records told.end)
read_as told calls (Torn NoFinalize) ends = (ends.0, ends.1 ∙ mark_is told.records told.end)
read_as told calls (Torn ThreadNotStarted) ends = (ends.0, ends.1 ∙ mark_is told.records told.end)
read_as told calls (Torn ReadFailed) ends = ends
read_as told calls (Torn GateStopped) ends = ends

ends_as : (told : Trace) (calls : List Call) (end : Ending) → IsReadAs told calls end → EndsAs told calls end
ends_as told calls Sealed read = (read.0, read.1 ∙ sym (mark_is told.records told.end))
ends_as told calls (Torn (Line fault)) read = (read.0, read.1 ∙ sym (mark_is told.records told.end))
ends_as told calls (Torn TextAfterFinalize) read = (read.0, read.1 ∙ sym (mark_is told.records told.end))
ends_as told calls (Torn NoFinalize) read = (read.0, read.1 ∙ sym (mark_is told.records told.end))
ends_as told calls (Torn ThreadNotStarted) read = (read.0, read.1 ∙ sym (mark_is told.records told.end))
ends_as told calls (Torn ReadFailed) read = read
ends_as told calls (Torn GateStopped) read = read

fed_of_read : {I : Type 0} (left : I → Option (List ℕ)) (source : Source I) (may_answer : ℕ → Bool → Type 0) (trace : Trace) → IsReadOrNotStarted (IsToCome left source) may_answer trace → IsFedOrNotStarted (coming left source) may_answer (marked trace.records trace.end)
fed_of_read left source may_answer trace (inl read) = inl (record {
  calls = trace.records;
  end = trace.end;
  are = refl;
  whole = told_if_whole (coming left source) (λ (t : Trace). EndsAs t trace.records trace.end)
      (λ told is. ends_as told trace.records trace.end (read.whole told (read_is_to_come left source told is)));
  stopped = read.stopped;
  asked = read.asked;
})
fed_of_read left source may_answer trace (inr none) = inr (ap (λ (t : Trace). marked t.records t.end) none)

read_of_fed : {I : Type 0} (left : I → Option (List ℕ)) (source : Source I) (may_answer : ℕ → Bool → Type 0) (items : List Item) → IsFedOrNotStarted (coming left source) may_answer items → IsReadOrNotStarted (IsToCome left source) may_answer (trace_of_items items)
read_of_fed left source may_answer items (inl fed) =
    let is : trace_of_items items ≡ trace_by fed.calls fed.end = held_trace fed.calls fed.end items fed.are in
    subst (λ (t : Trace). IsReadOrNotStarted (IsToCome left source) may_answer t) (sym is) (inl (record {
      whole = λ told known. read_as told fed.calls fed.end
          (whole_if_told (coming left source) (λ (t : Trace). EndsAs t fed.calls fed.end) told fed.whole (to_come_is_read left source told known));
      stopped = fed.stopped;
      asked = fed.asked;
    }))
read_of_fed left source may_answer items (inr none) = inr (held_trace [] (Torn ThreadNotStarted) items none)

read_fault : (groups : Groups) (rank : ℕ) (trace : Trace) → fault_of_rank groups rank (trace_of_items (marked trace.records trace.end)) ≡ fault_of_rank groups rank trace
unfolding fault_of_rank
read_fault groups rank trace = fault_held groups rank trace.records trace.end (marked trace.records trace.end) refl

-- a fault over the items that doesn't come from outside is that of the trace, and so is none
agrees : (groups : Groups) (rank : ℕ) (trace : Trace) (may_answer : ℕ → Bool → Type 0) (items : List Item) → IsFedOrNotStarted (Some trace) may_answer items → outside_at (fault_of_rank groups rank (trace_of_items items)) ≡ false → fault_of_rank groups rank (trace_of_items items) ≡ fault_of_rank groups rank trace
unfolding fault_of_rank
agrees groups rank trace may_answer items (inl own) inside =
    let is = fault_held groups rank own.calls own.end items own.are in
    is ∙ agrees_as groups rank trace own.calls own.end own.whole (ap outside_at (sym is) ∙ inside)
agrees groups rank trace may_answer items (inr none) inside = absurd (false≢true (sym inside ∙ ap outside_at (fault_held groups rank [] (Torn ThreadNotStarted) items none)))

-- without a fault the records are the trace's

records_as : (groups : Groups) (rank : ℕ) (trace : Trace) (calls : List Call) (end : Ending) → EndsAs trace calls end → held_fault groups rank calls end ≡ None → calls ≡ trace.records
records_as groups rank trace calls Sealed ends none = sym ends.0
records_as groups rank trace calls (Torn fault) ends none = absurd (torn_has_fault groups rank [] calls fault none)

accepts_told : (groups : Groups) (rank : ℕ) (told : Option Trace) (may_answer : ℕ → Bool → Type 0) (items : List Item) (calls : List Call) → IsFedOrNotStarted told may_answer items → calls ≡ calls_among items → fault_of_rank groups rank (trace_of_items items) ≡ None → AcceptsRank groups rank told calls
accepts_told groups rank None may_answer items calls fed are none = tt
accepts_told groups rank (Some trace) may_answer items calls fed are none =
    let same = agrees groups rank trace may_answer items fed (ap outside_at none) in (
      ⊎_elim
          (λ (own : IsFed (Some trace) may_answer items).
          are ∙ ap calls_among own.are ∙ marked_calls own.calls own.end ∙ records_as groups rank trace own.calls own.end own.whole (sym (fault_held groups rank own.calls own.end items own.are) ∙ none))
          (λ (not_started : items ≡ marked [] (Torn ThreadNotStarted)).
          absurd (torn_has_fault groups rank [] [] ThreadNotStarted (sym (fault_held groups rank [] (Torn ThreadNotStarted) items not_started) ∙ none)))
          fed,
      sym same ∙ none,
    )

no_fault_told : (groups : Groups) (rank : ℕ) (told : Option Trace) (may_answer : ℕ → Bool → Type 0) (items : List Item) → IsFedOrNotStarted told may_answer items → fault_of_rank groups rank (trace_of_items items) ≡ None → HasNoFault groups rank told
no_fault_told groups rank None may_answer items fed none = tt
no_fault_told groups rank (Some trace) may_answer items fed none = sym (agrees groups rank trace may_answer items fed (ap outside_at none)) ∙ none

own_told : (groups : Groups) (told : Option Trace) (may_answer : ℕ → Bool → Type 0) (items : List Item) (refusal : Refusal) → IsFedOrNotStarted told may_answer items → fault_of_rank groups refusal.rank (trace_of_items items) ≡ Some (refusal.call, refusal.fault) → IfSome told (λ trace. IsRefusalOf groups refusal.rank trace refusal)
own_told groups None may_answer items refusal fed is = tt
own_told groups (Some trace) may_answer items refusal fed is = λ inside. sym (agrees groups refusal.rank trace may_answer items fed (ap outside_at is ∙ inside)) ∙ is

-- where the gate stopped a rank's records

-- what is told apart by kind and by place

source_at : Option PlacedFault → Bool
source_at (Some (place, OfSource fault)) = true
source_at (Some (place, OfCall fault)) = false
source_at None = false

gate_at : Option PlacedFault → Bool
gate_at (Some (place, OfSource GateStopped)) = true
gate_at fault = false

place_at : Option PlacedFault → ℕ
place_at None = 0
place_at (Some fault) = fault.0

or_source : (place : ℕ) (own : Option CallFault) (x : Option PlacedFault) (at : ℕ) (fault : SourceFault) → or_behind place own x ≡ Some (at, OfSource fault) → x ≡ Some (at, OfSource fault)
unfolding source_at
or_source place None x at fault e = e
or_source place (Some own) x at fault e = absurd (false≢true (ap source_at e))

source_fault : (groups : Groups) (rank : ℕ) (before calls : List Call) (end : Ending) (at : ℕ) (fault : SourceFault) → fault_onward groups rank (fault_of_end end) before calls ≡ Some (at, OfSource fault) → fault_of_end end (before ++ calls) ≡ Some (at, OfSource fault)
source_fault groups rank before [] end at fault e = ap (λ (xs : List Call). fault_of_end end xs) (append-nil before) ∙ e
source_fault groups rank before (call ∷ calls) end at fault e =
    ap (λ (xs : List Call). fault_of_end end xs) (sym (append_assoc before (call ∷ []) calls))
    ∙ source_fault groups rank (before ++ call ∷ []) calls end at fault (or_source (length before) (fault_of groups rank before call) _ at fault e)

sealed_stops_none : (ends : Bool) (calls : List Call) (at : ℕ) → is_ended calls ≡ ends → ¬ (fault_of_end Sealed calls ≡ Some (at, OfSource GateStopped))
unfolding gate_at
sealed_stops_none true calls at is e = let h : None ≡ Some (at, OfSource GateStopped) = rw is at e in false≢true (ap gate_at h)
sealed_stops_none false calls at is e = let h : Some (length calls, OfSource NoFinalize) ≡ Some (at, OfSource GateStopped) = rw is at e in false≢true (ap gate_at h)

stops_as : (may_answer : ℕ → Bool → Type 0) (calls : List Call) (end : Ending) (at : ℕ) → StopsAs may_answer calls end → fault_of_end end calls ≡ Some (at, OfSource GateStopped) → may_answer (line_behind at) false
unfolding gate_at place_at
stops_as may_answer calls Sealed at stops e = absurd (sealed_stops_none (is_ended calls) calls at refl e)
stops_as may_answer calls (Torn GateStopped) at stops e = let here : length calls ≡ at = ap place_at e in subst (λ (n : ℕ). may_answer (line_behind n) false) here stops
stops_as may_answer calls end at stops e = absurd (false≢true (ap gate_at e))

stopped_there : (groups : Groups) (rank : ℕ) (told : Option Trace) (may_answer : ℕ → Bool → Type 0) (items : List Item) (at : ℕ) → IsFedOrNotStarted told may_answer items → fault_of_rank groups rank (trace_of_items items) ≡ Some (at, OfSource GateStopped) → may_answer (line_behind at) false
unfolding gate_at
stopped_there groups rank told may_answer items at (inl own) is =
    stops_as may_answer own.calls own.end at own.stopped
    (source_fault groups rank [] own.calls own.end at GateStopped (sym (fault_held groups rank own.calls own.end items own.are) ∙ is))
stopped_there groups rank told may_answer items at (inr none) is =
    let e : Some (0, OfSource ThreadNotStarted) ≡ Some (at, OfSource GateStopped) = sym (fault_held groups rank [] (Torn ThreadNotStarted) items none) ∙ is in
    absurd (false≢true (ap gate_at e))

-- no rank whose source was read has the fault of a thread that didn't start

unstarted_at : Option PlacedFault → Bool
unstarted_at (Some (place, OfSource ThreadNotStarted)) = true
unstarted_at fault = false

sealed_unstarted : (ends : Bool) (calls : List Call) (at : ℕ) → is_ended calls ≡ ends → ¬ (fault_of_end Sealed calls ≡ Some (at, OfSource ThreadNotStarted))
unfolding unstarted_at
sealed_unstarted true calls at is e = let h : None ≡ Some (at, OfSource ThreadNotStarted) = rw is at e in false≢true (ap unstarted_at h)
sealed_unstarted false calls at is e = let h : Some (length calls, OfSource NoFinalize) ≡ Some (at, OfSource ThreadNotStarted) = rw is at e in false≢true (ap unstarted_at h)

unstarted_as : (may_answer : ℕ → Bool → Type 0) (calls : List Call) (end : Ending) (at : ℕ) → StopsAs may_answer calls end → ¬ (fault_of_end end calls ≡ Some (at, OfSource ThreadNotStarted))
unfolding unstarted_at
unstarted_as may_answer calls Sealed at stops e = sealed_unstarted (is_ended calls) calls at refl e
unstarted_as may_answer calls (Torn ThreadNotStarted) at stops e = stops
unstarted_as may_answer calls end at stops e = false≢true (ap unstarted_at e)

pub read_is_started : (groups : Groups) (rank : ℕ) (told : Option Trace) (may_answer : ℕ → Bool → Type 0) (items : List Item) (at : ℕ) → IsFed told may_answer items → ¬ (fault_of_rank groups rank (trace_of_items items) ≡ Some (at, OfSource ThreadNotStarted))
read_is_started groups rank told may_answer items at own is =
    unstarted_as may_answer own.calls own.end at own.stopped
    (source_fault groups rank [] own.calls own.end at ThreadNotStarted (sym (fault_held groups rank own.calls own.end items own.are) ∙ is))

-- what is read of a trace stops within it

whole_within : (trace : Trace) (calls : List Call) → trace.records ≡ calls → length calls ≤ length trace.records
whole_within trace calls are = let count : length trace.records ≡ length calls = ap (λ (xs : List Call). length xs) are in omega (arith, count)

begins_within : (trace : Trace) (calls : List Call) → Begins calls trace.records → length calls ≤ length trace.records
begins_within trace calls begins =
    let count : length trace.records ≡ length calls + length begins.0 = ap (λ (xs : List Call). length xs) begins.1 ∙ length-append calls begins.0 in
    omega (arith, count)

calls_within : (trace : Trace) (calls : List Call) (end : Ending) → EndsAs trace calls end → length calls ≤ length trace.records
calls_within trace calls Sealed ends = whole_within trace calls ends.0
calls_within trace calls (Torn (Line fault)) ends = whole_within trace calls ends.0
calls_within trace calls (Torn TextAfterFinalize) ends = whole_within trace calls ends.0
calls_within trace calls (Torn NoFinalize) ends = whole_within trace calls ends.0
calls_within trace calls (Torn ThreadNotStarted) ends = whole_within trace calls ends.0
calls_within trace calls (Torn ReadFailed) ends = begins_within trace calls ends
calls_within trace calls (Torn GateStopped) ends = begins_within trace calls ends

sealed_place : (ends : Bool) (calls : List Call) (at : ℕ) (fault : RankFault) → is_ended calls ≡ ends → fault_of_end Sealed calls ≡ Some (at, fault) → at ≡ length calls
unfolding place_at
sealed_place true calls at fault is e = let h : None ≡ Some (at, fault) = rw is at e in absurd cc
sealed_place false calls at fault is e = let h : Some (length calls, OfSource NoFinalize) ≡ Some (at, fault) = rw is at e in sym (ap place_at h)

end_place : (end : Ending) (calls : List Call) (at : ℕ) (fault : RankFault) → fault_of_end end calls ≡ Some (at, fault) → at ≡ length calls
unfolding place_at
end_place Sealed calls at fault e = sealed_place (is_ended calls) calls at fault refl e
end_place (Torn own) calls at fault e = sym (ap place_at e)

placed_by : (groups : Groups) (rank at : ℕ) (fault : RankFault) (trace : Trace) (may_answer : ℕ → Bool → Type 0) (items : List Item) → IsFedOrNotStarted (Some trace) may_answer items → fault_of_rank groups rank (trace_of_items items) ≡ Some (at, fault) → is_from_outside fault ≡ true → at ≤ length trace.records
unfolding place_at
placed_by groups rank at (OfCall fault) trace may_answer items fed is outside = absurd cc
placed_by groups rank at (OfSource fault) trace may_answer items (inl own) is outside =
    let here : at ≡ length own.calls = end_place own.end own.calls at (OfSource fault) (source_fault groups rank [] own.calls own.end at fault (sym (fault_held groups rank own.calls own.end items own.are) ∙ is)) in
    let within : length own.calls ≤ length trace.records = calls_within trace own.calls own.end own.whole in
    omega (arith, here, within)
placed_by groups rank at (OfSource fault) trace may_answer items (inr none) is outside =
    let e : Some (0, OfSource ThreadNotStarted) ≡ Some (at, OfSource fault) = sym (fault_held groups rank [] (Torn ThreadNotStarted) items none) ∙ is in
    let here : 0 ≡ at = ap place_at e in
    omega (arith, here)

placed_told : (groups : Groups) (told : Option Trace) (may_answer : ℕ → Bool → Type 0) (items : List Item) (refusal : Refusal) → IsFedOrNotStarted told may_answer items → fault_of_rank groups refusal.rank (trace_of_items items) ≡ Some (refusal.call, refusal.fault) → IfSome told (λ trace. IsPlacedIn trace refusal)
placed_told groups None may_answer items refusal fed is = tt
placed_told groups (Some trace) may_answer items refusal fed is = λ outside. placed_by groups refusal.rank refusal.call refusal.fault trace may_answer items fed is outside

-- All ranks.

-- a place of a list, and of the list that a map makes of it

pub found_at : {A : Type 0} (xs : List A) (k : ℕ) → k < length xs → (x : A) × (slice_get xs k ≡ Some x)
found_at [] k below = absurd (omega arith)
found_at (x ∷ xs) k below = (get_or (x ∷ xs) k x, slice_get-get_or (x ∷ xs) k x below)

pub mapped_at : {A B : Type 0} (f : A → B) (xs : List A) (k : ℕ) (x : A) → slice_get xs k ≡ Some x → slice_get (map f xs) k ≡ Some (f x)
mapped_at f xs k x e = slice_get-map f xs k ∙ ap (option_map f) e

unmapped_at : {A B : Type 0} (f : A → B) (xs : List A) (k : ℕ) (y : B) → slice_get (map f xs) k ≡ Some y → (x : A) × (slice_get xs k ≡ Some x) × (f x ≡ y)
unmapped_at f [] k y e = cc
unmapped_at f (x ∷ xs) zero y e = (x, refl, let same : f x ≡ y = cc in same)
unmapped_at f (x ∷ xs) (suc k) y e = unmapped_at f xs k y e

module _ {I : Type 0} (left : I → Option (List ℕ)) (may_answer : ℕ → ℕ → Bool → Type 0) where
  pub one_list_a_source : (first : ℕ) (sources : List (Source I)) (items : List (List Item)) → AreFedBy left may_answer first sources items → length items ≡ length sources
  one_list_a_source first [] [] fed = refl
  one_list_a_source first [] (x ∷ xs) fed = absurd fed
  one_list_a_source first (s ∷ ss) [] fed = absurd fed
  one_list_a_source first (s ∷ ss) (x ∷ xs) fed = ap suc (one_list_a_source (first + 1) ss xs fed.1)

  fed_at : (first : ℕ) (sources : List (Source I)) (items : List (List Item)) (k : ℕ) (source : Source I) (own : List Item) → AreFedBy left may_answer first sources items → slice_get sources k ≡ Some source → slice_get items k ≡ Some own → IsFedOrNotStarted (coming left source) (may_answer (first + k)) own
  fed_at first [] [] k source own fed at there = cc
  fed_at first [] (x ∷ xs) k source own fed at there = absurd fed
  fed_at first (s ∷ ss) [] k source own fed at there = absurd fed
  fed_at first (s ∷ ss) (x ∷ xs) zero source own fed at there =
      let same : s ≡ source = cc in
      let its : x ≡ own = cc in
      let e : first ≡ first + 0 = omega arith in
      subst (λ (n : ℕ). IsFedOrNotStarted (coming left source) (may_answer n) own) e
      (subst (λ (one : Source I). IsFedOrNotStarted (coming left one) (may_answer first) own) same
      (subst (λ (list : List Item). IsFedOrNotStarted (coming left s) (may_answer first) list) its fed.0))
  fed_at first (s ∷ ss) (x ∷ xs) (suc k) source own fed at there =
      let e : first + 1 + k ≡ first + suc k = omega arith in
      subst (λ (n : ℕ). IsFedOrNotStarted (coming left source) (may_answer n) own) e (fed_at (first + 1) ss xs k source own fed.1 at there)

  pub all_read : (first : ℕ) (sources : List (Source I)) (items : List (List Item)) → AreFedBy left may_answer first sources items → AreRead left may_answer first sources (map trace_of_items items)
  all_read first [] [] fed = tt
  all_read first (s ∷ ss) (x ∷ xs) fed = (read_of_fed left s (may_answer first) x fed.0, all_read (first + 1) ss xs fed.1)
  all_read first sources items fed = absurd fed

  one_trace_a_source : (first : ℕ) (sources : List (Source I)) (traces : List Trace) → AreRead left may_answer first sources traces → length traces ≡ length sources
  one_trace_a_source first [] [] read = refl
  one_trace_a_source first [] (t ∷ ts) read = absurd read
  one_trace_a_source first (s ∷ ss) [] read = absurd read
  one_trace_a_source first (s ∷ ss) (t ∷ ts) read = ap suc (one_trace_a_source (first + 1) ss ts read.1)

  read_at : (first : ℕ) (sources : List (Source I)) (traces : List Trace) (k : ℕ) (source : Source I) (trace : Trace) → AreRead left may_answer first sources traces → slice_get sources k ≡ Some source → slice_get traces k ≡ Some trace → IsFedOrNotStarted (coming left source) (may_answer (first + k)) (marked trace.records trace.end)
  read_at first [] [] k source trace read at there = cc
  read_at first [] (t ∷ ts) k source trace read at there = absurd read
  read_at first (s ∷ ss) [] k source trace read at there = absurd read
  read_at first (s ∷ ss) (t ∷ ts) zero source trace read at there =
      let same : s ≡ source = cc in
      let its : t ≡ trace = cc in
      let e : first ≡ first + 0 = omega arith in
      subst (λ (n : ℕ). IsFedOrNotStarted (coming left source) (may_answer n) (marked trace.records trace.end)) e
      (subst (λ (one : Source I). IsFedOrNotStarted (coming left one) (may_answer first) (marked trace.records trace.end)) same
      (subst (λ (one : Trace). IsFedOrNotStarted (coming left s) (may_answer first) (marked one.records one.end)) its (fed_of_read left s (may_answer first) t read.0)))
  read_at first (s ∷ ss) (t ∷ ts) (suc k) source trace read at there =
      let e : first + 1 + k ≡ first + suc k = omega arith in
      subst (λ (n : ℕ). IsFedOrNotStarted (coming left source) (may_answer n) (marked trace.records trace.end)) e (read_at (first + 1) ss ts k source trace read.1 at there)

-- where there is no refusal, no rank has a fault
no_faults : (groups : Groups) (first : ℕ) (traces : List Trace) (k : ℕ) (trace : Trace) → refusal_from groups first traces ≡ None → slice_get traces k ≡ Some trace → fault_of_rank groups (first + k) trace ≡ None
no_faults groups first [] k trace none at = cc
no_faults groups first (t ∷ ts) zero trace none at =
    let same : t ≡ trace = cc in
    let e : first ≡ first + 0 = omega arith in
    subst (λ (n : ℕ). fault_of_rank groups n trace ≡ None) e (ap (fault_of_rank groups first) (sym same) ∙ own_none first (fault_of_rank groups first t) (refusal_from groups (first + 1) ts) none)
no_faults groups first (t ∷ ts) (suc k) trace none at =
    let e : first + 1 + k ≡ first + suc k = omega arith in
    subst (λ (n : ℕ). fault_of_rank groups n trace ≡ None) e (no_faults groups (first + 1) ts k trace (behind_none first (fault_of_rank groups first t) (refusal_from groups (first + 1) ts) none) at)

-- where there is one, it is that of some place, and no rank before it has a fault
record IsRefusalAt (groups : Groups) (first : ℕ) (traces : List Trace) (refusal : Refusal) : Type 0 where
  pub place : ℕ
  pub trace : Trace
  pub there : slice_get traces place ≡ Some trace
  pub rank : refusal.rank ≡ first + place
  pub fault : fault_of_rank groups refusal.rank trace ≡ Some (refusal.call, refusal.fault)
  pub lower : (k : ℕ) (t : Trace) → k < place → slice_get traces k ≡ Some t → fault_of_rank groups (first + k) t ≡ None

abbrev refusal_with : ℕ → ℕ → RankFault → Refusal
refusal_with rank call fault = record { rank = rank; call = call; fault = fault }

lower_here : (groups : Groups) (first : ℕ) (trace : Trace) (traces : List Trace) (k : ℕ) (t : Trace) (place : ℕ) → fault_of_rank groups first trace ≡ None → ((j : ℕ) (other : Trace) → j < place → slice_get traces j ≡ Some other → fault_of_rank groups (first + 1 + j) other ≡ None) → k < suc place → slice_get (trace ∷ traces) k ≡ Some t → fault_of_rank groups (first + k) t ≡ None
lower_here groups first trace traces zero t place none lower below at =
    let same : trace ≡ t = cc in
    let e : first ≡ first + 0 = omega arith in
    subst (λ (n : ℕ). fault_of_rank groups n t ≡ None) e (ap (fault_of_rank groups first) (sym same) ∙ none)
lower_here groups first trace traces (suc k) t place none lower below at =
    let e : first + 1 + k ≡ first + suc k = omega arith in
    subst (λ (n : ℕ). fault_of_rank groups n t ≡ None) e (lower k t (omega (arith, below)) at)

first_or_behind : (groups : Groups) (first : ℕ) (trace : Trace) (traces : List Trace) (refusal : Refusal) (own : Option PlacedFault) → fault_of_rank groups first trace ≡ own → refusal_or first own (refusal_from groups (first + 1) traces) ≡ Some refusal → (refusal_from groups (first + 1) traces ≡ Some refusal → IsRefusalAt groups (first + 1) traces refusal) → IsRefusalAt groups first (trace ∷ traces) refusal
first_or_behind groups first trace traces refusal (Some (place, fault)) is e behind =
    let same : refusal_with first place fault ≡ refusal = cc in
    let rank : first ≡ refusal.rank = ap (λ (r : Refusal). r.rank) same in
    let parts : Some (place, fault) ≡ Some (refusal.call, refusal.fault) = ap (λ (r : Refusal). Some (r.call, r.fault)) same in record {
      place = 0;
      trace = trace;
      there = refl;
      rank = omega (arith, rank);
      fault = ap (λ (n : ℕ). fault_of_rank groups n trace) (sym rank) ∙ is ∙ parts;
      lower = λ k t below at. absurd (omega (arith, below));
    }
first_or_behind groups first trace traces refusal None is e behind =
    let rest = behind e in record {
      place = suc rest.place;
      trace = rest.trace;
      there = rest.there;
      rank = omega (arith, rest.rank);
      fault = rest.fault;
      lower = λ k t below at. lower_here groups first trace traces k t rest.place is rest.lower below at;
    }

refusal_place : (groups : Groups) (first : ℕ) (traces : List Trace) (refusal : Refusal) → refusal_from groups first traces ≡ Some refusal → IsRefusalAt groups first traces refusal
refusal_place groups first [] refusal e = cc
refusal_place groups first (trace ∷ traces) refusal e =
    first_or_behind groups first trace traces refusal (fault_of_rank groups first trace) refl e (refusal_place groups (first + 1) traces refusal)

calls_at : (traces : List Trace) (k : ℕ) (trace : Trace) → slice_get traces k ≡ Some trace → calls_of (recording_of_traces traces) k ≡ trace.records
calls_at [] k trace at = cc
calls_at (t ∷ ts) zero trace at = let same : t ≡ trace = cc in ap (λ (s : Trace). s.records) same
calls_at (t ∷ ts) (suc k) trace at = calls_at ts k trace at

told_here : {I : Type 0} (left : I → Option (List ℕ)) (sources : List (Source I)) (rank : ℕ) (source : Source I) → slice_get sources rank ≡ Some source → coming left source ≡ told_by left sources rank
told_here left sources rank source at = sym (ap (option_and_then (coming left)) at)

accepts_at : {I : Type 0} (left : I → Option (List ℕ)) (may_answer : ℕ → ℕ → Bool → Type 0) (sources : List (Source I)) (reading : Reading) (groups : Groups) (outcome : Analysed) → IsOutcomeOfFeeds left may_answer sources reading groups outcome → (rank : ℕ) → rank < length sources → AcceptsRank groups rank (told_by left sources rank) (calls_of outcome.recording rank)
accepts_at left may_answer sources reading groups outcome is rank within =
    let source = found_at sources rank within in
    let items = found_at is.items rank (omega (arith, within, one_list_a_source left may_answer 0 sources is.items is.fed)) in
    let trace : slice_get (map trace_of_items is.items) rank ≡ Some (trace_of_items items.0) = mapped_at trace_of_items is.items rank items.0 items.1 in
    let calls : calls_of outcome.recording rank ≡ calls_among items.0 =
    ap (λ (lists : Lists). calls_of lists rank) is.over.recording ∙ calls_at (map trace_of_items is.items) rank (trace_of_items items.0) trace in
    let none : fault_of_rank groups rank (trace_of_items items.0) ≡ None =
    let e : 0 + rank ≡ rank = omega arith in subst (λ (n : ℕ). fault_of_rank groups n (trace_of_items items.0) ≡ None) e (no_faults groups 0 (map trace_of_items is.items) rank (trace_of_items items.0) is.over.no_refusal trace) in
    subst (λ (told : Option Trace). AcceptsRank groups rank told (calls_of outcome.recording rank)) (told_here left sources rank source.0 source.1)
    (accepts_told groups rank (coming left source.0) (may_answer (0 + rank)) items.0 (calls_of outcome.recording rank) (fed_at left may_answer 0 sources is.items rank source.0 items.0 is.fed source.1 items.1) calls none)

pub accepts_all : {I : Type 0} (left : I → Option (List ℕ)) (may_answer : ℕ → ℕ → Bool → Type 0) (sources : List (Source I)) (reading : Reading) (groups : Groups) (outcome : Analysed) → length sources ≡ ranks_of groups → IsOutcomeOfFeeds left may_answer sources reading groups outcome → AcceptsAll groups (told_by left sources) outcome.recording
accepts_all left may_answer sources reading groups outcome one is =
    let count : length outcome.recording ≡ length sources =
    ap (λ (lists : Lists). length lists) is.over.recording ∙ length-map (map trace_of_items is.items) (λ (t : Trace). t.records) ∙ length-map is.items trace_of_items ∙ one_list_a_source left may_answer 0 sources is.items is.fed in record {
      one_a_rank = count ∙ one;
      closed = subst IsClosed (sym is.over.recording) is.over.closed;
      accepted = λ rank within. accepts_at left may_answer sources reading groups outcome is rank (omega (arith, count, within));
    }

pub lowest_refusal : {I : Type 0} (left : I → Option (List ℕ)) (may_answer : ℕ → ℕ → Bool → Type 0) (sources : List (Source I)) (groups : Groups) (refusal : Refusal) → length sources ≡ ranks_of groups → IsRefusalOfFeeds left may_answer sources groups refusal → IsLowestRefusal groups (told_by left sources) refusal
lowest_refusal left may_answer sources groups refusal one is =
    let at = refusal_place groups 0 is.traces refusal is.over in
    let rank : at.place ≡ refusal.rank = omega (arith, at.rank) in
    let count = one_trace_a_source left may_answer 0 sources is.traces is.read in
    let inside : at.place < length sources = omega (arith, count, slice_get_within is.traces at.place at.trace at.there) in
    let source = found_at sources at.place inside in record {
      is_rank = omega (arith, one, inside, rank);
      lowest = λ k below. let here = found_at sources k (omega (arith, below, inside, rank)) in
          let there = found_at is.traces k (omega (arith, below, inside, rank, count)) in
          let e : 0 + k ≡ k = omega arith in
          let none : fault_of_rank groups k there.0 ≡ None =
          subst (λ (n : ℕ). fault_of_rank groups n there.0 ≡ None) e (at.lower k there.0 (omega (arith, below, rank)) there.1) in
          subst (λ (told : Option Trace). HasNoFault groups k told) (told_here left sources k here.0 here.1)
          (no_fault_told groups k (coming left here.0) (may_answer (0 + k)) (marked there.0.records there.0.end) (read_at left may_answer 0 sources is.traces k here.0 there.0 is.read here.1 there.1) (read_fault groups k there.0 ∙ none));
      its_own = subst (λ (n : ℕ). IfSome (told_by left sources n) (λ trace. IsRefusalOf groups refusal.rank trace refusal)) rank
          (subst (λ (told : Option Trace). IfSome told (λ trace. IsRefusalOf groups refusal.rank trace refusal)) (told_here left sources at.place source.0 source.1)
          (own_told groups (coming left source.0) (may_answer (0 + at.place)) (marked at.trace.records at.trace.end) refusal
          (read_at left may_answer 0 sources is.traces at.place source.0 at.trace is.read source.1 at.there) (read_fault groups refusal.rank at.trace ∙ at.fault)));
      place = subst (λ (n : ℕ). IfSome (told_by left sources n) (λ trace. IsPlacedIn trace refusal)) rank
          (subst (λ (told : Option Trace). IfSome told (λ trace. IsPlacedIn trace refusal)) (told_here left sources at.place source.0 source.1)
          (placed_told groups (coming left source.0) (may_answer (0 + at.place)) (marked at.trace.records at.trace.end) refusal
          (read_at left may_answer 0 sources is.traces at.place source.0 at.trace is.read source.1 at.there) (read_fault groups refusal.rank at.trace ∙ at.fault)));
    }

-- where there is no refusal, the gate was asked of each line of each source
pub accepts_feeds : {I A E : Type 0} (left : I → Option (List ℕ)) (may_answer : ℕ → ℕ → Bool → Type 0) (sources : List (Source I)) (reading : Reading) (groups : Groups) (outcome : Analysed) (answer : Result A E) → IsOutcomeOfFeeds left may_answer sources reading groups outcome → OnOk answer (AcceptsFeeds left may_answer sources groups)
accepts_feeds left may_answer sources reading groups outcome (Ok verdict) is = record {
  traces = map trace_of_items is.items;
  read = all_read left may_answer 0 sources is.items is.fed;
  over = is.over.no_refusal;
}
accepts_feeds left may_answer sources reading groups outcome (Err fault) is = tt

-- where the gate stopped a rank, it might do so there
stops_there : {I : Type 0} (left : I → Option (List ℕ)) (may_answer : ℕ → ℕ → Bool → Type 0) (sources : List (Source I)) (groups : Groups) (refusal : Refusal) → IsRefusalOfFeeds left may_answer sources groups refusal → refusal.fault ≡ OfSource GateStopped → may_answer refusal.rank (line_behind refusal.call) false
stops_there left may_answer sources groups refusal is stopped =
    let at = refusal_place groups 0 is.traces refusal is.over in
    let count = one_trace_a_source left may_answer 0 sources is.traces is.read in
    let source = found_at sources at.place (omega (arith, count, slice_get_within is.traces at.place at.trace at.there)) in
    let fault : fault_of_rank groups refusal.rank (trace_of_items (marked at.trace.records at.trace.end)) ≡ Some (refusal.call, OfSource GateStopped) =
    read_fault groups refusal.rank at.trace ∙ at.fault ∙ ap (λ (f : RankFault). Some (refusal.call, f)) stopped in
    subst (λ (n : ℕ). may_answer n (line_behind refusal.call) false) (sym at.rank)
    (stopped_there groups refusal.rank (coming left source.0) (may_answer (0 + at.place)) (marked at.trace.records at.trace.end) refusal.call
    (read_at left may_answer 0 sources is.traces at.place source.0 at.trace is.read source.1 at.there) fault)

-- What the joined threads hand to the close.

if_received : (P : Receipt → Type 0) (answer : Result Receipt Unsealed) → IfOk answer P → IfSome (receipt_in answer) P
if_received P (Ok receipt) is = is
if_received P (Err fault) is = tt

module _ {I : Type 0} (left : I → Option (List ℕ)) (may_answer : ℕ → ℕ → Bool → Type 0) where
  pub receipts_of_feeds : (sources : List (Source I)) (feeds : List Feed) (fed : List FeedResult) → AreFedFrom left may_answer sources feeds fed → AreReceiptsOf (map feed_ring feeds) (map receipt_of fed)
  receipts_of_feeds [] [] [] are = tt
  receipts_of_feeds (s ∷ ss) (f ∷ fs) (x ∷ xs) are = (if_received (λ receipt. receipt_ring receipt ≡ feed_ring f) x.receipt are.0.name, receipts_of_feeds ss fs xs are.1)
  receipts_of_feeds sources feeds fed are = absurd are

-- the items that receipts hold
pub items_held : List (Option Receipt) → List (List Item)
items_held [] = []
items_held (None ∷ receipts) = items_held receipts
items_held (Some receipt ∷ receipts) = sent_whole receipt ∷ items_held receipts

pub held_traces : (receipts : List (Option Receipt)) → traces_held receipts ≡ map trace_of_items (items_held receipts)
unfolding items_held
held_traces [] = refl
held_traces (None ∷ receipts) = held_traces receipts
held_traces (Some receipt ∷ receipts) = ap (λ (ts : List Trace). trace_of_items (sent_whole receipt) ∷ ts) (held_traces receipts)

one_more_fed : {I : Type 0} (left : I → Option (List ℕ)) (may_answer : ℕ → ℕ → Bool → Type 0) (first number : ℕ) (source : Source I) (sources : List (Source I)) (answer : Result Receipt Unsealed) (receipts : List (Option Receipt)) → IfOk answer (λ receipt. IsFedOrNotStarted (coming left source) (may_answer number) (sent_whole receipt)) → number ≡ first → missing_from first (receipt_in answer ∷ receipts) ≡ None → (missing_from (first + 1) receipts ≡ None → AreFedBy left may_answer (first + 1) sources (items_held receipts)) → AreFedBy left may_answer first (source ∷ sources) (items_held (receipt_in answer ∷ receipts))
unfolding items_held
one_more_fed left may_answer first number source sources (Err fault) receipts own is present behind = absurd (none-some _ (sym present))
one_more_fed left may_answer first number source sources (Ok receipt) receipts own is present behind = (
  subst (λ (n : ℕ). IsFedOrNotStarted (coming left source) (may_answer n) (sent_whole receipt)) is own,
  behind present,
)

pub fed_by_threads : {I : Type 0} (left : I → Option (List ℕ)) (may_answer : ℕ → ℕ → Bool → Type 0) (first : ℕ) (sources : List (Source I)) (feeds : List Feed) (fed : List FeedResult) → AreFedFrom left may_answer sources feeds fed → map rank_fed feeds ≡ range_with_len first (length feeds) → missing_from first (map receipt_of fed) ≡ None → AreFedBy left may_answer first sources (items_held (map receipt_of fed))
unfolding items_held
fed_by_threads left may_answer first [] [] [] are ranks present = tt
fed_by_threads left may_answer first (s ∷ ss) (f ∷ fs) (x ∷ xs) are ranks present =
    let number : rank_fed f ≡ first = cc in
    let others : map rank_fed fs ≡ range_with_len (first + 1) (length fs) = cc in
    one_more_fed left may_answer first (rank_fed f) s ss x.receipt (map receipt_of xs) are.0.items number present
    (λ behind. fed_by_threads left may_answer (first + 1) ss fs xs are.1 others behind)
fed_by_threads left may_answer first sources feeds fed are ranks present = absurd are

-- the rank without a receipt is one of the ranks
missing_below : (first : ℕ) (receipts : List (Option Receipt)) (rank : ℕ) → missing_from first receipts ≡ Some rank → rank < first + length receipts
missing_below first [] rank e = cc
missing_below first (None ∷ receipts) rank e = let same : first ≡ rank = cc in omega (arith, same)
missing_below first (Some receipt ∷ receipts) rank e = let h = missing_below (first + 1) receipts rank e in omega (arith, h)

missing_rank : (receipts : List (Option Receipt)) (rank : ℕ) → first_missing receipts ≡ Some rank → rank < length receipts
missing_rank receipts rank e = let h = missing_below 0 receipts rank e in omega (arith, h)

-- At the close.

pub none_put : (capacity : ℕ) (feeds : List Feed) → All (IsFreshFeed capacity) feeds → All (λ feed. sent_by feed ≡ []) feeds
none_put capacity feeds fresh = λ k d within. (fresh k d within).1

feeds_of : (groups : Groups) (feeds : List Feed) → map rank_fed feeds ≡ range_with_len 0 (ranks_of groups) → length feeds ≡ ranks_of groups
feeds_of groups feeds ranks = sym (length-map feeds rank_fed) ∙ ap (λ (ns : List ℕ). length ns) ranks ∙ length-range_with_len 0 (ranks_of groups)

pub feeds_count : {I : Type 0} (groups : Groups) (feeds : List Feed) (sources : List (Source I)) → length sources ≡ ranks_of groups → map rank_fed feeds ≡ range_with_len 0 (ranks_of groups) → length feeds ≡ length sources
feeds_count groups feeds sources one ranks = feeds_of groups feeds ranks ∙ sym one

module _ {I : Type 0} (left : I → Option (List ℕ)) (may_answer : ℕ → ℕ → Bool → Type 0) (sources : List (Source I)) (feeds : List Feed) (fed : List FeedResult) (collector now : Collector) (receipts : List (Option Receipt)) (reading : Reading) (groups : Groups) where
  pub close_receipts : AreFedFrom left may_answer sources feeds fed → rings collector ≡ map feed_ring feeds → IsSameSession collector now → receipts ≡ map receipt_of fed → AreReceiptsOf (rings now) receipts
  close_receipts are rings_are same is =
      rw is (subst (λ (names : List FeedName). AreReceiptsOf names (map receipt_of fed)) (sym (same.names ∙ rings_are)) (receipts_of_feeds left may_answer sources feeds fed are))

  all_fed : AreFedFrom left may_answer sources feeds fed → map rank_fed feeds ≡ range_with_len 0 (ranks_of groups) → receipts ≡ map receipt_of fed → first_missing receipts ≡ None → AreFedBy left may_answer 0 sources (items_held receipts)
  all_fed are ranks is present =
      let whole : map rank_fed feeds ≡ range_with_len 0 (length feeds) = ranks ∙ ap (range_with_len 0) (sym (feeds_of groups feeds ranks)) in
      let every : first_missing (map receipt_of fed) ≡ None = ap first_missing (sym is) ∙ present in
      rw is (fed_by_threads left may_answer 0 sources feeds fed are whole every)

  outcome_of_feeds : (outcome : Analysed) → AreFedFrom left may_answer sources feeds fed → map rank_fed feeds ≡ range_with_len 0 (ranks_of groups) → kept collector ≡ nothing_kept reading groups → IsSameSession collector now → receipts ≡ map receipt_of fed → (first_missing receipts ≡ None) × IsOutcomeOver (kept now).reading (kept now).groups (traces_held receipts) outcome → IsOutcomeOfFeeds left may_answer sources reading groups outcome
  outcome_of_feeds outcome are ranks first same is answer =
      let head : (kept now).groups ≡ groups = same.groups ∙ ap (λ (k : Kept). k.groups) first in
      let alike : (kept now).reading ≡ reading = same.reading ∙ ap (λ (k : Kept). k.reading) first in
      let now_over = subst (λ (r : Reading). IsOutcomeOver r (kept now).groups (traces_held receipts) outcome) alike answer.1 in record {
        items = items_held receipts;
        fed = all_fed are ranks is answer.0;
        over = subst (λ (ts : List Trace). IsOutcomeOver reading groups ts outcome) (held_traces receipts) (subst (λ (gs : Groups). IsOutcomeOver reading gs (traces_held receipts) outcome) head now_over);
      }

  refusal_of_feeds : (refusal : Refusal) → AreFedFrom left may_answer sources feeds fed → map rank_fed feeds ≡ range_with_len 0 (ranks_of groups) → kept collector ≡ nothing_kept reading groups → IsSameSession collector now → receipts ≡ map receipt_of fed → (first_missing receipts ≡ None) × (refusal_of (kept now).groups (traces_held receipts) ≡ Some refusal) → IsRefusalOfFeeds left may_answer sources groups refusal
  refusal_of_feeds refusal are ranks first same is answer =
      let head : (kept now).groups ≡ groups = same.groups ∙ ap (λ (k : Kept). k.groups) first in record {
        traces = map trace_of_items (items_held receipts);
        read = all_read left may_answer 0 sources (items_held receipts) (all_fed are ranks is answer.0);
        over = ap (refusal_of groups) (sym (held_traces receipts)) ∙ ap (λ (gs : Groups). refusal_of gs (traces_held receipts)) (sym head) ∙ answer.1;
      }

  fed_count : (ss : List (Source I)) (fs : List Feed) (xs : List FeedResult) → AreFedFrom left may_answer ss fs xs → length xs ≡ length ss
  fed_count [] [] [] so = refl
  fed_count (s ∷ ss) (f ∷ fs) (x ∷ xs) so = ap suc (fed_count ss fs xs so.1)
  fed_count ss fs xs so = absurd so

  unproved_rank : (rank : ℕ) → AreFedFrom left may_answer sources feeds fed → length sources ≡ ranks_of groups → receipts ≡ map receipt_of fed → first_missing receipts ≡ Some rank → rank < ranks_of groups
  unproved_rank rank are one is missing =
      let count : length receipts ≡ ranks_of groups = ap (λ (rs : List (Option Receipt)). length rs) is ∙ length-map fed receipt_of ∙ fed_count sources feeds fed are ∙ one in
      omega (arith, count, missing_rank receipts rank missing)

  pub closes_well : (answer : Result Analysed CloseFault) → AreFedFrom left may_answer sources feeds fed → map rank_fed feeds ≡ range_with_len 0 (ranks_of groups) → kept collector ≡ nothing_kept reading groups → IsSameSession collector now → receipts ≡ map receipt_of fed → Closes (kept now).reading (kept now).groups receipts answer → IfOk answer (IsOutcomeOfFeeds left may_answer sources reading groups)
  closes_well (Ok outcome) are ranks first same is answer = outcome_of_feeds outcome are ranks first same is answer
  closes_well (Err fault) are ranks first same is answer = tt

  pub closes_refusing : (answer : Result Analysed CloseFault) → AreFedFrom left may_answer sources feeds fed → length sources ≡ ranks_of groups → map rank_fed feeds ≡ range_with_len 0 (ranks_of groups) → kept collector ≡ nothing_kept reading groups → IsSameSession collector now → receipts ≡ map receipt_of fed → Closes (kept now).reading (kept now).groups receipts answer → IfErr answer (λ fault. RefusesFeeds left may_answer sources groups (of_close fault))
  closes_refusing (Ok outcome) are one ranks first same is answer = tt
  closes_refusing (Err Memory) are one ranks first same is answer = tt
  closes_refusing (Err (Unproved rank)) are one ranks first same is answer = unproved_rank rank are one is answer
  closes_refusing (Err (Refused refusal)) are one ranks first same is answer = refusal_of_feeds refusal are ranks first same is answer

-- and no rank is stopped where it may not be
pub refusing_stops : {I : Type 0} (left : I → Option (List ℕ)) (may_answer : ℕ → ℕ → Bool → Type 0) (sources : List (Source I)) (groups : Groups) (answer : Result Analysed CloseFault) → IfErr answer (λ fault. RefusesFeeds left may_answer sources groups (of_close fault)) → IfErr answer (λ fault. StopsWhereAllowed may_answer (of_close fault))
refusing_stops left may_answer sources groups (Err (Refused refusal)) refuses = stops_there left may_answer sources groups refusal refuses
refusing_stops left may_answer sources groups answer refuses = tt
