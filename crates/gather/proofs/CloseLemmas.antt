-- What is kept of ranks whose feeds were all drained: the answer over the traces that their receipts hold.
use Rattle.moves.specs.declared.reading.Reading.{Reading}
use Rattle.std.proofs.Common.{◌≡◌, ℕ, zero, suc, ◌+◌, ◌<◌, true, false, Option, Some, None, Result, Ok, Err, IfOk, IfErr, List, [], ◌∷◌, ◌++◌, length, refl, sym, ap, subst, ◌∙◌, arith, append_assoc, append-nil, slice_get}
use Rattle.std.proofs.lemmas.List.{length-map}
use Rattle.std.proofs.lemmas.Option.{none-some}
use Rattle.std.proofs.lemmas.Bool.{false≢true}
use Rattle.mpicall.specs.declared.call.Call.{Call}
use Rattle.mpicall.specs.Ending.{ends_list}
use Rattle.mpigroup.specs.Groups.{Groups}
use Rattle.callstore.specs.Recordings.{Lists, calls_of, is_ended, IsClosed}
use Rattle.pairing.specs.Faults.{fault_of, IsLawful}
use Rattle.pairing.proofs.FaultLemmas.{an_ended_lawful_list_is_closed}
use Rattle.moves.specs.Analysed.{Analysed}
use Rattle.moves.proofs.AnalyserLemmas.{closed_is_ended}
use Rattle.rankfeed.specs.Items.{calls_among, last_item, item_ends_list, end_mark_of, are_ended, IsFeed}
use Rattle.rankfeed.specs.Rings.{sent_whole, taker_ring}
use Rattle.mpicall.specs.declared.fault.Ending.{Ending}
use Rattle.mpicall.specs.declared.fault.Ending.TheVariants.{Sealed, Torn}
use Rattle.rankfeed.specs.declared.item.Item.{Item}
use Rattle.rankfeed.specs.declared.item.Item.TheVariants.{Entry, Mark}
use Rattle.rankfeed.specs.declared.ring.Receipt.{Receipt}
use Rattle.rankfeed.specs.declared.ring.Taker.{Taker}
use Rattle.gather.specs.Outcomes.{PlacedFault, fault_of_end, fault_of_rank, fault_onward, or_behind, refusal_or, refusal_from, refusal_of, recording_of_traces}
use Rattle.gather.specs.declared.fault.Refusal.{Refusal}
use Rattle.gather.specs.declared.collector.Collector.{Collector}
use Rattle.gather.specs.Collectors.{rings, kept, received_from}
use Rattle.gather.specs.Closes.{IsOutcomeOf, Closes, Concludes}
use Rattle.gather.specs.inner.Closes.{IsOutcomeOver}
use Rattle.gather.specs.declared.outcome.CloseFault.{CloseFault}
use Rattle.gather.specs.declared.outcome.CloseFault.TheVariants.{Memory, Unproved, Refused}
use Rattle.gather.specs.Collected.{fault_of_mark, fault_of_items, records_before, IsKeptOf, Kept, fault_at, refusal_in, refusal_kept}
use Rattle.gather.specs.Takers.{received_in}
use Rattle.gather.specs.inner.Takers.{Collects}
use Rattle.gather.specs.Receipts.{trace_of_items, missing_from, first_missing, traces_held, AreAllOf, AllReceived, AreReceiptsOf}
use Rattle.gather.proofs.CollectedLemmas.{calls_among-append, torn_has_fault}
use Rattle.gather.proofs.DrainLemmas.{ends_with_mark, ends_in, some_mark}
use Rattle.gather.proofs.FinishLemmas.{receipts_count}

-- the list that a sealed feed carries is ended

ending_record : (last : Option Item) → item_ends_list last ≡ true → (call : Call) × (last ≡ Some (Entry call)) × (ends_list call ≡ true)
ending_record None e = absurd (false≢true e)
ending_record (Some (Entry call)) e = (call, refl, e)
ending_record (Some (Mark end)) e = absurd (false≢true e)

last_record : (items : List Item) (call : Call) → last_item items ≡ Some (Entry call) → (before : List Item) × (items ≡ before ++ Entry call ∷ [])
last_record [] call e = absurd (none-some _ e)
last_record (first ∷ items) call e = ends_in first items (Entry call) e

sealed_ends : (items : List Item) → IsFeed items → end_mark_of items ≡ Some Sealed → is_ended (calls_among items) ≡ true
sealed_ends items feed sealed =
    let whole = ends_with_mark items Sealed sealed in
    let ending = ending_record (last_item whole.0) (feed.sealed_behind_list_end whole.0 [] whole.1) in
    let front = last_record whole.0 ending.0 ending.1 in
    let calls : calls_among items ≡ calls_among front.0 ++ ending.0 ∷ [] =
    ap calls_among whole.1 ∙ calls_among-append whole.0 (Mark Sealed ∷ []) ∙ append-nil (calls_among whole.0)
    ∙ ap calls_among front.1 ∙ calls_among-append front.0 (Entry ending.0 ∷ []) in
    closed_is_ended (calls_among items) (calls_among front.0) ending.0 calls ending.2

-- the first fault over whole items is that of their trace

-- ends with which the same calls have the same fault
pub same_end : (groups : Groups) (rank : ℕ) (of_end of_other : List Call → Option PlacedFault) (before calls : List Call) → of_end (before ++ calls) ≡ of_other (before ++ calls) → fault_onward groups rank of_end before calls ≡ fault_onward groups rank of_other before calls
same_end groups rank of_end of_other before [] same = subst (λ (xs : List Call). of_end xs ≡ of_other xs) (append-nil before) same
same_end groups rank of_end of_other before (call ∷ calls) same =
    ap (or_behind (length before) (fault_of groups rank before call))
    (same_end groups rank of_end of_other (before ++ call ∷ []) calls (subst (λ (xs : List Call). of_end xs ≡ of_other xs) (sym (append_assoc before (call ∷ []) calls)) same))

pub same_fault_by : (groups : Groups) (rank : ℕ) (items : List Item) (mark : Ending) → (end_mark_of items ≡ Some Sealed → is_ended (calls_among items) ≡ true) → end_mark_of items ≡ Some mark → fault_of_items groups rank items ≡ fault_of_rank groups rank (trace_of_items items)
unfolding fault_of_rank
same_fault_by groups rank items Sealed sealed is =
    let ended = sealed is in rw is (same_end groups rank (fault_of_mark (Some Sealed)) (fault_of_end Sealed) [] (calls_among items) (rw ended refl))
same_fault_by groups rank items (Torn fault) sealed is =
    rw is (same_end groups rank (fault_of_mark (Some (Torn fault))) (fault_of_end (Torn fault)) [] (calls_among items) refl)

same_fault : (groups : Groups) (rank : ℕ) (items : List Item) → IsFeed items → are_ended items ≡ true → fault_of_items groups rank items ≡ fault_of_rank groups rank (trace_of_items items)
same_fault groups rank items feed ended = let mark = some_mark (end_mark_of items) ended in same_fault_by groups rank items mark.0 (sealed_ends items feed) mark.1

-- what is kept of a rank by its receipt
pub record IsKeptBy (groups : Groups) (rank : ℕ) (receipt : Receipt) (calls : List Call) (fault : Option PlacedFault) : Type 0 where
  pub first : fault ≡ fault_of_rank groups rank (trace_of_items (sent_whole receipt))
  pub before : calls ≡ records_before fault (calls_among (sent_whole receipt))
  pub sealed : fault ≡ None → is_ended (calls_among (sent_whole receipt)) ≡ true

pub faultless_ends : (groups : Groups) (rank : ℕ) (items : List Item) (mark : Ending) → (end_mark_of items ≡ Some Sealed → is_ended (calls_among items) ≡ true) → end_mark_of items ≡ Some mark → fault_of_items groups rank items ≡ None → is_ended (calls_among items) ≡ true
faultless_ends groups rank items Sealed sealed is none = sealed is
faultless_ends groups rank items (Torn fault) sealed is none =
    absurd (torn_has_fault groups rank [] (calls_among items) fault (ap (λ (m : Option Ending). fault_onward groups rank (fault_of_mark m) [] (calls_among items)) (sym is) ∙ none))

kept_by : (groups : Groups) (rank : ℕ) (receipt : Receipt) (items : List Item) (calls : List Call) (fault : Option PlacedFault) → AreAllOf receipt items → IsKeptOf groups rank items calls fault → IsKeptBy groups rank receipt calls fault
kept_by groups rank receipt items calls fault all k = record {
  first = k.first ∙ same_fault groups rank items all.in_order all.ended ∙ ap (λ (xs : List Item). fault_of_rank groups rank (trace_of_items xs)) all.all;
  before = k.before ∙ ap (λ (xs : List Item). records_before fault (calls_among xs)) all.all;
  sealed = λ none. let mark = some_mark (end_mark_of items) all.ended in
      ap (λ (xs : List Item). is_ended (calls_among xs)) (sym all.all) ∙ faultless_ends groups rank items mark.0 (sealed_ends items all.in_order) mark.1 (sym k.first ∙ none);
}

-- the ranks' feeds were all drained, by a receipt for each, and memory wasn't wanted
pub record AreDrained (takers : List Taker) (kept : Kept) (receipts : List (Option Receipt)) : Type 0 where
  pub collects : Collects takers kept
  pub calm : kept.wanted ≡ false
  pub one_a_rank : length receipts ≡ length takers
  pub present : first_missing receipts ≡ None
  pub all : AllReceived receipts (received_in takers)

rank_kept : (takers : List Taker) (kept : Kept) (receipts : List (Option Receipt)) → AreDrained takers kept receipts → (rank : ℕ) (receipt : Receipt) → slice_get receipts rank ≡ Some (Some receipt) → IsKeptBy kept.groups rank receipt (calls_of kept.recording rank) (fault_at kept.faults rank)
rank_kept takers kept receipts are rank receipt at =
    kept_by kept.groups rank receipt (received_in takers rank) (calls_of kept.recording rank) (fault_at kept.faults rank) (are.all rank receipt at) (are.collects.collected are.calm rank)

-- the refusal is that of the traces

refusal_same : (groups : Groups) (first : ℕ) (receipts : List (Option Receipt)) (faults : List (Option PlacedFault)) → length faults ≡ length receipts → missing_from first receipts ≡ None → ((k : ℕ) (receipt : Receipt) → slice_get receipts k ≡ Some (Some receipt) → fault_at faults k ≡ fault_of_rank groups (first + k) (trace_of_items (sent_whole receipt))) → refusal_in first faults ≡ refusal_from groups first (traces_held receipts)
refusal_same groups first [] [] count present same = refl
refusal_same groups first [] (f ∷ fs) count present same = cc
refusal_same groups first (r ∷ rs) [] count present same = cc
refusal_same groups first (None ∷ rs) (f ∷ fs) count present same = absurd (none-some _ (sym present))
refusal_same groups first (Some receipt ∷ rs) (f ∷ fs) count present same =
    let trace = trace_of_items (sent_whole receipt) in
    let zero_more : first + 0 ≡ first = omega arith in
    let here : f ≡ fault_of_rank groups first trace = same 0 receipt refl ∙ ap (λ (n : ℕ). fault_of_rank groups n trace) zero_more in
    let behind : refusal_in (first + 1) fs ≡ refusal_from groups (first + 1) (traces_held rs) =
    refusal_same groups (first + 1) rs fs (omega (arith, count)) present
    (λ k other at. let e : first + suc k ≡ first + 1 + k = omega arith in same (suc k) other at ∙ ap (λ (n : ℕ). fault_of_rank groups n (trace_of_items (sent_whole other))) e) in
    ap (λ (x : Option PlacedFault). refusal_or first x (refusal_in (first + 1) fs)) here ∙ ap (λ (x : Option Refusal). refusal_or first (fault_of_rank groups first trace) x) behind

pub refusal_told : (takers : List Taker) (kept : Kept) (receipts : List (Option Receipt)) → AreDrained takers kept receipts → refusal_kept kept ≡ refusal_of kept.groups (traces_held receipts)
refusal_told takers kept receipts are =
    refusal_same kept.groups 0 receipts kept.faults (sym are.collects.one_fault_a_rank ∙ sym are.one_a_rank) are.present
    (λ k receipt at. let e : k ≡ 0 + k = omega arith in (rank_kept takers kept receipts are k receipt at).first ∙ ap (λ (n : ℕ). fault_of_rank kept.groups n (trace_of_items (sent_whole receipt))) e)

-- where there is no refusal, no rank has a fault

pub own_none : (rank : ℕ) (fault : Option PlacedFault) (behind : Option Refusal) → refusal_or rank fault behind ≡ None → fault ≡ None
own_none rank None behind e = refl
own_none rank (Some (place, fault)) behind e = absurd (none-some _ (sym e))

pub behind_none : (rank : ℕ) (fault : Option PlacedFault) (behind : Option Refusal) → refusal_or rank fault behind ≡ None → behind ≡ None
behind_none rank None behind e = e
behind_none rank (Some (place, fault)) behind e = absurd (none-some _ (sym e))

pub no_fault_at : (first : ℕ) (faults : List (Option PlacedFault)) (rank : ℕ) → refusal_in first faults ≡ None → fault_at faults rank ≡ None
no_fault_at first [] rank e = refl
no_fault_at first (f ∷ fs) zero e = own_none first f _ e
no_fault_at first (f ∷ fs) (suc rank) e = no_fault_at (first + 1) fs rank (behind_none first f _ e)

-- all records are kept

records_kept : (takers : List Taker) (kept : Kept) (receipts : List (Option Receipt)) → AreDrained takers kept receipts → refusal_kept kept ≡ None → (rank : ℕ) (receipt : Receipt) → slice_get receipts rank ≡ Some (Some receipt) → calls_of kept.recording rank ≡ calls_among (sent_whole receipt)
records_kept takers kept receipts are none rank receipt at =
    (rank_kept takers kept receipts are rank receipt at).before
    ∙ ap (λ (f : Option PlacedFault). records_before f (calls_among (sent_whole receipt))) (no_fault_at 0 kept.faults rank none)

lists_same : (first : ℕ) (receipts : List (Option Receipt)) (lists : Lists) → length lists ≡ length receipts → missing_from first receipts ≡ None → ((k : ℕ) (receipt : Receipt) → slice_get receipts k ≡ Some (Some receipt) → calls_of lists k ≡ calls_among (sent_whole receipt)) → lists ≡ recording_of_traces (traces_held receipts)
lists_same first [] [] count present same = refl
lists_same first [] (l ∷ ls) count present same = cc
lists_same first (r ∷ rs) [] count present same = cc
lists_same first (None ∷ rs) (l ∷ ls) count present same = absurd (none-some _ (sym present))
lists_same first (Some receipt ∷ rs) (l ∷ ls) count present same =
    let here : l ≡ calls_among (sent_whole receipt) = same 0 receipt refl in
    let behind : ls ≡ recording_of_traces (traces_held rs) = lists_same (first + 1) rs ls (omega (arith, count)) present (λ k other at. same (suc k) other at) in
    ap (λ (x : List Call). x ∷ ls) here ∙ ap (λ (xs : Lists). calls_among (sent_whole receipt) ∷ xs) behind

pub recording_told : (takers : List Taker) (kept : Kept) (receipts : List (Option Receipt)) → AreDrained takers kept receipts → refusal_kept kept ≡ None → kept.recording ≡ recording_of_traces (traces_held receipts)
recording_told takers kept receipts are none =
    lists_same 0 receipts kept.recording (sym are.collects.one_a_rank ∙ sym are.one_a_rank) are.present (records_kept takers kept receipts are none)

-- and closed

receipt_at : (first : ℕ) (receipts : List (Option Receipt)) (rank : ℕ) → missing_from first receipts ≡ None → rank < length receipts → (receipt : Receipt) × (slice_get receipts rank ≡ Some (Some receipt))
receipt_at first [] rank present within = absurd (omega (arith, within))
receipt_at first (None ∷ rs) rank present within = absurd (none-some _ (sym present))
receipt_at first (Some receipt ∷ rs) zero present within = (receipt, refl)
receipt_at first (Some receipt ∷ rs) (suc rank) present within = receipt_at (first + 1) rs rank present (omega (arith, within))

pub recording_closed : (takers : List Taker) (kept : Kept) (receipts : List (Option Receipt)) → AreDrained takers kept receipts → refusal_kept kept ≡ None → IsLawful kept.groups kept.recording → IsClosed kept.recording
recording_closed takers kept receipts are none lawful = λ rank is_rank.
    let within : rank < length receipts = omega (arith, is_rank, are.collects.one_a_rank, are.one_a_rank) in
    let there = receipt_at 0 receipts rank are.present within in
    let calls = records_kept takers kept receipts are none rank there.0 there.1 in
    let ended = (rank_kept takers kept receipts are rank there.0 there.1).sealed (no_fault_at 0 kept.faults rank none) in
    an_ended_lawful_list_is_closed kept.groups rank (calls_of kept.recording rank) (lawful rank is_rank) (ap is_ended calls ∙ ended)

-- once all feeds were drained
pub drained : (first now : Collector) (receipts : List (Option Receipt)) (missing : Option ℕ) → AreReceiptsOf (rings first) receipts → rings now ≡ rings first → (kept now).wanted ≡ false → missing ≡ first_missing receipts → missing ≡ None → AllReceived receipts (received_from now) → AreDrained now.takers.items (kept now) receipts
drained first now receipts missing are names calm lowest none all = record {
  collects = now.collects;
  calm = calm;
  one_a_rank = receipts_count (rings first) receipts are ∙ ap length (sym names) ∙ length-map now.takers.items taker_ring;
  present = sym lowest ∙ none;
  all = all;
}

outcome_told : (reading : Reading) (groups : Groups) (takers : List Taker) (kept : Kept) (receipts : List (Option Receipt)) (outcome : Analysed) → AreDrained takers kept receipts → kept.reading ≡ reading → kept.groups ≡ groups → IsOutcomeOf (refusal_kept kept) kept.reading kept.groups kept.recording outcome → IsOutcomeOver reading groups (traces_held receipts) outcome
outcome_told reading groups takers kept receipts outcome are alike same of_kept =
    let recording = recording_told takers kept receipts are of_kept.no_refusal in record {
      no_refusal = ap (λ (gs : Groups). refusal_of gs (traces_held receipts)) (sym same) ∙ sym (refusal_told takers kept receipts are) ∙ of_kept.no_refusal;
      same_reading = of_kept.same_reading ∙ alike;
      same_groups = of_kept.same_groups ∙ same;
      recording = of_kept.recording ∙ recording;
      closed = subst IsClosed recording of_kept.closed;
    }

-- what is concluded of what is kept is the answer over the receipts
pub concluded : (reading : Reading) (groups : Groups) (takers : List Taker) (kept : Kept) (receipts : List (Option Receipt)) (answer : Result Analysed CloseFault) → (kept.wanted ≡ false → AreDrained takers kept receipts) → kept.reading ≡ reading → kept.groups ≡ groups → Concludes kept answer → Closes reading groups receipts answer
concluded reading groups takers kept receipts (Err Memory) drained alike same is = tt
concluded reading groups takers kept receipts (Err (Unproved rank)) drained alike same is = absurd is
concluded reading groups takers kept receipts (Err (Refused refusal)) drained alike same is =
    let are = drained is.0 in (
      are.present,
      ap (λ (gs : Groups). refusal_of gs (traces_held receipts)) (sym same) ∙ sym (refusal_told takers kept receipts are) ∙ is.1,
    )
concluded reading groups takers kept receipts (Ok outcome) drained alike same is =
    let are = drained is.0 in (are.present, outcome_told reading groups takers kept receipts outcome are alike same is.1)

-- where nothing is wrong with what is kept, the outcome of its records is concluded
pub of_outcome : (kept : Kept) (analyser : Analysed) (answer : Result Analysed CloseFault) → kept.wanted ≡ false → refusal_kept kept ≡ None → IsClosed kept.recording → analyser.reading ≡ kept.reading → analyser.groups ≡ kept.groups → analyser.recording ≡ kept.recording → IfOk answer (λ outcome. outcome ≡ analyser) → IfErr answer (λ fault. fault ≡ Memory) → Concludes kept answer
of_outcome kept analyser (Err Memory) calm none closed reading groups recording ok fault = tt
of_outcome kept analyser (Err (Unproved rank)) calm none closed reading groups recording ok fault = cc
of_outcome kept analyser (Err (Refused refusal)) calm none closed reading groups recording ok fault = cc
of_outcome kept analyser (Ok outcome) calm none closed reading groups recording ok fault = (
  calm,
  record {
    no_refusal = none;
    same_reading = ap (λ (a : Analysed). a.reading) ok ∙ reading;
    same_groups = ap (λ (a : Analysed). a.groups) ok ∙ groups;
    recording = ap (λ (a : Analysed). a.recording) ok ∙ recording;
    closed = closed;
  },
)

-- lack of memory comes first
pub memory_first : (kept : Kept) (answer : Result Analysed CloseFault) → kept.wanted ≡ true → Concludes kept answer → answer ≡ Err Memory
memory_first kept (Err Memory) wanted is = refl
memory_first kept (Err (Unproved rank)) wanted is = absurd is
memory_first kept (Err (Refused refusal)) wanted is = absurd (false≢true (sym is.0 ∙ wanted))
memory_first kept (Ok outcome) wanted is = absurd (false≢true (sym is.0 ∙ wanted))
