-- The request of a sink stays active: no later call of its list starts or completes one of its number.
use Rattle.std.proofs.Common.{◌≡◌, ℕ, zero, suc, ◌-◌, ◌==◌, ◌&&◌, ◌||◌, Bool, true, false, Option, Some, None, is_none, if◌then◌else◌, List, [], ◌∷◌, ◌++◌, length, take, drop, refl, sym, ap, subst, ◌∙◌, inl, inr, eq-eqb, eqb-true, append_assoc, append-nil}
use Rattle.std.specs.Prelude.{⊤, nat_lt}
use Rattle.std.specs.List.{position}
use Rattle.std.specs.Option.{option_map_or}
use Rattle.std.proofs.lemmas.Bool.{cases_Bool, false≢true, or_parts}
use Rattle.std.proofs.lemmas.Option.{none-some, same_Some}
use Rattle.mpicall.specs.declared.limits.TheConstants.{MOST_REQUESTS}
use Rattle.mpicall.specs.declared.call.Call.{Call}
use Rattle.mpicall.specs.declared.call.Call.TheVariants.{Irecv, Finalize}
use Rattle.mpicall.specs.declared.call.Peer.TheVariants as peer
use Rattle.callstore.specs.Requests.{starts, is_among, does_start, does_complete}
use Rattle.closing.specs.Entries.{Run, Placed, journal_at, entries_at}
use Rattle.closing.specs.Numbers.{preface_of}
use Rattle.closing.specs.Steps.{Id, Own, Whole, ReceiveHalf, Sink, Written, Progress, Step, Does, Starts, WaitsForAll, WaitsForOne, PutsOff, WaitsForLate, same_id, number_in, has_number, without, without_all, put_number, numbers_of, least_free, wait_for, waits_for, chosen_at, wait_for_one, wait_one, wait_all, plain, after_step, after_steps}
use Rattle.closing.specs.Endings.{why_at}
use Rattle.closing.specs.Entry.{Choice, steps_of}
use Rattle.closing.specs.Recording.{Listed, is_end, steps_before, outcome_by, outcome_in, go_on, list_from, progress_first, whole_list, most_records, cut, without_journal, list_of}
use Rattle.closing.specs.Reported.{is_gone}
use Rattle.closing.specs.Sinks.{Outcome, GoesOn, Ends, sink_in, sinks, starts_half}
use Rattle.closing.specs.declared.pending.Wanted.{Wanted}
use Rattle.closing.specs.declared.why.Why.{Why}
use Rattle.lawful.proofs.RequestLemmas.{IsPlain, IsStart, numbered, least_is_free}
use Rattle.lawful.proofs.StepLemmas.{AreSaid, IsSaid, chosen_stands}
use Rattle.lawful.proofs.PassLemmas.{AllCalls, calls_append}
use Rattle.lawful.proofs.ActiveSends.{AllSteps, Distinct, step_distinct, distinct_without}
use Rattle.lawful.proofs.OwnSteps.{all_append, all_if}
use Rattle.lawful.proofs.NoSinks.{NotSink, steps_not, before_not}
use Rattle.lawful.proofs.ListLemmas.{sinks_said, before_said}
use Rattle.lawful.proofs.TableLemmas.{steps_said}
use Rattle.lawful.proofs.SinkCases.{PassLists, by_lists, in_passes, lists_both}
use Rattle.lawful.proofs.SinkPairs.{Behind, Pairs, pairs_push, pairs_take}

-- ---- Calls that leave a request alone ----

-- the call neither starts nor completes a request of the number
pub record Untouched (number : ℕ) (call : Call) : Type 0 where
  pub starts_other : does_start number call ≡ false
  pub completes_other : does_complete number call ≡ false

abbrev pub KeepsOne : Option Wanted → Call → Call → Type 0
KeepsOne None first call = ⊤
KeepsOne (Some wanted) first call = (number : ℕ) → starts first ≡ Some number → Untouched number call

-- the later call leaves the request of the sink alone, if the record is one's
abbrev pub Kept : Written → Call → Type 0
Kept one call = KeepsOne (sink_in one.starts) one.call call

plain_untouched : (number : ℕ) (call : Call) → IsPlain call → Untouched number call
plain_untouched number call is = record {
  starts_other = ap (λ (o : Option ℕ). option_map_or (λ started. started == number) o false) is.starts_none;
  completes_other = ap (λ (done : List ℕ). is_among number done) is.completes_none;
}

start_untouched : (number taken : ℕ) (call : Call) → IsStart taken call → (taken == number) ≡ false → Untouched number call
start_untouched number taken call is apart = record {
  starts_other = ap (λ (o : Option ℕ). option_map_or (λ started. started == number) o false) is.starts_it ∙ apart;
  completes_other = ap (λ (done : List ℕ). is_among number done) is.completes_none;
}

among_take : (number n : ℕ) (numbers : List ℕ) → is_among number numbers ≡ false → is_among number (take n numbers) ≡ false
among_take number zero numbers none = refl
among_take number (suc n) [] none = refl
among_take number (suc n) (one ∷ numbers) none =
    let parts = or_parts (one == number) (is_among number numbers) none in
    rw (parts.0, among_take number n numbers parts.1) refl

among_drop : (number n : ℕ) (numbers : List ℕ) → is_among number numbers ≡ false → is_among number (drop n numbers) ≡ false
among_drop number zero numbers none = none
among_drop number (suc n) [] none = refl
among_drop number (suc n) (one ∷ numbers) none = among_drop number n numbers (or_parts (one == number) (is_among number numbers) none).1

wait_untouched : (number : ℕ) (numbers : List ℕ) → is_among number numbers ≡ false → AllCalls (Untouched number) (wait_for numbers)
wait_untouched number [] none = tt
wait_untouched number (one ∷ []) none = (record { starts_other = refl; completes_other = none }, tt)
wait_untouched number (one ∷ two ∷ numbers) none = (record { starts_other = refl; completes_other = none }, tt)

waits_untouched : (number most : ℕ) (numbers : List ℕ) → is_among number numbers ≡ false → AllCalls (Untouched number) (waits_for most numbers)
waits_untouched number zero numbers none = tt
waits_untouched number (suc most) numbers none =
    calls_append (Untouched number) (wait_for (take MOST_REQUESTS numbers)) (waits_for most (drop MOST_REQUESTS numbers))
    (wait_untouched number (take MOST_REQUESTS numbers) (among_take number MOST_REQUESTS numbers none))
    (waits_untouched number most (drop MOST_REQUESTS numbers) (among_drop number MOST_REQUESTS numbers none))

one_not : (number taken : ℕ) → (taken == number) ≡ false → is_among number (taken ∷ []) ≡ false
one_not number taken apart = rw apart refl

chosen_untouched : (number taken : ℕ) (numbers : List ℕ) (o : Option ℕ) → position (λ (other : ℕ). other == taken) numbers ≡ o → (taken == number) ≡ false → Untouched number (chosen_at taken numbers o)
chosen_untouched number taken numbers None is apart = record { starts_other = refl; completes_other = one_not number taken apart }
chosen_untouched number taken numbers (Some place) is apart = record {
  starts_other = refl;
  completes_other = ap (λ (done : List ℕ). is_among number done) (chosen_stands taken numbers place is) ∙ one_not number taken apart;
}

-- ---- Numbers of sinks ----

abbrev is_sink : Id → Bool
is_sink (Sink own wanted is_known) = true
is_sink id = false

-- a sink has the number
abbrev pub is_held : List (Id × ℕ) → ℕ → Bool
is_held [] number = false
is_held (one ∷ active) number = (is_sink one.0 && one.1 == number) || is_held active number

held_has : (active : List (Id × ℕ)) (number : ℕ) → is_held active number ≡ true → has_number active number ≡ true
held_has [] number h = absurd (false≢true h)
held_has (one ∷ active) number h = either (is_sink one.0) (one.1 == number) h (held_has active number)
  where
    either : (sink same : Bool) → ((sink && same) || is_held active number) ≡ true → (is_held active number ≡ true → has_number active number ≡ true) → (same || has_number active number) ≡ true
    either sink true e rest = refl
    either true false e rest = rest e
    either false false e rest = rest e

same_no_sink : (one id : Id) → same_id one id ≡ true → is_sink one ≡ false
same_no_sink (Own request) id h = refl
same_no_sink (Whole line) id h = refl
same_no_sink (ReceiveHalf line) id h = refl
same_no_sink (Sink own wanted is_known) id h = absurd (false≢true h)

-- a number that is found is none of a sink
found_apart : (active : List (Id × ℕ)) (id : Id) (found number : ℕ) → Distinct active → number_in active id ≡ Some found → is_held active number ≡ true → (found == number) ≡ false
found_apart [] id found number all h held = absurd (none-some found h)
found_apart (first ∷ active) id found number all h held =
    elim (cases_Bool (same_id first.0 id)) [
      | inl here ↦
          let is : first.1 ≡ found = same_Some first.1 found (rw here at h) in
          let held_later : is_held active number ≡ true = rw (same_no_sink first.0 id here) at held in
          elim (cases_Bool (found == number)) [
            | inl same ↦
                absurd (false≢true (sym all.0
                ∙ subst (λ (n : ℕ). has_number active n ≡ true) (sym (is ∙ eqb-true found number same)) (held_has active number held_later)))
            | inr apart ↦ apart
          ]
      | inr there ↦
          let later : number_in active id ≡ Some found = rw there at h in
          elim (cases_Bool (is_sink first.0 && first.1 == number)) [
            | inl own ↦
                let is = held_same (is_sink first.0) first.1 number own in
                elim (cases_Bool (found == number)) [
                  | inl same ↦
                      absurd (false≢true (sym all.0
                      ∙ subst (λ (n : ℕ). has_number active n ≡ true) (eqb-true found number same ∙ sym is) (numbered active id found later)))
                  | inr apart ↦ apart
                ]
            | inr other ↦ found_apart active id found number all.1 later (rw other at held)
          ]
    ]
  where
    held_same : (sink : Bool) (one other : ℕ) → (sink && one == other) ≡ true → one ≡ other
    held_same true one other e = eqb-true one other e
    held_same false one other e = absurd (false≢true e)

held_without : (active : List (Id × ℕ)) (gone number : ℕ) → (gone == number) ≡ false → is_held active number ≡ true → is_held (without gone active) number ≡ true
held_without [] gone number apart held = held
held_without (first ∷ active) gone number apart held =
    elim (cases_Bool (first.1 == gone)) [
      | inl goes ↦
          let other : (first.1 == number) ≡ false = subst (λ (n : ℕ). (n == number) ≡ false) (sym (eqb-true first.1 gone goes)) apart in
          rw goes (held_without active gone number apart (later (is_sink first.0) (first.1 == number) other held))
      | inr stays ↦ rw stays (either (is_sink first.0 && first.1 == number) held (held_without active gone number apart))
    ]
  where
    later : (sink same : Bool) → same ≡ false → ((sink && same) || is_held active number) ≡ true → is_held active number ≡ true
    later true same is e = rw is at e
    later false same is e = e

    either : (here : Bool) → (here || is_held active number) ≡ true → (is_held active number ≡ true → is_held (without gone active) number ≡ true) → (here || is_held (without gone active) number) ≡ true
    either true e rest = refl
    either false e rest = rest e

-- no wait draws the number of a sink
record NotDrawn (active : List (Id × ℕ)) (numbers : List ℕ) (number : ℕ) : Type 0 where
  none : is_among number numbers ≡ false
  held : is_held (without_all numbers active) number ≡ true

not_drawn : (active : List (Id × ℕ)) (ids : List Id) (number : ℕ) → Distinct active → is_held active number ≡ true → NotDrawn active (numbers_of active ids) number
not_drawn active [] number all held = record { none = refl; held = held }
not_drawn active (id ∷ ids) number all held =
    by_number (number_in active id) refl (λ left distinct left_held. not_drawn left ids number distinct left_held)
  where
    by_number : (o : Option ℕ) → number_in active id ≡ o → ((left : List (Id × ℕ)) → Distinct left → is_held left number ≡ true → NotDrawn left (numbers_of left ids) number) → NotDrawn active (put_number o active (λ left. numbers_of left ids)) number
    by_number None h rest = rest active all held
    by_number (Some found) h rest =
        let apart = found_apart active id found number all h held in
        let later = rest (without found active) (distinct_without found active all) (held_without active found number apart held) in
        record { none = rw (apart, later.none) refl; held = later.held }

-- ---- Lists so far ----

-- the record of a sink starts its request, from nobody, and the sink has its number still
pub record IsSunk (active : List (Id × ℕ)) (wanted : Wanted) (call : Call) : Type 0 where
  pub number : ℕ
  pub is : call ≡ Irecv number wanted.comm peer.Null 0
  pub held : is_held active number ≡ true

abbrev pub SunkBy : List (Id × ℕ) → Option Wanted → Call → Type 0
SunkBy active None call = ⊤
SunkBy active (Some wanted) call = IsSunk active wanted call

abbrev pub AllSunk : List (Id × ℕ) → List Written → Type 0
AllSunk active [] = ⊤
AllSunk active (one ∷ records) = SunkBy active (sink_in one.starts) one.call × AllSunk active records

record Sunk (records : List Written) (active : List (Id × ℕ)) : Type 0 where
  pairs : Pairs Kept records
  sunk : AllSunk active records
  distinct : Distinct active

-- the numbers that are held stay so
abbrev StayHeld : List (Id × ℕ) → List (Id × ℕ) → Type 0
StayHeld old new = (number : ℕ) → is_held old number ≡ true → is_held new number ≡ true

sunk_more : (old new : List (Id × ℕ)) (records : List Written) → StayHeld old new → AllSunk old records → AllSunk new records
sunk_more old new [] stay all = tt
sunk_more old new (one ∷ records) stay all = (by_sink (sink_in one.starts) all.0, sunk_more old new records stay all.1)
  where
    by_sink : (o : Option Wanted) → SunkBy old o one.call → SunkBy new o one.call
    by_sink None is = tt
    by_sink (Some wanted) is = record { number = is.number; is = is.is; held = stay is.number is.held }

sunk_push : (active : List (Id × ℕ)) (records : List Written) (last : Written) → AllSunk active records → SunkBy active (sink_in last.starts) last.call → AllSunk active (records ++ last ∷ [])
sunk_push active [] last all is = (is, tt)
sunk_push active (one ∷ records) last all is = (all.0, sunk_push active records last all.1 is)

-- a call that leaves each number alone that is held
abbrev LeavesHeld : List (Id × ℕ) → Call → Type 0
LeavesHeld active call = (number : ℕ) → is_held active number ≡ true → Untouched number call

starts_number : (number other comm : ℕ) (call : Call) → call ≡ Irecv number comm peer.Null 0 → starts call ≡ Some other → number ≡ other
starts_number number other comm call is h = same_Some number other (sym (ap starts is) ∙ h)

kept_behind : (active : List (Id × ℕ)) (records : List Written) (call : Call) → AllSunk active records → LeavesHeld active call → Behind Kept records call
kept_behind active [] call all leaves = tt
kept_behind active (one ∷ records) call all leaves = (by_sink (sink_in one.starts) all.0, kept_behind active records call all.1 leaves)
  where
    by_sink : (o : Option Wanted) → SunkBy active o one.call → KeepsOne o one.call call
    by_sink None is = tt
    by_sink (Some wanted) is = λ number h.
        subst (λ (n : ℕ). Untouched n call) (starts_number is.number number wanted.comm one.call is.is h) (leaves is.number is.held)

-- records of a line that start nothing
plain_sunk : (active : List (Id × ℕ)) (records : List Written) (line : ℕ) (calls : List Call) → Pairs Kept records → AllSunk active records → AllCalls (LeavesHeld active) calls → Pairs Kept (records ++ plain line calls) × AllSunk active (records ++ plain line calls)
plain_sunk active records line [] pairs sunk all =
    subst (λ (every : List Written). Pairs Kept every × AllSunk active every) (sym (append-nil records)) (pairs, sunk)
plain_sunk active records line (call ∷ calls) pairs sunk all =
    let it : Written = record { call = call; line = line; starts = None } in
    subst (λ (every : List Written). Pairs Kept every × AllSunk active every) (append_assoc records (it ∷ []) (plain line calls))
    (plain_sunk active (records ++ it ∷ []) line calls (pairs_push Kept records it pairs (kept_behind active records call sunk all.0))
    (sunk_push active records it sunk tt) all.1)

all_leave : (active : List (Id × ℕ)) (calls : List Call) → ((number : ℕ) → is_held active number ≡ true → AllCalls (Untouched number) calls) → AllCalls (LeavesHeld active) calls
all_leave active [] all = tt
all_leave active (call ∷ calls) all = ((λ number held. (all number held).0), all_leave active calls (λ number held. (all number held).1))

-- waits that complete these numbers
waited_sunk : (records : List Written) (active left : List (Id × ℕ)) (line : ℕ) (calls : List Call) → Sunk records active → Distinct left → StayHeld active left → ((number : ℕ) → is_held active number ≡ true → AllCalls (Untouched number) calls) → Sunk (records ++ plain line calls) left
waited_sunk records active left line calls sunk distinct stay all =
    let both = plain_sunk active records line calls sunk.pairs sunk.sunk (all_leave active calls all) in
    record { pairs = both.0; sunk = sunk_more active left (records ++ plain line calls) stay both.1; distinct = distinct }

-- ---- Steps ----

-- a step that starts a sink starts a receive from nobody
abbrev ShapedBy : Option Wanted → (ℕ → Call) → Type 0
ShapedBy None call = ⊤
ShapedBy (Some wanted) call = (number : ℕ) → call number ≡ Irecv number wanted.comm peer.Null 0

abbrev Shaped : Step → Type 0
Shaped (Starts id call) = ShapedBy (sink_in (Some id)) call
Shaped step = ⊤

not_shaped : (step : Step) → NotSink step → Shaped step
not_shaped (Starts id call) is = by_sink (sink_in (Some id)) is
  where
    by_sink : (o : Option Wanted) → is_none o ≡ true → ShapedBy o call
    by_sink None none = tt
    by_sink (Some wanted) none = absurd (false≢true none)
not_shaped (Does call) is = tt
not_shaped (WaitsForAll ids) is = tt
not_shaped (WaitsForOne id ids) is = tt
not_shaped (PutsOff ids) is = tt
not_shaped WaitsForLate is = tt

all_shaped : (steps : List Step) → AllSteps NotSink steps → AllSteps Shaped steps
all_shaped [] all = tt
all_shaped (step ∷ steps) all = (not_shaped step all.0, all_shaped steps all.1)

or_true : (b : Bool) → (b || true) ≡ true
or_true true = refl
or_true false = refl

taken_apart : (active : List (Id × ℕ)) (number : ℕ) → is_held active number ≡ true → (least_free active == number) ≡ false
taken_apart active number held =
    elim (cases_Bool (least_free active == number)) [
      | inl same ↦
          absurd (false≢true (sym (least_is_free active)
          ∙ subst (λ (n : ℕ). has_number active n ≡ true) (sym (eqb-true (least_free active) number same)) (held_has active number held)))
      | inr apart ↦ apart
    ]

started_sunk : (progress : Progress) (line : ℕ) (id : Id) (call : ℕ → Call) → IsSaid (Starts id call) → Shaped (Starts id call) → Sunk progress.records progress.active → Sunk (after_step progress line (Starts id call)).records (after_step progress line (Starts id call)).active
started_sunk progress line id call said shaped sunk =
    let number = least_free progress.active in
    let active = (id, number) ∷ progress.active in
    let it : Written = record { call = call number; line = line; starts = Some id } in
    let stay : StayHeld progress.active active = λ other held. ap (λ (b : Bool). (is_sink id && number == other) || b) held ∙ or_true (is_sink id && number == other) in
    record {
      pairs = pairs_push Kept progress.records it sunk.pairs (kept_behind progress.active progress.records (call number) sunk.sunk
          (λ other held. start_untouched other number (call number) (said number) (taken_apart progress.active other held)));
      sunk = sunk_push active progress.records it (sunk_more progress.active active progress.records stay sunk.sunk) (new_sunk id number shaped);
      distinct = (least_is_free progress.active, sunk.distinct);
    }
  where
    new_sunk : (one : Id) (number : ℕ) → ShapedBy (sink_in (Some one)) call → SunkBy ((one, number) ∷ progress.active) (sink_in (Some one)) (call number)
    new_sunk (Own request) number is = tt
    new_sunk (Whole at) number is = tt
    new_sunk (ReceiveHalf at) number is = tt
    new_sunk (Sink own wanted is_known) number is = record {
      number = number;
      is = is number;
      held = ap (λ (b : Bool). b || is_held progress.active number) (eq-eqb number number refl);
    }

all_waited : (progress : Progress) (line : ℕ) (ids : List Id) → Sunk progress.records progress.active → Sunk (wait_all progress line (numbers_of progress.active ids)).records (wait_all progress line (numbers_of progress.active ids)).active
all_waited progress line ids sunk =
    let numbers = numbers_of progress.active ids in
    waited_sunk progress.records progress.active (without_all numbers progress.active) line (waits_for (length numbers) numbers) sunk
    (step_distinct progress line (WaitsForAll ids) sunk.distinct)
    (λ number held. (not_drawn progress.active ids number sunk.distinct held).held)
    (λ number held. waits_untouched number (length numbers) numbers (not_drawn progress.active ids number sunk.distinct held).none)

one_waited : (progress : Progress) (line : ℕ) (id : Id) (o : Option ℕ) (numbers : List ℕ) → number_in progress.active id ≡ o → Sunk progress.records progress.active → Sunk (wait_one progress line o numbers).records (wait_one progress line o numbers).active
one_waited progress line id None numbers is sunk = sunk
one_waited progress line id (Some found) numbers is sunk =
    waited_sunk progress.records progress.active (without found progress.active) line (wait_for_one found numbers ∷ []) sunk
    (distinct_without found progress.active sunk.distinct)
    (λ number held. held_without progress.active found number (found_apart progress.active id found number sunk.distinct is held) held)
    (λ number held. (
      chosen_untouched number found numbers (position (λ (other : ℕ). other == found) numbers) refl (found_apart progress.active id found number sunk.distinct is held),
      tt,
    ))

step_sunk : (progress : Progress) (line : ℕ) (step : Step) → IsSaid step → Shaped step → Sunk progress.records progress.active → Sunk (after_step progress line step).records (after_step progress line step).active
step_sunk progress line (Does call) said shaped sunk =
    waited_sunk progress.records progress.active progress.active line (call ∷ []) sunk sunk.distinct (λ number held. held)
    (λ number held. (plain_untouched number call said, tt))
step_sunk progress line (Starts id call) said shaped sunk = started_sunk progress line id call said shaped sunk
step_sunk progress line (WaitsForAll ids) said shaped sunk = all_waited progress line ids sunk
step_sunk progress line (WaitsForOne id ids) said shaped sunk =
    one_waited progress line id (number_in progress.active id) (take MOST_REQUESTS (numbers_of progress.active ids)) refl sunk
step_sunk progress line (PutsOff ids) said shaped sunk = sunk
step_sunk progress line WaitsForLate said shaped sunk = all_waited progress line progress.late sunk

-- steps that may be put on a list
abbrev Sinking : List Step → Type 0
Sinking steps = AreSaid steps × AllSteps Shaped steps

steps_sunk : (progress : Progress) (line : ℕ) (steps : List Step) → Sinking steps → Sunk progress.records progress.active → Sunk (after_steps progress line steps).records (after_steps progress line steps).active
steps_sunk progress line [] are sunk = sunk
steps_sunk progress line (step ∷ steps) are sunk =
    steps_sunk (after_step progress line step) line steps (are.0.1, are.1.1) (step_sunk progress line step are.0.0 are.1.0 sunk)

-- ---- Lists ----

abbrev SinkingBy : Outcome → Type 0
SinkingBy (GoesOn steps) = Sinking steps
SinkingBy (Ends steps end why) = Sinking steps

sinks_shaped : (run : Run) (placed : Placed) → PassLists run placed (AllSteps Shaped)
sinks_shaped run placed = record {
  nothing = tt;
  alone = λ wanted is own. ((λ number. refl), tt);
  both = λ wanted is sent awaited called. (tt, ((λ number. refl), tt));
  halves = λ wanted is request received sent awaited called.
      all_append Shaped (if is_gone placed.journal.lines request then [] else starts_half wanted (Own request) sent ∷ []) (sinks placed wanted (Some received) ∷ [])
      (all_if Shaped (is_gone placed.journal.lines request) [] (starts_half wanted (Own request) sent ∷ []) tt (tt, tt)) ((λ number. refl), tt);
}

outcome_sinking : (run : Run) (choice : Choice) (records : List Written) (placed : Placed) → SinkingBy (outcome_in run choice records placed)
outcome_sinking run choice records placed =
    in_passes run choice records placed SinkingBy (of_why (why_at run placed))
    (by_lists run placed Sinking SinkingBy (λ steps are awaits. are) (λ steps why are. are)
    (lists_both run placed AreSaid (AllSteps Shaped) (sinks_said run placed) (sinks_shaped run placed)))
  where
    of_end : (b : Bool) → SinkingBy (if b then Ends (WaitsForLate ∷ []) Finalize None else GoesOn (steps_of run choice placed))
    of_end true = ((tt, tt), (tt, tt))
    of_end false = (steps_said run choice placed, all_shaped (steps_of run choice placed) (steps_not run choice placed))

    of_why : (o : Option Why) → SinkingBy (outcome_by run choice placed o)
    of_why (Some why) = (
      before_said run choice placed placed.called why,
      all_shaped (steps_before run choice placed placed.called why) (before_not run choice placed placed.called why),
    )
    of_why None = of_end (is_end placed.called)

-- what a list has of its sinks
pub record SunkList (records : List Written) : Type 0 where
  pub active : List (Id × ℕ)
  pub pairs : Pairs Kept records
  pub sunk : AllSunk active records

on_sunk : (progress : Progress) (line : ℕ) (outcome : Outcome) (others : Progress → Listed) → SinkingBy outcome → Sunk progress.records progress.active → ((new : Progress) → Sunk new.records new.active → SunkList (others new).records) → SunkList (go_on progress line outcome others).records
on_sunk progress line (GoesOn steps) others are sunk rest = rest (after_steps progress line steps) (steps_sunk progress line steps are sunk)
on_sunk progress line (Ends steps end why) others are sunk rest =
    let all = steps_sunk progress line steps are sunk in
    record { active = (after_steps progress line steps).active; pairs = all.pairs; sunk = all.sunk }

list_sunk : (run : Run) (choice : Choice) (entries : List Placed) (progress : Progress) → Sunk progress.records progress.active → SunkList (list_from run choice progress entries).records
list_sunk run choice [] progress sunk = record { active = progress.active; pairs = sunk.pairs; sunk = sunk.sunk }
list_sunk run choice (placed ∷ others) progress sunk =
    on_sunk progress placed.line (outcome_in run choice progress.records placed) (λ new. list_from run choice new others)
    (outcome_sinking run choice progress.records placed) sunk (λ new all. list_sunk run choice others new all)

sunk_take : (active : List (Id × ℕ)) (n : ℕ) (records : List Written) → AllSunk active records → AllSunk active (take n records)
sunk_take active zero records all = tt
sunk_take active (suc n) [] all = tt
sunk_take active (suc n) (one ∷ records) all = (all.0, sunk_take active n records all.1)

first_sunk : (run : Run) (rank : ℕ) → Sunk (progress_first run rank).records []
first_sunk run rank =
    let calls = preface_of run rank in
    let both = plain_sunk [] [] 0 calls tt tt (all_leave [] calls (λ number held. absurd (false≢true held))) in
    record { pairs = both.0; sunk = both.1; distinct = tt }

cut_sunk : (it : Listed) → SunkList it.records → SunkList (cut it).records
cut_sunk it all =
    elim (cases_Bool (nat_lt (length it.records) most_records)) [
      | inl short ↦ rw short all
      | inr long ↦ rw long (record {
        active = all.active;
        pairs = pairs_take Kept (most_records - 1) it.records all.pairs;
        sunk = sunk_take all.active (most_records - 1) it.records all.sunk;
      })
    ]

bare_sunk : (b : Bool) (it : Listed) → SunkList it.records → SunkList (without_journal b it).records
bare_sunk true it all = all
bare_sunk false it all = all

pub list_of_sunk : (run : Run) (choice : Choice) (rank : ℕ) → SunkList (list_of run choice rank).records
list_of_sunk run choice rank =
    bare_sunk (is_none (journal_at run rank)) (cut (whole_list run choice rank))
    (cut_sunk (whole_list run choice rank) (list_sunk run choice (entries_at run rank) (progress_first run rank) (first_sunk run rank)))
