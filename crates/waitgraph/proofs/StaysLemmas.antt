-- Held ranks stay where they stand.
use Rattle.moves.specs.declared.reading.Reading.{Reading}
use Rattle.std.proofs.Common.{inl, inr, ◌≡◌, ◌≢◌, ◌⊎◌, ℕ, zero, suc, ◌+◌, ◌-◌, ◌<◌, ◌≤◌, Bool, true, false, ◌||◌, if◌then◌else◌, Option, Some, None, unwrap_or, List, [], ◌∷◌, ◌++◌, length, map, take, get_or, refl, sym, ap, subst, ◌∙◌, ⊎_elim, arith, append-nil, get_or-set_same, get_or-set_other}
use Rattle.std.specs.Prelude.{slice_index}
use Rattle.std.specs.List.{slice_get, list_all, range_with_len}
use Rattle.std.specs.Option.{option_map_or}
use Rattle.std.proofs.lemmas.List.{take-append-le, length-append, get_or_past}
use Rattle.std.proofs.lemmas.List.FromFn.{length-map-range_with_len}
use Rattle.std.proofs.lemmas.Option.{none-some, same_Some, slice_get_within, slice_get_past}
use Rattle.std.proofs.lemmas.Bool.{cases_eq, cases_Bool, cases_lt, false≢true, leb-true, le-leb, or_left, or_right}
use Rattle.mpicall.specs.Ending.{ends_list}
use Rattle.mpicall.specs.declared.call.Call.{Call}
use Rattle.mpicall.specs.declared.call.Call.TheVariants.{Open}
use Rattle.mpigroup.specs.Groups.{Groups}
use Rattle.mpigroup.proofs.ListLemmas.{get_end}
use Rattle.callstore.specs.Recordings.{Lists, calls_of, GoesOn}
use Rattle.callstore.specs.Places.{places}
use Rattle.callstore.specs.Requests.{started_before}
use Rattle.callstore.proofs.PlaceLemmas.{nth_place, places-append, slice_get-front}
use Rattle.moves.specs.declared.need.Need.{Need}
use Rattle.moves.specs.declared.need.Need.TheVariants.{At, Lacking}
use Rattle.moves.specs.Runs.{State, start, moved, Step, AreSteps, last_state, IsReached}
use Rattle.moves.specs.Needs.{needs_of_call, is_met, can_move}
use Rattle.moves.specs.Stands.{stands_of, lowest_run_over}
use Rattle.moves.proofs.RunLemmas.{reached_below, reached_ranks, get_start}
use Rattle.moves.proofs.NeedLemmas.{can_move_is_persistent, can_pass, can_from_pass}
use Rattle.moves.proofs.StandLemmas.{every_maximal_run_ends_at_the_stands, no_call_behind_the_end_is_reached}
use Rattle.moves.proofs.StayLemmas.{place_before, start_is_a_call, start_stays}
use Rattle.waitgraph.specs.Held.{Set}
use Rattle.waitgraph.specs.inner.Loose.{standing_of, is_on, loosens, are_loose, is_held_at}
use Rattle.pairing.specs.LeftOpen.{leaves_open, is_left_open}
use Rattle.waitgraph.specs.inner.Held.{opened_of, standing_by, standings_at, is_held}
use Rattle.waitgraph.specs.Waits.{needs_in}
use Rattle.waitgraph.specs.inner.Waits.{waits_of}
use Rattle.waitgraph.specs.Stays.{calls_before_open, StandsInPlace, StaysPut}
use Rattle.waitgraph.specs.Stuck.{unmet_of}
use Rattle.waitgraph.specs.declared.standing.Standing.{Standing}
use Rattle.waitgraph.specs.declared.standing.Standing.TheVariants.{AtOpen, Stuck}
use Rattle.waitgraph.proofs.AmongLemmas.{Among, among_all, one_fails}
use Rattle.moves.proofs.OntoLemmas.{nth_need, Onto, Same, needs_onto}
use Rattle.pairing.proofs.RankLemmas.{calls_past}
use Rattle.waitgraph.proofs.SweepLemmas.{the_loose_are_the_least}
use Rattle.waitgraph.proofs.UnmetLemmas.{unmet_from, waits_are}
use Rattle.waitgraph.proofs.WalkingLemmas.{standing_is, opened_is, stuck_there}
use Rattle.waitgraph.proofs.RangeLemmas.{in_table, past_table}

-- both recordings go on from their common part: the one with the opens, the other with what stands in their place
record Parted (recording later : Lists) : Type 0 where
  before : Lists
  to_open : GoesOn before recording
  to_later : GoesOn before later
  opens : (rank : ℕ) → opened_of recording rank ≡ true → to_open.more rank ≡ Open ∷ []
  ended : (rank : ℕ) → opened_of recording rank ≡ false → to_open.more rank ≡ []
  ended_later : (rank : ℕ) → opened_of recording rank ≡ false → to_later.more rank ≡ []

-- what is so of a need that is met at the stands, or on a rank of the set
abbrev met_or_on : State → Set → Set → Need → Bool
met_or_on s opened set need = is_met s need || is_on opened set need

-- a set that has each rank at its open, and each stuck one each of whose unmet needs is on a rank of the set
record Closed (reading : Reading) (groups : Groups) (recording : Lists) (set : Set) : Type 0 where
  at_open : (k : ℕ) → opened_of recording k ≡ true → get_or (stands_of reading groups recording) k 0 ≡ length (calls_of recording k) - 1 → set k ≡ true
  stuck : (k : ℕ) (call : Call) → slice_get (calls_of recording k) (get_or (stands_of reading groups recording) k 0) ≡ Some call → ends_list call ≡ false →
      list_all (met_or_on (stands_of reading groups recording) (opened_of recording) set) (needs_of_call reading groups recording k (get_or (stands_of reading groups recording) k 0) call) ≡ true → set k ≡ true

past_end : (xs : List Call) (x : Call) (i : ℕ) → slice_get (xs ++ Open ∷ []) i ≡ Some x → length xs ≤ i → x ≡ Open
past_end [] x zero h past = sym (same_Some Open x h)
past_end [] x (suc i) h past = absurd (none-some x h)
past_end (y ∷ ys) x zero h past = absurd (omega arith)
past_end (y ∷ ys) x (suc i) h past = past_end ys x i h (omega arith)

-- a list with its open, or without one
as_opened : (recording later : Lists) (h : Parted recording later) (k : ℕ) → ((opened_of recording k ≡ false) × (calls_of recording k ≡ calls_of h.before k) × (calls_of later k ≡ calls_of h.before k)) ⊎ ((opened_of recording k ≡ true) × (calls_of recording k ≡ calls_of h.before k ++ Open ∷ []))
as_opened recording later h k =
    ⊎_elim
    (λ (is : opened_of recording k ≡ true). inr (is, h.to_open.goes_on k ∙ ap (λ (calls : List Call). calls_of h.before k ++ calls) (h.opens k is)))
    (λ (isnt : opened_of recording k ≡ false). inl (
      isnt,
      h.to_open.goes_on k ∙ ap (λ (calls : List Call). calls_of h.before k ++ calls) (h.ended k isnt) ∙ append-nil (calls_of h.before k),
      h.to_later.goes_on k ∙ ap (λ (calls : List Call). calls_of h.before k ++ calls) (h.ended_later k isnt) ∙ append-nil (calls_of h.before k),
    ))
    (cases_Bool (opened_of recording k))

-- a place that passes over the later recording: over the other too, or after the start of an open
back : (recording later : Lists) (h : Parted recording later) (test : Call → Bool) (k number there : ℕ) → slice_get (places test (calls_of later k)) number ≡ Some there → (slice_get (places test (calls_of recording k)) number ≡ Some there) ⊎ ((opened_of recording k ≡ true) × (length (calls_of h.before k) ≤ there))
back recording later h test k number there found =
    ⊎_elim
    (λ closed. inl (ap (λ (calls : List Call). slice_get (places test calls) number) (closed.1 ∙ sym closed.2) ∙ found))
    (λ open'.
    ⊎_elim
    (λ (less : there < length (calls_of h.before k)).
    let old : slice_get (places test (calls_of h.before k)) number ≡ Some there = place_before test (calls_of h.before k) (h.to_later.more k) number there (rw (h.to_later.goes_on k) at found) less in
    inl (rw open'.1 (places-append 0 test (calls_of h.before k) (Open ∷ []) number there old)))
    (λ (past : length (calls_of h.before k) ≤ there). inr (open'.0, past))
    (cases_lt there (length (calls_of h.before k))))
    (as_opened recording later h k)

-- and on
on : (recording later : Lists) (h : Parted recording later) (test : Call → Bool) (k number there : ℕ) → test Open ≡ false → slice_get (places test (calls_of recording k)) number ≡ Some there → slice_get (places test (calls_of later k)) number ≡ Some there
on recording later h test k number there fails found =
    ⊎_elim
    (λ closed. ap (λ (calls : List Call). slice_get (places test calls) number) (closed.2 ∙ sym closed.1) ∙ found)
    (λ open'.
    let found' : slice_get (places test (calls_of h.before k ++ Open ∷ [])) number ≡ Some there = rw open'.1 at found in
    let nth = nth_place 0 test (calls_of h.before k ++ Open ∷ []) number there found' in
    ⊎_elim
    (λ (less : there < length (calls_of h.before k)).
    let old : slice_get (places test (calls_of h.before k)) number ≡ Some there = place_before test (calls_of h.before k) (Open ∷ []) number there found' less in
    rw (h.to_later.goes_on k) (places-append 0 test (calls_of h.before k) (h.to_later.more k) number there old))
    (λ (past : length (calls_of h.before k) ≤ there).
    let last : nth.element ≡ Open = past_end (calls_of h.before k) nth.element nth.index nth.stands_there (omega (arith, past, nth.place)) in
    absurd (false≢true (sym fails ∙ ap test (sym last) ∙ nth.passes)))
    (cases_lt there (length (calls_of h.before k))))
    (as_opened recording later h k)

-- the first calls are the same, either way
same_back : (recording later : Lists) (h : Parted recording later) (rank : ℕ) → Same later recording rank (length (calls_of h.before rank))
same_back recording later h rank = record {
  call = λ place within. rw (h.to_open.goes_on rank, h.to_later.goes_on rank) (slice_get-front (calls_of h.before rank) (h.to_open.more rank) place within ∙ sym (slice_get-front (calls_of h.before rank) (h.to_later.more rank) place within));
  front = λ place within. rw (h.to_open.goes_on rank, h.to_later.goes_on rank) (take-append-le place (calls_of h.before rank) (h.to_open.more rank) within ∙ sym (take-append-le place (calls_of h.before rank) (h.to_later.more rank) within));
}

same_on : (recording later : Lists) (h : Parted recording later) (rank : ℕ) → Same recording later rank (length (calls_of h.before rank))
same_on recording later h rank =
    let other = same_back recording later h rank in
    record { call = λ place within. sym (other.call place within); front = λ place within. sym (other.front place within) }

-- a start stands before its wait
earlier : (before longer : Lists) (rank place req start' : ℕ) → GoesOn before longer → place < length (calls_of before rank) → started_before longer rank place req ≡ Some start' → start' < length (calls_of before rank)
earlier before longer rank place req start' goes_on within found =
    start_is_a_call before rank place req start' (sym (start_stays before longer rank place req goes_on (omega (arith, within))) ∙ found)

-- no rank is past its open
before_open : (reading : Reading) (groups : Groups) (recording later : Lists) (h : Parted recording later) (k : ℕ) → calls_of recording k ≡ calls_of h.before k ++ Open ∷ [] → get_or (stands_of reading groups recording) k 0 ≤ length (calls_of h.before k)
before_open reading groups recording later h k is =
    no_call_behind_the_end_is_reached reading groups recording k (length (calls_of h.before k)) Open (lowest_run_over reading groups recording) (every_maximal_run_ends_at_the_stands reading groups recording).0.is_run
    (rw is (get_end (calls_of h.before k) Open)) refl

-- whoever stands there is in the set
at_open : (reading : Reading) (groups : Groups) (recording later : Lists) (h : Parted recording later) (set : Set) → Closed reading groups recording set → (k : ℕ) → opened_of recording k ≡ true → calls_of recording k ≡ calls_of h.before k ++ Open ∷ [] → length (calls_of h.before k) ≤ get_or (stands_of reading groups recording) k 0 → set k ≡ true
at_open reading groups recording later h set closed k is_open list_is past =
    let most = before_open reading groups recording later h k list_is in
    let count : length (calls_of recording k) ≡ length (calls_of h.before k) + 1 = ap (length {A = Call}) list_is ∙ length-append (calls_of h.before k) (Open ∷ []) in
    let there : get_or (stands_of reading groups recording) k 0 ≡ length (calls_of recording k) - 1 = omega (arith, most, past, count) in
    closed.at_open k is_open there

-- how far ranks outside the set may stand over the later recording
abbrev Bound : Set → State → State → Type 0
Bound set s t = (k : ℕ) → set k ≡ false → get_or t k 0 ≤ get_or s k 0

onto_back : (reading : Reading) (groups : Groups) (recording later : Lists) (h : Parted recording later) (set : Set) → Closed reading groups recording set → (t : State) → Bound set (stands_of reading groups recording) t → Onto later recording (is_met t) (met_or_on (stands_of reading groups recording) (opened_of recording) set)
onto_back reading groups recording later h set closed t bound = record { nth = nth; none = λ rank h. absurd (false≢true h) }
  where
    s : State
    s = stands_of reading groups recording

    -- the need is on a rank of the set whose list was left open
    on_set : (k : ℕ) → opened_of recording k ≡ true → set k ≡ true → (o : Option ℕ) → met_or_on (stands_of reading groups recording) (opened_of recording) set (option_map_or (At k) o (Lacking k)) ≡ true
    on_set k is_open in_set None = rw (is_open, in_set) refl
    on_set k is_open in_set (Some p) = or_right (is_met (stands_of reading groups recording) (At k p)) (set k) in_set

    by_later : (test : Call → Bool) (k number : ℕ) (o : Option ℕ) → slice_get (places test (calls_of later k)) number ≡ o → is_met t (option_map_or (At k) o (Lacking k)) ≡ true → met_or_on (stands_of reading groups recording) (opened_of recording) set (nth_need recording test k number) ≡ true
    by_later test k number None is met = absurd (false≢true met)
    by_later test k number (Some there) is met =
        let reached : there ≤ get_or t k 0 = leb-true there (get_or t k 0) met in
        ⊎_elim
        (λ (found : slice_get (places test (calls_of recording k)) number ≡ Some there).
        rw found
        (⊎_elim
        (λ (in_set : set k ≡ true). or_right (is_met (stands_of reading groups recording) (At k there)) (set k) in_set)
        (λ (outside : set k ≡ false). or_left (is_met (stands_of reading groups recording) (At k there)) (set k) (le-leb there (get_or (stands_of reading groups recording) k 0) (omega (arith, reached, bound k outside))))
        (cases_Bool (set k))))
        (λ (past : (opened_of recording k ≡ true) × (length (calls_of h.before k) ≤ there)).
        ⊎_elim
        (λ (in_set : set k ≡ true). on_set k past.0 in_set (slice_get (places test (calls_of recording k)) number))
        (λ (outside : set k ≡ false).
        absurd (false≢true (sym outside ∙ ⊎_elim
        (λ same. absurd (false≢true (sym same.0 ∙ past.0)))
        (λ is_open. at_open reading groups recording later h set closed k is_open.0 is_open.1 (omega (arith, past.1, reached, bound k outside)))
        (as_opened recording later h k))))
        (cases_Bool (set k)))
        (back recording later h test k number there is)

    nth : (test : Call → Bool) (k number : ℕ) → test Open ≡ false → is_met t (nth_need later test k number) ≡ true → met_or_on (stands_of reading groups recording) (opened_of recording) set (nth_need recording test k number) ≡ true
    nth test k number fails met = by_later test k number (slice_get (places test (calls_of later k)) number) refl met

onto_on : (recording later : Lists) (h : Parted recording later) (u : State) → Onto recording later (is_met u) (is_met u)
onto_on recording later h u = record { nth = λ test k number fails met. by_first test k number (slice_get (places test (calls_of recording k)) number) refl fails met; none = λ rank met. met }
  where
    by_first : (test : Call → Bool) (k number : ℕ) (o : Option ℕ) → slice_get (places test (calls_of recording k)) number ≡ o → test Open ≡ false → is_met u (option_map_or (At k) o (Lacking k)) ≡ true → is_met u (nth_need later test k number) ≡ true
    by_first test k number None is fails met = absurd (false≢true met)
    by_first test k number (Some there) is fails met = rw (on recording later h test k number there fails is) met

-- a rank outside the set can't move on from where it stands
would_loosen : (reading : Reading) (groups : Groups) (recording later : Lists) (h : Parted recording later) (set : Set) → Closed reading groups recording set → (t : State) → Bound set (stands_of reading groups recording) t → (r : ℕ) → set r ≡ false → get_or t r 0 ≡ get_or (stands_of reading groups recording) r 0 → can_move reading groups later t r ≡ true → ⊥
would_loosen reading groups recording later h set closed t bound r outside same can =
    let pass = can_pass reading groups later t r can in
    let within : get_or t r 0 < length (calls_of h.before r) =
    ⊎_elim
    (λ one. slice_get_within (calls_of h.before r) (get_or t r 0) pass.call (rw one.2 at pass.is_present))
    (λ is_open.
    ⊎_elim
    (λ (less : get_or t r 0 < length (calls_of h.before r)). less)
    (λ (past : length (calls_of h.before r) ≤ get_or t r 0). absurd (false≢true (sym outside ∙ at_open reading groups recording later h set closed r is_open.0 is_open.1 (omega (arith, past, same)))))
    (cases_lt (get_or t r 0) (length (calls_of h.before r))))
    (as_opened recording later h r) in
    let first = same_back recording later h r in
    let present : slice_get (calls_of recording r) (get_or t r 0) ≡ Some pass.call = first.call (get_or t r 0) within ∙ pass.is_present in
    let each = needs_onto reading reading groups later recording (is_met t) (met_or_on (stands_of reading groups recording) (opened_of recording) set) r (length (calls_of h.before r)) (λ call e. e)
    (onto_back reading groups recording later h set closed t bound) first (get_or t r 0) pass.call within (λ req start'. earlier h.before later r (get_or t r 0) req start' h.to_later within) pass.is_present pass.needs_met in
    false≢true (sym outside ∙ closed.stuck r pass.call (rw same at present) pass.is_no_end (rw same at each))

step_bound : (reading : Reading) (groups : Groups) (recording later : Lists) (h : Parted recording later) (set : Set) → Closed reading groups recording set → (t u : State) → Bound set (stands_of reading groups recording) t → Step (can_move reading groups later) t u → Bound set (stands_of reading groups recording) u
step_bound reading groups recording later h set closed t u bound step k outside =
    rw step.moves_on
    (⊎_elim
    (λ (own : k ≡ step.rank).
    let outside' : set step.rank ≡ false = rw own at outside in
    let now : get_or (moved t step.rank) step.rank 0 ≡ get_or t step.rank 0 + 1 = get_or-set_same t step.rank (get_or t step.rank 0 + 1) 0 step.is_rank in
    rw own
    (⊎_elim
    (λ (less : get_or t step.rank 0 < get_or (stands_of reading groups recording) step.rank 0). omega (arith, less, now))
    (λ (past : get_or (stands_of reading groups recording) step.rank 0 ≤ get_or t step.rank 0).
    absurd (would_loosen reading groups recording later h set closed t bound step.rank outside' (omega (arith, past, bound step.rank outside')) step.can_move))
    (cases_lt (get_or t step.rank 0) (get_or (stands_of reading groups recording) step.rank 0))))
    (λ (differs : k ≢ step.rank). rw (get_or-set_other t step.rank k (get_or t step.rank 0 + 1) 0 differs) (bound k outside))
    (cases_eq k step.rank))

steps_bound : (reading : Reading) (groups : Groups) (recording later : Lists) (h : Parted recording later) (set : Set) → Closed reading groups recording set → (t : State) (states : List State) → Bound set (stands_of reading groups recording) t → AreSteps (can_move reading groups later) t states → Bound set (stands_of reading groups recording) (last_state t states)
steps_bound reading groups recording later h set closed t [] bound steps = bound
steps_bound reading groups recording later h set closed t (u ∷ rest) bound steps =
    steps_bound reading groups recording later h set closed u rest (step_bound reading groups recording later h set closed t u bound steps.0) steps.1

-- over the later recording whoever could move can
moves_too : (reading : Reading) (groups : Groups) (recording later : Lists) (h : Parted recording later) (u : State) (r : ℕ) → can_move reading groups recording u r ≡ true → can_move reading groups later u r ≡ true
moves_too reading groups recording later h u r can =
    let pass = can_pass reading groups recording u r can in
    let within : get_or u r 0 < length (calls_of h.before r) =
    ⊎_elim
    (λ one. slice_get_within (calls_of h.before r) (get_or u r 0) pass.call (rw one.1 at pass.is_present))
    (λ is_open.
    ⊎_elim
    (λ (less : get_or u r 0 < length (calls_of h.before r)). less)
    (λ (past : length (calls_of h.before r) ≤ get_or u r 0).
    let last : pass.call ≡ Open = past_end (calls_of h.before r) pass.call (get_or u r 0) (rw is_open.1 at pass.is_present) past in
    absurd (false≢true (sym pass.is_no_end ∙ ap ends_list last)))
    (cases_lt (get_or u r 0) (length (calls_of h.before r))))
    (as_opened recording later h r) in
    let first = same_on recording later h r in
    can_from_pass reading groups later u r
    (record {
      call = pass.call;
      is_present = first.call (get_or u r 0) within ∙ pass.is_present;
      is_no_end = pass.is_no_end;
      needs_met = needs_onto reading reading groups recording later (is_met u) (is_met u) r (length (calls_of h.before r)) (λ call e. e)
          (onto_on recording later h u) first (get_or u r 0) pass.call within (λ req start'. earlier h.before recording r (get_or u r 0) req start' h.to_open within) pass.is_present pass.needs_met;
    })

steps_too : (reading : Reading) (groups : Groups) (recording later : Lists) (h : Parted recording later) (s : State) (states : List State) → AreSteps (can_move reading groups recording) s states → AreSteps (can_move reading groups later) s states
steps_too reading groups recording later h s [] steps = steps
steps_too reading groups recording later h s (t ∷ rest) steps = (
  record { rank = steps.0.rank; is_rank = steps.0.is_rank; can_move = moves_too reading groups recording later h s steps.0.rank steps.0.can_move; moves_on = steps.0.moves_on },
  steps_too reading groups recording later h t rest steps.1,
)

-- each rank outside a closed set stands where it does
stands_still : (reading : Reading) (groups : Groups) (recording later : Lists) → Parted recording later → (set : Set) → Closed reading groups recording set → (rank : ℕ) → set rank ≡ false → slice_index (stands_of reading groups later) rank ≡ slice_index (stands_of reading groups recording) rank
stands_still reading groups recording later h set closed rank outside =
    let old = (every_maximal_run_ends_at_the_stands reading groups recording).1 in
    let new = (every_maximal_run_ends_at_the_stands reading groups later).1 in
    let ranks : length recording ≡ length later = sym h.to_open.same_ranks ∙ h.to_later.same_ranks in
    let upper : get_or (stands_of reading groups later) rank 0 ≤ get_or (stands_of reading groups recording) rank 0 =
    subst (λ (t : State). get_or t rank 0 ≤ get_or (stands_of reading groups recording) rank 0) new.is_reached.ends_there
    (steps_bound reading groups recording later h set closed (start (length later)) new.is_reached.states (λ k out. rw (get_start (length later) k) (omega arith)) new.is_reached.is_run rank outside) in
    let reached : IsReached (can_move reading groups later) (length later) (stands_of reading groups recording) =
    subst (λ (n : ℕ). IsReached (can_move reading groups later) n (stands_of reading groups recording)) ranks
    (record {
      states = old.is_reached.states;
      is_run = steps_too reading groups recording later h (start (length recording)) old.is_reached.states old.is_reached.is_run;
      ends_there = old.is_reached.ends_there;
    }) in
    let lower = (reached_below (can_move reading groups later) (length later) (stands_of reading groups recording) (stands_of reading groups later) (can_move_is_persistent reading groups later) new.is_stuck (reached_ranks (can_move reading groups later) (length later) (stands_of reading groups later) new.is_reached) reached).stands rank in
    omega (arith, upper, lower)

-- the loose ranks are such a set
open_stands : (o : Option Call) → option_map_or leaves_open o false ≡ true → standing_by o ≡ AtOpen
open_stands None h = absurd (false≢true h)
open_stands (Some Open) h = refl
open_stands (Some _) h = absurd (false≢true h)

on_if_unmet : (met on : Bool) → (met || on) ≡ true → met ≡ false → on ≡ true
on_if_unmet true on h unmet = absurd (false≢true (sym unmet))
on_if_unmet false on h unmet = h

pub past_open : (recording : Lists) (k : ℕ) → length recording ≤ k → opened_of recording k ≡ false
past_open recording k past = get_or_past (map (is_left_open recording) (range_with_len 0 (length recording))) k false (omega (arith, length-map-range_with_len (is_left_open recording) 0 (length recording), past))

loose_closed : (reading : Reading) (groups : Groups) (recording : Lists) → Closed reading groups recording (are_loose (opened_of recording) (standings_at recording (stands_of reading groups recording)) (waits_of reading groups recording))
loose_closed reading groups recording = record { at_open = at_open'; stuck = stuck' }
  where
    s : State
    s = stands_of reading groups recording

    set : Set
    set = are_loose (opened_of recording) (standings_at recording (stands_of reading groups recording)) (waits_of reading groups recording)

    closed : (rank : ℕ) → loosens (opened_of recording) (standings_at recording (stands_of reading groups recording)) (waits_of reading groups recording) (are_loose (opened_of recording) (standings_at recording (stands_of reading groups recording)) (waits_of reading groups recording)) rank ≡ true → are_loose (opened_of recording) (standings_at recording (stands_of reading groups recording)) (waits_of reading groups recording) rank ≡ true
    closed = (the_loose_are_the_least (opened_of recording) (standings_at recording (stands_of reading groups recording)) (waits_of reading groups recording)).0

    at_open' : (k : ℕ) → opened_of recording k ≡ true → get_or (stands_of reading groups recording) k 0 ≡ length (calls_of recording k) - 1 → are_loose (opened_of recording) (standings_at recording (stands_of reading groups recording)) (waits_of reading groups recording) k ≡ true
    at_open' k opened stands =
        ⊎_elim
        (λ (within : k < length recording).
        let there : standing_of (standings_at recording (stands_of reading groups recording)) k ≡ AtOpen =
        standing_is recording (stands_of reading groups recording) k within
        ∙ ap (λ (place : ℕ). standing_by (slice_get (calls_of recording k) place)) stands
        ∙ open_stands (slice_get (calls_of recording k) (length (calls_of recording k) - 1)) (sym (opened_is recording k within) ∙ opened) in
        closed k (rw there refl))
        (λ (past : length recording ≤ k). absurd (false≢true (sym (past_open recording k past) ∙ opened)))
        (cases_lt k (length recording))

    stuck' : (k : ℕ) (call : Call) → slice_get (calls_of recording k) (get_or (stands_of reading groups recording) k 0) ≡ Some call → ends_list call ≡ false → list_all (met_or_on (stands_of reading groups recording) (opened_of recording) (are_loose (opened_of recording) (standings_at recording (stands_of reading groups recording)) (waits_of reading groups recording))) (needs_of_call reading groups recording k (get_or (stands_of reading groups recording) k 0) call) ≡ true → are_loose (opened_of recording) (standings_at recording (stands_of reading groups recording)) (waits_of reading groups recording) k ≡ true
    stuck' k call present no_end each =
        let within = calls_past recording k (get_or (stands_of reading groups recording) k 0) (slice_get_within (calls_of recording k) (get_or (stands_of reading groups recording) k 0) call present) in
        let there : standing_of (standings_at recording (stands_of reading groups recording)) k ≡ Stuck =
        standing_is recording (stands_of reading groups recording) k within ∙ ap standing_by present ∙ stuck_there call no_end in
        ⊎_elim
        (λ (all : list_all (is_on (opened_of recording) (are_loose (opened_of recording) (standings_at recording (stands_of reading groups recording)) (waits_of reading groups recording))) (needs_in (waits_of reading groups recording) k) ≡ true).
        closed k (rw (there, all) refl))
        (λ (some : list_all (is_on (opened_of recording) (are_loose (opened_of recording) (standings_at recording (stands_of reading groups recording)) (waits_of reading groups recording))) (needs_in (waits_of reading groups recording) k) ≡ false).
        let one = one_fails (is_on (opened_of recording) (are_loose (opened_of recording) (standings_at recording (stands_of reading groups recording)) (waits_of reading groups recording))) (needs_in (waits_of reading groups recording) k) some in
        let among : Among one.0 (unmet_of reading groups recording k) = subst (λ (needs : List Need). Among one.0 needs) (waits_are reading groups recording (stands_of reading groups recording) k) one.1 in
        let parts = unmet_from reading groups recording (stands_of reading groups recording) k one.0 among in
        let needed : Among one.0 (needs_of_call reading groups recording k (get_or (stands_of reading groups recording) k 0) call) = rw present at parts.0 in
        let so = among_all one.0 (met_or_on (stands_of reading groups recording) (opened_of recording) (are_loose (opened_of recording) (standings_at recording (stands_of reading groups recording)) (waits_of reading groups recording))) (needs_of_call reading groups recording k (get_or (stands_of reading groups recording) k 0) call) needed each in
        absurd (false≢true (sym one.2 ∙ on_if_unmet (is_met (stands_of reading groups recording) one.0) _ so parts.1)))
        (cases_Bool (list_all (is_on (opened_of recording) (are_loose (opened_of recording) (standings_at recording (stands_of reading groups recording)) (waits_of reading groups recording))) (needs_in (waits_of reading groups recording) k)))

held_outside : (standing : Standing) (loose : Bool) → is_held_at standing loose ≡ true → loose ≡ false
held_outside Stuck false h = refl
held_outside standing loose h = cc

-- a list that was left open, and its open
is_open : (call : Call) → leaves_open call ≡ true → call ≡ Open
is_open Open h = refl
is_open _ h = absurd (false≢true h)

pub last_open : (calls : List Call) → option_map_or leaves_open (slice_get calls (length calls - 1)) false ≡ true → calls ≡ take (length calls - 1) calls ++ Open ∷ []
last_open [] h = absurd (false≢true h)
last_open (call ∷ []) h = ap (λ (c : Call). c ∷ []) (is_open call h)
last_open (call ∷ next ∷ calls) h =
    let back : length (call ∷ next ∷ calls) - 1 ≡ suc (length (next ∷ calls) - 1) = omega arith in
    let rest = last_open (next ∷ calls) (subst (λ (k : ℕ). option_map_or leaves_open (slice_get (call ∷ next ∷ calls) k) false ≡ true) back h) in
    subst (λ (k : ℕ). call ∷ next ∷ calls ≡ take k (call ∷ next ∷ calls) ++ Open ∷ []) (sym back) (ap (λ (cs : List Call). call ∷ cs) rest)

parted : (recording later : Lists) → StandsInPlace recording later → Parted recording later
parted recording later h = record {
  before = before';
  to_open = record { same_ranks = count; more = λ rank. if opened_of recording rank then Open ∷ [] else []; goes_on = to_open' };
  to_later = record { same_ranks = count ∙ h.same_ranks; more = h.more; goes_on = λ rank. h.goes_on rank ∙ ap (λ (calls : List Call). calls ++ h.more rank) (sym (before_is rank)) };
  opens = λ rank opened. rw opened refl;
  ended = λ rank ended. rw ended refl;
  ended_later = λ rank ended. h.ended rank (sym (opened_all rank) ∙ ended);
}
  where
    before' : Lists
    before' = map (calls_before_open recording) (range_with_len 0 (length recording))

    count : length (map (calls_before_open recording) (range_with_len 0 (length recording))) ≡ length recording
    count = length-map-range_with_len (calls_before_open recording) 0 (length recording)

    opened_all : (rank : ℕ) → opened_of recording rank ≡ is_left_open recording rank
    opened_all rank =
        ⊎_elim
        (λ (within : rank < length recording). opened_is recording rank within)
        (λ (past : length recording ≤ rank). past_open recording rank past ∙ sym (rw (slice_get_past recording rank past) refl))
        (cases_lt rank (length recording))

    before_is : (rank : ℕ) → calls_of (map (calls_before_open recording) (range_with_len 0 (length recording))) rank ≡ calls_before_open recording rank
    before_is rank =
        ⊎_elim
        (λ (within : rank < length recording). ap (λ (o : Option (List Call)). unwrap_or o []) (in_table (calls_before_open recording) (length recording) rank [] within))
        (λ (past : length recording ≤ rank).
        ap (λ (o : Option (List Call)). unwrap_or o []) (past_table (calls_before_open recording) (length recording) rank past)
        ∙ sym (rw (slice_get_past recording rank past) refl))
        (cases_lt rank (length recording))

    to_open' : (rank : ℕ) → calls_of recording rank ≡ calls_of (map (calls_before_open recording) (range_with_len 0 (length recording))) rank ++ (if opened_of recording rank then Open ∷ [] else [])
    to_open' rank =
        ⊎_elim
        (λ (opened : is_left_open recording rank ≡ true).
        let all : calls_of recording rank ≡ take (length (calls_of recording rank) - 1) (calls_of recording rank) ++ Open ∷ [] = last_open (calls_of recording rank) opened in
        all ∙ sym (rw (before_is rank, opened_all rank, opened) refl))
        (λ (ended : is_left_open recording rank ≡ false).
        sym (rw (before_is rank, opened_all rank, ended) (append-nil (calls_of recording rank))))
        (cases_Bool (is_left_open recording rank))

pub stays_if_held : (reading : Reading) (groups : Groups) (recording : Lists) (rank : ℕ) → is_held reading groups recording rank ≡ true → StaysPut reading groups recording rank
stays_if_held reading groups recording rank held later h =
    stands_still reading groups recording later (parted recording later h)
    (are_loose (opened_of recording) (standings_at recording (stands_of reading groups recording)) (waits_of reading groups recording)) (loose_closed reading groups recording) rank
    (held_outside (standing_of (standings_at recording (stands_of reading groups recording)) rank)
    (are_loose (opened_of recording) (standings_at recording (stands_of reading groups recording)) (waits_of reading groups recording) rank) held)
