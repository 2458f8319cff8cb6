-- The graph where no pending call and no sink is known is the one without.
use Rattle.moves.specs.declared.reading.Reading.{Reading}
use Rattle.std.proofs.Common.{inl, inr, ◌≡◌, ℕ, ◌<◌, ◌⊎◌, Bool, true, false, not, ◌&&◌, ◌||◌, Option, Some, None, is_some, find, if◌then◌else◌, List, [], ◌∷◌, ◌++◌, flat_map, length, map, refl, sym, ap, ◌∙◌, ⊎_elim, append-nil, arith}
use Rattle.std.specs.Prelude.{option_map, option_and_then, slice_index}
use Rattle.std.specs.List.{slice_get, filter, filter_map, list_any, range_with_len}
use Rattle.std.specs.Option.{option_map_or}
use Rattle.std.proofs.lemmas.List.Elements.{filter-append}
use Rattle.std.proofs.lemmas.Bool.{cases_Bool, false≢true}
use Rattle.mpicall.specs.declared.call.Call.{Call}
use Rattle.mpigroup.specs.Groups.{Groups}
use Rattle.callstore.specs.Recordings.{Lists, calls_of, IsClosed}
use Rattle.callstore.specs.Requests.{starts, completes, started_before}
use Rattle.callstore.specs.declared.envelope.Half.TheVariants.{Send as SendHalf, Recv as RecvHalf}
use Rattle.findings.specs.declared.finding.Finding.{Finding}
use Rattle.findings.specs.declared.finding.Finding.TheVariants.{Kind, Root, Unreceived, Request, Group}
use Rattle.findings.specs.Findings.{findings_of}
use Rattle.moves.specs.Needs.{needs_of, needs_of_call, is_met, half_needs, probe_needs, wave_needs, sends_freely, operation_needs, operation_needs_at, request_needs}
use Rattle.moves.specs.Runs.{State}
use Rattle.moves.specs.Stands.{stands_of}
use Rattle.moves.specs.declared.need.Need.{Need}
use Rattle.pairing.specs.LeftOpen.{leaves_open}
use Rattle.waitgraph.specs.Held.{Set, is_missing, is_blocked, AreHeld, is_some_left_open}
use Rattle.waitgraph.specs.Causes.{CauseView, CycleOf, MissingOf, held_by, next_of, missing_of, AreCauses}
use Rattle.waitgraph.specs.Stuck.{rank_needed, needs_in_order, is_stuck, unmet_at}
use Rattle.waitgraph.specs.Pending.{none_known}
use Rattle.waitgraph.specs.PendingHeld.{may_come, AreHeldBy}
use Rattle.waitgraph.specs.PendingNeeds.{blocked, operation_blocks, request_blocks, call_blocks, is_at_open, present_blocks, held_up_by}
use Rattle.waitgraph.specs.PendingCauses.{next_to, missing_to, starved_to, next_by, missing_by, starved_by, AreCausesBy}
use Rattle.waitgraph.specs.PendingGraphs.{is_left_out, WithoutPendingItIsTheGraph}
use Rattle.waitgraph.specs.declared.awaited.Awaited.TheVariants as awaited
use Rattle.waitgraph.specs.inner.Held.{is_held}
use Rattle.waitgraph.specs.inner.Stuck.{is_unmet}
use Rattle.waitgraph.proofs.AmongLemmas.{Among, kept_among, among_kept, with_needs_from, with_needs_new, with_needs_in_order, among_range}
use Rattle.waitgraph.proofs.CauseLemmas.{given_same, cycle_same, not_held_by, held_by_same}
use Rattle.waitgraph.proofs.DeadlockLemmas.{are_found, found_is_deadlocked}
use Rattle.waitgraph.proofs.OrderLemmas.{kept_in_order}
use Rattle.waitgraph.proofs.PendingLemmas.{without_pending_the_held_are_the_same, opens_end}
use Rattle.waitgraph.proofs.SortLemmas.{same_in_order}
use Rattle.waitgraph.proofs.StuckLemmas.{ends_without_needs}
use Rattle.waitgraph.proofs.VerdictLemmas.{same_held, without_open_the_stuck_are_held}

-- Without sinks, what doesn't come is that of the needs which doesn't.
operation_is : (comes : Need → Bool) (reading : Reading) (groups : Groups) (recording : Lists) (rank place : ℕ) (call : Call) → operation_blocks comes reading groups recording [] rank place call ≡ blocked comes (operation_needs reading groups recording rank place call)
operation_is comes reading groups recording rank place call =
    sym (filter-append (λ need. not (comes need)) ((if sends_freely reading call then [] else half_needs groups recording rank place SendHalf call) ++ (half_needs groups recording rank place RecvHalf call) ++ (probe_needs groups recording rank place call)) (wave_needs groups recording rank place)
    ∙ ap (λ (front : List Need). front ++ blocked comes (wave_needs groups recording rank place))
    (filter-append (λ need. not (comes need)) ((if sends_freely reading call then [] else half_needs groups recording rank place SendHalf call) ++ (half_needs groups recording rank place RecvHalf call)) (probe_needs groups recording rank place call)
    ∙ ap (λ (front : List Need). front ++ blocked comes (probe_needs groups recording rank place call))
    (filter-append (λ need. not (comes need)) (if sends_freely reading call then [] else half_needs groups recording rank place SendHalf call) (half_needs groups recording rank place RecvHalf call))))

request_is : (comes : Need → Bool) (reading : Reading) (groups : Groups) (recording : Lists) (rank : ℕ) (start : Option ℕ) → request_blocks comes reading groups recording [] rank start ≡ blocked comes (option_map_or (operation_needs_at reading groups recording rank) start [])
request_is comes reading groups recording rank None = refl
request_is comes reading groups recording rank (Some place) = by_call (slice_get (calls_of recording rank) place)
  where
    by_call : (o : Option Call) → option_map_or (operation_blocks comes reading groups recording [] rank place) o [] ≡ blocked comes (option_map_or (operation_needs reading groups recording rank place) o [])
    by_call None = refl
    by_call (Some call) = operation_is comes reading groups recording rank place call

requests_are : (comes : Need → Bool) (reading : Reading) (groups : Groups) (recording : Lists) (rank place : ℕ) (reqs : List ℕ) → flat_map (λ req. request_blocks comes reading groups recording [] rank (started_before recording rank place req)) reqs ≡ blocked comes (flat_map (request_needs reading groups recording rank place) reqs)
requests_are comes reading groups recording rank place [] = refl
requests_are comes reading groups recording rank place (req ∷ reqs) =
    ap (λ (needs : List Need). needs ++ flat_map (λ req. request_blocks comes reading groups recording [] rank (started_before recording rank place req)) reqs) (request_is comes reading groups recording rank (started_before recording rank place req))
    ∙ ap (λ (needs : List Need). blocked comes (request_needs reading groups recording rank place req) ++ needs) (requests_are comes reading groups recording rank place reqs)
    ∙ sym (filter-append (λ need. not (comes need)) (request_needs reading groups recording rank place req) (flat_map (request_needs reading groups recording rank place) reqs))

call_is : (comes : Need → Bool) (reading : Reading) (groups : Groups) (recording : Lists) (rank place : ℕ) (call : Call) → call_blocks comes reading groups recording [] rank place call ≡ blocked comes (needs_of_call reading groups recording rank place call)
call_is comes reading groups recording rank place call = by_start (is_some (starts call))
  where
    by_start : (starting : Bool) → (if starting then [] else operation_blocks comes reading groups recording [] rank place call ++ flat_map (λ req. request_blocks comes reading groups recording [] rank (started_before recording rank place req)) (completes call)) ≡ blocked comes (if starting then [] else operation_needs reading groups recording rank place call ++ flat_map (request_needs reading groups recording rank place) (completes call))
    by_start true = refl
    by_start false =
        ap (λ (needs : List Need). needs ++ flat_map (λ req. request_blocks comes reading groups recording [] rank (started_before recording rank place req)) (completes call)) (operation_is comes reading groups recording rank place call)
        ∙ ap (λ (needs : List Need). blocked comes (operation_needs reading groups recording rank place call) ++ needs) (requests_are comes reading groups recording rank place (completes call))
        ∙ sym (filter-append (λ need. not (comes need)) (operation_needs reading groups recording rank place call) (flat_map (request_needs reading groups recording rank place) (completes call)))

-- The first need in order that doesn't come.
kept_twice : (met stays : Need → Bool) (needs : List Need) → filter (λ need. not (met need || not (stays need))) needs ≡ filter stays (filter (λ need. not (met need)) needs)
kept_twice met stays [] = refl
kept_twice met stays (need ∷ needs) =
    ⊎_elim
    (λ (is : met need ≡ true). rw is (kept_twice met stays needs))
    (λ (no : met need ≡ false).
    ⊎_elim
    (λ (stuck : stays need ≡ true). rw (no, stuck) (ap (λ (rest : List Need). need ∷ rest) (kept_twice met stays needs)))
    (λ (comes : stays need ≡ false). rw (no, comes) (kept_twice met stays needs))
    (cases_Bool (stays need)))
    (cases_Bool (met need))

from_none : (need : Need) (xs : List Need) → Among need [] ⊎ Among need xs → Among need xs
from_none need xs (inl none) = absurd none
from_none need xs (inr h) = h

order_kept : (p : Need → Bool) (xs : List Need) → needs_in_order (filter p xs) ≡ filter p (needs_in_order xs)
order_kept p xs =
    same_in_order (needs_in_order (filter p xs)) (filter p (needs_in_order xs)) (with_needs_in_order [] (filter p xs) refl) (kept_in_order p (needs_in_order xs) (with_needs_in_order [] xs refl))
    (λ need h.
    let parts = kept_among need p xs (from_none need (filter p xs) (with_needs_from need [] (filter p xs) h)) in
    among_kept need p (needs_in_order xs) (with_needs_new need [] xs parts.0) parts.1)
    (λ need h.
    let parts = kept_among need p (needs_in_order xs) h in
    with_needs_new need [] (filter p xs) (among_kept need p xs (from_none need xs (with_needs_from need [] xs parts.0)) parts.1))

first_kept : (p : Need → Bool) (xs : List Need) → slice_get (filter p xs) 0 ≡ find p xs
first_kept p [] = refl
first_kept p (x ∷ xs) =
    ⊎_elim
    (λ (is : p x ≡ true). rw is refl)
    (λ (no : p x ≡ false). rw no (first_kept p xs))
    (cases_Bool (p x))

first_call : (needs : List Need) → slice_get (map awaited.Call needs) 0 ≡ option_map awaited.Call (slice_get needs 0)
first_call [] = refl
first_call (need ∷ needs) = refl

-- So a held rank is held by the same need.
module _ (reading : Reading) (groups : Groups) (recording : Lists) (held : Set) where
  abbrev s : State
  s = stands_of reading groups recording

  abbrev comes : Need → Bool
  comes = may_come recording (stands_of reading groups recording) held

  present_is : (rank : ℕ) (o : Option Call) → slice_get (calls_of recording rank) (slice_index (stands_of reading groups recording) rank) ≡ o → present_blocks reading groups recording none_known (stands_of reading groups recording) held rank ≡ blocked (may_come recording (stands_of reading groups recording) held) (needs_of reading groups recording rank (slice_index (stands_of reading groups recording) rank))
  present_is rank None is = rw is refl
  present_is rank (Some call) is = rw is (call_is (may_come recording (stands_of reading groups recording) held) reading groups recording rank (slice_index (stands_of reading groups recording) rank) call)

  first_is : (rank : ℕ) → slice_get (map awaited.Call (needs_in_order (present_blocks reading groups recording none_known (stands_of reading groups recording) held rank))) 0 ≡ option_map awaited.Call (held_by reading groups recording held rank)
  unfolding unmet_at
  first_is rank =
      ap (λ (needs : List Need). slice_get (map awaited.Call (needs_in_order needs)) 0)
      (present_is rank (slice_get (calls_of recording rank) (slice_index (stands_of reading groups recording) rank)) refl
      ∙ kept_twice (is_met (stands_of reading groups recording)) (is_blocked recording held) (needs_of reading groups recording rank (slice_index (stands_of reading groups recording) rank)))
      ∙ first_call (needs_in_order (filter (is_blocked recording held) (filter (is_unmet (stands_of reading groups recording)) (needs_of reading groups recording rank (slice_index (stands_of reading groups recording) rank)))))
      ∙ ap (option_map awaited.Call)
      (ap (λ (needs : List Need). slice_get needs 0) (order_kept (is_blocked recording held) (filter (is_unmet (stands_of reading groups recording)) (needs_of reading groups recording rank (slice_index (stands_of reading groups recording) rank))))
      ∙ first_kept (is_blocked recording held) (needs_in_order (filter (is_unmet (stands_of reading groups recording)) (needs_of reading groups recording rank (slice_index (stands_of reading groups recording) rank)))))

  none_at_open : (rank : ℕ) → is_at_open recording (stands_of reading groups recording) rank ≡ true → held_by reading groups recording held rank ≡ None
  unfolding unmet_at
  none_at_open rank opens = by_call (slice_get (calls_of recording rank) (slice_index (stands_of reading groups recording) rank)) refl opens
    where
      by_call : (o : Option Call) → slice_get (calls_of recording rank) (slice_index (stands_of reading groups recording) rank) ≡ o → option_map_or leaves_open o false ≡ true → held_by reading groups recording held rank ≡ None
      by_call None is at = absurd (false≢true at)
      by_call (Some call) is at =
          ap (λ (needs : List Need). find (is_blocked recording held) (needs_in_order (filter (is_unmet (stands_of reading groups recording)) needs)))
          (ends_without_needs reading groups recording rank (slice_index (stands_of reading groups recording) rank) call is (opens_end call at))

  held_up_is : (rank : ℕ) → held rank ≡ true → held_up_by reading groups recording none_known held rank ≡ option_map awaited.Call (held_by reading groups recording held rank)
  unfolding held_up_by
  held_up_is rank is =
      ⊎_elim
      (λ (opens : is_at_open recording (stands_of reading groups recording) rank ≡ true). rw (is, opens) (sym (ap (option_map awaited.Call) (none_at_open rank opens))))
      (λ (no : is_at_open recording (stands_of reading groups recording) rank ≡ false). rw (is, no) (first_is rank))
      (cases_Bool (is_at_open recording (stands_of reading groups recording) rank))

module _ (reading : Reading) (groups : Groups) (recording : Lists) (closed : IsClosed recording) (held : Set) (are : AreHeld reading groups recording held) where
  up_is : (rank : ℕ) → held_up_by reading groups recording none_known held rank ≡ option_map awaited.Call (held_by reading groups recording held rank)
  unfolding held_up_by
  up_is rank =
      ⊎_elim
      (λ (is : held rank ≡ true). held_up_is reading groups recording held rank is)
      (λ (no : held rank ≡ false).
      let same = same_held reading groups recording held (is_held reading groups recording) are (are_found reading groups recording closed) in
      let none : held_by reading groups recording held rank ≡ None =
      held_by_same reading groups recording held (is_held reading groups recording) same rank
      ∙ not_held_by reading groups recording (found_is_deadlocked reading groups recording closed) rank (sym (same rank) ∙ no) in
      rw no (sym (ap (option_map awaited.Call) none)))
      (cases_Bool (held rank))

  next_from : (o : Option Need) → option_and_then (next_to recording) (option_map awaited.Call o) ≡ option_and_then (λ need. if is_missing recording need then None else Some (rank_needed need)) o
  next_from None = refl
  next_from (Some need) = refl

  missing_from : (rank : ℕ) (o : Option Need) → option_and_then (missing_to recording rank) (option_map awaited.Call o) ≡ option_and_then (λ need. if is_missing recording need then Some (MissingOf rank (rank_needed need)) else None) o
  missing_from rank None = refl
  missing_from rank (Some need) = refl

  starved_from : (rank : ℕ) (o : Option Need) → option_and_then (starved_to rank) (option_map awaited.Call o) ≡ None
  starved_from rank None = refl
  starved_from rank (Some need) = refl

  pub next_same : (rank : ℕ) → next_by reading groups recording none_known held rank ≡ next_of reading groups recording held rank
  next_same rank = ap (option_and_then (next_to recording)) (up_is rank) ∙ next_from (held_by reading groups recording held rank)

  pub missing_same : (rank : ℕ) → missing_by reading groups recording none_known held rank ≡ missing_of reading groups recording held rank
  missing_same rank = ap (option_and_then (missing_to recording rank)) (up_is rank) ∙ missing_from rank (held_by reading groups recording held rank)

  pub starved_same : (rank : ℕ) → starved_by reading groups recording none_known held rank ≡ None
  starved_same rank = ap (option_and_then (starved_to rank)) (up_is rank) ∙ starved_from rank (held_by reading groups recording held rank)

abbrev nowhere : ℕ → Option CauseView
nowhere rank = None

never : (ranks : List ℕ) → filter_map nowhere ranks ≡ []
never [] = refl
never (rank ∷ ranks) = never ranks

pub are_plain : (reading : Reading) (groups : Groups) (recording : Lists) (held : Set) → AreHeldBy reading groups recording none_known held → AreHeld reading groups recording held
are_plain reading groups recording held are rank =
    let same = without_pending_the_held_are_the_same reading groups recording rank in
    (λ h. same.0 ((are rank).0 h), λ h. (are rank).1 (same.1 h))

pub causes_plain : (reading : Reading) (groups : Groups) (recording : Lists) (causes : List CauseView) → IsClosed recording → AreCausesBy reading groups recording none_known causes → AreCauses reading groups recording causes
causes_plain reading groups recording causes closed p =
    let are = are_plain reading groups recording p.held p.are_held in
    let next = next_same reading groups recording closed p.held are in
    record {
      held = p.held;
      are_held = are;
      rest_of = p.rest_of;
      are_cycles = λ low rest. (
        λ is. cycle_same (next_by reading groups recording none_known p.held) (next_of reading groups recording p.held) next low rest ((p.are_cycles low rest).0 is),
        λ cycle. (p.are_cycles low rest).1 (cycle_same (next_of reading groups recording p.held) (next_by reading groups recording none_known p.held) (λ rank. sym (next rank)) low rest cycle),
      );
      are_all =
          p.are_all
          ∙ ap (λ (starved : List CauseView). filter_map (λ low. option_map (λ rest. CycleOf (low ∷ rest)) (p.rest_of low)) (range_with_len 0 (length recording)) ++ filter_map (missing_by reading groups recording none_known p.held) (range_with_len 0 (length recording)) ++ starved)
          (given_same (starved_by reading groups recording none_known p.held) nowhere (starved_same reading groups recording closed p.held are) (range_with_len 0 (length recording)) ∙ never (range_with_len 0 (length recording)))
          ∙ append-nil (filter_map (λ low. option_map (λ rest. CycleOf (low ∷ rest)) (p.rest_of low)) (range_with_len 0 (length recording)) ++ filter_map (missing_by reading groups recording none_known p.held) (range_with_len 0 (length recording)))
          ∙ ap (λ (missing : List CauseView). filter_map (λ low. option_map (λ rest. CycleOf (low ∷ rest)) (p.rest_of low)) (range_with_len 0 (length recording)) ++ missing)
          (given_same (missing_by reading groups recording none_known p.held) (missing_of reading groups recording p.held) (missing_same reading groups recording closed p.held are) (range_with_len 0 (length recording)));
    }

-- no finding is left out
none_left : (groups : Groups) (recording : Lists) (one : Finding) → is_left_out groups recording [] one ≡ false
none_left groups recording (Kind comm wave member first word) = refl
none_left groups recording (Root comm wave member first root) = refl
none_left groups recording (Unreceived rank place) = refl
none_left groups recording (Request rank place req) = refl
none_left groups recording (Group rank place) = refl

all_kept : (groups : Groups) (recording : Lists) (found : List Finding) → filter (λ one. not (is_left_out groups recording [] one)) found ≡ found
all_kept groups recording [] = refl
all_kept groups recording (one ∷ found) = rw (none_left groups recording one) (ap (λ (rest : List Finding). one ∷ rest) (all_kept groups recording found))

-- without open lists no stuck rank isn't held
none_loose : (reading : Reading) (groups : Groups) (recording : Lists) (held : Set) → IsClosed recording → is_some_left_open recording ≡ false → AreHeld reading groups recording held → (ranks : List ℕ) → ((rank : ℕ) → Among rank ranks → rank < length recording) → list_any (λ rank. is_stuck reading groups recording rank && not (held rank)) ranks ≡ false
none_loose reading groups recording held closed ended are [] within = refl
none_loose reading groups recording held closed ended are (rank ∷ ranks) within =
    let rest = none_loose reading groups recording held closed ended are ranks (λ other there. within other (inr there)) in
    ⊎_elim
    (λ (stuck : is_stuck reading groups recording rank ≡ true).
    let is_held : held rank ≡ true = (are rank).1 ((without_open_the_stuck_are_held reading groups recording closed ended rank (within rank (inl refl))).0 stuck) in
    rw (stuck, is_held) rest)
    (λ (not_stuck : is_stuck reading groups recording rank ≡ false). rw not_stuck rest)
    (cases_Bool (is_stuck reading groups recording rank))

open_is : (reading : Reading) (groups : Groups) (recording : Lists) (held : Set) → IsClosed recording → AreHeld reading groups recording held → (is_some_left_open recording || list_any (λ rank. is_stuck reading groups recording rank && not (held rank)) (range_with_len 0 (length recording))) ≡ is_some_left_open recording
open_is reading groups recording held closed are =
    ⊎_elim
    (λ (opens : is_some_left_open recording ≡ true). rw opens refl)
    (λ (ended : is_some_left_open recording ≡ false).
    rw ended
    (none_loose reading groups recording held closed ended are (range_with_len 0 (length recording))
    (λ rank there. let within = among_range rank 0 (length recording) there in omega (arith, within.1))))
    (cases_Bool (is_some_left_open recording))

pub without_pending_it_is_the_graph : WithoutPendingItIsTheGraph
without_pending_it_is_the_graph reading groups recording graph closed is = record {
  stuck = is.stuck;
  held = (is.held.0, are_plain reading groups recording is.held.0 is.held.1, is.held.2);
  left_open = is.left_open.2 ∙ open_is reading groups recording is.left_open.0 closed (are_plain reading groups recording is.left_open.0 is.left_open.1);
  unmet = is.unmet;
  causes = causes_plain reading groups recording graph.causes closed is.causes;
  findings = is.findings ∙ all_kept groups recording (findings_of groups recording);
}
