-- Held ranks stay where they stand, whether sinks are met or not, and however pending calls come back.
use Rattle.moves.specs.declared.reading.Reading.{Reading}
use Rattle.std.proofs.Common.{inl, inr, ◌≡◌, ◌≢◌, ◌⊎◌, ℕ, ◌+◌, ◌<◌, ◌≤◌, Bool, true, false, Option, Some, is_some, List, [], ◌∷◌, ◌++◌, length, get_or, refl, sym, ap, subst, ◌∙◌, ⊎_elim, arith, append-nil, get_or-set_same, get_or-set_other}
use Rattle.std.specs.Prelude.{slice_index}
use Rattle.std.specs.List.{slice_get, list_all}
use Rattle.std.specs.Option.{option_map_or}
use Rattle.std.proofs.lemmas.Option.{same_Some, slice_get_within}
use Rattle.std.proofs.lemmas.Bool.{cases_Bool, cases_eq, cases_lt, false≢true}
use Rattle.mpicall.specs.Ending.{ends_list}
use Rattle.mpicall.specs.declared.call.Call.{Call}
use Rattle.mpicall.specs.declared.call.Call.TheVariants.{Irecv}
use Rattle.mpigroup.specs.Groups.{Groups}
use Rattle.callstore.specs.Recordings.{Lists, calls_of}
use Rattle.callstore.specs.Requests.{starts}
use Rattle.pairing.specs.LeftOpen.{is_left_open, leaves_open}
use Rattle.moves.specs.declared.need.Need.{Need}
use Rattle.moves.specs.Runs.{State, start, moved, Step, AreSteps, last_state, IsReached}
use Rattle.moves.specs.Needs.{is_met, can_move}
use Rattle.moves.proofs.NeedLemmas.{CanPass, can_pass, can_move_is_persistent}
use Rattle.moves.proofs.RunLemmas.{get_start, reached_below, reached_ranks}
use Rattle.moves.specs.Stands.{stands_of}
use Rattle.moves.proofs.StandLemmas.{every_maximal_run_ends_at_the_stands}
use Rattle.waitgraph.specs.Held.{Set}
use Rattle.waitgraph.specs.Stays.{calls_before_open}
use Rattle.waitgraph.specs.Pending.{Known, call_needs, nothing, waited_by, is_over}
use Rattle.waitgraph.specs.PendingHeld.{may_come, may_move, IsDeadlockedBy}
use Rattle.waitgraph.specs.PendingStays.{FitsSinks, IsFilled, Brings, ComesBack, GoesOnBy, HeldRanksStayBy}
use Rattle.waitgraph.proofs.FilledLemmas.{front_call, Pair, pair_at, later_call, was_null, back}
use Rattle.waitgraph.proofs.PendingViewLemmas.{goes_on_if, over_call}
use Rattle.mpicall.specs.declared.call.Peer.TheVariants as peer
use Rattle.moves.specs.Needs as plain
use Rattle.waitgraph.proofs.LaterLemmas as kept
use Rattle.waitgraph.proofs.ComingLemmas as coming

module _ (reading : Reading) (groups : Groups) (recording later : Lists) (known : Known) (fits : FitsSinks recording known.sinks) (h : GoesOnBy recording known later) (set : Set) (dead : IsDeadlockedBy reading groups recording known set) where
  abbrev Here : ℕ → ℕ → Call → Type 0
  Here r p call = kept.Here reading groups recording later known fits h r p call

  abbrev Bound : State → Type 0
  Bound t = coming.Bound reading groups recording later known fits h set dead t

  abbrev q : Need → Bool
  q = may_come recording (stands_of reading groups recording) set

  abbrev AtPending : ℕ → Type 0
  AtPending k = coming.AtPending reading groups recording later known fits h set dead k

  -- a rank of the set can't move on from where it stands
  would_move : (t : State) → Bound t → (r : ℕ) → set r ≡ true → get_or t r 0 ≡ get_or (stands_of reading groups recording) r 0 → can_move reading groups later t r ≡ true → ⊥
  would_move t bound r member same can = by_place (cases_lt (get_or t r 0) (length (calls_before_open recording r)))
    where
      pass : CanPass reading groups later t r
      pass = can_pass reading groups later t r can

      moves : (call : Call) → slice_get (calls_of recording r) (get_or (stands_of reading groups recording) r 0) ≡ Some call → leaves_open call ≡ false → list_all q (call_needs reading groups recording known.sinks r (get_or (stands_of reading groups recording) r 0) call) ≡ true → may_move reading groups recording known set r ≡ true
      moves call present goes passes =
          let first : may_move reading groups recording known set r ≡ is_over q (waited_by reading groups recording known r (get_or (stands_of reading groups recording) r 0) call) =
          ap (λ (o : Option Call). is_over q (option_map_or (waited_by reading groups recording known r (get_or (stands_of reading groups recording) r 0)) o nothing)) present in
          first ∙ over_call reading groups recording known r (get_or (stands_of reading groups recording) r 0) call q goes passes

      by_pair : get_or t r 0 < length (calls_before_open recording r) → Pair recording later known fits h r (get_or t r 0) → ⊥
      by_pair within pair = by_kind pair.filled
        where
          old : slice_get (calls_of recording r) (get_or t r 0) ≡ Some pair.before
          old = front_call recording r (get_or t r 0) within ∙ pair.was

          old' : slice_get (calls_of recording r) (get_or (stands_of reading groups recording) r 0) ≡ Some pair.before
          old' = ap (λ (p : ℕ). slice_get (calls_of recording r) p) (sym same) ∙ old

          after_is : pass.call ≡ pair.after
          after_is = same_Some pass.call pair.after (sym pass.is_present ∙ later_call recording later known fits h r (get_or t r 0) within ∙ pair.is)

          by_kind : IsFilled known.sinks r (get_or t r 0) pair.before pair.after → ⊥
          by_kind (inl alike) =
              let is : pass.call ≡ pair.before = after_is ∙ alike in
              let no_end : ends_list pair.before ≡ false = ap ends_list (sym is) ∙ pass.is_no_end in
              let here : Here r (get_or t r 0) pair.before = record { within = within; old = old; new = pass.is_present ∙ ap (λ (c : Call). Some c) is } in
              let met : list_all (is_met t) (plain.needs_of_call reading groups later r (get_or t r 0) pair.before) ≡ true = ap (λ (c : Call). list_all (is_met t) (plain.needs_of_call reading groups later r (get_or t r 0) c)) (sym is) ∙ pass.needs_met in
              let passes = coming.call_on reading groups recording later known fits h set dead t bound r (get_or t r 0) pair.before here (omega (arith, same)) (is_some (starts pair.before)) met in
              let passes' : list_all q (call_needs reading groups recording known.sinks r (get_or (stands_of reading groups recording) r 0) pair.before) ≡ true =
              ap (λ (p : ℕ). list_all q (call_needs reading groups recording known.sinks r p pair.before)) (sym same) ∙ passes in
              false≢true (sym (dead r member) ∙ moves pair.before old' (goes_on_if pair.before no_end) passes')
          by_kind (inr is_met') =
              let null = was_null recording later known fits h r (get_or t r 0) pair.before pair.after is_met' pair.was within in
              let null_there : slice_get (calls_of recording r) (get_or (stands_of reading groups recording) r 0) ≡ Some (Irecv null.0 null.1 peer.Null null.2) = old' ∙ ap (λ (c : Call). Some c) null.3 in
              false≢true (sym (dead r member) ∙ moves (Irecv null.0 null.1 peer.Null null.2) null_there refl refl)

      at_open : length (calls_before_open recording r) ≤ get_or t r 0 → is_left_open recording r ≡ true → ⊥
      at_open past opens =
          let most = coming.stand_most reading groups recording later known fits h set dead r opens in
          let stand : get_or (stands_of reading groups recording) r 0 ≡ length (calls_before_open recording r) = omega (arith, most, past, same) in
          let here : get_or t r 0 ≡ length (calls_before_open recording r) = same ∙ stand in
          let there : slice_get (calls_of later r) (length (calls_before_open recording r)) ≡ Some pass.call = ap (λ (p : ℕ). slice_get (calls_of later r) p) (sym here) ∙ pass.is_present in
          let at = coming.held_at_open reading groups recording later known fits h set dead r member opens stand in
          let met : list_all (is_met t) (plain.needs_of_call reading groups later r (length (calls_before_open recording r)) pass.call) ≡ true = ap (λ (p : ℕ). list_all (is_met t) (plain.needs_of_call reading groups later r p pass.call)) (sym here) ∙ pass.needs_met in
          by_back at stand there met (coming.comes_back reading groups recording later known fits h set dead r opens at pass.call there)
        where
          by_back : (at : AtPending r) → get_or (stands_of reading groups recording) r 0 ≡ length (calls_before_open recording r) → slice_get (calls_of later r) (length (calls_before_open recording r)) ≡ Some pass.call → list_all (is_met t) (plain.needs_of_call reading groups later r (length (calls_before_open recording r)) pass.call) ≡ true → ComesBack known.sinks later r (length (h.filled r)) pass.call at.pending → ⊥
          by_back at stand there met (inl is) = false≢true (sym pass.is_no_end ∙ ap ends_list is)
          by_back at stand there met (inr back) =
              false≢true (sym at.stays ∙ coming.brought_over reading groups recording later known fits h set dead r (Brings known.sinks later r (length (h.filled r)) pass.call) (coming.item_on reading groups recording later known fits h set dead t bound r pass.call member opens stand there back.0 met) at.pending.is_all at.pending.items at.some back.1)

      by_place : (get_or t r 0 < length (calls_before_open recording r)) ⊎ (length (calls_before_open recording r) ≤ get_or t r 0) → ⊥
      by_place (inl within) = by_pair within (pair_at recording later known fits h r (get_or t r 0) within)
      by_place (inr past) =
          ⊎_elim
          (λ (opens : is_left_open recording r ≡ true). at_open past opens)
          (λ (no : is_left_open recording r ≡ false).
          let list : calls_of later r ≡ h.filled r = h.goes_on r ∙ ap (λ (calls : List Call). h.filled r ++ calls) (h.ended r no) ∙ append-nil (h.filled r) in
          let less = slice_get_within (h.filled r) (get_or t r 0) pass.call (sym (ap (λ (calls : List Call). slice_get calls (get_or t r 0)) list) ∙ pass.is_present) in
          absurd (omega (arith, less, past, h.same_length r)))
          (cases_Bool (is_left_open recording r))

  -- so no run moves it on
  step_bound : (t u : State) → Bound t → Step (can_move reading groups later) t u → Bound u
  step_bound t u bound step k member =
      rw step.moves_on
      (⊎_elim
      (λ (own : k ≡ step.rank).
      let member' : set step.rank ≡ true = ap set (sym own) ∙ member in
      let now : get_or (moved t step.rank) step.rank 0 ≡ get_or t step.rank 0 + 1 = get_or-set_same t step.rank (get_or t step.rank 0 + 1) 0 step.is_rank in
      rw own
      (⊎_elim
      (λ (less : get_or t step.rank 0 < get_or (stands_of reading groups recording) step.rank 0). omega (arith, less, now))
      (λ (past : get_or (stands_of reading groups recording) step.rank 0 ≤ get_or t step.rank 0).
      absurd (would_move t bound step.rank member' (omega (arith, past, bound step.rank member')) step.can_move))
      (cases_lt (get_or t step.rank 0) (get_or (stands_of reading groups recording) step.rank 0))))
      (λ (differs : k ≢ step.rank). rw (get_or-set_other t step.rank k (get_or t step.rank 0 + 1) 0 differs) (bound k member))
      (cases_eq k step.rank))

  steps_bound : (t : State) (states : List State) → Bound t → AreSteps (can_move reading groups later) t states → Bound (last_state t states)
  steps_bound t [] bound steps = bound
  steps_bound t (u ∷ rest) bound steps = steps_bound u rest (step_bound t u bound steps.0) steps.1

  pub stands_no_later : (rank : ℕ) → set rank ≡ true → get_or (stands_of reading groups later) rank 0 ≤ get_or (stands_of reading groups recording) rank 0
  stands_no_later rank member =
      let new = (every_maximal_run_ends_at_the_stands reading groups later).1 in
      subst (λ (t : State). get_or t rank 0 ≤ get_or (stands_of reading groups recording) rank 0) new.is_reached.ends_there
      (steps_bound (start (length later)) new.is_reached.states (λ k member'. rw (get_start (length later) k) (omega arith)) new.is_reached.is_run rank member)

  pub stays_put : (rank : ℕ) → set rank ≡ true → slice_index (stands_of reading groups later) rank ≡ slice_index (stands_of reading groups recording) rank
  stays_put rank member =
      let old = (every_maximal_run_ends_at_the_stands reading groups recording).1 in
      let new = (every_maximal_run_ends_at_the_stands reading groups later).1 in
      let upper = stands_no_later rank member in
      let reached : IsReached (can_move reading groups later) (length later) (stands_of reading groups recording) =
      subst (λ (n : ℕ). IsReached (can_move reading groups later) n (stands_of reading groups recording)) h.same_ranks
      (record {
        states = old.is_reached.states;
        is_run = kept.steps_too reading groups recording later known fits h (start (length recording)) old.is_reached.states old.is_reached.is_run;
        ends_there = old.is_reached.ends_there;
      }) in
      let lower = (reached_below (can_move reading groups later) (length later) (stands_of reading groups recording) (stands_of reading groups later) (can_move_is_persistent reading groups later) new.is_stuck (reached_ranks (can_move reading groups later) (length later) (stands_of reading groups later) new.is_reached) reached).stands rank in
      omega (arith, upper, lower)

pub held_ranks_stay_by : HeldRanksStayBy
held_ranks_stay_by reading groups recording known rank fits held later h =
    stays_put reading groups recording later known fits h held.0 held.1 rank held.2
