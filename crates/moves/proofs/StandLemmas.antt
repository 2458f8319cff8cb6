-- What the stands of a recording say of its runs.
use Rattle.moves.specs.declared.reading.Reading.{Reading}
use Rattle.std.proofs.Common.{◌≡◌, ℕ, suc, ◌+◌, ◌<◌, ◌≤◌, ◌≢◌, true, false, Option, Some, None, List, [], ◌∷◌, length, map, get_or, refl, sym, ap, subst, ◌∙◌, ⊎_elim, arith, get_or-set_same, get_or-set_other}
use Rattle.std.specs.List.{slice_get}
use Rattle.std.specs.Option.{option_map_or}
use Rattle.std.proofs.lemmas.Option.{same_Some}
use Rattle.std.proofs.lemmas.Bool.{cases_eq, cases_Bool, false≢true}
use Rattle.mpicall.specs.Ending.{ends_list}
use Rattle.mpicall.specs.declared.call.Call.{Call}
use Rattle.mpigroup.specs.Groups.{Groups}
use Rattle.callstore.specs.Recordings.{Lists, calls_of, GoesOn}
use Rattle.moves.specs.Runs.{StandsNoLater, State, start, moved, Step, AreSteps, last_state, run_end, IsMaximal, IsReached, IsTheEnd, lowest_run}
use Rattle.moves.specs.Needs.{can_move}
use Rattle.moves.specs.Stands.{call_count, IsRunOver, end_over, lowest_run_over, stands_of, is_at_end, EveryMaximalRunEndsAtTheStands, NoRunBringsAStuckRankToItsEnd, EveryMaximalRunBringsTheOthers, LongerRecordingsLowerNoStand, NoCallBehindTheEndIsReached}
use Rattle.moves.proofs.RunLemmas.{steps_by_more, maximal_runs_end_alike, run_below, reached_below, reached_ranks, get_start}
use Rattle.moves.proofs.NeedLemmas.{can_move_is_persistent, can_move_is_bounded, can_pass, can_move_on}

same_ranks : (recording : Lists) → length (map length recording) ≡ length recording
same_ranks [] = refl
same_ranks (calls ∷ recording) = ap (λ (n : ℕ). suc n) (same_ranks recording)

pub every_maximal_run_ends_at_the_stands : EveryMaximalRunEndsAtTheStands
every_maximal_run_ends_at_the_stands reading groups recording =
    subst (λ (ranks : ℕ). IsMaximal (can_move reading groups recording) ranks (lowest_run (can_move reading groups recording) ranks (call_count recording))
    × IsTheEnd (can_move reading groups recording) ranks (run_end ranks (lowest_run (can_move reading groups recording) ranks (call_count recording))))
    (same_ranks recording)
    (maximal_runs_end_alike (can_move reading groups recording) (map length recording) (can_move_is_persistent reading groups recording) (can_move_is_bounded reading groups recording))

-- a rank that is not past its end stays so
passes_not : (reading : Reading) (groups : Groups) (recording : Lists) (s t : State) (rank place : ℕ) (end : Call) → slice_get (calls_of recording rank) place ≡ Some end → ends_list end ≡ true → get_or s rank 0 ≤ place → Step (can_move reading groups recording) s t → get_or t rank 0 ≤ place
passes_not reading groups recording s t rank place end is_there ends before step =
    rw step.moves_on
    (⊎_elim
    (λ (same : rank ≡ step.rank). moved_to groups recording s rank place end is_there ends before (rw same step.can_move) (rw same step.is_rank) step.rank same)
    (λ (other : rank ≢ step.rank). rw (get_or-set_other s step.rank rank (get_or s step.rank 0 + 1) 0 other) before)
    (cases_eq rank step.rank))
  where
    not_there : (groups : Groups) (recording : Lists) (s : State) (rank place : ℕ) (end : Call) → slice_get (calls_of recording rank) place ≡ Some end → ends_list end ≡ true → can_move reading groups recording s rank ≡ true → get_or s rank 0 ≢ place
    not_there groups recording s rank place end is_there ends can e =
        let pass = can_pass reading groups recording s rank can in
        let there : slice_get (calls_of recording rank) (get_or s rank 0) ≡ Some end = rw e is_there in
        let same : pass.call ≡ end = same_Some pass.call end (sym pass.is_present ∙ there) in
        false≢true (sym pass.is_no_end ∙ ap ends_list same ∙ ends)

    moved_to : (groups : Groups) (recording : Lists) (s : State) (rank place : ℕ) (end : Call) → slice_get (calls_of recording rank) place ≡ Some end → ends_list end ≡ true → get_or s rank 0 ≤ place → can_move reading groups recording s rank ≡ true → rank < length s → (other : ℕ) → rank ≡ other → get_or (moved s other) rank 0 ≤ place
    moved_to groups recording s rank place end is_there ends before can is_rank other same =
        let differs = not_there groups recording s rank place end is_there ends can in
        rw (← same) (rw (get_or-set_same s rank (get_or s rank 0 + 1) 0 is_rank) (omega arith))

steps_pass_not : (reading : Reading) (groups : Groups) (recording : Lists) (s : State) (states : List State) (rank place : ℕ) (end : Call) → slice_get (calls_of recording rank) place ≡ Some end → ends_list end ≡ true → get_or s rank 0 ≤ place → AreSteps (can_move reading groups recording) s states → get_or (last_state s states) rank 0 ≤ place
steps_pass_not reading groups recording s [] rank place end is_there ends before steps = before
steps_pass_not reading groups recording s (t ∷ rest) rank place end is_there ends before steps =
    steps_pass_not reading groups recording t rest rank place end is_there ends (passes_not reading groups recording s t rank place end is_there ends before steps.0) steps.1

pub no_call_behind_the_end_is_reached : NoCallBehindTheEndIsReached
no_call_behind_the_end_is_reached reading groups recording rank place end states is_run is_there ends =
    steps_pass_not reading groups recording (start (length recording)) states rank place end is_there ends (rw (get_start (length recording) rank) (omega arith)) is_run

-- the call of a rank that is at its end
pub record EndsThere (present : Option Call) : Type 0 where
  pub end : Call
  pub is_present : present ≡ Some end
  pub ends : ends_list end ≡ true

pub end_there : (present : Option Call) → option_map_or ends_list present false ≡ true → EndsThere present
end_there None h = absurd (false≢true h)
end_there (Some call) h = record { end = call; is_present = refl; ends = h }

-- a rank that some run brings to its end stands there
pub brought_to_its_end : (reading : Reading) (groups : Groups) (recording : Lists) (rank : ℕ) (states : List State) → IsRunOver reading groups recording states → is_at_end recording (end_over recording states) rank ≡ true → is_at_end recording (stands_of reading groups recording) rank ≡ true
brought_to_its_end reading groups recording rank states is_run there =
    let whole = every_maximal_run_ends_at_the_stands reading groups recording in
    let present = end_there (slice_get (calls_of recording rank) (get_or (end_over recording states) rank 0)) there in
    let below = run_below (can_move reading groups recording) (length recording) (stands_of reading groups recording) states (can_move_is_persistent reading groups recording) whole.1.is_stuck (reached_ranks (can_move reading groups recording) (length recording) (stands_of reading groups recording) whole.1.is_reached) is_run in
    let not_past = no_call_behind_the_end_is_reached reading groups recording rank (get_or (end_over recording states) rank 0) present.end (lowest_run_over reading groups recording) whole.0.is_run present.is_present present.ends in
    let same : get_or (end_over recording states) rank 0 ≡ get_or (stands_of reading groups recording) rank 0 = omega (arith, below.stands rank, not_past) in
    subst (λ (stand : ℕ). option_map_or ends_list (slice_get (calls_of recording rank) stand) false ≡ true) same there

pub no_run_brings_a_stuck_rank_to_its_end : NoRunBringsAStuckRankToItsEnd
no_run_brings_a_stuck_rank_to_its_end reading groups recording rank states is_run stuck =
    ⊎_elim
    (λ (there : is_at_end recording (end_over recording states) rank ≡ true). absurd (false≢true (sym stuck ∙ brought_to_its_end reading groups recording rank states is_run there)))
    (λ (not_there : is_at_end recording (end_over recording states) rank ≡ false). not_there)
    (cases_Bool (is_at_end recording (end_over recording states) rank))

pub every_maximal_run_brings_the_others : EveryMaximalRunBringsTheOthers
every_maximal_run_brings_the_others reading groups recording rank states maximal there =
    let same = (every_maximal_run_ends_at_the_stands reading groups recording).1.of_all states maximal in
    subst (λ (s : State). is_at_end recording s rank ≡ true) (sym same) there

-- what is reached over a recording is reached over each longer one
pub reached_on : (reading : Reading) (groups : Groups) (recording longer : Lists) (s : State) → GoesOn recording longer → IsReached (can_move reading groups recording) (length recording) s → IsReached (can_move reading groups longer) (length longer) s
reached_on reading groups recording longer s goes_on reached =
    subst (λ (ranks : ℕ). IsReached (can_move reading groups longer) ranks s) goes_on.same_ranks
    (record {
      states = reached.states;
      is_run = steps_by_more (can_move reading groups recording) (can_move reading groups longer) (λ t rank h. can_move_on reading groups recording longer t rank goes_on h) (start (length recording)) reached.states reached.is_run;
      ends_there = reached.ends_there;
    })

pub longer_recordings_lower_no_stand : LongerRecordingsLowerNoStand
longer_recordings_lower_no_stand reading groups recording longer goes_on =
    let old = every_maximal_run_ends_at_the_stands reading groups recording in
    let new = every_maximal_run_ends_at_the_stands reading groups longer in
    reached_below (can_move reading groups longer) (length longer) (stands_of reading groups recording) (stands_of reading groups longer) (can_move_is_persistent reading groups longer) new.1.is_stuck
    (reached_ranks (can_move reading groups longer) (length longer) (stands_of reading groups longer) new.1.is_reached)
    (reached_on reading groups recording longer (stands_of reading groups recording) goes_on old.1.is_reached)

-- no stand is past the last call, and a rank that can move has calls left
pub reached_within : (reading : Reading) (groups : Groups) (recording : Lists) (s : State) → IsReached (can_move reading groups recording) (length recording) s → StandsNoLater s (map length recording)
reached_within reading groups recording s reached =
    reached_below (can_move reading groups recording) (length recording) s (map length recording) (can_move_is_persistent reading groups recording)
    (λ rank is_rank.
    ⊎_elim
    (λ (can : can_move reading groups recording (map length recording) rank ≡ true). absurd (omega (arith, can_move_is_bounded reading groups recording (map length recording) rank can)))
    (λ (cannot : can_move reading groups recording (map length recording) rank ≡ false). cannot)
    (cases_Bool (can_move reading groups recording (map length recording) rank)))
    (same_ranks recording)
    reached
