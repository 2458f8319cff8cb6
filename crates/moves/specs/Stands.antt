-- Where the ranks of a run come to stand by one of this project's readings of MPI, and what that says of
-- every run.
use Rattle.mpicall.specs.Names.{Rank}
use Rattle.moves.specs.declared.reading.Reading.{Reading}
use Rattle.std.specs.Prelude.{◌≡◌, ℕ, ◌≤◌, Bool, true, false, nat_lt, Some, List, length, map, slice_get, slice_index}
use Rattle.std.specs.Option.{option_map_or}
use Rattle.mpicall.specs.Ending.{ends_list}
use Rattle.mpicall.specs.declared.call.Call.{Call}
use Rattle.mpigroup.specs.Groups.{Groups}
use Rattle.callstore.specs.Recordings.{Lists, calls_of, GoesOn}
use Rattle.moves.specs.Runs.{State, IsRun, run_end, IsMaximal, IsTheEnd, StandsNoLater, total, lowest_run}
use Rattle.moves.specs.Readings.{is_no_laxer}
use Rattle.moves.specs.Needs.{can_move}

-- how many calls the recording has
abbrev pub call_count : Lists → ℕ
call_count recording = total (map length recording)

-- a run over a recording: each of its steps moves a rank whose present call needs nothing that is not reached
abbrev pub IsRunOver : Reading → Groups → Lists → List State → Type 0
IsRunOver reading groups recording states = IsRun (can_move reading groups recording) (length recording) states

-- the last state of a run over a recording
abbrev pub end_over : Lists → List State → State
end_over recording states = run_end (length recording) states

-- the run over a recording that always moves the lowest rank that can move
abbrev pub lowest_run_over : Reading → Groups → Lists → List State
lowest_run_over reading groups recording = lowest_run (can_move reading groups recording) (length recording) (call_count recording)

-- the stands of a recording: the last state of that run
abbrev pub stands_of : Reading → Groups → Lists → State
stands_of reading groups recording = end_over recording (lowest_run_over reading groups recording)

-- in a state, the rank's present call is the one that ends its list
abbrev pub is_at_end : Lists → State → Rank → Bool
is_at_end recording stands rank = option_map_or ends_list (slice_get (calls_of recording rank) (slice_index stands rank)) false

-- Law: over every recording, the run that always moves the lowest rank is maximal, and every maximal run
-- ends at the stands.
abbrev pub EveryMaximalRunEndsAtTheStands : Type 0
EveryMaximalRunEndsAtTheStands =
    (reading : Reading) (groups : Groups) (recording : Lists) →
    IsMaximal (can_move reading groups recording) (length recording) (lowest_run_over reading groups recording)
    × IsTheEnd (can_move reading groups recording) (length recording) (stands_of reading groups recording)

-- Law: a rank that is not at its end at the stands is brought there by no run, maximal or not.
abbrev pub NoRunBringsAStuckRankToItsEnd : Type 0
NoRunBringsAStuckRankToItsEnd =
    (reading : Reading) (groups : Groups) (recording : Lists) (rank : ℕ) (states : List State) → IsRunOver reading groups recording states →
    is_at_end recording (stands_of reading groups recording) rank ≡ false →
    is_at_end recording (end_over recording states) rank ≡ false

-- Law: a rank that is at its end at the stands is brought there by every maximal run.
abbrev pub EveryMaximalRunBringsTheOthers : Type 0
EveryMaximalRunBringsTheOthers =
    (reading : Reading) (groups : Groups) (recording : Lists) (rank : Rank) (states : List State) →
    IsMaximal (can_move reading groups recording) (length recording) states →
    is_at_end recording (stands_of reading groups recording) rank ≡ true →
    is_at_end recording (end_over recording states) rank ≡ true

-- Law: a longer recording lowers no stand.
abbrev pub LongerRecordingsLowerNoStand : Type 0
LongerRecordingsLowerNoStand =
    (reading : Reading) (groups : Groups) (recording longer : Lists) → GoesOn recording longer →
    StandsNoLater (stands_of reading groups recording) (stands_of reading groups longer)

-- Law: no run moves a rank past a call that ends its list, so a call after it is never reached.
abbrev pub NoCallBehindTheEndIsReached : Type 0
NoCallBehindTheEndIsReached =
    (reading : Reading) (groups : Groups) (recording : Lists) (rank place : ℕ) (call : Call) (states : List State) → IsRunOver reading groups recording states →
    slice_get (calls_of recording rank) place ≡ Some call → ends_list call ≡ true →
    slice_index (end_over recording states) rank ≤ place

-- the rank stands earlier in the first state
abbrev pub stands_earlier : State → State → Rank → Bool
stands_earlier s t rank = nat_lt (slice_index s rank) (slice_index t rank)

-- Law: under a reading that is no laxer no rank comes to stand later.
abbrev pub StricterReadingsStandNoLater : Type 0
StricterReadingsStandNoLater =
    (first second : Reading) (groups : Groups) (recording : Lists) (s t : State) → is_no_laxer first second ≡ true →
    IsTheEnd (can_move first groups recording) (length recording) s →
    IsTheEnd (can_move second groups recording) (length recording) t →
    StandsNoLater s t
