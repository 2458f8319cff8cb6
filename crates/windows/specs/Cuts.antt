-- Cuts of a recording, and the two windows that a cut makes: recordings of the calls before it and of those after it.
-- How a recording is cut is this project's own; MPI says nothing of it. A request that was started before the cut and
-- is waited for after it (MPI 4.0, section 3.7) is started in the second window again.
use Rattle.mpicall.specs.Names.{Rank, Place, Request}
use Rattle.std.specs.Prelude.{◌+◌, ◌-◌, Bool, true, false, ◌&&◌, Option, Some, None, option_and_then, if◌then◌else◌, List, [], ◌∷◌, ◌++◌, length, map, take, drop}
use Rattle.std.specs.List.{list_any, range_with_len}
use Rattle.std.specs.Option.{option_map_or}
use Rattle.mpicall.specs.declared.call.Mode.TheVariants.{Standard}
use Rattle.mpicall.specs.declared.call.Peer.TheVariants.{Null}
use Rattle.mpicall.specs.declared.call.Call.{Call}
use Rattle.mpicall.specs.declared.call.Call.TheVariants.{Isend, Irecv, Finalize}
use Rattle.callstore.specs.Recordings.{Lists, calls_of}
use Rattle.callstore.specs.Requests.{starts, does_complete}
use Rattle.moves.specs.declared.need.Need.{Need}
use Rattle.moves.specs.declared.need.Need.TheVariants.{At, Lacking}

-- where a recording is cut: the place in each rank's list, and the rank's requests whose receives are moved into the
-- second window
pub record Cut : Type 0 where
  pub place : Rank → Place
  pub moves : Rank → Request → Bool

-- the calls of the rank that are before the cut
abbrev pub before_cut : Lists → Cut → Rank → List Call
before_cut whole cut rank = take (cut.place rank) (calls_of whole rank)

-- and those that are after it
abbrev pub after_cut : Lists → Cut → Rank → List Call
after_cut whole cut rank = drop (cut.place rank) (calls_of whole rank)

-- the request that the call starts, if it is still active after the calls that follow: none of them completes it
abbrev pub left_active : Call → List Call → Option Request
left_active call rest = option_and_then (λ req. if list_any (does_complete req) rest then None else Some req) (starts call)

-- the call starts a receive
abbrev pub starts_receive : Call → Bool
starts_receive (Irecv req comm source tag) = true
starts_receive _ = false

-- the call starts a receive that is moved: its request is still active after the calls that follow, and one of those
-- that are to be moved
abbrev pub is_moved : (Request → Bool) → Call → List Call → Bool
is_moved moves call rest = starts_receive call && option_map_or moves (left_active call rest) false

-- a start of the same request that meets nobody, in the place of a receive
abbrev pub without_peer : Call → Call
without_peer (Irecv req comm source tag) = Irecv req comm Null 0
without_peer call = call

-- the calls before the cut as the first window has them: in the place of a moved receive such a start
abbrev pub first_calls : (Request → Bool) → List Call → List Call
first_calls moves [] = []
first_calls moves (call ∷ rest) = (if is_moved moves call rest then without_peer call else call) ∷ first_calls moves rest

-- the first window: the calls before the cut, and MPI_Finalize
abbrev pub first_window : Lists → Cut → Lists
first_window whole cut =
    map (λ rank. first_calls (cut.moves rank) (before_cut whole cut rank) ++ Finalize ∷ []) (range_with_len 0 (length whole))

-- what stands in front of the second window for a request that is still active: the receive itself where it is moved,
-- else a start that meets nobody
abbrev pub started_again : (Request → Bool) → Call → List Call → List Call
started_again moves call rest =
    option_map_or (λ req. (if is_moved moves call rest then call else Isend req Standard 0 Null 0 None) ∷ []) (left_active call rest) []

-- the starts in front of the second window: one for each request that is active at the cut, in the order of their starts
abbrev pub front_calls : (Request → Bool) → List Call → List Call
front_calls moves [] = []
front_calls moves (call ∷ rest) = started_again moves call rest ++ front_calls moves rest

abbrev pub front_of : Lists → Cut → Rank → List Call
front_of whole cut rank = front_calls (cut.moves rank) (before_cut whole cut rank)

-- the second window: these starts, and the calls after the cut
abbrev pub second_window : Lists → Cut → Lists
second_window whole cut = map (λ rank. front_of whole cut rank ++ after_cut whole cut rank) (range_with_len 0 (length whole))

-- the place in the whole recording of a place that is after the front of the second window
abbrev pub place_in_whole : Lists → Cut → Rank → Place → Place
place_in_whole whole cut rank place = length (before_cut whole cut rank) + (place - length (front_of whole cut rank))

-- the need in the whole recording of a need in the second window
abbrev pub need_in_whole : Lists → Cut → Need → Need
need_in_whole whole cut (At rank place) = At rank (place_in_whole whole cut rank place)
need_in_whole whole cut (Lacking rank) = Lacking rank
