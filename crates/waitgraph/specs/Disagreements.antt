-- Waves whose members disagree: two of them call different operations, or name different roots, or one is in the blocking
-- call and another waits for the nonblocking one. MPI lets none of these match (MPI 4.0, sections 6.2 and 6.12), so such a
-- wave never completes. A nonblocking call that nothing waits for is like a blocking one: a recording of what was observed
-- has each blocking call that returned in this form.
use Rattle.mpicall.specs.Names.{Rank, Place, Comm, Wave, Request}
use Rattle.std.specs.Prelude.{ℕ, ◌==◌, Bool, true, false, not, ◌&&◌, ◌||◌, Option, Some, None, is_some, is_none, option_and_then, find, List, length, slice_get, slice_index}
use Rattle.std.specs.List.{list_any, range_with_len}
use Rattle.std.specs.Option.{option_map_or}
use Rattle.mpicall.specs.declared.call.Call.{Call}
use Rattle.mpicall.specs.declared.call.Call.TheVariants.{Coll, Icoll}
use Rattle.mpigroup.specs.Groups.{Groups, world_rank_of}
use Rattle.callstore.specs.Recordings.{Lists, calls_of}
use Rattle.callstore.specs.Requests.{starts, completes, started_in}
use Rattle.callstore.specs.Waves.{wave_of, place_in_wave}
use Rattle.pairing.specs.Pairs.{completed_of}
use Rattle.findings.specs.Findings.{same_word, root_of_call, group_ranks}
use Rattle.findings.specs.Places.{call_at, call_of_member}
use Rattle.moves.specs.Needs.{can_move}
use Rattle.moves.specs.Runs.{Rule}
use Rattle.moves.specs.declared.reading.Reading.{Reading}

-- a collective call in its blocking form
abbrev pub as_blocking : Call → Call
as_blocking (Icoll req comm kind) = Coll comm kind
as_blocking call = call

-- both calls name a root, and another one
abbrev pub roots_differ : Option Rank → Option Rank → Bool
roots_differ (Some first) (Some root) = not (first == root)
roots_differ first root = false

-- the calls are of different operations, or name different roots
abbrev pub differ : Call → Call → Bool
differ first call = not (same_word (as_blocking first) (as_blocking call)) || roots_differ (root_of_call first) (root_of_call call)

-- the member's call in the wave, if it has one, differs from this call
abbrev pub member_differs : Groups → Lists → Comm → Wave → Call → Rank → Bool
member_differs groups recording comm wave first g = option_map_or (differ first) (call_of_member groups recording comm wave g) false

-- the first member that has a call in the wave
abbrev pub first_caller : Groups → Lists → Comm → Wave → Option Rank
first_caller groups recording comm wave = find (λ g. is_some (call_of_member groups recording comm wave g)) (group_ranks groups comm)

-- its call
abbrev pub first_call : Groups → Lists → Comm → Wave → Option Call
first_call groups recording comm wave = option_and_then (call_of_member groups recording comm wave) (first_caller groups recording comm wave)

-- some member's call differs from the first one's
abbrev pub some_differs : Groups → Lists → Comm → Wave → Bool
some_differs groups recording comm wave =
    option_map_or (λ first. list_any (member_differs groups recording comm wave first) (group_ranks groups comm)) (first_call groups recording comm wave) false

-- the member's call in the wave blocks
abbrev pub member_blocks : Groups → Lists → Comm → Wave → Rank → Bool
member_blocks groups recording comm wave g = option_map_or (λ call. is_none (starts call)) (call_of_member groups recording comm wave g) false

-- the request that a call started at the place is completed later: it isn't active at the end of the list
abbrev pub is_completed : Lists → Rank → Place → Request → Bool
is_completed recording rank place req = not (option_map_or (λ start. start == place) (started_in (calls_of recording rank) req) false)

-- the call at the place starts a request that is completed later
abbrev pub is_waited_for : Lists → Rank → Place → Bool
is_waited_for recording rank place = option_map_or (is_completed recording rank place) (option_and_then starts (call_at recording rank place)) false

-- so does the rank's call in the wave, and that of the member
abbrev pub rank_waits : Lists → Comm → Wave → Rank → Bool
rank_waits recording comm wave rank = option_map_or (is_waited_for recording rank) (place_in_wave recording comm wave rank) false

abbrev pub member_waits : Groups → Lists → Comm → Wave → Rank → Bool
member_waits groups recording comm wave g = option_map_or (rank_waits recording comm wave) (world_rank_of groups comm g) false

-- the members of the wave disagree: in operation or root, or one blocks and another waits for a nonblocking call
abbrev pub disagrees : Groups → Lists → Comm → Wave → Bool
disagrees groups recording comm wave =
    some_differs groups recording comm wave
    || (list_any (member_blocks groups recording comm wave) (group_ranks groups comm)
    && list_any (member_waits groups recording comm wave) (group_ranks groups comm))

-- the call at the place is of a wave that disagrees
abbrev pub is_of_disagreement : Groups → Lists → Rank → Place → Bool
is_of_disagreement groups recording rank place =
    option_map_or (λ wave. disagrees groups recording wave.0 wave.1) (wave_of recording rank place) false

-- so is the call that started the request with the index, of those that the call at the place completes
abbrev pub completes_disagreement : Groups → Lists → Rank → Place → ℕ → Bool
completes_disagreement groups recording rank place index =
    option_map_or (is_of_disagreement groups recording rank) (completed_of recording rank place index) false

-- the call waits for a wave that disagrees: it is of one and doesn't only start it, or it completes the request of one
abbrev pub awaits_disagreement : Groups → Lists → Rank → Place → Call → Bool
awaits_disagreement groups recording rank place call =
    not (is_some (starts call))
    && (is_of_disagreement groups recording rank place
    || list_any (completes_disagreement groups recording rank place) (range_with_len 0 (length (completes call))))

-- so does the rank's call at the place
abbrev pub is_barred : Groups → Lists → Rank → Place → Bool
is_barred groups recording rank place = option_map_or (awaits_disagreement groups recording rank place) (slice_get (calls_of recording rank) place) false

-- A rank moves on as ever, but for calls that wait for a wave that disagrees: it never gets past one.
abbrev pub moves_agreed : Reading → Groups → Lists → Rule
moves_agreed reading groups recording stands rank =
    not (is_barred groups recording rank (slice_index stands rank)) && can_move reading groups recording stands rank
