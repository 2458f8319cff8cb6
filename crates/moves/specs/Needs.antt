-- What a call waits for, by a reading of this project. A send is done once its receive is reached, also in
-- standard mode, which MPI 4.0 (section 3.4) allows to complete before, unless the reading lets it go at once;
-- a buffered send needs nothing (section 3.6). A receive is done once its send is reached (section 3.2.4). A collective is done
-- once every member has reached its call of the wave, rooted ones too: MPI allows a collective not to
-- synchronise (section 6.1), and no reading counts on either. A call that starts a request needs
-- nothing (section 3.7.2); a wait needs what the calls that it completes need (section 3.7.3). MPI_Probe needs
-- the send that the next receive of its envelope would get (section 3.8.1). MPI_Finalize is a rank's last call
-- (section 11.2.2), and the record of a list that was cut off is in its place: each needs nothing, and no
-- rank moves past it.
use Rattle.mpicall.specs.Names.{Rank, Place, Comm, Wave, Request}
use Rattle.moves.specs.declared.reading.Reading.{Reading}
use Rattle.std.specs.Prelude.{ℕ, Bool, false, true, not, ◌&&◌, ◌||◌, nat_le, Option, Some, None, unwrap_or, is_some, if◌then◌else◌, List, [], ◌∷◌, ◌++◌, map, flat_map, slice_get, slice_index}
use Rattle.std.specs.List.{list_all}
use Rattle.std.specs.Option.{option_map_or}
use Rattle.mpicall.specs.declared.call.Mode.TheVariants.{Standard, Buffered}
use Rattle.mpicall.specs.Ending.{ends_list}
use Rattle.mpicall.specs.declared.call.Call.{Call}
use Rattle.mpicall.specs.declared.call.Call.TheVariants.{Send, Isend, Sendrecv}
use Rattle.mpigroup.specs.Groups.{Groups, group_of, world_rank_of}
use Rattle.callstore.specs.declared.envelope.Half.{Half}
use Rattle.callstore.specs.declared.envelope.Half.TheVariants.{Send as SendHalf, Recv as RecvHalf}
use Rattle.callstore.specs.declared.envelope.Message.{Message}
use Rattle.callstore.specs.Recordings.{Lists, calls_of}
use Rattle.callstore.specs.Envelopes.{message_of, probed_message}
use Rattle.pairing.specs.Partners.{partner_of}
use Rattle.pairing.specs.Probed.{probed_of}
use Rattle.callstore.specs.Requests.{starts, completes, started_before}
use Rattle.callstore.specs.Waves.{place_in_wave, wave_of}
use Rattle.moves.specs.Readings.{is_eager}
use Rattle.moves.specs.Runs.{State, Rule}
use Rattle.moves.specs.declared.need.Need.{Need}
use Rattle.moves.specs.declared.need.Need.TheVariants.{At, Lacking}

-- the rank of the world of a peer; the peer's own number where it is no rank of the group, as in no
-- lawful recording
abbrev pub world_of : Groups → Comm → Rank → Rank
world_of groups comm peer = unwrap_or (world_rank_of groups comm peer) peer

-- what a message needs by one of its halves: that the partner is reached; where there is none, the peer
-- lacks it
abbrev pub half_need : Groups → Lists → Rank → Place → Half → Message → Need
half_need groups recording rank place half m =
    option_map_or (λ partner. At partner.0 partner.1) (partner_of groups recording rank place half) (Lacking (world_of groups m.comm m.peer))

-- the same of a half of a call; nothing where the call has no such message
abbrev pub half_needs : Groups → Lists → Rank → Place → Half → Call → List Need
half_needs groups recording rank place half call =
    option_map_or (λ m. half_need groups recording rank place half m ∷ []) (message_of half call) []

-- what a probe needs for its message: that the send is reached that it sees; where there is none, the source
-- lacks it
abbrev pub probe_need : Groups → Lists → Rank → Place → Message → Need
probe_need groups recording rank place m =
    option_map_or (λ sent. At sent.0 sent.1) (probed_of groups recording rank place) (Lacking (world_of groups m.comm m.peer))

-- the same of a call; nothing where it probes for no message
abbrev pub probe_needs : Groups → Lists → Rank → Place → Call → List Need
probe_needs groups recording rank place call =
    option_map_or (λ m. probe_need groups recording rank place m ∷ []) (probed_message call) []

-- what a wave needs of a member: that it has reached its call; where there is none, the member lacks it
abbrev pub member_need : Lists → Comm → Wave → Rank → Need
member_need recording comm wave member = option_map_or (At member) (place_in_wave recording comm wave member) (Lacking member)

-- what the call at the place needs of its wave: each member's call; nothing where it joins none
abbrev pub wave_needs : Groups → Lists → Rank → Place → List Need
wave_needs groups recording rank place =
    option_map_or (λ wave. map (member_need recording wave.0 wave.1) (group_of groups wave.0)) (wave_of recording rank place) []

-- the call sends in buffered mode (MPI 4.0, section 3.4)
abbrev pub is_buffered : Call → Bool
is_buffered (Send Buffered comm dest tag bytes) = true
is_buffered (Isend req Buffered comm dest tag bytes) = true
is_buffered _ = false

-- how many bytes a call sends in standard mode, where it says so
abbrev pub bytes_of : Call → Option ℕ
bytes_of (Send Standard comm dest tag bytes) = bytes
bytes_of (Isend req Standard comm dest tag bytes) = bytes
bytes_of (Sendrecv comm dest send_tag source recv_tag bytes) = bytes
bytes_of _ = None

-- what the call sends needs nothing
abbrev pub sends_freely : Reading → Call → Bool
sends_freely reading call = is_buffered call || is_eager reading (bytes_of call)

-- what the operation of the call at the place needs before it is done, whether the call waits for it itself
-- or only starts it
abbrev pub operation_needs : Reading → Groups → Lists → Rank → Place → Call → List Need
operation_needs reading groups recording rank place call =
    (if sends_freely reading call then [] else half_needs groups recording rank place SendHalf call)
    ++ half_needs groups recording rank place RecvHalf call
    ++ probe_needs groups recording rank place call
    ++ wave_needs groups recording rank place

-- the same of the call at a place; nothing where there is none
abbrev pub operation_needs_at : Reading → Groups → Lists → Rank → Place → List Need
operation_needs_at reading groups recording rank place =
    option_map_or (operation_needs reading groups recording rank place) (slice_get (calls_of recording rank) place) []

-- what a request needs that a wait at the place completes: the operation that was started with it
abbrev pub request_needs : Reading → Groups → Lists → Rank → Place → Request → List Need
request_needs reading groups recording rank place req =
    option_map_or (operation_needs_at reading groups recording rank) (started_before recording rank place req) []

-- What the call at the place of the rank needs: a call that starts a request nothing, a wait what the
-- requests need that it completes, and any other call what its operation needs.
abbrev pub needs_of_call : Reading → Groups → Lists → Rank → Place → Call → List Need
needs_of_call reading groups recording rank place call =
    if is_some (starts call) then []
    else operation_needs reading groups recording rank place call ++ flat_map (request_needs reading groups recording rank place) (completes call)

-- what the rank's call at the place needs; nothing where there is none
abbrev pub needs_of : Reading → Groups → Lists → Rank → Place → List Need
needs_of reading groups recording rank place = option_map_or (needs_of_call reading groups recording rank place) (slice_get (calls_of recording rank) place) []

-- A rank has reached its calls up to the one at its stand. A need is met if its call is reached.
abbrev pub is_met : State → Need → Bool
is_met stands (At rank place) = nat_le place (slice_index stands rank)
is_met stands (Lacking rank) = false

-- a rank may pass a call that doesn't end its list
abbrev pub may_pass : Option Call → Bool
may_pass None = false
may_pass (Some call) = not (ends_list call)

-- A rank can move if its present call doesn't end its list and each of that call's needs is met.
abbrev pub can_move : Reading → Groups → Lists → Rule
can_move reading groups recording stands rank =
    may_pass (slice_get (calls_of recording rank) (slice_index stands rank))
    && list_all (is_met stands) (needs_of reading groups recording rank (slice_index stands rank))
