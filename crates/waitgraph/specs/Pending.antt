-- What ranks wait for where it is known in which call a rank was when its list was left open, its pending call, and
-- which receives a message may have met, the sinks. In its list a sink's place has a receive from nobody.
use Rattle.mpicall.specs.Names.{Rank, Place, Comm, Tag}
use Rattle.moves.specs.declared.reading.Reading.{Reading}
use Rattle.std.specs.Prelude.{Bool, true, false, not, ◌&&◌, ◌||◌, ◌==◌, Option, Some, None, option_and_then, option_to_list, is_some, is_none, find, if◌then◌else◌, List, [], ◌∷◌, ◌++◌, flat_map, length, map, slice_get, slice_index}
use Rattle.std.specs.List.{filter, filter_map, list_all, list_any, range_with_len}
use Rattle.std.specs.Option.{option_map_or}
use Rattle.mpicall.specs.declared.call.Call.{Call}
use Rattle.mpigroup.specs.Groups.{Groups, group_of, world_rank_of}
use Rattle.callstore.specs.declared.envelope.Envelope.{Envelope}
use Rattle.callstore.specs.declared.envelope.Half.TheVariants.{Send as SendHalf, Recv as RecvHalf}
use Rattle.callstore.specs.Recordings.{Lists, calls_of}
use Rattle.callstore.specs.Envelopes.{rank_of_half}
use Rattle.callstore.specs.Requests.{starts, completes, started_in, started_before}
use Rattle.moves.specs.Needs.{half_needs, probe_needs, wave_needs, sends_freely}
use Rattle.moves.specs.Stands.{stands_of}
use Rattle.moves.specs.declared.need.Need.{Need}
use Rattle.moves.specs.declared.need.Need.TheVariants.{At, Lacking}
use Rattle.pairing.specs.LeftOpen.{leaves_open}
use Rattle.pairing.specs.Partners.{envelope_at, partner_of}
use Rattle.waitgraph.specs.declared.pending.Item.{Item}
use Rattle.waitgraph.specs.declared.pending.Item.TheVariants as item
use Rattle.waitgraph.specs.declared.pending.PendingCall.{PendingCall}
use Rattle.waitgraph.specs.declared.pending.PendingCall.TheVariants as pending_call
use Rattle.waitgraph.specs.declared.pending.Sink.{Sink}
use Rattle.waitgraph.specs.declared.pending.Spare.{Spare}
use Rattle.waitgraph.specs.declared.pending.Wanted.{Wanted}

-- what contracts see of a pending call: whether it waits for all of its items or for any; without items nothing is known
pub record PendingView : Type 0 where
  pub is_all : Bool
  pub items : List Item

abbrev pub view_of : PendingCall → PendingView
view_of pending_call.Unknown = record { is_all = true; items = [] }
view_of (pending_call.All items) = record { is_all = true; items = items.items }
view_of (pending_call.Any items) = record { is_all = false; items = items.items }

-- what is known of how lists go on: the pending call of each rank, and the sinks
pub record Known : Type 0 where
  pub pending : List PendingView
  pub sinks : List Sink

-- nothing
abbrev pub none_known : Known
none_known = record { pending = []; sinks = [] }

-- a message with this communicator, source and tag is wanted
abbrev pub takes : Wanted → Comm → Rank → Tag → Bool
takes wanted comm source tag =
    wanted.comm == comm
    && (option_map_or (λ one. one == source) wanted.source true && option_map_or (λ one. one == tag) wanted.tag true)

-- the envelope of what the call at the place sends, where no receive has it: it is spare
abbrev pub spare_at : Groups → Lists → Rank → Place → Option Envelope
spare_at groups recording sender place =
    if is_none (partner_of groups recording sender place SendHalf) then envelope_at groups recording sender place SendHalf else None

-- a message of the envelope goes to the rank
abbrev pub goes_to : Groups → Rank → Envelope → Bool
goes_to groups rank e = option_map_or (λ dest. dest == rank) (rank_of_half groups RecvHalf e) false

-- the first of the sinks that may take a spare send
abbrev pub may_take : Groups → Envelope → Sink → Bool
may_take groups e sink = takes sink.wanted e.comm e.source e.tag && goes_to groups sink.rank e

abbrev pub sink_for : Groups → Lists → List Sink → Rank → Place → Option Sink
sink_for groups recording sinks sender place =
    find (λ sink. option_map_or (λ e. may_take groups e sink) (spare_at groups recording sender place) false) sinks

-- what a send needs: that this sink is reached, and else what it needs without sinks
abbrev pub send_needs : Groups → Lists → List Sink → Rank → Place → Call → List Need
send_needs groups recording sinks rank place call =
    option_map_or (λ sink. At sink.rank sink.place ∷ []) (sink_for groups recording sinks rank place) (half_needs groups recording rank place SendHalf call)

-- what the operation of the call at the place needs
abbrev pub operation_needs : Reading → Groups → Lists → List Sink → Rank → Place → Call → List Need
operation_needs reading groups recording sinks rank place call =
    (if sends_freely reading call then [] else send_needs groups recording sinks rank place call)
    ++ half_needs groups recording rank place RecvHalf call
    ++ probe_needs groups recording rank place call
    ++ wave_needs groups recording rank place

-- what a request needs: the operation of the call that started it
abbrev pub request_needs : Reading → Groups → Lists → List Sink → Rank → Option Place → List Need
request_needs reading groups recording sinks rank start =
    option_map_or (λ place. option_map_or (operation_needs reading groups recording sinks rank place) (slice_get (calls_of recording rank) place) []) start []

-- what the call at the place needs
abbrev pub call_needs : Reading → Groups → Lists → List Sink → Rank → Place → Call → List Need
call_needs reading groups recording sinks rank place call =
    if is_some (starts call) then []
    else operation_needs reading groups recording sinks rank place call
    ++ flat_map (λ req. request_needs reading groups recording sinks rank (started_before recording rank place req)) (completes call)

-- the ranks from which a wanted message may come
abbrev pub sources_of : Groups → Wanted → List Rank
sources_of groups wanted = option_map_or (λ source. option_to_list (world_rank_of groups wanted.comm source)) wanted.source (group_of groups wanted.comm)

-- the call at the place, if it sends the rank a spare message
abbrev pub spare_if : Groups → Rank → Rank → Place → Envelope → Option Spare
spare_if groups rank sender place e = if goes_to groups rank e then Some (record { sender = sender; place = place; envelope = e }) else None

abbrev pub spare_to : Groups → Lists → Rank → Rank → Place → Option Spare
spare_to groups recording rank sender place = option_and_then (spare_if groups rank sender place) (spare_at groups recording sender place)

-- the spare sends to the rank
abbrev pub spares_by : Groups → Lists → Rank → Rank → List Spare
spares_by groups recording rank sender = filter_map (spare_to groups recording rank sender) (range_with_len 0 (length (calls_of recording sender)))

abbrev pub spares_to : Groups → Lists → Rank → List Spare
spares_to groups recording rank = flat_map (spares_by groups recording rank) (range_with_len 0 (length recording))

abbrev pub is_wanted : Wanted → Spare → Bool
is_wanted wanted spare = takes wanted spare.envelope.comm spare.envelope.source spare.envelope.tag

-- what may bring a wanted message to the rank: a spare send, or a further call of another rank from which it may come
abbrev pub ways_of : Groups → Lists → Rank → Wanted → List Need
ways_of groups recording rank wanted =
    map (λ spare. At spare.sender spare.place) (filter (is_wanted wanted) (spares_to groups recording rank))
    ++ map Lacking (filter (λ sender. not (sender == rank)) (sources_of groups wanted))

-- what is waited for: that all of the needs are met, or one of them
pub record Part : Type 0 where
  pub is_all : Bool
  pub needs : List Need

-- and for all of the parts, or one of them
pub record Waited : Type 0 where
  pub is_all : Bool
  pub parts : List Part

-- an item: a message by one way, a request by all that it needs
abbrev pub part_of : Reading → Groups → Lists → List Sink → Rank → Item → Part
part_of reading groups recording sinks rank (item.Message wanted) =
    record { is_all = false; needs = ways_of groups recording rank wanted }
part_of reading groups recording sinks rank (item.Request req) =
    record { is_all = true; needs = request_needs reading groups recording sinks rank (started_in (calls_of recording rank) req) }

-- nothing
abbrev pub nothing : Waited
nothing = record { is_all = true; parts = [] }

-- a pending call: all of its items, or any
abbrev pub pending_waits : Reading → Groups → Lists → List Sink → Rank → PendingView → Waited
pending_waits reading groups recording sinks rank call = record {
  is_all = call.is_all || length call.items == 0;
  parts = map (part_of reading groups recording sinks rank) call.items;
}

-- the rank's call: a pending one where the list was left open, and any other by all that it needs
abbrev pub waited_by : Reading → Groups → Lists → Known → Rank → Place → Call → Waited
waited_by reading groups recording known rank place call =
    if leaves_open call then option_map_or (pending_waits reading groups recording known.sinks rank) (slice_get known.pending rank) nothing
    else record { is_all = true; parts = record { is_all = true; needs = call_needs reading groups recording known.sinks rank place call } ∷ [] }

-- what the rank waits for where it stands
abbrev pub waited_at : Reading → Groups → Lists → Known → Rank → Place → Waited
waited_at reading groups recording known rank place =
    option_map_or (waited_by reading groups recording known rank place) (slice_get (calls_of recording rank) place) nothing

abbrev pub waited_of : Reading → Groups → Lists → Known → Rank → Waited
waited_of reading groups recording known rank = waited_at reading groups recording known rank (slice_index (stands_of reading groups recording) rank)

-- all pass, or one does
abbrev pub pass_all_or_one : {A : Type 0} → Bool → (A → Bool) → List A → Bool
pass_all_or_one true passes xs = list_all passes xs
pass_all_or_one false passes xs = list_any passes xs

-- of what is waited for, so much passes that the wait is over
abbrev pub is_over : (Need → Bool) → Waited → Bool
is_over passes waited = pass_all_or_one waited.is_all (λ part. pass_all_or_one part.is_all passes part.needs) waited.parts
