-- What held ranks wait for where pending calls and sinks are known: what those at their open wait for, and what of it
-- can't come.
use Rattle.mpicall.specs.Names.{Rank, Place}
use Rattle.moves.specs.declared.reading.Reading.{Reading}
use Rattle.std.specs.Prelude.{◌≡◌, Bool, false, not, ◌&&◌, ◌||◌, ◌==◌, Option, None, is_some, if◌then◌else◌, List, [], ◌∷◌, ◌++◌, flat_map, length, map, slice_get, slice_index}
use Rattle.std.specs.List.{filter, list_any, range_with_len}
use Rattle.std.specs.Option.{option_map_or}
use Rattle.mpicall.specs.declared.call.Call.{Call}
use Rattle.mpigroup.specs.Groups.{Groups, or_empty}
use Rattle.callstore.specs.declared.envelope.Half.TheVariants.{Send as SendHalf, Recv as RecvHalf}
use Rattle.callstore.specs.Recordings.{Lists, calls_of}
use Rattle.callstore.specs.Requests.{starts, completes, started_in, started_before}
use Rattle.moves.specs.Needs.{half_needs, probe_needs, wave_needs, sends_freely, is_met, operation_needs_at}
use Rattle.moves.specs.Runs.{State}
use Rattle.moves.specs.Stands.{stands_of}
use Rattle.moves.specs.declared.need.Need.{Need}
use Rattle.moves.specs.declared.need.Need.TheVariants.{At}
use Rattle.pairing.specs.LeftOpen.{is_left_open, leaves_open}
use Rattle.waitgraph.specs.Held.{Set}
use Rattle.waitgraph.specs.Stuck.{needs_in_order}
use Rattle.waitgraph.specs.Pending.{Known, is_wanted, sink_for, sources_of, spares_to, ways_of}
use Rattle.waitgraph.specs.PendingHeld.{may_come, AreHeldBy}
use Rattle.waitgraph.specs.declared.awaited.Awaited.{Awaited}
use Rattle.waitgraph.specs.declared.awaited.Awaited.TheVariants as awaited
use Rattle.waitgraph.specs.declared.pending.Item.{Item}
use Rattle.waitgraph.specs.declared.pending.Item.TheVariants as item
use Rattle.waitgraph.specs.declared.pending.Sink.{Sink}
use Rattle.waitgraph.specs.declared.pending.Wanted.{Wanted}

-- what must be met for the need of a send to come: that the sink is reached that may take its message, and else the need
abbrev pub brought_by : Option Sink → Need → Need
brought_by sink need = option_map_or (λ one. At one.rank one.place) sink need

-- those of some needs that don't come
abbrev pub blocked : (Need → Bool) → List Need → List Need
blocked comes needs = filter (λ need. not (comes need)) needs

-- what doesn't come of what the operation of the call at the place needs
abbrev pub operation_blocks : (Need → Bool) → Reading → Groups → Lists → List Sink → Rank → Place → Call → List Need
operation_blocks comes reading groups recording sinks rank place call =
    blocked (λ need. comes (brought_by (sink_for groups recording sinks rank place) need)) (if sends_freely reading call then [] else half_needs groups recording rank place SendHalf call)
    ++ blocked comes (half_needs groups recording rank place RecvHalf call)
    ++ blocked comes (probe_needs groups recording rank place call)
    ++ blocked comes (wave_needs groups recording rank place)

-- of what a request needs: the operation of the call that started it
abbrev pub request_blocks : (Need → Bool) → Reading → Groups → Lists → List Sink → Rank → Option Place → List Need
request_blocks comes reading groups recording sinks rank start =
    option_map_or (λ place. option_map_or (operation_blocks comes reading groups recording sinks rank place) (slice_get (calls_of recording rank) place) []) start []

-- of what the call at the place needs
abbrev pub call_blocks : (Need → Bool) → Reading → Groups → Lists → List Sink → Rank → Place → Call → List Need
call_blocks comes reading groups recording sinks rank place call =
    if is_some (starts call) then []
    else operation_blocks comes reading groups recording sinks rank place call
    ++ flat_map (λ req. request_blocks comes reading groups recording sinks rank (started_before recording rank place req)) (completes call)

-- the rank is one of those from which the wanted message may come
abbrev pub is_source : Groups → Wanted → Rank → Bool
is_source groups wanted rank = list_any (λ source. source == rank) (sources_of groups wanted)

-- its list was left open, or it has a spare send of such a message to the other rank
abbrev pub may_send : Groups → Lists → Rank → Wanted → Rank → Bool
may_send groups recording rank wanted sender =
    is_left_open recording sender || list_any (λ spare. spare.sender == sender && is_wanted wanted spare) (spares_to groups recording rank)

-- it is held, another rank, and one that may send such a message
abbrev pub is_sender : Groups → Lists → Set → Rank → Wanted → Rank → Bool
is_sender groups recording held rank wanted sender =
    held sender && (not (sender == rank) && (is_source groups wanted sender && may_send groups recording rank wanted sender))

-- the ranks of which one would have to move on for the message to come
abbrev pub senders_of : Groups → Lists → Set → Rank → Wanted → List Rank
senders_of groups recording held rank wanted = filter (is_sender groups recording held rank wanted) (range_with_len 0 (length recording))

-- they are waited for; where there are none, nobody is
abbrev pub on_senders : List Rank → List Awaited
on_senders [] = awaited.Nobody ∷ []
on_senders (sender ∷ senders) = map awaited.Rank (sender ∷ senders)

-- what a message waits for that doesn't come
abbrev pub message_awaits : (Need → Bool) → Groups → Lists → Set → Rank → Wanted → List Awaited
message_awaits comes groups recording held rank wanted =
    if list_any comes (ways_of groups recording rank wanted) then [] else on_senders (senders_of groups recording held rank wanted)

-- what is awaited by an item: that, or the unmet needs of the request in order and each once
abbrev pub item_awaits : (Need → Bool) → Reading → Groups → Lists → State → Set → Rank → Item → List Awaited
item_awaits comes reading groups recording stands held rank (item.Message wanted) = message_awaits comes groups recording held rank wanted
item_awaits comes reading groups recording stands held rank (item.Request req) =
    map awaited.Call (needs_in_order (filter (λ need. not (is_met stands need)) (option_map_or (operation_needs_at reading groups recording rank) (started_in (calls_of recording rank) req) [])))

-- and what of it doesn't come
abbrev pub item_blocks : (Need → Bool) → Reading → Groups → Lists → List Sink → Set → Rank → Item → List Awaited
item_blocks comes reading groups recording sinks held rank (item.Message wanted) = message_awaits comes groups recording held rank wanted
item_blocks comes reading groups recording sinks held rank (item.Request req) =
    map awaited.Call (needs_in_order (request_blocks comes reading groups recording sinks rank (started_in (calls_of recording rank) req)))

-- the items of the rank's pending call
abbrev pub items_of : Known → Rank → List Item
items_of known rank = option_map_or (λ call. call.items) (slice_get known.pending rank) []

-- in a state the rank stands where its list was left open
abbrev pub is_at_open : Lists → State → Rank → Bool
is_at_open recording stands rank = option_map_or leaves_open (slice_get (calls_of recording rank) (slice_index stands rank)) false

-- what a held rank at its open waits for, item by item
abbrev pub awaited_at : Reading → Groups → Lists → Known → State → Set → Rank → List Awaited
awaited_at reading groups recording known stands held rank =
    if held rank && is_at_open recording stands rank
    then flat_map (item_awaits (may_come recording stands held) reading groups recording stands held rank) (items_of known rank)
    else []

-- what the rank's call needs and doesn't come
abbrev pub present_blocks : Reading → Groups → Lists → Known → State → Set → Rank → List Need
present_blocks reading groups recording known stands held rank =
    option_map_or (call_blocks (may_come recording stands held) reading groups recording known.sinks rank (slice_index stands rank))
    (slice_get (calls_of recording rank) (slice_index stands rank)) []

-- what the rank waits for and doesn't come, by its items or its call
abbrev pub blocks_at : Reading → Groups → Lists → Known → State → Set → Rank → List Awaited
blocks_at reading groups recording known stands held rank =
    if is_at_open recording stands rank
    then flat_map (item_blocks (may_come recording stands held) reading groups recording known.sinks held rank) (items_of known rank)
    else map awaited.Call (needs_in_order (present_blocks reading groups recording known stands held rank))

-- the first of it, by which a held rank is held
abbrev pub held_up_at : Reading → Groups → Lists → Known → State → Set → Rank → Option Awaited
held_up_at reading groups recording known stands held rank =
    if held rank then slice_get (blocks_at reading groups recording known stands held rank) 0 else None

-- the same at the stands
unfoldable pub awaited_of : Reading → Groups → Lists → Known → Set → Rank → List Awaited
awaited_of reading groups recording known = awaited_at reading groups recording known (stands_of reading groups recording)

unfoldable pub held_up_by : Reading → Groups → Lists → Known → Set → Rank → Option Awaited
held_up_by reading groups recording known = held_up_at reading groups recording known (stands_of reading groups recording)

-- what is awaited by the rank
abbrev pub awaited_in : List (List Awaited) → Rank → List Awaited
awaited_in awaits rank = or_empty awaits rank

-- this is awaited by each rank
abbrev pub ListsAwaited : Reading → Groups → Lists → Known → List (List Awaited) → Type 0
ListsAwaited reading groups recording known awaits =
    (held : Set) × AreHeldBy reading groups recording known held
    × ((rank : Rank) → awaited_in awaits rank ≡ awaited_of reading groups recording known held rank)
