-- What is known of how the lists of a run's journals go on, as the wait graph takes it: the calls that ranks were in, and
-- the receives of which it was never reported what they took.
use Rattle.mpicall.specs.Names.{Rank, Place}
use Rattle.std.specs.Prelude.{◌==◌, if◌then◌else◌, List, [], ◌∷◌, ◌++◌, length, map, flat_map, slice_index}
use Rattle.std.specs.List.{range_with_len}
use Rattle.mpigroup.specs.Groups.{Groups}
use Rattle.moves.specs.Stands.{stands_of}
use Rattle.moves.specs.declared.reading.Reading.{Reading}
use Rattle.callstore.specs.Recordings.{Lists, calls_of}
use Rattle.callstore.specs.Requests.{started_in}
use Rattle.waitgraph.specs.Pending.{Known, PendingView}
use Rattle.waitgraph.specs.PendingNeeds.{awaited_in, items_of}
use Rattle.waitgraph.specs.declared.awaited.Awaited.{Awaited}
use Rattle.waitgraph.specs.declared.awaited.Awaited.TheVariants as awaited
use Rattle.waitgraph.specs.declared.pending.Item.{Item}
use Rattle.waitgraph.specs.declared.pending.Item.TheVariants as item
use Rattle.waitgraph.specs.declared.pending.Sink.{Sink}
use Rattle.waitgraph.specs.declared.pending.Wanted.{Wanted}
use Rattle.closing.specs.Entries.{Run, ranks_of}
use Rattle.closing.specs.Entry.{Choice}
use Rattle.closing.specs.Pending.{PendingCall, pending_of, sinks_of}
use Rattle.closing.specs.Recording.{list_of}
use Rattle.closing.specs.declared.choice.Choice.{Choice as ChoiceMade}
use Rattle.closing.specs.declared.choice.Unreported.TheVariants as unreported
use Rattle.closing.specs.declared.pending.Item.{Item as OwnItem}
use Rattle.closing.specs.declared.pending.Item.TheVariants as own
use Rattle.closing.specs.declared.pending.Sink.{Sink as OwnSink}
use Rattle.closing.specs.declared.pending.Wanted.{Wanted as OwnWanted}
use Rattle.judging.specs.NamedCalls.{CallAt, call_at, calls_needed, calls_there}

-- how journals are judged: lists go on after receives whose messages aren't known
abbrev pub judged_choice : ChoiceMade → Choice
judged_choice it = record { tests = it.tests; calls = it.calls; unreported = unreported.Sinks }

abbrev pub wanted_as : OwnWanted → Wanted
wanted_as it = record { comm = it.comm; source = it.source; tag = it.tag }

abbrev pub item_as : OwnItem → Item
item_as (own.Message wanted) = item.Message (wanted_as wanted)
item_as (own.Request number) = item.Request number

abbrev pub call_as : PendingCall → PendingView
call_as it = record { is_all = it.is_for_all; items = map item_as it.items }

abbrev pub sink_as : Rank → OwnSink → Sink
sink_as rank it = record { rank = rank; place = it.place; wanted = wanted_as it.wanted }

-- of each rank its pending call, and the sinks of its list
abbrev pub known_of : Run → Choice → Known
known_of run choice = record {
  pending = map (λ rank. call_as (pending_of run choice rank)) (ranks_of run);
  sinks = flat_map (λ rank. map (sink_as rank) (sinks_of (list_of run choice rank))) (ranks_of run);
}

-- ---- Which calls a report names of a held rank at its open ----

abbrev pub calls_awaited : Awaited → List CallAt
calls_awaited (awaited.Call need) = calls_needed need
calls_awaited it = []

-- the start of the request that an item is
abbrev pub calls_of_item : Lists → Rank → Item → List CallAt
calls_of_item recording rank (item.Request req) = calls_there rank (started_in (calls_of recording rank) req)
calls_of_item recording rank (item.Message wanted) = []

-- the place of its open, the calls that it waits for, and the starts of the requests; none of a rank that awaits nothing there
abbrev pub calls_at_open : Lists → Known → List (List Awaited) → Rank → Place → List CallAt
calls_at_open recording known at_open rank place =
    if length (awaited_in at_open rank) == 0 then []
    else call_at rank place ∷ (flat_map calls_awaited (awaited_in at_open rank) ++ flat_map (calls_of_item recording rank) (items_of known rank))

-- those of all ranks
abbrev pub calls_at_opens : Reading → Groups → Lists → Known → List (List Awaited) → List CallAt
calls_at_opens reading groups recording known at_open =
    flat_map (λ rank. calls_at_open recording known at_open rank (slice_index (stands_of reading groups recording) rank)) (range_with_len 0 (length recording))
