-- What the search sees of a run: its calls and stands, and what is known of how lists go on.
use Rattle.mpicall.specs.Names.{Rank}
use Rattle.std.specs.Prelude.{◌≡◌, ℕ, ◌<◌, Bool, true, false, not, ◌&&◌, ◌==◌, if◌then◌else◌, Option, option_map, List, [], ◌∷◌, length, map, slice_get, vec_items}
use Rattle.std.specs.List.{filter, list_all, list_any, range_with_len}
use Rattle.std.specs.Option.{option_map_or}
use Rattle.mpicall.specs.declared.call.Call.{Call}
use Rattle.mpigroup.specs.Groups.{world_rank_of}
use Rattle.callstore.specs.Recordings.{Lists}
use Rattle.moves.specs.Needs.{sends_freely, member_need}
use Rattle.moves.specs.Worlds.{needs_for}
use Rattle.moves.specs.declared.need.Part.TheVariants.{Sent}
use Rattle.pairing.specs.Pairs.{completed_of}
use Rattle.moves.specs.Stands.{stands_of}
use Rattle.moves.specs.declared.need.Need.{Need}
use Rattle.moves.specs.declared.need.Need.TheVariants.{At, Lacking}
use Rattle.waitgraph.specs.Held.{Set, is_missing, is_blocked}
use Rattle.waitgraph.specs.Stuck.{rank_needed, needs_in_order}
use Rattle.waitgraph.specs.Pending.{Known, view_of, sink_for, send_needs, request_needs, is_wanted, spares_to, part_of, pass_all_or_one}
use Rattle.waitgraph.specs.PendingHeld.{may_come}
use Rattle.waitgraph.specs.PendingNeeds.{brought_by, blocked, items_of, awaited_at, present_blocks, blocks_at, held_up_at}
use Rattle.waitgraph.specs.inner.Held.{left_open_in}
use Rattle.waitgraph.specs.inner.Loose.{set_of}
use Rattle.waitgraph.specs.inner.Least.{SetRule}
use Rattle.waitgraph.specs.inner.PendingLoose.{others_of, frees, are_free, held_by_pending}
use Rattle.waitgraph.specs.declared.may_move.Scene.{Scene}
use Rattle.waitgraph.specs.declared.awaited.Awaited.{Awaited}
use Rattle.waitgraph.specs.declared.awaited.Awaited.TheVariants as awaited
use Rattle.waitgraph.specs.declared.next_hop.NextHop.{NextHop}
use Rattle.waitgraph.specs.declared.next_hop.NextHop.TheVariants.{To, Lacks, Nobody}
use Rattle.waitgraph.specs.inner.Causes.{Walks}
use Rattle.waitgraph.specs.declared.pending.Item.{Item}
use Rattle.waitgraph.specs.declared.pending.PendingCall.{PendingCall}
use Rattle.waitgraph.specs.declared.pending.Spare.{Spare}
use Rattle.waitgraph.specs.declared.pending.Wanted.{Wanted}

-- the ranks without a mark
abbrev pub staying : List Bool → Set
staying marks = others_of (length marks) (set_of marks)

abbrev pub blocks : Scene → List Bool → Need → Bool
blocks scene marks = is_blocked scene.world.now.pairs.recording (staying marks)

abbrev pub comes : Scene → List Bool → Need → Bool
comes scene marks = may_come scene.world.now.pairs.recording scene.stands.now (staying marks)

abbrev pub known_in : Scene → Known
known_in scene = record { pending = map view_of scene.pending.now; sinks = scene.sinks.now }

-- what the call at the place needs for the message that it sends
abbrev pub needs_of_send : Scene → ℕ × ℕ → Call → List Need
needs_of_send scene at call =
    if sends_freely scene.world.now.reading call then []
    else send_needs scene.world.now.pairs.groups scene.world.now.pairs.recording scene.sinks.now at.0 at.1 call

-- the spare sends to the rank, and those of them that it wants
abbrev pub spares_in : Scene → Rank → List Spare
spares_in scene rank = option_map_or vec_items (slice_get scene.spares.now rank) []

-- a pending call waits for something
abbrev pub is_asked : List PendingCall → Bool
is_asked pending = list_any (λ call. not (length (view_of call).items == 0)) pending

abbrev pub HasSpares : Scene → Type 0
HasSpares scene = (rank : ℕ) → rank < length scene.world.now.pairs.recording → spares_in scene rank ≡ spares_to scene.world.now.pairs.groups scene.world.now.pairs.recording rank

-- they are there where a pending call waits for something
abbrev pub HasSparesIfAsked : Scene → Type 0
HasSparesIfAsked scene = is_asked scene.pending.now ≡ true → HasSpares scene

-- whether each rank's list was left open
abbrev pub HasOpened : Scene → Type 0
HasOpened scene = scene.opened.now ≡ left_open_in scene.world.now.pairs.recording

abbrev pub spare_needs : Scene → Rank → Wanted → List Need
spare_needs scene rank wanted = map (λ spare. At spare.sender spare.place) (filter (is_wanted wanted) (spares_in scene rank))

-- one of them is reached, or may be
abbrev pub passes_spare : Scene → List Bool → Wanted → Spare → Bool
passes_spare scene marks wanted spare = is_wanted wanted spare && comes scene marks (At spare.sender spare.place)

-- further calls of those of the senders that are other ranks
abbrev pub source_needs : Rank → List Rank → List Need
source_needs rank senders = map Lacking (filter (λ sender. not (sender == rank)) senders)

-- what the wave needs of a member comes, by its rank in the group
abbrev pub member_passes : Scene → List Bool → ℕ → ℕ → ℕ → Bool
member_passes scene marks comm wave g =
    option_map_or (λ member. comes scene marks (member_need scene.world.now.pairs.recording comm wave member)) (world_rank_of scene.world.now.pairs.groups comm g) true

-- the member may go on to send
abbrev pub member_may_send : Scene → List Bool → Rank → ℕ → ℕ → Bool
member_may_send scene marks rank comm g =
    option_map_or (λ sender. list_any (comes scene marks) (source_needs rank (sender ∷ []))) (world_rank_of scene.world.now.pairs.groups comm g) false

-- the request with the index comes that the call at the place completes
abbrev pub index_passes : Scene → List Bool → ℕ × ℕ → ℕ → Bool
index_passes scene marks at index =
    list_all (comes scene marks) (request_needs scene.world.now.reading scene.world.now.pairs.groups scene.world.now.pairs.recording scene.sinks.now at.0 (completed_of scene.world.now.pairs.recording at.0 at.1 index))

-- the item comes
abbrev pub item_passes : Scene → List Bool → Rank → Item → Bool
item_passes scene marks rank item =
    pass_all_or_one (part_of scene.world.now.reading scene.world.now.pairs.groups scene.world.now.pairs.recording scene.sinks.now rank item).is_all (comes scene marks)
    (part_of scene.world.now.reading scene.world.now.pairs.groups scene.world.now.pairs.recording scene.sinks.now rank item).needs

-- what is seen is so: the stands are those of the recording, which lists were left open, and the spare
-- sends to each rank are there if some pending call waits for something
pub record IsScene (scene : Scene) : Type 0 where
  pub stands : scene.stands.now ≡ stands_of scene.world.now.reading scene.world.now.pairs.groups scene.world.now.pairs.recording
  pub opened : HasOpened scene
  pub spares : HasSparesIfAsked scene

-- who may move, who isn't held, and who is
abbrev pub frees_in : Scene → SetRule
frees_in scene = frees scene.world.now.reading scene.world.now.pairs.groups scene.world.now.pairs.recording (known_in scene)

abbrev pub free_in : Scene → Set
free_in scene = are_free scene.world.now.reading scene.world.now.pairs.groups scene.world.now.pairs.recording (known_in scene)

abbrev pub held_in : Scene → List ℕ
held_in scene = held_by_pending scene.world.now.reading scene.world.now.pairs.groups scene.world.now.pairs.recording (known_in scene)

-- the need of what the call at the place sends, if it doesn't come
abbrev pub sent_blocks : Scene → List Bool → ℕ × ℕ → Call → List Need
sent_blocks scene marks at call =
    blocked (λ need. comes scene marks (brought_by (sink_for scene.world.now.pairs.groups scene.world.now.pairs.recording scene.sinks.now at.0 at.1) need)) (needs_for scene.world.now at Sent call)

-- what the ranks without a mark wait for
abbrev pub items_in : Scene → Rank → List Item
items_in scene = items_of (known_in scene)

abbrev pub awaited_by : Scene → List Bool → Rank → List Awaited
awaited_by scene marks = awaited_at scene.world.now.reading scene.world.now.pairs.groups scene.world.now.pairs.recording (known_in scene) scene.stands.now (staying marks)

abbrev pub present_by : Scene → List Bool → Rank → List Need
present_by scene marks rank = needs_in_order (present_blocks scene.world.now.reading scene.world.now.pairs.groups scene.world.now.pairs.recording (known_in scene) scene.stands.now (staying marks) rank)

abbrev pub blocks_by : Scene → List Bool → Rank → List Awaited
blocks_by scene marks = blocks_at scene.world.now.reading scene.world.now.pairs.groups scene.world.now.pairs.recording (known_in scene) scene.stands.now (staying marks)

abbrev pub held_up_in : Scene → List Bool → Rank → Option Awaited
held_up_in scene marks = held_up_at scene.world.now.reading scene.world.now.pairs.groups scene.world.now.pairs.recording (known_in scene) scene.stands.now (staying marks)

-- where the walk goes on by what is awaited
abbrev pub hop_from_awaited : Lists → Awaited → NextHop
hop_from_awaited recording (awaited.Call need) = if is_missing recording need then Lacks (rank_needed need) else To (rank_needed need)
hop_from_awaited recording (awaited.Rank rank) = To rank
hop_from_awaited recording awaited.Nobody = Nobody

-- how it goes on from each rank
abbrev pub walks_by : Scene → List Bool → Walks
walks_by scene marks = map (λ rank. option_map (hop_from_awaited scene.world.now.pairs.recording) (held_up_in scene marks rank)) (range_with_len 0 (length scene.world.now.pairs.recording))
