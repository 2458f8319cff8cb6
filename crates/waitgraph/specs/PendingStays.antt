-- What stays where lists go on that were left open: sinks are met or not, pending calls come back or not, and after
-- them any calls come.
use Rattle.mpicall.specs.Names.{Rank, Place, Comm, Tag, Request}
use Rattle.moves.specs.declared.reading.Reading.{Reading}
use Rattle.std.specs.Prelude.{◌≡◌, ℕ, ◌<◌, ◌⊎◌, Bool, true, false, Some, option_and_then, List, [], ◌++◌, length, slice_get, slice_index}
use Rattle.mpicall.specs.declared.call.Call.{Call}
use Rattle.mpicall.specs.declared.call.Call.TheVariants.{Recv, Irecv, Probe, Wait, Waitall, Waitany, Open}
use Rattle.mpicall.specs.declared.call.Peer.TheVariants as peer
use Rattle.mpigroup.specs.Groups.{Groups}
use Rattle.callstore.specs.declared.envelope.Half.TheVariants.{Recv as RecvHalf}
use Rattle.callstore.specs.declared.envelope.Message.{Message}
use Rattle.callstore.specs.Envelopes.{message_of, probed_message}
use Rattle.callstore.specs.Recordings.{Lists, calls_of}
use Rattle.callstore.specs.Requests.{starts, completes, is_among, started_before, started_in}
use Rattle.moves.specs.Stands.{stands_of}
use Rattle.pairing.specs.LeftOpen.{is_left_open}
use Rattle.waitgraph.specs.Stays.{calls_before_open}
use Rattle.waitgraph.specs.Pending.{Known, PendingView, takes}
use Rattle.waitgraph.specs.PendingHeld.{IsHeldBy}
use Rattle.waitgraph.specs.declared.pending.Item.{Item}
use Rattle.waitgraph.specs.declared.pending.Item.TheVariants as item
use Rattle.waitgraph.specs.declared.pending.Sink.{Sink}
use Rattle.waitgraph.specs.declared.pending.Wanted.{Wanted}

-- in the sink's place is the start of a receive from nobody, whose request is active at the end
pub record HasItsPlace (recording : Lists) (sink : Sink) : Type 0 where
  pub req : Request
  pub comm : Comm
  pub tag : Tag
  pub is_there : slice_get (calls_of recording sink.rank) sink.place ≡ Some (Irecv req comm peer.Null tag)
  pub is_active : started_in (calls_of recording sink.rank) req ≡ Some sink.place

-- the rank's call at the place receives the message, or probes for it
abbrev pub HasMessage : Lists → Rank → Place → Message → Type 0
HasMessage recording rank place m =
    (option_and_then (message_of RecvHalf) (slice_get (calls_of recording rank) place) ≡ Some m)
    ⊎ (option_and_then probed_message (slice_get (calls_of recording rank) place) ≡ Some m)

-- the sinks fit the recording: each has its place, those of a rank are in order, and no receive or probe after a sink
-- is of a message that the sink may take
pub record FitsSinks (recording : Lists) (sinks : List Sink) : Type 0 where
  pub have_places : (index : ℕ) (sink : Sink) → slice_get sinks index ≡ Some sink → HasItsPlace recording sink
  pub in_order : (index other : ℕ) (sink later : Sink) → index < other → slice_get sinks index ≡ Some sink → slice_get sinks other ≡ Some later → sink.rank ≡ later.rank → sink.place < later.place
  pub none_behind : (index place : ℕ) (sink : Sink) (m : Message) → slice_get sinks index ≡ Some sink → sink.place < place → HasMessage recording sink.rank place m → takes sink.wanted m.comm m.peer m.tag ≡ false

-- the place is a sink's
pub record IsSinkAt (sinks : List Sink) (rank : Rank) (place : Place) : Type 0 where
  pub index : ℕ
  pub sink : Sink
  pub is_one : slice_get sinks index ≡ Some sink
  pub is_rank : sink.rank ≡ rank
  pub is_place : sink.place ≡ place

-- a sink that was met: in its place is a receive of a message that it takes, with the same request
pub record IsMet (sinks : List Sink) (rank : Rank) (place : Place) (before after : Call) : Type 0 where
  pub there : IsSinkAt sinks rank place
  pub req : Request
  pub comm : Comm
  pub source : Rank
  pub tag : Tag
  pub is_receive : after ≡ Irecv req comm (peer.Rank source) tag
  pub same_request : starts after ≡ starts before
  pub is_taken : takes there.sink.wanted comm source tag ≡ true

-- in the place of a call is the same, or what a sink was met by
abbrev pub IsFilled : List Sink → Rank → Place → Call → Call → Type 0
IsFilled sinks rank place before after = (after ≡ before) ⊎ IsMet sinks rank place before after

-- the calls in which a rank may be that comes back from a pending call
abbrev pub may_come_back : Call → Bool
may_come_back (Recv comm source tag) = true
may_come_back (Probe comm source tag) = true
may_come_back (Wait req) = true
may_come_back (Waitall reqs) = true
may_come_back (Waitany chosen reqs) = true
may_come_back _ = false

-- a wait at the place completes a receive that a sink was met by, of a message that is wanted
pub record CompletesSink (sinks : List Sink) (later : Lists) (rank : Rank) (place : Place) (call : Call) (wanted : Wanted) : Type 0 where
  pub req : Request
  pub start : Place
  pub started : Request
  pub comm : Comm
  pub source : Rank
  pub tag : Tag
  pub completes_it : is_among req (completes call) ≡ true
  pub is_started : started_before later rank place req ≡ Some start
  pub there : IsSinkAt sinks rank start
  pub is_receive : slice_get (calls_of later rank) start ≡ Some (Irecv started comm (peer.Rank source) tag)
  pub is_wanted : takes wanted comm source tag ≡ true

-- the call at the place receives a message that is wanted, or probes for one
pub record HasWanted (call : Call) (wanted : Wanted) : Type 0 where
  pub message : Message
  pub has_it : (message_of RecvHalf call ≡ Some message) ⊎ (probed_message call ≡ Some message)
  pub is_wanted : takes wanted message.comm message.peer message.tag ≡ true

-- the call at the place is over only once the item came
abbrev pub Brings : List Sink → Lists → Rank → Place → Call → Item → Type 0
Brings sinks later rank place call (item.Message wanted) = HasWanted call wanted ⊎ CompletesSink sinks later rank place call wanted
Brings sinks later rank place call (item.Request req) = is_among req (completes call) ≡ true

-- so it is with all of the items, or with one
abbrev pub BringsSo : (Item → Type 0) → Bool → List Item → Type 0
BringsSo brings true items = (index : ℕ) (one : Item) → slice_get items index ≡ Some one → brings one
BringsSo brings false items = (index : ℕ) × (one : Item) × (slice_get items index ≡ Some one) × brings one

-- the first call in the place of the rank's open: the list is open there again, or the pending call came back
abbrev pub ComesBack : List Sink → Lists → Rank → Place → Call → PendingView → Type 0
ComesBack sinks later rank place call pending =
    (call ≡ Open) ⊎ ((may_come_back call ≡ true) × BringsSo (Brings sinks later rank place call) pending.is_all pending.items)

-- The later recording has the same lists, in which some sinks are met, and other calls, or none, in the place of each
-- open. Where it is known in which call a rank was, the first of them is this call.
pub record GoesOnBy (recording : Lists) (known : Known) (later : Lists) : Type 0 where
  pub same_ranks : length recording ≡ length later
  pub filled : Rank → List Call
  pub more : Rank → List Call
  pub goes_on : (rank : Rank) → calls_of later rank ≡ filled rank ++ more rank
  pub same_length : (rank : Rank) → length (filled rank) ≡ length (calls_before_open recording rank)
  pub fills : (rank place : ℕ) (before after : Call) → slice_get (calls_before_open recording rank) place ≡ Some before → slice_get (filled rank) place ≡ Some after → IsFilled known.sinks rank place before after
  pub ended : (rank : Rank) → is_left_open recording rank ≡ false → more rank ≡ []
  pub comes_back : (rank : ℕ) (pending : PendingView) (first : Call) → is_left_open recording rank ≡ true → slice_get known.pending rank ≡ Some pending → 0 < length pending.items → slice_get (more rank) 0 ≡ Some first → ComesBack known.sinks later rank (length (filled rank)) first pending

-- the rank stands where it does
abbrev pub StaysPutBy : Reading → Groups → Lists → Known → Rank → Type 0
StaysPutBy reading groups recording known rank =
    (later : Lists) → GoesOnBy recording known later →
    slice_index (stands_of reading groups later) rank ≡ slice_index (stands_of reading groups recording) rank

-- and so does each of the ranks
abbrev pub StayPutBy : Reading → Groups → Lists → Known → List Rank → Type 0
StayPutBy reading groups recording known ranks =
    (index : ℕ) (rank : Rank) → slice_get ranks index ≡ Some rank → StaysPutBy reading groups recording known rank

-- Law: so does each held rank.
abbrev pub HeldRanksStayBy : Type 0
HeldRanksStayBy =
    (reading : Reading) (groups : Groups) (recording : Lists) (known : Known) (rank : ℕ) → FitsSinks recording known.sinks →
    IsHeldBy reading groups recording known rank → StaysPutBy reading groups recording known rank
