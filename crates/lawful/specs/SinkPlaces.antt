-- Laws of the sinks of lists: each has its place, they are in order, and what comes after one takes no message of it.
use Rattle.std.specs.Prelude.{◌≡◌, ◌⊎◌, ◌<◌, ℕ, Bool, true, false, ◌&&◌, ◌==◌, Some, List, slice_get}
use Rattle.std.specs.Option.{option_map_or}
use Rattle.mpicall.specs.declared.call.Call.{Call}
use Rattle.mpicall.specs.declared.call.Call.TheVariants.{Irecv}
use Rattle.mpicall.specs.declared.call.Peer.TheVariants as peer
use Rattle.callstore.specs.declared.envelope.Half.TheVariants.{Recv as RecvHalf}
use Rattle.callstore.specs.declared.envelope.Message.{Message}
use Rattle.callstore.specs.Envelopes.{message_of, probed_message}
use Rattle.callstore.specs.Requests.{started_in}
use Rattle.closing.specs.Entries.{Run}
use Rattle.closing.specs.Entry.{Choice}
use Rattle.closing.specs.Pending.{sinks_of}
use Rattle.closing.specs.Recording.{calls_of, list_of}
use Rattle.closing.specs.declared.pending.Sink.{Sink}
use Rattle.closing.specs.declared.pending.Wanted.{Wanted}

-- in the sink's place stands the start of a receive from nobody, whose request is active at the end
pub record HasItsPlace (calls : List Call) (sink : Sink) : Type 0 where
  pub req : ℕ
  pub comm : ℕ
  pub tag : ℕ
  pub is_there : slice_get calls sink.place ≡ Some (Irecv req comm peer.Null tag)
  pub is_active : started_in calls req ≡ Some sink.place

-- Law: each sink of a list has its place.
abbrev pub EachSinkHasItsPlace : Type 0
EachSinkHasItsPlace =
    (run : Run) (choice : Choice) (rank index : ℕ) (sink : Sink) → slice_get (sinks_of (list_of run choice rank)) index ≡ Some sink →
    HasItsPlace (calls_of (list_of run choice rank)) sink

-- Law: they are in the order of their places.
abbrev pub SinksAreInOrder : Type 0
SinksAreInOrder =
    (run : Run) (choice : Choice) (rank index other : ℕ) (sink later : Sink) → index < other →
    slice_get (sinks_of (list_of run choice rank)) index ≡ Some sink →
    slice_get (sinks_of (list_of run choice rank)) other ≡ Some later → sink.place < later.place

-- the message may be one that is wanted
abbrev pub takes : Wanted → Message → Bool
takes wanted m =
    wanted.comm == m.comm
    && (option_map_or (λ one. one == m.peer) wanted.source true && option_map_or (λ one. one == m.tag) wanted.tag true)

-- the call receives the message, or probes for it
abbrev pub HasMessage : Call → Message → Type 0
HasMessage call m = (message_of RecvHalf call ≡ Some m) ⊎ (probed_message call ≡ Some m)

-- Law: no receive or probe after a sink is of a message that the sink may take.
abbrev pub NoneIsBehindASink : Type 0
NoneIsBehindASink =
    (run : Run) (choice : Choice) (rank index place : ℕ) (sink : Sink) (call : Call) (m : Message) →
    slice_get (sinks_of (list_of run choice rank)) index ≡ Some sink → sink.place < place →
    slice_get (calls_of (list_of run choice rank)) place ≡ Some call → HasMessage call m → takes sink.wanted m ≡ false
