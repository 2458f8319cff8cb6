-- What a call line says, by its word: what each of its fields is.
use Rattle.std.specs.Prelude.{ℕ, ℤ, Option, Some, None, List, [], ◌∷◌}
use Rattle.std.specs.List.{filter_map}
use Rattle.mpicall.specs.declared.call.Mode.{Mode}
use Rattle.mpicall.specs.declared.call.Mode.TheVariants.{Standard, Synchronous, Buffered}
use Rattle.mpicall.specs.declared.word.Collective.{Collective}
use Rattle.mpicall.specs.declared.word.Collective.TheVariants as coll
use Rattle.journals.specs.declared.field.Field.{Field}
use Rattle.journals.specs.declared.field.Field.TheVariants.{Natural, Signed, Undefined}
use Rattle.journals.specs.declared.word.CallWord.{CallWord}
use Rattle.journals.specs.declared.word.CallWord.TheVariants as call

-- a message that is sent, and one that is received or probed for
pub record Sent : Type 0 where
  pub comm : ℕ
  pub dest : Field
  pub tag : Field
  pub bytes : Option ℕ

pub record Awaited : Type 0 where
  pub comm : ℕ
  pub source : Field
  pub tag : Field

-- the rank's own numbers of requests and messages come first
pub data Called : Type 0 where
  Sends : Mode → Sent → Called
  StartsSend : ℕ → Mode → Sent → Called
  Receives : Awaited → Called
  StartsReceive : ℕ → Awaited → Called
  Exchanges : Sent → Awaited → Called
  -- the requests of its send and of its receive
  StartsExchange : ℕ → ℕ → Sent → Awaited → Called
  Probes : Awaited → Called
  -- a matching probe, and a receive of the message that one took; with a request of its own where it is started
  ProbesMatching : ℕ → Awaited → Called
  ReceivesMatched : ℕ → Called
  StartsMatched : ℕ → ℕ → Called
  Waits : List ℕ → Called
  Tests : List ℕ → Called
  WaitsAny : List ℕ → Called
  WaitsSome : List ℕ → Called
  Cancels : ℕ → Called
  FreesRequest : ℕ → Called
  Collects : Collective → ℕ → Option ℤ → Called
  StartsCollective : ℕ → Collective → ℕ → Option ℤ → Called
  Duplicates : ℕ → Called
  StartsDuplicate : ℕ → ℕ → Called
  -- by colour and key
  Splits : ℕ → Option ℤ → ℤ → Called
  Makes : ℕ → Called
  MakesOfGroup : List ℕ → Called
  FreesComm : ℕ → Called
  Nothing Finalizes Exits Aborts Fills Stops Cuts : Called

-- ---- Fields that aren't those of a word, as no line of a journal has them, say nothing ----

abbrev pub natural_in : Field → Option ℕ
natural_in (Natural number) = Some number
natural_in _ = None

abbrev pub naturals_in : List Field → List ℕ
naturals_in fields = filter_map natural_in fields

abbrev pub bytes_in : List Field → Option ℕ
bytes_in (Natural bytes ∷ []) = Some bytes
bytes_in _ = None

abbrev pub sent : ℕ → Field → Field → List Field → Sent
sent comm dest tag bytes = record { comm = comm; dest = dest; tag = tag; bytes = bytes_in bytes }

abbrev pub awaited : ℕ → Field → Field → Awaited
awaited comm source tag = record { comm = comm; source = source; tag = tag }

abbrev pub sends : Mode → List Field → Called
sends mode (Natural comm ∷ dest ∷ tag ∷ bytes) = Sends mode (sent comm dest tag bytes)
sends mode _ = Nothing

abbrev pub starts_send : Mode → List Field → Called
starts_send mode (Natural request ∷ Natural comm ∷ dest ∷ tag ∷ bytes) = StartsSend request mode (sent comm dest tag bytes)
starts_send mode _ = Nothing

abbrev pub awaits : (Awaited → Called) → List Field → Called
awaits made (Natural comm ∷ source ∷ tag ∷ []) = made (awaited comm source tag)
awaits made _ = Nothing

abbrev pub starts_awaiting : (ℕ → Awaited → Called) → List Field → Called
starts_awaiting made (Natural number ∷ Natural comm ∷ source ∷ tag ∷ []) = made number (awaited comm source tag)
starts_awaiting made _ = Nothing

abbrev pub exchanges : List Field → Called
exchanges (Natural comm ∷ dest ∷ tag ∷ source ∷ other ∷ bytes) = Exchanges (sent comm dest tag bytes) (awaited comm source other)
exchanges _ = Nothing

abbrev pub starts_exchange : List Field → Called
starts_exchange (Natural request ∷ Natural received ∷ Natural comm ∷ dest ∷ tag ∷ source ∷ other ∷ bytes) =
    StartsExchange request received (sent comm dest tag bytes) (awaited comm source other)
starts_exchange _ = Nothing

abbrev pub one_number : (ℕ → Called) → List Field → Called
one_number made (Natural number ∷ []) = made number
one_number made _ = Nothing

abbrev pub two_numbers : (ℕ → ℕ → Called) → List Field → Called
two_numbers made (Natural first ∷ Natural second ∷ []) = made first second
two_numbers made _ = Nothing

abbrev pub rooted : Collective → List Field → Called
rooted collective (Natural comm ∷ Signed root ∷ []) = Collects collective comm (Some root)
rooted collective _ = Nothing

abbrev pub starts_rooted : Collective → List Field → Called
starts_rooted collective (Natural request ∷ Natural comm ∷ Signed root ∷ []) = StartsCollective request collective comm (Some root)
starts_rooted collective _ = Nothing

abbrev pub unrooted : Collective → List Field → Called
unrooted collective fields = one_number (λ comm. Collects collective comm None) fields

abbrev pub starts_unrooted : Collective → List Field → Called
starts_unrooted collective fields = two_numbers (λ request comm. StartsCollective request collective comm None) fields

abbrev pub splits : List Field → Called
splits (Natural comm ∷ Signed colour ∷ Signed key ∷ []) = Splits comm (Some colour) key
splits (Natural comm ∷ Undefined ∷ Signed key ∷ []) = Splits comm None key
splits _ = Nothing

-- ---- By the word ----

abbrev pub called : CallWord → List Field → Called
called call.Init fields = Nothing
called call.Finalize fields = Finalizes
called call.Abort fields = Aborts
called call.Exit fields = Exits
called call.Full fields = Fills
called call.Stopped fields = Stops
called call.Cut fields = Cuts
called call.Send fields = sends Standard fields
called call.Rsend fields = sends Standard fields
called call.Ssend fields = sends Synchronous fields
called call.Bsend fields = sends Buffered fields
called call.Isend fields = starts_send Standard fields
called call.Irsend fields = starts_send Standard fields
called call.Issend fields = starts_send Synchronous fields
called call.Ibsend fields = starts_send Buffered fields
called call.Recv fields = awaits Receives fields
called call.Irecv fields = starts_awaiting StartsReceive fields
called call.Sendrecv fields = exchanges fields
called call.Isendrecv fields = starts_exchange fields
called call.Probe fields = awaits Probes fields
called call.Iprobe fields = awaits Probes fields
called call.Mprobe fields = starts_awaiting ProbesMatching fields
called call.Improbe fields = starts_awaiting ProbesMatching fields
called call.Mrecv fields = one_number ReceivesMatched fields
called call.Imrecv fields = two_numbers StartsMatched fields
called call.Wait fields = Waits (naturals_in fields)
called call.Test fields = Tests (naturals_in fields)
called call.Waitany fields = WaitsAny (naturals_in fields)
called call.Waitsome fields = WaitsSome (naturals_in fields)
called call.Cancel fields = one_number Cancels fields
called call.RequestFree fields = one_number FreesRequest fields
called call.Barrier fields = unrooted coll.Barrier fields
called call.Bcast fields = rooted coll.Bcast fields
called call.Gather fields = rooted coll.Gather fields
called call.Scatter fields = rooted coll.Scatter fields
called call.Reduce fields = rooted coll.Reduce fields
called call.Allgather fields = unrooted coll.Allgather fields
called call.Alltoall fields = unrooted coll.Alltoall fields
called call.Allreduce fields = unrooted coll.Allreduce fields
called call.Scan fields = unrooted coll.Scan fields
called call.Exscan fields = unrooted coll.Exscan fields
called call.Ibarrier fields = starts_unrooted coll.Barrier fields
called call.Ibcast fields = starts_rooted coll.Bcast fields
called call.Igather fields = starts_rooted coll.Gather fields
called call.Iscatter fields = starts_rooted coll.Scatter fields
called call.Ireduce fields = starts_rooted coll.Reduce fields
called call.Iallgather fields = starts_unrooted coll.Allgather fields
called call.Ialltoall fields = starts_unrooted coll.Alltoall fields
called call.Iallreduce fields = starts_unrooted coll.Allreduce fields
called call.Iscan fields = starts_unrooted coll.Scan fields
called call.Iexscan fields = starts_unrooted coll.Exscan fields
called call.CommDup fields = one_number Duplicates fields
called call.CommIdup fields = two_numbers StartsDuplicate fields
called call.CommSplit fields = splits fields
called call.CommMake fields = one_number Makes fields
called call.CommCreateGroup fields = MakesOfGroup (naturals_in fields)
called call.CommFree fields = one_number FreesComm fields

-- ---- The communicator ----

-- the rank's own number of the communicator of a call that all its members make, each one of a wave
abbrev pub wave_comm : Called → Option ℕ
wave_comm (Collects collective comm root) = Some comm
wave_comm (StartsCollective request collective comm root) = Some comm
wave_comm (Duplicates comm) = Some comm
wave_comm (StartsDuplicate request comm) = Some comm
wave_comm (Splits comm colour key) = Some comm
wave_comm (Makes comm) = Some comm
wave_comm _ = None

-- that of the communicator that a call is on
abbrev pub comm_of : Called → Option ℕ
comm_of (Sends mode it) = Some it.comm
comm_of (StartsSend request mode it) = Some it.comm
comm_of (Receives it) = Some it.comm
comm_of (StartsReceive request it) = Some it.comm
comm_of (Exchanges it other) = Some it.comm
comm_of (StartsExchange request received it other) = Some it.comm
comm_of (Probes it) = Some it.comm
comm_of (ProbesMatching message it) = Some it.comm
comm_of it = wave_comm it
