-- Envelopes (MPI 4.0, section 3.2.3): a message carries its communicator, its source and destination,
-- which are ranks of the communicator's group, and its tag. A call may have a half that sends a message
-- (section 3.2.1) and a half that receives one (section 3.2.4); MPI_Sendrecv has both (section 3.10). The
-- modes and the nonblocking forms send and receive alike (section 3.7: either form meets either). A call
-- whose peer is MPI_PROC_NULL has no message (section 3.11).
use Rattle.mpicall.specs.Names.{Rank, Comm, Tag}
use Rattle.std.specs.Prelude.{◌==◌, Bool, false, ◌&&◌, Option, Some, None, option_map, option_and_then}
use Rattle.std.specs.Option.{option_map_or}
use Rattle.mpicall.specs.Effect.{effect_of}
use Rattle.mpicall.specs.declared.call.Peer.{Peer}
use Rattle.mpicall.specs.declared.call.Peer.TheVariants as peer
use Rattle.mpicall.specs.declared.effect.Side.{Side}
use Rattle.mpicall.specs.declared.effect.Effect.{Effect}
use Rattle.mpicall.specs.declared.effect.Effect.TheVariants.{PointToPoint}
use Rattle.mpicall.specs.declared.call.Call.{Call}
use Rattle.mpigroup.specs.Groups.{Groups, world_rank_of, group_rank_of}
use Rattle.callstore.specs.declared.envelope.Envelope.{Envelope}
use Rattle.callstore.specs.declared.envelope.Half.{Half}
use Rattle.callstore.specs.declared.envelope.Half.TheVariants.{Send as SendHalf, Recv as RecvHalf}
use Rattle.callstore.specs.declared.envelope.Message.{Message}

-- the half that a message's other end has
abbrev pub other_half : Half → Half
other_half SendHalf = RecvHalf
other_half RecvHalf = SendHalf

-- a message over a communicator, by what a call says of its other end; none where that is MPI_PROC_NULL
abbrev pub message : Comm → Side → Option Message
message comm side = by_peer comm side.peer side.tag
  where
    by_peer : Comm → Peer → Tag → Option Message
    by_peer comm (peer.Rank peer) tag = Some (record { comm = comm; peer = peer; tag = tag })
    by_peer comm peer.Null tag = None

-- the message that is sent or received
abbrev pub message_by : Half → Effect → Option Message
message_by SendHalf (PointToPoint comm sent received probed) = option_and_then (message comm) sent
message_by RecvHalf (PointToPoint comm sent received probed) = option_and_then (message comm) received
message_by _ _ = None

-- the message that a half of a call sends or receives: its communicator, peer and tag. None where the
-- call has no such half, and where its peer is MPI_PROC_NULL.
abbrev pub message_of : Half → Call → Option Message
message_of half call = message_by half (effect_of call)

-- the message that a call probes for; none where it is no probe, and where its source is MPI_PROC_NULL, which
-- returns at once
abbrev pub probed_message : Call → Option Message
probed_message call = probed_by_what (effect_of call)
  where
    probed_by_what : Effect → Option Message
    probed_by_what (PointToPoint comm sent received probed) = option_and_then (message comm) probed
    probed_by_what _ = None

-- the envelope of a message by the half that a member of the communicator's group has of it
abbrev pub envelope_by : Half → Message → Rank → Envelope
envelope_by SendHalf m own = record { comm = m.comm; source = own; dest = m.peer; tag = m.tag }
envelope_by RecvHalf m own = record { comm = m.comm; source = m.peer; dest = own; tag = m.tag }

-- The envelope of the message that a half of the rank's call sends or receives. None where the call has
-- no such message, and where the rank is not in the communicator's group.
abbrev pub envelope_of : Groups → Rank → Half → Call → Option Envelope
envelope_of groups rank half call =
    option_and_then (λ m. option_map (envelope_by half m) (group_rank_of groups m.comm rank)) (message_of half call)

abbrev pub same_envelope : Envelope → Envelope → Bool
same_envelope e f = e.comm == f.comm && (e.source == f.source && (e.dest == f.dest && e.tag == f.tag))

-- the rank of the world whose calls have that half of the envelope's messages, if there is one
abbrev pub rank_of_half : Groups → Half → Envelope → Option Rank
rank_of_half groups SendHalf e = world_rank_of groups e.comm e.source
rank_of_half groups RecvHalf e = world_rank_of groups e.comm e.dest

-- that half of the rank's call has the envelope
abbrev pub has_envelope : Groups → Rank → Half → Envelope → Call → Bool
has_envelope groups rank half e call = option_map_or (same_envelope e) (envelope_of groups rank half call) false
