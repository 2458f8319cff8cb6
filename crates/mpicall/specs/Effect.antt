-- What a call does over its communicator: it sends a message, receives one (MPI 4.0, section 3.2) or waits for one
-- that it doesn't take (section 3.8), or it is a call of all members (chapters 6 and 7). The modes and the
-- nonblocking forms do the same (section 3.7).
use Rattle.mpicall.specs.Names.{Tag}
use Rattle.std.specs.Prelude.{Option, Some, None}
use Rattle.mpicall.specs.Spelling.{root_of}
use Rattle.mpicall.specs.declared.call.Peer.{Peer}
use Rattle.mpicall.specs.declared.call.Call.{Call}
use Rattle.mpicall.specs.declared.call.Call.TheVariants.{Send, Recv, Isend, Irecv, Sendrecv, Probe, Coll, Icoll, Dup, Split}
use Rattle.mpicall.specs.declared.effect.Side.{Side}
use Rattle.mpicall.specs.declared.effect.Effect.{Effect}
use Rattle.mpicall.specs.declared.effect.Effect.TheVariants.{PointToPoint, Joins, Local}

abbrev pub side : Peer → Tag → Option Side
side peer tag = Some (record { peer = peer; tag = tag })

-- what it sends, receives and probes for, each with the peer and the tag; or the root and the communicator that it
-- makes, of a call of all members
abbrev pub effect_of : Call → Effect
effect_of (Send mode comm dest tag bytes) = PointToPoint comm (side dest tag) None None
effect_of (Isend req mode comm dest tag bytes) = PointToPoint comm (side dest tag) None None
effect_of (Recv comm source tag) = PointToPoint comm None (side source tag) None
effect_of (Irecv req comm source tag) = PointToPoint comm None (side source tag) None
effect_of (Sendrecv comm dest send_tag source recv_tag bytes) = PointToPoint comm (side dest send_tag) (side source recv_tag) None
effect_of (Probe comm source tag) = PointToPoint comm None None (side source tag)
effect_of (Coll comm kind) = Joins comm (root_of kind) None
effect_of (Icoll req comm kind) = Joins comm (root_of kind) None
effect_of (Dup comm new) = Joins comm None (Some new)
effect_of (Split comm colour key new) = Joins comm None new
effect_of _ = Local
