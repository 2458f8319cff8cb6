-- Which kinds of calls come often. Nobody has to believe this: it says which path a call takes, and each path does the
-- same.
use Rattle.std.specs.Prelude.{ℕ}
use Rattle.callstore.specs.declared.hot.TheConstants.{ANY, SEND, RECV, ISEND, IRECV, COLL, WAIT, WAITALL}
use Rattle.mpicall.specs.declared.call.Call.{Call}
use Rattle.mpicall.specs.declared.call.Peer.TheVariants.{Rank}
use Rattle.mpicall.specs.declared.call.Call.TheVariants.{Send, Recv, Isend, Irecv, Coll, Wait, Waitall}

-- the number of a call's kind, that of any call where it has no path of its own
abbrev pub hot_kind : Call → ℕ
hot_kind (Send mode comm dest tag bytes) = SEND
hot_kind (Recv comm (Rank source) tag) = RECV
hot_kind (Isend req mode comm dest tag bytes) = ISEND
hot_kind (Irecv req comm source tag) = IRECV
hot_kind (Coll comm kind) = COLL
hot_kind (Wait req) = WAIT
hot_kind (Waitall reqs) = WAITALL
hot_kind _ = ANY
