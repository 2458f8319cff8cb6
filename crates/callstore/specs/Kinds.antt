-- How a call sends, and which kind of collective it is.
use Rattle.std.specs.Prelude.{ℕ, Option, Some, None}
use Rattle.mpicall.specs.declared.call.Mode.{Mode}
use Rattle.mpicall.specs.declared.call.Call.{Call}
use Rattle.mpicall.specs.declared.call.Call.TheVariants.{Send, Isend, Sendrecv, Coll}
use Rattle.mpicall.specs.declared.call.Kind.{Kind}

-- the mode of a call that sends, blocking or not
abbrev pub mode_of : Call → Option Mode
mode_of (Send mode comm dest tag bytes) = Some mode
mode_of (Isend req mode comm dest tag bytes) = Some mode
mode_of _ = None

-- how many bytes the message of a call that sends has, where the call says so
abbrev pub bytes_told : Call → Option ℕ
bytes_told (Send mode comm dest tag bytes) = bytes
bytes_told (Isend req mode comm dest tag bytes) = bytes
bytes_told (Sendrecv comm dest send_tag source recv_tag bytes) = bytes
bytes_told _ = None

-- the kind of a collective that isn't started alone
abbrev pub kind_of : Call → Option Kind
kind_of (Coll comm kind) = Some kind
kind_of _ = None
