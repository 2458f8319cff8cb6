-- What proofs and private contracts cite, in addition to the definitions of `specs/CallArgs.antt`.
use Rattle.std.specs.Prelude.{Bool, true, false, unwrap_or}
use Rattle.mpicall.specs.CallArgs.{call_by}
use Rattle.mpicall.specs.declared.call.Call.{Call}
use Rattle.mpicall.specs.declared.call.Call.TheVariants.{Recv}
use Rattle.mpicall.specs.declared.call.Call.TheVariants as call
use Rattle.mpicall.specs.declared.call.Peer.TheVariants.{Null}
use Rattle.mpicall.specs.declared.call_args.CallArgs.{CallArgs}
use Rattle.mpicall.specs.declared.call_args.CallArgs.TheVariants.{Nothing, Message, Exchange, Copy, Split}
use Rattle.mpicall.specs.declared.word.Layout.{Layout}
use Rattle.mpicall.specs.declared.word.Layout.TheVariants as layout
use Rattle.mpicall.specs.declared.word.Name.{Name}
use Rattle.mpicall.specs.declared.word.Name.TheVariants as name

-- its layout
abbrev pub layout_by : CallArgs → Layout
layout_by Nothing = layout.Nothing
layout_by (Message comm source tag) = layout.Message
layout_by (Exchange comm dest send_tag source recv_tag bytes) = layout.Exchange
layout_by (Copy comm new) = layout.Copy
layout_by (Split comm colour key new) = layout.Split

-- no wait has the layout
abbrev pub has_args : Layout → Bool
has_args layout.Request = false
has_args layout.Requests = false
has_args layout.Chosen = false
has_args _ = true

-- the call of a name and what follows it, as code answers it: of a name and what doesn't go with it a receive
-- from nobody. A packed call is a name and a layout, and what it is asked is proved for every value it may have.
abbrev pub call_from : Name → CallArgs → Call
call_from name it = unwrap_or (call_by name it) (Recv 0 Null 0)

-- the same, said for each name and without an option
abbrev pub call_without_option : Name → CallArgs → Call
call_without_option name.Sendrecv (Exchange comm dest send_tag source recv_tag bytes) = call.Sendrecv comm dest send_tag source recv_tag bytes
call_without_option name.Dup (Copy comm new) = call.Dup comm new
call_without_option name.Split (Split comm colour key new) = call.Split comm colour key new
call_without_option name.Probe (Message comm source tag) = call.Probe comm source tag
call_without_option name.Finalize Nothing = call.Finalize
call_without_option name.Open Nothing = call.Open
call_without_option _ _ = Recv 0 Null 0
