-- The calls that are no operation and no wait: a name, and what follows it by the layout of the name.
use Rattle.std.specs.Prelude.{Option, Some, None, List, [], ◌∷◌}
use Rattle.mpicall.specs.Argument.{Argument, PeerOf, Colour, Key, New, comm_argument, tag_argument, bytes_arguments}
use Rattle.mpicall.specs.declared.call.Call.{Call}
use Rattle.mpicall.specs.declared.call.Call.TheVariants as call
use Rattle.mpicall.specs.declared.call_args.CallArgs.{CallArgs}
use Rattle.mpicall.specs.declared.call_args.CallArgs.TheVariants.{Nothing, Message, Exchange, Copy, Split}
use Rattle.mpicall.specs.declared.word.Name.{Name}
use Rattle.mpicall.specs.declared.word.Name.TheVariants as name

-- the name of a call and what follows it; none of an operation and of a wait
abbrev pub call_args_of : Call → Option (Name × CallArgs)
call_args_of (call.Sendrecv comm dest send_tag source recv_tag bytes) = Some (name.Sendrecv, Exchange comm dest send_tag source recv_tag bytes)
call_args_of (call.Dup comm new) = Some (name.Dup, Copy comm new)
call_args_of (call.Split comm colour key new) = Some (name.Split, Split comm colour key new)
call_args_of (call.Probe comm source tag) = Some (name.Probe, Message comm source tag)
call_args_of call.Finalize = Some (name.Finalize, Nothing)
call_args_of call.Open = Some (name.Open, Nothing)
call_args_of _ = None

-- and the call of these; none of a name and what doesn't go with it
abbrev pub call_by : Name → CallArgs → Option Call
call_by name.Sendrecv (Exchange comm dest send_tag source recv_tag bytes) =
    Some (call.Sendrecv comm dest send_tag source recv_tag bytes)
call_by name.Dup (Copy comm new) = Some (call.Dup comm new)
call_by name.Split (Split comm colour key new) = Some (call.Split comm colour key new)
call_by name.Probe (Message comm source tag) = Some (call.Probe comm source tag)
call_by name.Finalize Nothing = Some call.Finalize
call_by name.Open Nothing = Some call.Open
call_by _ _ = None

-- its arguments, in the order of its line
abbrev pub args_in_line : CallArgs → List Argument
args_in_line Nothing = []
args_in_line (Message comm source tag) = comm_argument comm ∷ PeerOf source ∷ tag_argument tag ∷ []
args_in_line (Exchange comm dest send_tag source recv_tag bytes) =
    comm_argument comm ∷ PeerOf dest ∷ tag_argument send_tag ∷ PeerOf source ∷ tag_argument recv_tag ∷ bytes_arguments bytes
args_in_line (Copy comm new) = comm_argument comm ∷ comm_argument new ∷ []
args_in_line (Split comm colour key new) = comm_argument comm ∷ Colour colour ∷ Key key ∷ New new ∷ []
