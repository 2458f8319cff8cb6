-- How the fields of a line are read, and the record that a line without a fault spells. Nobody has to
-- believe this: `read_line` promises that `record_of_line` gives a record exactly where the line is its
-- spelling, and else the line's first fault.
use Rattle.std.specs.Prelude.{ℕ, ℤ, pos, Option, Some, None, Result, Ok, Err, option_map, unwrap_or, List, [], ◌∷◌, length, map, get_or, slice_get, drop}
use Rattle.mpicall.specs.Argument.{Argument, Number, PeerOf, Colour, Key, New, Form, request_argument, index_argument, read_argument}
use Rattle.mpicall.specs.Number.{value_of}
use Rattle.mpicall.specs.CallArgs.{call_by}
use Rattle.mpicall.specs.Word.{word_of, layout_of}
use Rattle.mpicall.specs.Line.{Shape, Fixed, Requests, Chosen, shape_of, fault_of_line}
use Rattle.mpicall.specs.Lines.{body_of, split_fields}
use Rattle.mpicall.specs.declared.call.Peer.{Peer}
use Rattle.mpicall.specs.declared.call.Peer.TheVariants.{Null}
use Rattle.mpicall.specs.declared.call.Kind.{Kind}
use Rattle.mpicall.specs.declared.call.Kind.TheVariants.{Barrier, Bcast, Gather, Scatter, Reduce, Allgather, Alltoall, Allreduce, Scan, Exscan}
use Rattle.mpicall.specs.declared.call.Call.{Call}
use Rattle.mpicall.specs.declared.call.Call.TheVariants.{Send, Recv, Isend, Irecv, Wait, Waitall, Waitany, Coll, Icoll, Finalize}
use Rattle.mpicall.specs.declared.call_args.CallArgs.{CallArgs}
use Rattle.mpicall.specs.declared.call_args.CallArgs.TheVariants.{Nothing, Message, Exchange, Copy, Split}
use Rattle.mpicall.specs.declared.word.Layout.{Layout}
use Rattle.mpicall.specs.declared.word.Layout.TheVariants as layout
use Rattle.mpicall.specs.declared.word.Collective.{Collective}
use Rattle.mpicall.specs.declared.word.Collective.TheVariants.{Barrier as BarrierName, Bcast as BcastName, Gather as GatherName, Scatter as ScatterName, Reduce as ReduceName, Allgather as AllgatherName, Alltoall as AlltoallName, Allreduce as AllreduceName, Scan as ScanName, Exscan as ExscanName}
use Rattle.mpicall.specs.declared.word.Operation.TheVariants.{Send as SendOperation, Recv as RecvOperation, Coll as CollOperation}
use Rattle.mpicall.specs.declared.word.Word.{Word}
use Rattle.mpicall.specs.declared.word.Word.TheVariants.{Blocking, Started, Named}
use Rattle.mpicall.specs.declared.word.Name.TheVariants as name
use Rattle.mpicall.specs.declared.fault.LineFault.{LineFault}

-- an argument that was read, and the fields after it
abbrev pub with_behind : List (List ℕ) → Option Argument → Option (Argument × List (List ℕ))
with_behind fields None = None
with_behind fields (Some argument) = Some (argument, fields)

-- the argument of the first of some fields, and the fields after it
abbrev pub next_argument : Form → List (List ℕ) → Option (Argument × List (List ℕ))
next_argument form [] = None
next_argument form (field ∷ fields) = with_behind fields (read_argument form field)

-- an argument before others that were taken
abbrev pub put_before : Argument → Option (List Argument × List (List ℕ)) → Option (List Argument × List (List ℕ))
put_before argument None = None
put_before argument (Some others) = Some (argument ∷ others.0, others.1)

-- the first argument, and what is taken of the fields after it
abbrev pub take_behind : Option (Argument × List (List ℕ)) → (List (List ℕ) → Option (List Argument × List (List ℕ))) → Option (List Argument × List (List ℕ))
take_behind None others = None
take_behind (Some first) others = put_before first.0 (others first.1)

-- the arguments of the first fields, and the fields after them
abbrev pub take_arguments : List Form → List (List ℕ) → Option (List Argument × List (List ℕ))
take_arguments [] fields = Some ([], fields)
take_arguments (form ∷ forms) fields = take_behind (next_argument form fields) (λ behind. take_arguments forms behind)

-- the number, the peer and so on of an argument that is one
abbrev pub numeral_in : Argument → ℕ
numeral_in (Number greatest n) = n
numeral_in _ = 0

abbrev pub peer_in : Argument → Peer
peer_in (PeerOf peer) = peer
peer_in _ = Null

abbrev pub colour_in : Argument → Option ℕ
colour_in (Colour colour) = colour
colour_in _ = None

abbrev pub key_in : Argument → ℤ
key_in (Key key) = key
key_in _ = pos 0

abbrev pub new_in : Argument → Option ℕ
new_in (New new) = new
new_in _ = None

-- one of some arguments
abbrev pub at : List Argument → ℕ → Argument
at arguments place = get_or arguments place (Number 0 0)

-- the number of one of some arguments, where there is one
abbrev pub number_at : List Argument → ℕ → Option ℕ
number_at arguments place = option_map numeral_in (slice_get arguments place)

abbrev pub kind_named : Collective → Argument → Kind
kind_named BarrierName root = Barrier
kind_named BcastName root = Bcast (numeral_in root)
kind_named GatherName root = Gather (numeral_in root)
kind_named ScatterName root = Scatter (numeral_in root)
kind_named ReduceName root = Reduce (numeral_in root)
kind_named AllgatherName root = Allgather
kind_named AlltoallName root = Alltoall
kind_named AllreduceName root = Allreduce
kind_named ScanName root = Scan
kind_named ExscanName root = Exscan

-- what follows a name of a layout, of its arguments
abbrev pub args_by : Layout → List Argument → CallArgs
args_by layout.Message a = Message (numeral_in (at a 0)) (peer_in (at a 1)) (numeral_in (at a 2))
args_by layout.Exchange a = Exchange (numeral_in (at a 0)) (peer_in (at a 1)) (numeral_in (at a 2)) (peer_in (at a 3)) (numeral_in (at a 4)) (number_at a 5)
args_by layout.Copy a = Copy (numeral_in (at a 0)) (numeral_in (at a 1))
args_by layout.Split a = Split (numeral_in (at a 0)) (colour_in (at a 1)) (key_in (at a 2)) (new_in (at a 3))
args_by _ a = Nothing

-- the call of a word and its arguments
abbrev pub call_of : Word → List Argument → Call
call_of (Blocking (SendOperation mode)) a = Send mode (numeral_in (at a 0)) (peer_in (at a 1)) (numeral_in (at a 2)) (number_at a 3)
call_of (Blocking RecvOperation) a = Recv (numeral_in (at a 0)) (peer_in (at a 1)) (numeral_in (at a 2))
call_of (Blocking (CollOperation name)) a = Coll (numeral_in (at a 0)) (kind_named name (at a 1))
call_of (Started (SendOperation mode)) a = Isend (numeral_in (at a 0)) mode (numeral_in (at a 1)) (peer_in (at a 2)) (numeral_in (at a 3)) (number_at a 4)
call_of (Started RecvOperation) a = Irecv (numeral_in (at a 0)) (numeral_in (at a 1)) (peer_in (at a 2)) (numeral_in (at a 3))
call_of (Started (CollOperation name)) a = Icoll (numeral_in (at a 0)) (numeral_in (at a 1)) (kind_named name (at a 2))
call_of (Named name.Wait) a = Wait (numeral_in (at a 0))
call_of (Named name.Waitall) a = Waitall (map numeral_in a)
call_of (Named name.Waitany) a = Waitany (numeral_in (at a 0)) (map numeral_in (drop 1 a))
call_of (Named other) a = unwrap_or (call_by other (args_by (layout_of other) a)) Finalize

-- the arguments that fields of a shape spell
abbrev pub taken : Option (List Argument × List (List ℕ)) → List Argument
taken None = []
taken (Some (arguments, behind)) = arguments

abbrev pub request_in : List ℕ → Argument
request_in field = request_argument (value_of field)

abbrev pub arguments_in : Shape → List (List ℕ) → List Argument
arguments_in (Fixed forms) fields = taken (take_arguments forms fields)
arguments_in Requests fields = map request_in fields
arguments_in Chosen [] = []
arguments_in Chosen (index ∷ fields) = index_argument (length fields) (value_of index) ∷ map request_in fields

abbrev pub call_by_word : Option Word → List (List ℕ) → Call
call_by_word None fields = Finalize
call_by_word (Some word) fields = call_of word (arguments_in (shape_of word (length fields)) fields)

unfoldable pub call_of_fields : List (List ℕ) → Call
call_of_fields [] = Finalize
call_of_fields (word ∷ fields) = call_by_word (word_of word) fields

abbrev pub call_unless : Option LineFault → Call → Result Call LineFault
call_unless None call = Ok call
call_unless (Some fault) call = Err fault

-- the record that a line spells, or its first fault
unfoldable pub record_of_line : List ℕ → Result Call LineFault
record_of_line line = call_unless (fault_of_line line) (call_of_fields (split_fields (body_of line)))
