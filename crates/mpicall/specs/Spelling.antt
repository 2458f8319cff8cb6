-- The spelling of a record: its word and its arguments, each after one space, and a line feed.
use Rattle.mpicall.specs.Names.{Rank}
use Rattle.std.specs.Prelude.{ℕ, Option, Some, None, List, [], ◌∷◌, ◌++◌, length, map}
use Rattle.std.specs.List.{join_with_byte}
use Rattle.mpicall.specs.Argument.{Argument, PeerOf, comm_argument, tag_argument, request_argument, bytes_arguments, root_argument, index_argument, spell}
use Rattle.mpicall.specs.CallArgs.{call_args_of, args_in_line}
use Rattle.mpicall.specs.Word.{text_of}
use Rattle.mpicall.specs.declared.call.Kind.{Kind}
use Rattle.mpicall.specs.declared.call.Kind.TheVariants.{Barrier, Bcast, Gather, Scatter, Reduce, Allgather, Alltoall, Allreduce, Scan, Exscan}
use Rattle.mpicall.specs.declared.call.Call.{Call}
use Rattle.mpicall.specs.declared.call.Call.TheVariants.{Send, Recv, Isend, Irecv, Wait, Waitall, Waitany, Coll, Icoll}
use Rattle.mpicall.specs.declared.call_args.CallArgs.{CallArgs}
use Rattle.mpicall.specs.declared.word.Collective.{Collective}
use Rattle.mpicall.specs.declared.word.Collective.TheVariants.{Barrier as BarrierName, Bcast as BcastName, Gather as GatherName, Scatter as ScatterName, Reduce as ReduceName, Allgather as AllgatherName, Alltoall as AlltoallName, Allreduce as AllreduceName, Scan as ScanName, Exscan as ExscanName}
use Rattle.mpicall.specs.declared.word.Operation.TheVariants.{Send as SendOperation, Recv as RecvOperation, Coll as CollOperation}
use Rattle.mpicall.specs.declared.word.Word.{Word}
use Rattle.mpicall.specs.declared.word.Word.TheVariants.{Blocking, Started, Named}
use Rattle.mpicall.specs.declared.word.Name.{Name}
use Rattle.mpicall.specs.declared.word.Name.TheVariants as name

-- the bytes between and after the fields
abbrev pub space : ℕ
space = 32

abbrev pub line_feed : ℕ
line_feed = 10

-- the collective of a kind, and the root of a rooted one
abbrev pub name_of : Kind → Collective
name_of Barrier = BarrierName
name_of (Bcast root) = BcastName
name_of (Gather root) = GatherName
name_of (Scatter root) = ScatterName
name_of (Reduce root) = ReduceName
name_of Allgather = AllgatherName
name_of Alltoall = AlltoallName
name_of Allreduce = AllreduceName
name_of Scan = ScanName
name_of Exscan = ExscanName

abbrev pub root_of : Kind → Option Rank
root_of (Bcast root) = Some root
root_of (Gather root) = Some root
root_of (Scatter root) = Some root
root_of (Reduce root) = Some root
root_of _ = None

abbrev pub root_arguments : Option ℕ → List Argument
root_arguments None = []
root_arguments (Some root) = root_argument root ∷ []

-- the line of a call that is no operation and no wait
abbrev pub args_line : Option (Name × CallArgs) → Word × List Argument
args_line (Some it) = (Named it.0, args_in_line it.1)
args_line None = (Named name.Finalize, [])

-- the line of a call: its word, and its arguments in their order
abbrev pub line_of : Call → Word × List Argument
line_of (Send mode comm dest tag bytes) = (Blocking (SendOperation mode), comm_argument comm ∷ PeerOf dest ∷ tag_argument tag ∷ bytes_arguments bytes)
line_of (Recv comm source tag) = (Blocking RecvOperation, comm_argument comm ∷ PeerOf source ∷ tag_argument tag ∷ [])
line_of (Isend req mode comm dest tag bytes) =
    (Started (SendOperation mode), request_argument req ∷ comm_argument comm ∷ PeerOf dest ∷ tag_argument tag ∷ bytes_arguments bytes)
line_of (Irecv req comm source tag) = (Started RecvOperation, request_argument req ∷ comm_argument comm ∷ PeerOf source ∷ tag_argument tag ∷ [])
line_of (Wait req) = (Named name.Wait, request_argument req ∷ [])
line_of (Waitall reqs) = (Named name.Waitall, map request_argument reqs)
line_of (Waitany chosen reqs) = (Named name.Waitany, index_argument (length reqs) chosen ∷ map request_argument reqs)
line_of (Coll comm kind) = (Blocking (CollOperation (name_of kind)), comm_argument comm ∷ root_arguments (root_of kind))
line_of (Icoll req comm kind) = (Started (CollOperation (name_of kind)), request_argument req ∷ comm_argument comm ∷ root_arguments (root_of kind))
line_of call = args_line (call_args_of call)

abbrev pub word_of_call : Call → Word
word_of_call call = (line_of call).0

abbrev pub arguments_of : Call → List Argument
arguments_of call = (line_of call).1

-- the fields of a call, its word first
abbrev pub fields_of : Call → List (List ℕ)
fields_of call = text_of (word_of_call call) ∷ map spell (arguments_of call)

-- the one line of a call
unfoldable pub spelling : Call → List ℕ
spelling call = join_with_byte space (fields_of call) ++ line_feed ∷ []
