-- What an entry stands for in the trace, where it doesn't end its rank's list.
use Rattle.std.specs.Prelude.{ℕ, ◌-◌, ℤ, pos, negsuc, Bool, true, false, not, ◌==◌, Option, Some, None, is_some, option_and_then, if◌then◌else◌, List, [], ◌∷◌, ◌++◌, length, map, filter}
use Rattle.std.specs.List.{list_any, position_or_len}
use Rattle.std.specs.Option.{option_map_or}
use Rattle.std.specs.Str.{bytes_eq}
use Rattle.mpicall.specs.Word.{or_else}
use Rattle.mpicall.specs.declared.limits.TheConstants.{GREATEST_COLOUR}
use Rattle.mpicall.specs.declared.call.Call.{Call}
use Rattle.mpicall.specs.declared.call.Call.TheVariants.{Send, Recv, Isend, Irecv, Sendrecv, Probe, Coll, Icoll, Dup, Split}
use Rattle.mpicall.specs.declared.call.Mode.{Mode}
use Rattle.mpicall.specs.declared.call.Mode.TheVariants.{Standard}
use Rattle.mpicall.specs.declared.call.Kind.{Kind}
use Rattle.mpicall.specs.declared.call.Kind.TheVariants as kind
use Rattle.mpicall.specs.declared.call.Peer.{Peer}
use Rattle.mpicall.specs.declared.call.Peer.TheVariants.{Rank, Null}
use Rattle.mpicall.specs.declared.word.Collective.{Collective}
use Rattle.mpicall.specs.declared.word.Collective.TheVariants as coll
use Rattle.journals.specs.Lines.{Line}
use Rattle.journals.specs.Known.{report_of, requests_in, chosen_of}
use Rattle.journals.specs.declared.field.Field.{Field}
use Rattle.journals.specs.declared.field.Field.TheVariants.{Signed}
use Rattle.journals.specs.declared.word.Word.{Word}
use Rattle.journals.specs.declared.word.Word.TheVariants.{Call as CallLine}
use Rattle.journals.specs.declared.word.ReportWord.TheVariants as report
use Rattle.closing.specs.Called.{Called, Sent, Sends, StartsSend, Receives, StartsReceive, Exchanges, StartsExchange, Probes, ProbesMatching, ReceivesMatched, StartsMatched, Waits, Tests, WaitsAny, WaitsSome, Collects, StartsCollective, Duplicates, Splits, Makes, StartsDuplicate, MakesOfGroup, called}
use Rattle.closing.specs.Keys.{Key, group_of_key}
use Rattle.closing.specs.RankComms.{Wave}
use Rattle.closing.specs.Entries.{Run, Placed}
use Rattle.closing.specs.Made.{wave_at, keys_of_wave, key_made}
use Rattle.closing.specs.Numbers.{named_key, number_of, rank_in}
use Rattle.closing.specs.Reported.{Message, is_gone, is_left_out}
use Rattle.closing.specs.Steps.{Id, Own, Whole, ReceiveHalf, Step, Does, Starts, WaitsForAll, WaitsForOne, PutsOff}
use Rattle.closing.specs.Endings.{message_at, number_at}
use Rattle.closing.specs.declared.choice.Tests.{Tests as TestsChoice}
use Rattle.closing.specs.declared.choice.Tests.TheVariants as tests
use Rattle.closing.specs.declared.choice.Calls.{Calls}
use Rattle.closing.specs.declared.choice.Calls.TheVariants as calls
use Rattle.closing.specs.declared.choice.Unreported.{Unreported}

-- what the user chose, and what a receive stands for of which it was never reported what it took
pub record Choice : Type 0 where
  pub tests : TestsChoice
  pub calls : Calls
  pub unreported : Unreported

-- ---- Fields of the trace, of an entry that can be ----

abbrev pub peer : Field → Peer
peer (Signed (pos rank)) = Rank rank
peer _ = Null

abbrev pub tag : Field → ℕ
tag (Signed (pos number)) = number
tag _ = 0

abbrev pub root_in : Option ℤ → ℕ
root_in (Some (pos root)) = root
root_in _ = 0

abbrev pub kind_of : Collective → Option ℤ → Kind
kind_of coll.Barrier root = kind.Barrier
kind_of coll.Bcast root = kind.Bcast (root_in root)
kind_of coll.Gather root = kind.Gather (root_in root)
kind_of coll.Scatter root = kind.Scatter (root_in root)
kind_of coll.Reduce root = kind.Reduce (root_in root)
kind_of coll.Allgather root = kind.Allgather
kind_of coll.Alltoall root = kind.Alltoall
kind_of coll.Allreduce root = kind.Allreduce
kind_of coll.Scan root = kind.Scan
kind_of coll.Exscan root = kind.Exscan

-- a colour below 0 is written as that number plus 2147483648
abbrev pub colour_of : ℤ → ℕ
colour_of (pos colour) = colour
colour_of (negsuc n) = GREATEST_COLOUR - n

-- ---- Lines, each by its communicator's number ----

abbrev pub send : Mode → ℕ → Sent → Call
send mode comm it = Send mode comm (peer it.dest) (tag it.tag) it.bytes

abbrev pub start_send : Mode → ℕ → Sent → ℕ → Call
start_send mode comm it request = Isend request mode comm (peer it.dest) (tag it.tag) it.bytes

abbrev pub receive : ℕ → Message → Call
receive comm it = Recv comm (peer it.source) (tag it.tag)

abbrev pub start_receive : ℕ → Message → ℕ → Call
start_receive comm it request = Irecv request comm (peer it.source) (tag it.tag)

abbrev pub exchange : ℕ → Sent → Message → Call
exchange comm sent it = Sendrecv comm (peer sent.dest) (tag sent.tag) (peer it.source) (tag it.tag) sent.bytes

abbrev pub probe : ℕ → Message → Call
probe comm it = Probe comm (peer it.source) (tag it.tag)

abbrev pub start_collective : ℕ → Kind → ℕ → Call
start_collective comm kind request = Icoll request comm kind

-- ---- Makers of communicators ----

-- the wave brings some rank a communicator with a number
abbrev pub brings : Run → Wave → Bool
brings run wave = list_any (λ key. is_some (number_of run key)) (keys_of_wave run wave)

abbrev pub parent_rank : List ℕ → List ℕ → ℕ
parent_rank parent [] = 0
parent_rank parent (first ∷ others) = position_or_len (λ member. member == first) parent

-- the duplicate where the group is the parent's in its order, else the split by the parent's rank of the first member
abbrev pub made_line : Run → Placed → ℕ → List ℕ → Key → ℕ → Call
made_line run placed comm parent key new =
    if bytes_eq (group_of_key (length run) key) parent then Dup comm new
    else Split comm (Some (parent_rank parent (group_of_key (length run) key))) (rank_in run placed.rank key) (Some new)

abbrev pub parent_group : Run → Placed → List ℕ
parent_group run placed = option_map_or (group_of_key (length run)) (named_key placed) []

-- the call that gave this rank the communicator with this key and number
abbrev pub giving_line : Run → Placed → ℕ → Called → Key → ℕ → Call
giving_line run placed comm (Splits own (Some colour) key) made new = Split comm (Some (colour_of colour)) key (Some new)
giving_line run placed comm (Makes own) made new = made_line run placed comm (parent_group run placed) made new
giving_line run placed comm it made new = Dup comm new

abbrev pub split_key : Called → ℤ
split_key (Splits comm colour key) = key
split_key it = pos 0

-- one that gave this rank none with a number
abbrev pub bare_line : Run → Placed → ℕ → Call
bare_line run placed comm =
    if option_map_or (brings run) (wave_at placed) false then Split comm None (split_key placed.called) None
    else Coll comm kind.Barrier

abbrev pub maker_by : Run → Placed → ℕ → Option Key → Option ℕ → Call
maker_by run placed comm (Some key) (Some new) = giving_line run placed comm placed.called key new
maker_by run placed comm key new = bare_line run placed comm

abbrev pub maker : Run → Placed → ℕ → Call
maker run placed comm = maker_by run placed comm (key_made run placed) (option_and_then (number_of run) (key_made run placed))

-- ---- Requests ----

-- the message that a started matched receive takes
abbrev pub matched_by : ℕ → Called → Option ℕ
matched_by request (StartsMatched started message) = if started == request then Some message else None
matched_by request it = None

abbrev pub matched_in : ℕ → Word → List Field → Option ℕ
matched_in request (CallLine word) fields = matched_by request (called word fields)
matched_in request word fields = None

abbrev pub matched_message : List Line → ℕ → Option ℕ
matched_message [] request = None
matched_message (line ∷ lines) request = or_else (matched_in request line.word line.fields) (matched_message lines request)

-- a request stands for itself; that of a started matched receive for the message that it takes
abbrev pub id_of : List Line → ℕ → Id
id_of lines request = Own (option_map_or (λ message. message) (matched_message lines request) request)

abbrev pub starts_send_with : ℕ → Called → Bool
starts_send_with request (StartsSend started mode sent) = started == request
starts_send_with request (StartsExchange started received sent awaited) = started == request
starts_send_with request it = false

abbrev pub starts_send_in : ℕ → Word → List Field → Bool
starts_send_in request (CallLine word) fields = starts_send_with request (called word fields)
starts_send_in request word fields = false

-- the request is that of a send
abbrev pub is_of_send : List Line → ℕ → Bool
is_of_send lines request = list_any (λ line. starts_send_in request line.word line.fields) lines

-- what stands for some requests in a wait; nothing for those that were cancelled or are moved
abbrev pub ids_of : List Line → List ℕ → List Id
ids_of lines requests = map (id_of lines) (filter (λ request. not (is_left_out lines request)) requests)

abbrev pub wait_for_all : List Line → List ℕ → List Step
wait_for_all lines requests = WaitsForAll (ids_of lines requests) ∷ []

-- a test that completed sends is passed: the rank waits for them at its end
abbrev pub pass_test : List Line → List ℕ → List Step
pass_test lines requests =
    WaitsForAll (ids_of lines (filter (λ request. not (is_of_send lines request)) requests))
    ∷ PutsOff (ids_of lines (filter (is_of_send lines) requests)) ∷ []

-- tests are passed, and not as it went
abbrev pub passes_tests : TestsChoice → Calls → Bool
passes_tests tests.Pass calls.Strict = true
passes_tests _ _ = false

abbrev pub test : Choice → List Line → List ℕ → List Step
test choice lines requests =
    if passes_tests choice.tests choice.calls then pass_test lines requests else wait_for_all lines requests

-- the requests that a wait for any or some completed
abbrev pub chosen : Placed → List ℕ → List ℕ
chosen placed requests = chosen_of requests (requests_in (report_of report.Chose placed.entry))

abbrev pub wait_for_one : List Id → List Id → List Step
wait_for_one [] named = []
wait_for_one (wanted ∷ others) named = WaitsForOne wanted named ∷ []

abbrev pub wait_for_any : List Line → List ℕ → List ℕ → List Step
wait_for_any lines (request ∷ []) wanted = wait_for_all lines (request ∷ [])
wait_for_any lines requests wanted = wait_for_one (ids_of lines wanted) (ids_of lines requests)

-- ---- Entries ----

-- where an entry's call stands: the number of its communicator, of its line; whether it came back and so, as it went,
-- stands for what it started; its message, where it is known; what all calls of its wave make of it
pub record Here : Type 0 where
  pub comm : ℕ
  pub line : ℕ
  pub is_past : Bool
  pub lines : List Line
  pub message : Option Message
  pub maker : Call

abbrev pub unless_past : Bool → List Step → List Step
unless_past true steps = []
unless_past false steps = steps

-- this line, or what it starts
abbrev pub does : Here → Call → (ℕ → Call) → List Step
does here call start = if here.is_past then Starts (Whole here.line) start ∷ [] else Does call ∷ []

abbrev pub does_both : Here → Sent → Message → List Step
does_both here sent it =
    if here.is_past
    then Starts (Whole here.line) (start_send Standard here.comm sent) ∷ Starts (ReceiveHalf here.line) (start_receive here.comm it) ∷ []
    else Does (exchange here.comm sent it) ∷ []

-- nothing stands for a call whose request was cancelled
abbrev pub starts : Here → ℕ → (ℕ → Call) → List Step
starts here request start = if is_gone here.lines request then [] else Starts (Own request) start ∷ []

abbrev pub does_collective : Here → Kind → List Step
does_collective here it = does here (Coll here.comm it) (start_collective here.comm it)

abbrev pub starts_collective : Here → ℕ → Kind → List Step
starts_collective here request it = starts here request (start_collective here.comm it)

-- by the message; where it isn't known nothing stands for a receive or probe
abbrev pub knowing : Here → (Message → List Step) → List Step
knowing here steps = option_map_or steps here.message []

-- what a call on a communicator stands for
abbrev pub on_comm : Here → Called → List Step
on_comm here (Sends mode sent) = does here (send mode here.comm sent) (start_send mode here.comm sent)
on_comm here (StartsSend request mode sent) = starts here request (start_send mode here.comm sent)
on_comm here (Receives awaited) = knowing here (λ it. does here (receive here.comm it) (start_receive here.comm it))
on_comm here (StartsReceive request awaited) = knowing here (λ it. starts here request (start_receive here.comm it))
on_comm here (Exchanges sent awaited) = knowing here (λ it. does_both here sent it)
on_comm here (StartsExchange request received sent awaited) =
    starts here request (start_send Standard here.comm sent) ++ knowing here (λ it. starts here received (start_receive here.comm it))
on_comm here (Probes awaited) = knowing here (λ it. unless_past here.is_past (Does (probe here.comm it) ∷ []))
on_comm here (ProbesMatching message awaited) =
    knowing here (λ it. unless_past here.is_past (Does (probe here.comm it) ∷ []) ++ Starts (Own message) (start_receive here.comm it) ∷ [])
on_comm here (Collects collective own root) = does_collective here (kind_of collective root)
on_comm here (StartsCollective request collective own root) = starts_collective here request (kind_of collective root)
on_comm here (StartsDuplicate request own) = starts_collective here request kind.Barrier
on_comm here (MakesOfGroup group) = does_collective here kind.Barrier
on_comm here (Duplicates own) = Does here.maker ∷ []
on_comm here (Splits own colour key) = Does here.maker ∷ []
on_comm here (Makes own) = Does here.maker ∷ []
on_comm here it = []

-- what another call stands for: waits
abbrev pub on_none : Choice → Placed → List Line → Called → List Step
on_none choice placed lines (ReceivesMatched message) = wait_for_all lines (message ∷ [])
on_none choice placed lines (Waits requests) = wait_for_all lines requests
on_none choice placed lines (Tests requests) = test choice lines requests
on_none choice placed lines (WaitsAny requests) = wait_for_any lines requests (chosen placed requests)
on_none choice placed lines (WaitsSome requests) = wait_for_all lines (chosen placed requests)
on_none choice placed lines it = []

abbrev pub is_past : Calls → Placed → Bool
is_past calls.Went placed = placed.came_back
is_past calls.Strict placed = false

abbrev pub here_at : Run → Choice → Placed → ℕ → Here
here_at run choice placed comm = record {
  comm = comm;
  line = placed.line;
  is_past = is_past choice.calls placed;
  lines = placed.journal.lines;
  message = message_at placed;
  maker = maker run placed comm;
}

abbrev pub steps_by : Run → Choice → Placed → Option ℕ → List Step
steps_by run choice placed (Some comm) = on_comm (here_at run choice placed comm) placed.called
steps_by run choice placed None = unless_past (is_past choice.calls placed) (on_none choice placed placed.journal.lines placed.called)

abbrev pub steps_of : Run → Choice → Placed → List Step
steps_of run choice placed = steps_by run choice placed (number_at run placed)
