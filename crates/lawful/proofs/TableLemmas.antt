-- What entries stand for are steps whose records start no request, or the one that the step says.
use Rattle.std.proofs.Common.{ℕ, Bool, true, false, if◌then◌else◌, Option, Some, None, List, [], ◌∷◌, ◌++◌, length, refl}
use Rattle.std.specs.Option.{option_map_or}
use Rattle.mpicall.specs.declared.call.Call.{Call}
use Rattle.mpicall.specs.declared.call.Call.TheVariants.{Coll, Dup, Split}
use Rattle.mpicall.specs.declared.call.Mode.{Mode}
use Rattle.mpicall.specs.declared.call.Mode.TheVariants.{Standard}
use Rattle.mpicall.specs.declared.call.Kind.{Kind}
use Rattle.mpicall.specs.declared.call.Kind.TheVariants as kind
use Rattle.journals.specs.Lines.{Line}
use Rattle.closing.specs.Called.{Called, Sent, Sends, StartsSend, Receives, StartsReceive, Exchanges, StartsExchange, Probes, ProbesMatching, ReceivesMatched, Waits, Tests, WaitsAny, WaitsSome, Collects, StartsCollective, Duplicates, StartsDuplicate, Splits, Makes, MakesOfGroup}
use Rattle.std.specs.Str.{bytes_eq}
use Rattle.closing.specs.Keys.{Key, group_of_key}
use Rattle.closing.specs.Entries.{Run, Placed}
use Rattle.closing.specs.Made.{key_made, wave_at}
use Rattle.closing.specs.Numbers.{rank_in}
use Rattle.closing.specs.Reported.{Message, is_gone}
use Rattle.closing.specs.Steps.{Id, Own, Whole, ReceiveHalf, Step, Does, Starts}
use Rattle.closing.specs.Endings.{number_at}
use Rattle.closing.specs.Entry.{Choice, Here, send, start_send, receive, start_receive, probe, start_collective, giving_line, bare_line, maker_by, wait_for_one, wait_for_any, is_past, here_at, does, does_both, starts, does_collective, unless_past, on_comm, on_none, steps_by, steps_of, chosen, kind_of, parent_group, parent_rank, brings, split_key, exchange, passes_tests, pass_test, wait_for_all}
use Rattle.lawful.proofs.RequestLemmas.{IsPlain, IsStart}
use Rattle.lawful.proofs.StepLemmas.{AreSaid}

-- ---- Lists of steps ----

pub said_if : (b : Bool) (xs ys : List Step) → AreSaid xs → AreSaid ys → AreSaid (if b then xs else ys)
said_if true xs ys first others = first
said_if false xs ys first others = others

pub said_append : (xs ys : List Step) → AreSaid xs → AreSaid ys → AreSaid (xs ++ ys)
said_append [] ys first others = others
said_append (x ∷ xs) ys first others = (first.0, said_append xs ys first.1 others)

said_or : (it : Option Message) (steps : Message → List Step) → ((message : Message) → AreSaid (steps message)) → AreSaid (option_map_or steps it [])
said_or None steps said = tt
said_or (Some message) steps said = said message

said_unless : (past : Bool) (steps : List Step) → AreSaid steps → AreSaid (unless_past past steps)
said_unless true steps said = tt
said_unless false steps said = said

-- ---- Makers ----

pub plain_if : (b : Bool) (first other : Call) → IsPlain first → IsPlain other → IsPlain (if b then first else other)
plain_if true first other is_first is_other = is_first
plain_if false first other is_first is_other = is_other

plain_dup : (comm new : ℕ) → IsPlain (Dup comm new)
plain_dup comm new = record { starts_none = refl; names_none = refl; completes_none = refl; goes_on = refl }

giving_plain : (run : Run) (placed : Placed) (comm : ℕ) (it : Called) (key : Key) (new : ℕ) → IsPlain (giving_line run placed comm it key new)
giving_plain run placed comm (Splits own (Some colour) split) key new = record { starts_none = refl; names_none = refl; completes_none = refl; goes_on = refl }
giving_plain run placed comm (Makes own) key new =
    plain_if (bytes_eq (group_of_key (length run) key) (parent_group run placed)) (Dup comm new)
    (Split comm (Some (parent_rank (parent_group run placed) (group_of_key (length run) key))) (rank_in run placed.rank key) (Some new))
    (plain_dup comm new) (record { starts_none = refl; names_none = refl; completes_none = refl; goes_on = refl })
giving_plain run placed comm _ key new = plain_dup comm new

bare_plain : (run : Run) (placed : Placed) (comm : ℕ) → IsPlain (bare_line run placed comm)
bare_plain run placed comm =
    plain_if (option_map_or (brings run) (wave_at placed) false) (Split comm None (split_key placed.called) None) (Coll comm kind.Barrier)
    (record { starts_none = refl; names_none = refl; completes_none = refl; goes_on = refl })
    (record { starts_none = refl; names_none = refl; completes_none = refl; goes_on = refl })

maker_plain : (run : Run) (placed : Placed) (comm : ℕ) (key : Option Key) (new : Option ℕ) → IsPlain (maker_by run placed comm key new)
maker_plain run placed comm (Some key) (Some new) = giving_plain run placed comm placed.called key new
maker_plain run placed comm None new = bare_plain run placed comm
maker_plain run placed comm (Some key) None = bare_plain run placed comm

-- ---- Calls on a communicator ----

said_does : (here : Here) (call : Call) (start : ℕ → Call) → IsPlain call → ((number : ℕ) → IsStart number (start number)) → AreSaid (does here call start)
said_does here call start plain is_start =
    said_if here.is_past (Starts (Whole here.line) start ∷ []) (Does call ∷ []) (is_start, tt) (plain, tt)

said_starts : (here : Here) (request : ℕ) (start : ℕ → Call) → ((number : ℕ) → IsStart number (start number)) → AreSaid (starts here request start)
said_starts here request start is_start = said_if (is_gone here.lines request) [] (Starts (Own request) start ∷ []) tt (is_start, tt)

pub send_starts : (mode : Mode) (comm : ℕ) (it : Sent) (number : ℕ) → IsStart number (start_send mode comm it number)
send_starts mode comm it number = record { starts_it = refl; names_none = refl; completes_none = refl; goes_on = refl }

receive_starts : (comm : ℕ) (it : Message) (number : ℕ) → IsStart number (start_receive comm it number)
receive_starts comm it number = record { starts_it = refl; names_none = refl; completes_none = refl; goes_on = refl }

collective_starts : (comm : ℕ) (kind : Kind) (number : ℕ) → IsStart number (start_collective comm kind number)
collective_starts comm kind number = record { starts_it = refl; names_none = refl; completes_none = refl; goes_on = refl }

said_probe : (here : Here) (it : Message) → AreSaid (unless_past here.is_past (Does (probe here.comm it) ∷ []))
said_probe here it = said_unless here.is_past (Does (probe here.comm it) ∷ []) (record { starts_none = refl; names_none = refl; completes_none = refl; goes_on = refl }, tt)

said_collective : (here : Here) (kind : Kind) → AreSaid (does_collective here kind)
said_collective here kind =
    said_does here (Coll here.comm kind) (start_collective here.comm kind)
    (record { starts_none = refl; names_none = refl; completes_none = refl; goes_on = refl }) (collective_starts here.comm kind)

said_both : (here : Here) (sent : Sent) (it : Message) → AreSaid (does_both here sent it)
said_both here sent it =
    said_if here.is_past
    (Starts (Whole here.line) (start_send Standard here.comm sent) ∷ Starts (ReceiveHalf here.line) (start_receive here.comm it) ∷ [])
    (Does (exchange here.comm sent it) ∷ [])
    (send_starts Standard here.comm sent, (receive_starts here.comm it, tt))
    (record { starts_none = refl; names_none = refl; completes_none = refl; goes_on = refl }, tt)

said_on_comm : (here : Here) (it : Called) → IsPlain here.maker → AreSaid (on_comm here it)
said_on_comm here (Sends mode sent) plain =
    said_does here (send mode here.comm sent) (start_send mode here.comm sent)
    (record { starts_none = refl; names_none = refl; completes_none = refl; goes_on = refl }) (send_starts mode here.comm sent)
said_on_comm here (StartsSend request mode sent) plain =
    said_starts here request (start_send mode here.comm sent) (send_starts mode here.comm sent)
said_on_comm here (Receives awaited) plain =
    said_or here.message _
    (λ it. said_does here (receive here.comm it) (start_receive here.comm it)
    (record { starts_none = refl; names_none = refl; completes_none = refl; goes_on = refl }) (receive_starts here.comm it))
said_on_comm here (StartsReceive request awaited) plain =
    said_or here.message _ (λ it. said_starts here request (start_receive here.comm it) (receive_starts here.comm it))
said_on_comm here (Exchanges sent awaited) plain = said_or here.message _ (λ it. said_both here sent it)
said_on_comm here (StartsExchange request received sent awaited) plain =
    said_append _ _
    (said_starts here request (start_send Standard here.comm sent) (send_starts Standard here.comm sent))
    (said_or here.message _ (λ it. said_starts here received (start_receive here.comm it) (receive_starts here.comm it)))
said_on_comm here (Probes awaited) plain = said_or here.message _ (λ it. said_probe here it)
said_on_comm here (ProbesMatching message awaited) plain =
    said_or here.message _ (λ it. said_append _ _ (said_probe here it) (receive_starts here.comm it, tt))
said_on_comm here (Collects collective own root) plain = said_collective here (kind_of collective root)
said_on_comm here (StartsCollective request collective own root) plain =
    said_starts here request (start_collective here.comm (kind_of collective root)) (collective_starts here.comm (kind_of collective root))
said_on_comm here (StartsDuplicate request own) plain =
    said_starts here request _ (collective_starts here.comm _)
said_on_comm here (MakesOfGroup group) plain = said_collective here _
said_on_comm here (Duplicates own) plain = (plain, tt)
said_on_comm here (Splits own colour key) plain = (plain, tt)
said_on_comm here (Makes own) plain = (plain, tt)
said_on_comm here _ plain = tt

-- ---- Waits ----

said_one : (wanted named : List Id) → AreSaid (wait_for_one wanted named)
said_one [] named = tt
said_one (one ∷ others) named = (tt, tt)

said_any : (lines : List Line) (requests wanted : List ℕ) → AreSaid (wait_for_any lines requests wanted)
said_any lines [] wanted = said_one _ _
said_any lines (request ∷ []) wanted = (tt, tt)
said_any lines (request ∷ other ∷ others) wanted = said_one _ _

said_on_none : (choice : Choice) (placed : Placed) (lines : List Line) (it : Called) → AreSaid (on_none choice placed lines it)
said_on_none choice placed lines (ReceivesMatched message) = (tt, tt)
said_on_none choice placed lines (Waits requests) = (tt, tt)
said_on_none choice placed lines (Tests requests) =
    said_if (passes_tests choice.tests choice.calls) (pass_test lines requests) (wait_for_all lines requests) (tt, (tt, tt)) (tt, tt)
said_on_none choice placed lines (WaitsAny requests) = said_any lines requests (chosen placed requests)
said_on_none choice placed lines (WaitsSome requests) = (tt, tt)
said_on_none choice placed lines _ = tt

-- ---- Entries ----

said_by : (run : Run) (choice : Choice) (placed : Placed) (comm : Option ℕ) → AreSaid (steps_by run choice placed comm)
said_by run choice placed (Some comm) =
    said_on_comm (here_at run choice placed comm) placed.called (maker_plain run placed comm (key_made run placed) _)
said_by run choice placed None =
    said_unless (is_past choice.calls placed) _ (said_on_none choice placed placed.journal.lines placed.called)

pub steps_said : (run : Run) (choice : Choice) (placed : Placed) → AreSaid (steps_of run choice placed)
steps_said run choice placed = said_by run choice placed (number_at run placed)
