-- What stands for an entry without the sinks before it starts no sink.
use Rattle.std.proofs.Common.{ℕ, Bool, true, false, Option, Some, None, List, [], ◌∷◌, ◌++◌}
use Rattle.std.specs.Prelude.{if◌then◌else◌}
use Rattle.std.specs.Option.{option_map_or}
use Rattle.mpicall.specs.declared.call.Call.{Call}
use Rattle.mpicall.specs.declared.call.Kind.TheVariants as kind
use Rattle.mpicall.specs.declared.call.Mode.TheVariants.{Standard}
use Rattle.journals.specs.Lines.{Line}
use Rattle.closing.specs.Called.{Called, Sent, Sends, StartsSend, Receives, StartsReceive, Exchanges, StartsExchange, Probes, ProbesMatching, ReceivesMatched, StartsMatched, Waits, Tests, WaitsAny, WaitsSome, Cancels, FreesRequest, Collects, StartsCollective, Duplicates, StartsDuplicate, Splits, Makes, MakesOfGroup, FreesComm, Nothing, Finalizes, Exits, Aborts, Fills, Stops, Cuts}
use Rattle.closing.specs.Endings.{number_at, why_at}
use Rattle.closing.specs.Entries.{Run, Placed}
use Rattle.closing.specs.Entry.{Choice, Here, chosen, does, does_both, here_at, ids_of, is_past, kind_of, knowing, on_comm, on_none, pass_test, passes_tests, probe, receive, send, start_collective, start_receive, start_send, starts, steps_by, steps_of, test, unless_past, wait_for_all, wait_for_any, wait_for_one}
use Rattle.closing.specs.Fit.{steps_in}
use Rattle.closing.specs.Recording.{is_end, outcome_by, outcome_of, steps_before}
use Rattle.closing.specs.Reported.{Message, is_gone}
use Rattle.closing.specs.Sinks.{GoesOn, Ends}
use Rattle.closing.specs.Steps.{Id, Own, Whole, Step, Does, Starts, WaitsForLate}
use Rattle.mpicall.specs.declared.call.Call.TheVariants.{Finalize}
use Rattle.closing.specs.declared.why.Why.{Why}
use Rattle.closing.specs.declared.why.Why.TheVariants.{NeverCameBack, NeverReported, Failed, NoNumber, TooLong, CannotBe, Stopped, Aborted, Full, Cut, NoJournal, NotJudged}
use Rattle.closing.proofs.UnsunkLemmas.{StartNone}

either : (b : Bool) (xs ys : List Step) → StartNone xs → StartNone ys → StartNone (if b then xs else ys)
either true xs ys one two = one
either false xs ys one two = two

both : (xs ys : List Step) → StartNone xs → StartNone ys → StartNone (xs ++ ys)
both [] ys one two = two
both (x ∷ xs) ys one two = (one.0, both xs ys one.1 two)

unless : (b : Bool) (xs : List Step) → StartNone xs → StartNone (unless_past b xs)
unless true xs h = tt
unless false xs h = h

-- ---- On a communicator ----

knows : (m : Option Message) (f : Message → List Step) → ((it : Message) → StartNone (f it)) → StartNone (option_map_or f m [])
knows None f h = tt
knows (Some it) f h = h it

done : (here : Here) (call : Call) (start : ℕ → Call) → StartNone (does here call start)
done here call start = either here.is_past (Starts (Whole here.line) start ∷ []) (Does call ∷ []) (tt, tt) (tt, tt)

begun : (here : Here) (request : ℕ) (start : ℕ → Call) → StartNone (starts here request start)
begun here request start = either (is_gone here.lines request) [] (Starts (Own request) start ∷ []) tt (tt, tt)

done_both : (here : Here) (sent : Sent) (it : Message) → StartNone (does_both here sent it)
done_both here sent it = either here.is_past _ _ (tt, (tt, tt)) (tt, tt)

comm_unsunk : (here : Here) (it : Called) → StartNone (on_comm here it)
comm_unsunk here (Sends mode sent) = done here (send mode here.comm sent) (start_send mode here.comm sent)
comm_unsunk here (StartsSend request mode sent) = begun here request (start_send mode here.comm sent)
comm_unsunk here (Receives awaited) =
    knows here.message (λ it. does here (receive here.comm it) (start_receive here.comm it)) (λ it. done here (receive here.comm it) (start_receive here.comm it))
comm_unsunk here (StartsReceive request awaited) =
    knows here.message (λ it. starts here request (start_receive here.comm it)) (λ it. begun here request (start_receive here.comm it))
comm_unsunk here (Exchanges sent awaited) = knows here.message (λ it. does_both here sent it) (λ it. done_both here sent it)
comm_unsunk here (StartsExchange request received sent awaited) =
    both (starts here request (start_send Standard here.comm sent)) (knowing here (λ it. starts here received (start_receive here.comm it)))
    (begun here request (start_send Standard here.comm sent))
    (knows here.message (λ it. starts here received (start_receive here.comm it)) (λ it. begun here received (start_receive here.comm it)))
comm_unsunk here (Probes awaited) =
    knows here.message (λ it. unless_past here.is_past (Does (probe here.comm it) ∷ [])) (λ it. unless here.is_past (Does (probe here.comm it) ∷ []) (tt, tt))
comm_unsunk here (ProbesMatching message awaited) =
    knows here.message (λ it. unless_past here.is_past (Does (probe here.comm it) ∷ []) ++ Starts (Own message) (start_receive here.comm it) ∷ [])
    (λ it. both (unless_past here.is_past (Does (probe here.comm it) ∷ [])) (Starts (Own message) (start_receive here.comm it) ∷ [])
    (unless here.is_past (Does (probe here.comm it) ∷ []) (tt, tt)) (tt, tt))
comm_unsunk here (Collects collective own root) = done here _ (start_collective here.comm (kind_of collective root))
comm_unsunk here (StartsCollective request collective own root) = begun here request (start_collective here.comm (kind_of collective root))
comm_unsunk here (StartsDuplicate request own) = begun here request (start_collective here.comm kind.Barrier)
comm_unsunk here (MakesOfGroup group) = done here _ (start_collective here.comm kind.Barrier)
comm_unsunk here (Duplicates own) = (tt, tt)
comm_unsunk here (Splits own colour key) = (tt, tt)
comm_unsunk here (Makes own) = (tt, tt)
comm_unsunk here (ReceivesMatched message) = tt
comm_unsunk here (StartsMatched request message) = tt
comm_unsunk here (Waits requests) = tt
comm_unsunk here (Tests requests) = tt
comm_unsunk here (WaitsAny requests) = tt
comm_unsunk here (WaitsSome requests) = tt
comm_unsunk here (Cancels request) = tt
comm_unsunk here (FreesRequest request) = tt
comm_unsunk here (FreesComm comm) = tt
comm_unsunk here Nothing = tt
comm_unsunk here Finalizes = tt
comm_unsunk here Exits = tt
comm_unsunk here Aborts = tt
comm_unsunk here Fills = tt
comm_unsunk here Stops = tt
comm_unsunk here Cuts = tt

-- ---- Waits ----

waits_one : (ids named : List Id) → StartNone (wait_for_one ids named)
waits_one [] named = tt
waits_one (id ∷ ids) named = (tt, tt)

waits_any : (lines : List Line) (requests wanted : List ℕ) → StartNone (wait_for_any lines requests wanted)
waits_any lines [] wanted = waits_one (ids_of lines wanted) (ids_of lines [])
waits_any lines (request ∷ []) wanted = (tt, tt)
waits_any lines (request ∷ other ∷ others) wanted = waits_one (ids_of lines wanted) (ids_of lines (request ∷ other ∷ others))

tests_unsunk : (choice : Choice) (lines : List Line) (requests : List ℕ) → StartNone (test choice lines requests)
tests_unsunk choice lines requests =
    either (passes_tests choice.tests choice.calls) (pass_test lines requests) (wait_for_all lines requests) (tt, (tt, tt)) (tt, tt)

none_unsunk : (choice : Choice) (placed : Placed) (lines : List Line) (it : Called) → StartNone (on_none choice placed lines it)
none_unsunk choice placed lines (ReceivesMatched message) = (tt, tt)
none_unsunk choice placed lines (Waits requests) = (tt, tt)
none_unsunk choice placed lines (Tests requests) = tests_unsunk choice lines requests
none_unsunk choice placed lines (WaitsAny requests) = waits_any lines requests (chosen placed requests)
none_unsunk choice placed lines (WaitsSome requests) = (tt, tt)
none_unsunk choice placed lines (Sends mode sent) = tt
none_unsunk choice placed lines (StartsSend request mode sent) = tt
none_unsunk choice placed lines (Receives awaited) = tt
none_unsunk choice placed lines (StartsReceive request awaited) = tt
none_unsunk choice placed lines (Exchanges sent awaited) = tt
none_unsunk choice placed lines (StartsExchange request received sent awaited) = tt
none_unsunk choice placed lines (Probes awaited) = tt
none_unsunk choice placed lines (ProbesMatching message awaited) = tt
none_unsunk choice placed lines (StartsMatched request message) = tt
none_unsunk choice placed lines (Cancels request) = tt
none_unsunk choice placed lines (FreesRequest request) = tt
none_unsunk choice placed lines (Collects collective comm root) = tt
none_unsunk choice placed lines (StartsCollective request collective comm root) = tt
none_unsunk choice placed lines (Duplicates comm) = tt
none_unsunk choice placed lines (StartsDuplicate request comm) = tt
none_unsunk choice placed lines (Splits comm colour key) = tt
none_unsunk choice placed lines (Makes comm) = tt
none_unsunk choice placed lines (MakesOfGroup group) = tt
none_unsunk choice placed lines (FreesComm comm) = tt
none_unsunk choice placed lines Nothing = tt
none_unsunk choice placed lines Finalizes = tt
none_unsunk choice placed lines Exits = tt
none_unsunk choice placed lines Aborts = tt
none_unsunk choice placed lines Fills = tt
none_unsunk choice placed lines Stops = tt
none_unsunk choice placed lines Cuts = tt

-- ---- An entry ----

steps_unsunk : (run : Run) (choice : Choice) (placed : Placed) → StartNone (steps_of run choice placed)
steps_unsunk run choice placed = by_number (number_at run placed)
  where
    by_number : (number : Option ℕ) → StartNone (steps_by run choice placed number)
    by_number (Some comm) = comm_unsunk (here_at run choice placed comm) placed.called
    by_number None = unless (is_past choice.calls placed) (on_none choice placed placed.journal.lines placed.called) (none_unsunk choice placed placed.journal.lines placed.called)

before_unsunk : (run : Run) (choice : Choice) (placed : Placed) (it : Called) (why : Why) → StartNone (steps_before run choice placed it why)
before_unsunk run choice placed (StartsExchange request received sent awaited) NeverReported = steps_unsunk run choice placed
before_unsunk run choice placed (StartsExchange request received sent awaited) NeverCameBack = tt
before_unsunk run choice placed (StartsExchange request received sent awaited) Failed = tt
before_unsunk run choice placed (StartsExchange request received sent awaited) NoNumber = tt
before_unsunk run choice placed (StartsExchange request received sent awaited) TooLong = tt
before_unsunk run choice placed (StartsExchange request received sent awaited) CannotBe = tt
before_unsunk run choice placed (StartsExchange request received sent awaited) Stopped = tt
before_unsunk run choice placed (StartsExchange request received sent awaited) Aborted = tt
before_unsunk run choice placed (StartsExchange request received sent awaited) Full = tt
before_unsunk run choice placed (StartsExchange request received sent awaited) Cut = tt
before_unsunk run choice placed (StartsExchange request received sent awaited) NoJournal = tt
before_unsunk run choice placed (StartsExchange request received sent awaited) NotJudged = tt
before_unsunk run choice placed (Sends mode sent) why = tt
before_unsunk run choice placed (StartsSend request mode sent) why = tt
before_unsunk run choice placed (Receives awaited) why = tt
before_unsunk run choice placed (StartsReceive request awaited) why = tt
before_unsunk run choice placed (Exchanges sent awaited) why = tt
before_unsunk run choice placed (Probes awaited) why = tt
before_unsunk run choice placed (ProbesMatching message awaited) why = tt
before_unsunk run choice placed (ReceivesMatched message) why = tt
before_unsunk run choice placed (StartsMatched request message) why = tt
before_unsunk run choice placed (Waits requests) why = tt
before_unsunk run choice placed (Tests requests) why = tt
before_unsunk run choice placed (WaitsAny requests) why = tt
before_unsunk run choice placed (WaitsSome requests) why = tt
before_unsunk run choice placed (Cancels request) why = tt
before_unsunk run choice placed (FreesRequest request) why = tt
before_unsunk run choice placed (Collects collective comm root) why = tt
before_unsunk run choice placed (StartsCollective request collective comm root) why = tt
before_unsunk run choice placed (Duplicates comm) why = tt
before_unsunk run choice placed (StartsDuplicate request comm) why = tt
before_unsunk run choice placed (Splits comm colour key) why = tt
before_unsunk run choice placed (Makes comm) why = tt
before_unsunk run choice placed (MakesOfGroup group) why = tt
before_unsunk run choice placed (FreesComm comm) why = tt
before_unsunk run choice placed Nothing why = tt
before_unsunk run choice placed Finalizes why = tt
before_unsunk run choice placed Exits why = tt
before_unsunk run choice placed Aborts why = tt
before_unsunk run choice placed Fills why = tt
before_unsunk run choice placed Stops why = tt
before_unsunk run choice placed Cuts why = tt

pub outcome_unsunk : (run : Run) (choice : Choice) (placed : Placed) → StartNone (steps_in (outcome_of run choice placed))
outcome_unsunk run choice placed = by_why (why_at run placed)
  where
    by_end : (b : Bool) → StartNone (steps_in (if b then Ends (WaitsForLate ∷ []) Finalize None else GoesOn (steps_of run choice placed)))
    by_end true = (tt, tt)
    by_end false = steps_unsunk run choice placed

    by_why : (why : Option Why) → StartNone (steps_in (outcome_by run choice placed why))
    by_why (Some why) = before_unsunk run choice placed placed.called why
    by_why None = by_end (is_end placed.called)
