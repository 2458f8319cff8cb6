-- What holds of steps that start own requests, and of waits, holds of all steps that an entry stands for.
use Rattle.std.proofs.Common.{◌≡◌, ℕ, ◌==◌, not, Bool, true, false, Option, Some, None, if◌then◌else◌, List, [], ◌∷◌, ◌++◌, filter, inl, inr}
use Rattle.std.specs.Prelude.{⊤}
use Rattle.std.specs.Option.{option_map_or}
use Rattle.std.proofs.lemmas.Bool.{cases_Bool}
use Rattle.mpicall.specs.declared.call.Call.{Call}
use Rattle.mpicall.specs.declared.call.Mode.TheVariants.{Standard}
use Rattle.mpicall.specs.declared.call.Kind.TheVariants as kind
use Rattle.journals.specs.Lines.{Line}
use Rattle.journals.specs.Known.{chosen_of, report_of, requests_in}
use Rattle.journals.specs.declared.word.ReportWord.TheVariants as report
use Rattle.closing.specs.Called.{Called, Sent, Sends, StartsSend, Receives, StartsReceive, Exchanges, StartsExchange, Probes, ProbesMatching, ReceivesMatched, Waits, Tests, WaitsAny, WaitsSome, Collects, StartsCollective, Duplicates, StartsDuplicate, Splits, Makes, MakesOfGroup}
use Rattle.closing.specs.Entries.{Run, Placed}
use Rattle.closing.specs.Reported.{Message, is_gone, is_left_out}
use Rattle.closing.specs.Steps.{Id, Own, Whole, ReceiveHalf, Step, Does, Starts, WaitsForAll, WaitsForOne, PutsOff, WaitsForLate}
use Rattle.closing.specs.Entry.{Choice, Here, send, start_send, receive, start_receive, exchange, probe, start_collective, kind_of, is_past, here_at, does, does_both, starts, knowing, unless_past, on_comm, on_none, steps_by, ids_of, is_of_send, matched_message, wait_for_all, pass_test, passes_tests, chosen, wait_for_one, wait_for_any}
use Rattle.lawful.proofs.PassLemmas.{AreSteps}
use Rattle.lawful.proofs.ActiveSends.{AllSteps, NotIn, Keeps}

-- a step that starts no own request, and no wait, passes the test
pub record PassOthers (S : Step → Type 0) : Type 0 where
  pub does : (call : Call) → S (Does call)
  pub whole : (line : ℕ) (call : ℕ → Call) → S (Starts (Whole line) call)
  pub half : (line : ℕ) (call : ℕ → Call) → S (Starts (ReceiveHalf line) call)

-- so do the steps that start the own requests of a call
abbrev pub PassOwn : (Step → Type 0) → Called → Type 0
PassOwn S (StartsSend request mode sent) = (comm : ℕ) → S (Starts (Own request) (start_send mode comm sent))
PassOwn S (StartsReceive request awaited) = (comm : ℕ) (it : Message) → S (Starts (Own request) (start_receive comm it))
PassOwn S (StartsExchange request received sent awaited) =
    ((comm : ℕ) → S (Starts (Own request) (start_send Standard comm sent))) × ((comm : ℕ) (it : Message) → S (Starts (Own received) (start_receive comm it)))
PassOwn S (ProbesMatching message awaited) = (comm : ℕ) (it : Message) → S (Starts (Own message) (start_receive comm it))
PassOwn S (StartsCollective request collective own root) = (comm : ℕ) → S (Starts (Own request) (start_collective comm (kind_of collective root)))
PassOwn S (StartsDuplicate request own) = (comm : ℕ) → S (Starts (Own request) (start_collective comm kind.Barrier))
PassOwn S it = ⊤

pub all_if : (S : Step → Type 0) (b : Bool) (xs ys : List Step) → AllSteps S xs → AllSteps S ys → AllSteps S (if b then xs else ys)
all_if S true xs ys first others = first
all_if S false xs ys first others = others

pub all_append : (S : Step → Type 0) (xs ys : List Step) → AllSteps S xs → AllSteps S ys → AllSteps S (xs ++ ys)
all_append S [] ys first others = others
all_append S (x ∷ xs) ys first others = (first.0, all_append S xs ys first.1 others)

all_or : (S : Step → Type 0) (o : Option Message) (steps : Message → List Step) → ((it : Message) → AllSteps S (steps it)) → AllSteps S (option_map_or steps o [])
all_or S None steps all = tt
all_or S (Some it) steps all = all it

pub all_unless : (S : Step → Type 0) (past : Bool) (steps : List Step) → AllSteps S steps → AllSteps S (unless_past past steps)
all_unless S true steps all = tt
all_unless S false steps all = all

does_all : (S : Step → Type 0) (here : Here) (call : Call) (start : ℕ → Call) → PassOthers S → AllSteps S (does here call start)
does_all S here call start pass = all_if S here.is_past (Starts (Whole here.line) start ∷ []) (Does call ∷ []) (pass.whole here.line start, tt) (pass.does call, tt)

both_all : (S : Step → Type 0) (here : Here) (sent : Sent) (it : Message) → PassOthers S → AllSteps S (does_both here sent it)
both_all S here sent it pass =
    all_if S here.is_past
    (Starts (Whole here.line) (start_send Standard here.comm sent) ∷ Starts (ReceiveHalf here.line) (start_receive here.comm it) ∷ [])
    (Does (exchange here.comm sent it) ∷ [])
    (pass.whole here.line (start_send Standard here.comm sent), (pass.half here.line (start_receive here.comm it), tt))
    (pass.does (exchange here.comm sent it), tt)

starts_all : (S : Step → Type 0) (here : Here) (request : ℕ) (start : ℕ → Call) → S (Starts (Own request) start) → AllSteps S (starts here request start)
starts_all S here request start is = all_if S (is_gone here.lines request) [] (Starts (Own request) start ∷ []) tt (is, tt)

probes_all : (S : Step → Type 0) (here : Here) (it : Message) → PassOthers S → AllSteps S (unless_past here.is_past (Does (probe here.comm it) ∷ []))
probes_all S here it pass = all_unless S here.is_past (Does (probe here.comm it) ∷ []) (pass.does (probe here.comm it), tt)

pub received_all : (S : Step → Type 0) (here : Here) (received : ℕ) → ((comm : ℕ) (it : Message) → S (Starts (Own received) (start_receive comm it))) → AllSteps S (knowing here (λ it. starts here received (start_receive here.comm it)))
received_all S here received is =
    all_or S here.message (λ it. starts here received (start_receive here.comm it))
    (λ it. starts_all S here received (start_receive here.comm it) (is here.comm it))

pub on_comm_all : (S : Step → Type 0) (here : Here) (it : Called) → PassOthers S → PassOwn S it → AllSteps S (on_comm here it)
on_comm_all S here (Sends mode sent) pass own = does_all S here (send mode here.comm sent) (start_send mode here.comm sent) pass
on_comm_all S here (StartsSend request mode sent) pass own = starts_all S here request (start_send mode here.comm sent) (own here.comm)
on_comm_all S here (Receives awaited) pass own =
    all_or S here.message (λ it. does here (receive here.comm it) (start_receive here.comm it))
    (λ it. does_all S here (receive here.comm it) (start_receive here.comm it) pass)
on_comm_all S here (StartsReceive request awaited) pass own = received_all S here request own
on_comm_all S here (Exchanges sent awaited) pass own = all_or S here.message (λ it. does_both here sent it) (λ it. both_all S here sent it pass)
on_comm_all S here (StartsExchange request received sent awaited) pass own =
    all_append S (starts here request (start_send Standard here.comm sent)) (knowing here (λ it. starts here received (start_receive here.comm it)))
    (starts_all S here request (start_send Standard here.comm sent) (own.0 here.comm)) (received_all S here received own.1)
on_comm_all S here (Probes awaited) pass own =
    all_or S here.message (λ it. unless_past here.is_past (Does (probe here.comm it) ∷ [])) (λ it. probes_all S here it pass)
on_comm_all S here (ProbesMatching message awaited) pass own =
    all_or S here.message
    (λ it. unless_past here.is_past (Does (probe here.comm it) ∷ []) ++ Starts (Own message) (start_receive here.comm it) ∷ [])
    (λ it. all_append S (unless_past here.is_past (Does (probe here.comm it) ∷ [])) (Starts (Own message) (start_receive here.comm it) ∷ [])
    (probes_all S here it pass) (own here.comm it, tt))
on_comm_all S here (Collects collective comm root) pass own = does_all S here _ (start_collective here.comm (kind_of collective root)) pass
on_comm_all S here (StartsCollective request collective comm root) pass own =
    starts_all S here request (start_collective here.comm (kind_of collective root)) (own here.comm)
on_comm_all S here (StartsDuplicate request comm) pass own = starts_all S here request (start_collective here.comm kind.Barrier) (own here.comm)
on_comm_all S here (MakesOfGroup group) pass own = does_all S here _ (start_collective here.comm kind.Barrier) pass
on_comm_all S here (Duplicates comm) pass own = (pass.does here.maker, tt)
on_comm_all S here (Splits comm colour key) pass own = (pass.does here.maker, tt)
on_comm_all S here (Makes comm) pass own = (pass.does here.maker, tt)
on_comm_all S here _ pass own = tt

-- ---- Waits that name others ----

-- the requests that a call completes
abbrev pub done_by : Placed → Called → List ℕ
done_by placed (ReceivesMatched message) = message ∷ []
done_by placed (Waits requests) = requests
done_by placed (Tests requests) = requests
done_by placed (WaitsAny requests) = chosen placed requests
done_by placed (WaitsSome requests) = chosen placed requests
done_by placed it = []

-- what stands for a request
abbrev pub stands_for : List Line → ℕ → ℕ
stands_for lines request = option_map_or (λ message. message) (matched_message lines request) request

-- none of these stands for the request
abbrev pub NoneStands : List Line → ℕ → List ℕ → Type 0
NoneStands lines request [] = ⊤
NoneStands lines request (other ∷ others) = ((stands_for lines other == request) ≡ false) × NoneStands lines request others

not_in : (lines : List Line) (request : ℕ) (others : List ℕ) → NoneStands lines request others → NotIn request (ids_of lines others)
not_in lines request [] none = tt
not_in lines request (other ∷ others) none =
    elim (cases_Bool (is_left_out lines other)) [
      | inl out ↦ rw out (not_in lines request others none.1)
      | inr stays ↦ rw stays (none.0, not_in lines request others none.1)
    ]

none_filter : (lines : List Line) (request : ℕ) (p : ℕ → Bool) (others : List ℕ) → NoneStands lines request others → NoneStands lines request (filter p others)
none_filter lines request p [] none = tt
none_filter lines request p (other ∷ others) none =
    elim (cases_Bool (p other)) [
      | inl stays ↦ rw stays (none.0, none_filter lines request p others none.1)
      | inr goes ↦ rw goes (none_filter lines request p others none.1)
    ]

first_keeps : (request : ℕ) (ids named : List Id) → NotIn request ids → AllSteps (Keeps request) (wait_for_one ids named)
first_keeps request [] named none = tt
first_keeps request (id ∷ ids) named none = (none.0, tt)

any_keeps : (lines : List Line) (request : ℕ) (requests wanted : List ℕ) → NoneStands lines request (chosen_of requests wanted) → AllSteps (Keeps request) (wait_for_any lines requests (chosen_of requests wanted))
any_keeps lines request [] wanted none = first_keeps request (ids_of lines wanted) (ids_of lines []) (not_in lines request wanted none)
any_keeps lines request (one ∷ []) wanted none = (not_in lines request (one ∷ []) none, tt)
any_keeps lines request (one ∷ two ∷ requests) wanted none =
    first_keeps request (ids_of lines wanted) (ids_of lines (one ∷ two ∷ requests)) (not_in lines request wanted none)

pub on_none_keeps : (choice : Choice) (placed : Placed) (lines : List Line) (request : ℕ) (it : Called) → NoneStands lines request (done_by placed it) → AllSteps (Keeps request) (on_none choice placed lines it)
on_none_keeps choice placed lines request (ReceivesMatched message) none = (not_in lines request (message ∷ []) none, tt)
on_none_keeps choice placed lines request (Waits requests) none = (not_in lines request requests none, tt)
on_none_keeps choice placed lines request (Tests requests) none =
    all_if (Keeps request) (passes_tests choice.tests choice.calls) (pass_test lines requests) (wait_for_all lines requests)
    (not_in lines request (filter (λ (r : ℕ). not (is_of_send lines r)) requests) (none_filter lines request (λ (r : ℕ). not (is_of_send lines r)) requests none), (tt, tt))
    (not_in lines request requests none, tt)
on_none_keeps choice placed lines request (WaitsAny requests) none =
    any_keeps lines request requests (requests_in (report_of report.Chose placed.entry)) none
on_none_keeps choice placed lines request (WaitsSome requests) none = (not_in lines request (chosen placed requests) none, tt)
on_none_keeps choice placed lines request _ none = tt

pass_keeps : (request : ℕ) → PassOthers (Keeps request)
pass_keeps request = record { does = λ call. tt; whole = λ line call. tt; half = λ line call. tt }

own_keeps : (request : ℕ) (it : Called) → PassOwn (Keeps request) it
own_keeps request (StartsSend own mode sent) = λ comm. tt
own_keeps request (StartsReceive own awaited) = λ comm it. tt
own_keeps request (StartsExchange own received sent awaited) = (λ comm. tt, λ comm it. tt)
own_keeps request (ProbesMatching own awaited) = λ comm it. tt
own_keeps request (StartsCollective own collective comm root) = λ comm. tt
own_keeps request (StartsDuplicate own comm) = λ comm. tt
own_keeps request _ = tt

pub steps_by_keep : (run : Run) (choice : Choice) (placed : Placed) (request : ℕ) (o : Option ℕ) → NoneStands placed.journal.lines request (done_by placed placed.called) → AllSteps (Keeps request) (steps_by run choice placed o)
steps_by_keep run choice placed request (Some comm) none =
    on_comm_all (Keeps request) (here_at run choice placed comm) placed.called (pass_keeps request) (own_keeps request placed.called)
steps_by_keep run choice placed request None none =
    all_unless (Keeps request) (is_past choice.calls placed) (on_none choice placed placed.journal.lines placed.called)
    (on_none_keeps choice placed placed.journal.lines request placed.called none)

-- waits pass where all of them do
pub waits_all : (S : Step → Type 0) (steps : List Step) → ((ids : List Id) → S (WaitsForAll ids)) → ((id : Id) (ids : List Id) → S (WaitsForOne id ids)) → ((ids : List Id) → S (PutsOff ids)) → S WaitsForLate → AreSteps (λ (call : Call). ⊥) steps → AllSteps S steps
waits_all S [] one two three four are = tt
waits_all S (Does call ∷ steps) one two three four are = absurd are.0
waits_all S (Starts id call ∷ steps) one two three four are = absurd (are.0 0)
waits_all S (WaitsForAll ids ∷ steps) one two three four are = (one ids, waits_all S steps one two three four are.1)
waits_all S (WaitsForOne id ids ∷ steps) one two three four are = (two id ids, waits_all S steps one two three four are.1)
waits_all S (PutsOff ids ∷ steps) one two three four are = (three ids, waits_all S steps one two three four are.1)
waits_all S (WaitsForLate ∷ steps) one two three four are = (four, waits_all S steps one two three four are.1)
