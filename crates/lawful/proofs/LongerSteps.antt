-- What an entry stands for stays when its journal goes on.
use Rattle.std.proofs.Common.{◌≡◌, ◌⊎◌, ℕ, ◌&&◌, ◌||◌, not, Bool, true, false, Option, Some, None, is_some, is_none, if◌then◌else◌, List, [], ◌∷◌, ◌++◌, filter, refl, sym, ap, subst, ◌∙◌, inl, inr}
use Rattle.std.specs.Prelude.{⊤, option_and_then}
use Rattle.std.specs.List.{list_any}
use Rattle.std.specs.Option.{option_map_or}
use Rattle.std.proofs.lemmas.Bool.{false≢true}
use Rattle.std.proofs.lemmas.Option.{none-some}
use Rattle.mpicall.specs.Word.{or_else}
use Rattle.mpicall.specs.declared.call.Call.{Call}
use Rattle.mpicall.specs.declared.call.Mode.TheVariants.{Standard}
use Rattle.mpicall.specs.declared.call.Kind.TheVariants as kind
use Rattle.journals.specs.Lines.{Line}
use Rattle.journals.specs.Entries.{Entry}
use Rattle.journals.specs.Known.{has_report, report_of, requests_in}
use Rattle.journals.specs.declared.word.ReportWord.TheVariants as report
use Rattle.closing.specs.Called.{Called, Awaited, StartsSend, Receives, StartsReceive, Exchanges, StartsExchange, Probes, ProbesMatching, ReceivesMatched, Waits, Tests, WaitsAny, WaitsSome, Cancels, StartsCollective, Duplicates, StartsDuplicate, Splits, Makes, Cuts}
use Rattle.closing.specs.Keys.{Key}
use Rattle.closing.specs.RankComms.{makes_comm}
use Rattle.closing.specs.Entries.{Run, Placed, is_window}
use Rattle.closing.specs.Numbers.{named_key, number_of}
use Rattle.closing.specs.Reported.{Message, done_of, got_in, from_nobody, unless_moved, is_gone, is_left_out, is_kept, is_settled, message_in, message_of, says_gone, says_kept}
use Rattle.closing.specs.Steps.{Id, Own, Step, Does, Starts, WaitsForAll, PutsOff}
use Rattle.closing.specs.Endings.{awaited_at, awaited_can_be, sends_can_be, size_at, breaks_off, can_be, chose_none, first_of, is_unknown, is_unreported, lacks_number, message_at, needs_number, number_at, why_at}
use Rattle.closing.specs.Entry.{Choice, Here, start_send, start_receive, start_collective, kind_of, maker, id_of, is_of_send, ids_of, wait_for_all, pass_test, passes_tests, test, chosen, wait_for_one, wait_for_any, unless_past, starts, knowing, on_comm, on_none, is_past, steps_by, steps_of}
use Rattle.closing.specs.declared.choice.Calls.TheVariants.{Strict}
use Rattle.closing.specs.declared.why.Why.{Why}
use Rattle.closing.specs.declared.why.Why.TheVariants.{NeverCameBack, NeverReported, Failed, NoNumber, CannotBe, Cut}
use Rattle.lawful.specs.Longer.{IsKept}
use Rattle.lawful.proofs.NewNumbers.{AllOf, Numbers}
use Rattle.lawful.proofs.WalkLemmas.{breaks_none}
use Rattle.lawful.proofs.PlainSteps.{strict_past}
use Rattle.lawful.proofs.SoFarLemmas.{message_more}
use Rattle.lawful.proofs.LongerLemmas.{with_line, StaysOf, out_stays, KeepsReports, More, with_more, IsOver}

-- ---- Messages ----

abbrev StillAwaits : Option (Awaited × Option Message) → Option (Awaited × Option Message) → Type 0
StillAwaits None None = ⊤
StillAwaits (Some one) (Some other) = (other.0 ≡ one.0) × ((it : Message) → one.1 ≡ Some it → other.1 ≡ Some it)
StillAwaits one other = ⊥

abbrev pub awaited_by : Entry → List Line → Called → Option (Awaited × Option Message)
awaited_by entry lines (Receives awaited) = Some (awaited, got_in entry)
awaited_by entry lines (StartsReceive request awaited) = Some (unless_moved lines request awaited, done_of lines request)
awaited_by entry lines (Exchanges sent awaited) = Some (awaited, got_in entry)
awaited_by entry lines (StartsExchange request received sent awaited) = Some (unless_moved lines received awaited, done_of lines received)
awaited_by entry lines (Probes awaited) = Some (awaited, got_in entry)
awaited_by entry lines (ProbesMatching message awaited) = Some (awaited, got_in entry)
awaited_by entry lines it = None

pub awaited_is : (placed : Placed) (it : Called) → placed.called ≡ it → awaited_at placed ≡ awaited_by placed.entry placed.journal.lines it
awaited_is placed (Receives awaited) is = rw is refl
awaited_is placed (StartsReceive request awaited) is = rw is refl
awaited_is placed (Exchanges sent awaited) is = rw is refl
awaited_is placed (StartsExchange request received sent awaited) is = rw is refl
awaited_is placed (Probes awaited) is = rw is refl
awaited_is placed (ProbesMatching message awaited) is = rw is refl
awaited_is placed _ is = rw is refl

-- ---- The same at another line ----

pub awaited_line : (placed : Placed) (line : ℕ) → awaited_at (with_line placed line) ≡ awaited_at placed
awaited_line placed line = awaited_is (with_line placed line) placed.called refl ∙ sym (awaited_is placed placed.called refl)

pub message_line : (placed : Placed) (line : ℕ) → message_at (with_line placed line) ≡ message_at placed
message_line placed line = ap (λ (o : Option (Awaited × Option Message)). option_and_then (λ it. message_of it.0 it.1) o) (awaited_line placed line)

pub kept_line : (run longer : Run) (placed other : Placed) (line : ℕ) → IsKept run longer placed other → IsKept run longer placed (with_line other line)
kept_line run longer placed other line kept = record {
  failed = kept.failed;
  can = λ h. ap (λ (o : Option (Awaited × Option Message)). sends_can_be (size_at longer other) other.called && option_map_or (awaited_can_be (size_at longer other)) o true) (awaited_line other line) ∙ kept.can h;
}

pub over_line : (placed other : Placed) (line : ℕ) → IsOver placed other → IsOver placed (with_line other line)
over_line placed other line over = record { entry = over.entry; came = over.came; also = over.also }

pub over_there : (placed other : Placed) (it : More placed) (entries : List Placed) → with_line other placed.line ≡ with_more placed it → (entries ≡ []) ⊎ IsOver placed other → (entries ≡ []) ⊎ IsOver placed (with_more placed it)
over_there placed other it entries is (inl last) = inl last
over_there placed other it entries is (inr over) = inr (subst (λ (one : Placed). IsOver placed one) is (over_line placed other placed.line over))

-- ---- What is reported later ----

got_kept : (entry other : Entry) (it : Message) → KeepsReports entry other → got_in entry ≡ Some it → got_in other ≡ Some it
got_kept entry other it keeps h = of_line (report_of report.Got entry) refl h
  where
    of_line : (o : Option Line) → report_of report.Got entry ≡ o → option_and_then (λ (line : Line). message_in line.fields) o ≡ Some it → got_in other ≡ Some it
    of_line None is e = absurd (none-some it e)
    of_line (Some line) is e = ap (λ (o : Option Line). option_and_then (λ (one : Line). message_in one.fields) o) (keeps report.Got line refl is) ∙ e

pub moved_stays : (lines later : List Line) (request : ℕ) (awaited : Awaited) → StaysOf lines later request → unless_moved later request awaited ≡ unless_moved lines request awaited
moved_stays lines later request awaited is = ap (λ (b : Bool). if b then from_nobody awaited else awaited) is.moved

still_awaits : (entry other : Entry) (lines later : List Line) (it : Called) → Numbers (StaysOf lines later) (StaysOf lines later) (StaysOf lines later) it → KeepsReports entry other → ((request : ℕ) (m : Message) → done_of lines request ≡ Some m → done_of later request ≡ Some m) → StillAwaits (awaited_by entry lines it) (awaited_by other later it)
still_awaits entry other lines later (Receives awaited) all keeps done = (refl, λ m h. got_kept entry other m keeps h)
still_awaits entry other lines later (StartsReceive request awaited) all keeps done = (moved_stays lines later request awaited all, λ m h. done request m h)
still_awaits entry other lines later (Exchanges sent awaited) all keeps done = (refl, λ m h. got_kept entry other m keeps h)
still_awaits entry other lines later (StartsExchange request received sent awaited) all keeps done = (moved_stays lines later received awaited all.1, λ m h. done received m h)
still_awaits entry other lines later (Probes awaited) all keeps done = (refl, λ m h. got_kept entry other m keeps h)
still_awaits entry other lines later (ProbesMatching message awaited) all keeps done = (refl, λ m h. got_kept entry other m keeps h)
still_awaits entry other lines later _ all keeps done = tt

abbrev message_by : Option (Awaited × Option Message) → Option Message
message_by o = option_and_then (λ it. message_of it.0 it.1) o

message_stays : (it : Awaited) (o more : Option Message) → ((m : Message) → o ≡ Some m → more ≡ Some m) → is_none (message_of it o) ≡ false → message_of it more ≡ message_of it o
message_stays it (Some m) more keeps known = ap (λ (one : Option Message). message_of it one) (keeps m refl)
message_stays it None more keeps known = message_more it None more known

messages_stay : (one other : Option (Awaited × Option Message)) → StillAwaits one other → is_none (message_by one) ≡ false → message_by other ≡ message_by one
messages_stay None None still known = refl
messages_stay (Some one) (Some other) still known =
    ap (λ (it : Awaited). message_of it other.1) still.0 ∙ message_stays one.0 one.1 other.1 still.1 known
messages_stay None (Some other) still known = absurd still
messages_stay (Some one) None still known = absurd still

done_kept : (placed : Placed) (it : More placed) (request : ℕ) (m : Message) → done_of placed.journal.lines request ≡ Some m → done_of it.later.lines request ≡ Some m
done_kept placed it request m h = it.done request m h

pub message_kept : (placed : Placed) (it : More placed) → is_none (message_at placed) ≡ false → message_at (with_more placed it) ≡ message_at placed
message_kept placed it known =
    let now = awaited_is placed placed.called refl in
    let next = awaited_is (with_more placed it) placed.called refl in
    let one = awaited_by placed.entry placed.journal.lines placed.called in
    let other = awaited_by it.entry it.later.lines placed.called in
    ap (λ (o : Option (Awaited × Option Message)). message_by o) next
    ∙ messages_stay one other (still_awaits placed.entry it.entry placed.journal.lines it.later.lines placed.called it.numbers it.reports (done_kept placed it))
    (subst (λ (o : Option (Awaited × Option Message)). is_none (message_by o) ≡ false) now known)
    ∙ sym (ap (λ (o : Option (Awaited × Option Message)). message_by o) now)

pub known_kept : (placed : Placed) (it : More placed) → is_none (message_at placed) ≡ false → is_none (message_at (with_more placed it)) ≡ false
known_kept placed it known = ap (λ (o : Option Message). is_none o) (message_kept placed it known) ∙ known

-- ---- Why an entry ends the list ----

pub not_false : (b : Bool) → not b ≡ false → b ≡ true
not_false true h = refl
not_false false h = absurd (false≢true (sym h))

abbrev Requests : (placed : Placed) → More placed → Called → Type 0
Requests placed it one =
    Numbers (StaysOf placed.journal.lines it.later.lines) (StaysOf placed.journal.lines it.later.lines) (StaysOf placed.journal.lines it.later.lines) one

lacks_by : (none also gone other : Bool) → (none ≡ false → also ≡ false) → other ≡ gone → (none && not gone) ≡ false → (also && not other) ≡ false
lacks_by false also gone other keeps same h = rw (keeps refl) refl
lacks_by true true true other keeps same h = rw same refl
lacks_by true false true other keeps same h = refl
lacks_by true also false other keeps same h = absurd (false≢true (sym h))

any_kept : (test : Line → Bool) (placed : Placed) (it : More placed) → list_any test placed.journal.lines ≡ true → list_any test it.later.lines ≡ true
any_kept test placed it h = it.any test h

some_done : (placed : Placed) (it : More placed) (request : ℕ) → is_some (done_of placed.journal.lines request) ≡ true → is_some (done_of it.later.lines request) ≡ true
some_done placed it request h = of_done (done_of placed.journal.lines request) refl h
  where
    of_done : (o : Option Message) → done_of placed.journal.lines request ≡ o → is_some o ≡ true → is_some (done_of it.later.lines request) ≡ true
    of_done None is e = absurd (false≢true e)
    of_done (Some m) is e = ap (λ (o : Option Message). is_some o) (done_kept placed it request m is)

settled_by : (a b c also_a also_b also_c : Bool) → (a ≡ true → also_a ≡ true) → (b ≡ true → also_b ≡ true) → (c ≡ true → also_c ≡ true) → (a || b || c) ≡ true → (also_a || also_b || also_c) ≡ true
settled_by true b c also_a also_b also_c keeps_a keeps_b keeps_c h = rw (keeps_a refl) refl
settled_by false true c true also_b also_c keeps_a keeps_b keeps_c h = refl
settled_by false true c false also_b also_c keeps_a keeps_b keeps_c h = rw (keeps_b refl) refl
settled_by false false c true also_b also_c keeps_a keeps_b keeps_c h = refl
settled_by false false c false true also_c keeps_a keeps_b keeps_c h = refl
settled_by false false c false false also_c keeps_a keeps_b keeps_c h = keeps_c h

settled_kept : (placed : Placed) (it : More placed) (request : ℕ) → is_settled placed.journal.lines request ≡ true → is_settled it.later.lines request ≡ true
settled_kept placed it request h =
    settled_by (is_gone placed.journal.lines request) (is_kept placed.journal.lines request) (is_some (done_of placed.journal.lines request))
    (is_gone it.later.lines request) (is_kept it.later.lines request) (is_some (done_of it.later.lines request))
    (any_kept (λ line. says_gone request line.word line.fields) placed it) (any_kept (λ line. says_kept request line.word line.fields) placed it)
    (some_done placed it request) h

told_kept : (placed : Placed) (it : More placed) (one : Called) → Requests placed it one → is_unreported placed one ≡ false → is_unreported (with_more placed it) one ≡ false
told_kept placed it (StartsReceive request awaited) all h =
    lacks_by (is_none (message_at placed)) (is_none (message_at (with_more placed it))) (is_gone placed.journal.lines request) (is_gone it.later.lines request)
    (known_kept placed it) all.gone h
told_kept placed it (StartsExchange request received sent awaited) all h =
    lacks_by (is_none (message_at placed)) (is_none (message_at (with_more placed it))) (is_gone placed.journal.lines received) (is_gone it.later.lines received)
    (known_kept placed it) all.1.gone h
told_kept placed it (Cancels request) all h =
    ap (λ (b : Bool). not b) (settled_kept placed it request (not_false (is_settled placed.journal.lines request) h))
told_kept placed it _ all h = refl

pub chose_by : (placed : Placed) (it : More placed) → is_none (report_of report.Chose placed.entry) ≡ false → report_of report.Chose it.entry ≡ report_of report.Chose placed.entry
chose_by placed it h = of_line (report_of report.Chose placed.entry) refl h
  where
    of_line : (o : Option Line) → report_of report.Chose placed.entry ≡ o → is_none o ≡ false → report_of report.Chose it.entry ≡ report_of report.Chose placed.entry
    of_line None is e = absurd (false≢true (sym e))
    of_line (Some line) is e = it.reports report.Chose line refl is ∙ sym is

chose_kept : (placed : Placed) (it : More placed) (requests : List ℕ) → chose_none placed requests ≡ false → chose_none (with_more placed it) requests ≡ false
chose_kept placed it [] h = ap (λ (o : Option Line). is_none o) (chose_by placed it h) ∙ h
chose_kept placed it (request ∷ []) h = refl
chose_kept placed it (one ∷ two ∷ requests) h = ap (λ (o : Option Line). is_none o) (chose_by placed it h) ∙ h

unknown_kept : (placed : Placed) (it : More placed) (one : Called) → is_unknown placed one ≡ false → is_unknown (with_more placed it) one ≡ false
unknown_kept placed it (Receives awaited) h = known_kept placed it h
unknown_kept placed it (Exchanges sent awaited) h = known_kept placed it h
unknown_kept placed it (Probes awaited) h = known_kept placed it h
unknown_kept placed it (ProbesMatching message awaited) h = known_kept placed it h
unknown_kept placed it (WaitsAny requests) h = chose_kept placed it requests h
unknown_kept placed it (WaitsSome requests) h = chose_kept placed it requests h
unknown_kept placed it _ h = refl

pub record Parts (a b c d e : Bool) : Type 0 where
  pub well : a ≡ false
  pub can : b ≡ false
  pub numbered : c ≡ false
  pub told : d ≡ false
  pub known : e ≡ false

pub parts_of : (a b c d e : Bool) → first_of ((a, Failed) ∷ (b, CannotBe) ∷ (c, NoNumber) ∷ (d, NeverReported) ∷ (e, NeverCameBack) ∷ []) ≡ None → Parts a b c d e
parts_of true b c d e h = absurd (none-some Failed (sym h))
parts_of false true c d e h = absurd (none-some CannotBe (sym h))
parts_of false false true d e h = absurd (none-some NoNumber (sym h))
parts_of false false false true e h = absurd (none-some NeverReported (sym h))
parts_of false false false false true h = absurd (none-some NeverCameBack (sym h))
parts_of false false false false false h = record { well = refl; can = refl; numbered = refl; told = refl; known = refl }

-- a run that is a window goes on as one
pub breaks_kept : (now later : Bool) (it : Called) → (now ≡ true → later ≡ true) → breaks_off now it ≡ None → breaks_off later it ≡ None
breaks_kept true later Cuts keeps h = ap (λ (b : Bool). if b then None else Some Cut) (keeps refl)
breaks_kept false later Cuts keeps h = absurd (none-some Cut (sym h))
breaks_kept now later _ keeps h = h

breaks_first : (o rest : Option Why) → or_else o rest ≡ None → o ≡ None
breaks_first None rest h = refl
breaks_first (Some why) rest h = h

none_by : (o : Option Why) (a b c d e : Bool) → o ≡ None → a ≡ false → b ≡ false → c ≡ false → d ≡ false → e ≡ false → or_else o (first_of ((a, Failed) ∷ (b, CannotBe) ∷ (c, NoNumber) ∷ (d, NeverReported) ∷ (e, NeverCameBack) ∷ [])) ≡ None
none_by o a b c d e breaks well can numbered told known = rw (breaks, well, can, numbered, told, known) refl

pub number_same : (run longer : Run) (o : Option Key) → ((key : Key) → number_of longer key ≡ number_of run key) → option_and_then (number_of longer) o ≡ option_and_then (number_of run) o
number_same run longer None same = refl
number_same run longer (Some key) same = same key

pub can_stay : (run longer : Run) (placed : Placed) (it : More placed) → IsKept run longer placed (with_more placed it) → not (can_be run placed) ≡ false → not (can_be longer (with_more placed it)) ≡ false
can_stay run longer placed it kept h = ap (λ (b : Bool). not b) (kept.can (not_false (can_be run placed) h))

pub why_stays : (run longer : Run) (placed : Placed) (it : More placed) → ((key : Key) → number_of longer key ≡ number_of run key) → (is_window run ≡ true → is_window longer ≡ true) → IsKept run longer placed (with_more placed it) → why_at run placed ≡ None → why_at longer (with_more placed it) ≡ None
why_stays run longer placed it numbers windows kept why =
    let other = with_more placed it in
    let parts = parts_of (has_report report.Failed placed.entry) (not (can_be run placed)) (lacks_number run placed) (is_unreported placed placed.called) (is_unknown placed placed.called) (breaks_none (is_window run) placed.called _ why) in
    none_by (breaks_off (is_window longer) placed.called) (has_report report.Failed it.entry) (not (can_be longer other)) (lacks_number longer other) (is_unreported other placed.called) (is_unknown other placed.called)
    (breaks_kept (is_window run) (is_window longer) placed.called windows (breaks_first (breaks_off (is_window run) placed.called) _ why)) (kept.failed parts.well) (can_stay run longer placed it kept parts.can)
    (ap (λ (o : Option ℕ). needs_number placed.called && is_none o) (number_same run longer (named_key placed) numbers) ∙ parts.numbered)
    (told_kept placed it placed.called it.numbers parts.told) (unknown_kept placed it placed.called parts.known)

-- ---- Waits ----

put_same : (b : Bool) (request : ℕ) (xs ys : List ℕ) → xs ≡ ys → (if b then request ∷ xs else xs) ≡ (if b then request ∷ ys else ys)
put_same b request xs ys same = rw same refl

filter_same : (K : ℕ → Type 0) (f g : ℕ → Bool) (requests : List ℕ) → ((request : ℕ) → K request → f request ≡ g request) → AllOf K requests → filter f requests ≡ filter g requests
filter_same K f g [] same all = refl
filter_same K f g (request ∷ requests) same all =
    ap (λ (b : Bool). if b then request ∷ filter f requests else filter f requests) (same request all.0)
    ∙ put_same (g request) request (filter f requests) (filter g requests) (filter_same K f g requests same all.1)

put_all : (K : ℕ → Type 0) (b : Bool) (request : ℕ) (others : List ℕ) → K request → AllOf K others → AllOf K (if b then request ∷ others else others)
put_all K true request others is all = (is, all)
put_all K false request others is all = all

filter_all : (K : ℕ → Type 0) (f : ℕ → Bool) (requests : List ℕ) → AllOf K requests → AllOf K (filter f requests)
filter_all K f [] all = tt
filter_all K f (request ∷ requests) all = put_all K (f request) request (filter f requests) all.0 (filter_all K f requests all.1)

abbrev id_put : (ℕ → Id) → ℕ → Bool → List Id → List Id
id_put ids request out others = if out then others else ids request ∷ others

ids_put : (lines : List Line) (request : ℕ) (requests : List ℕ) (b : Bool) → is_left_out lines request ≡ b → ids_of lines (request ∷ requests) ≡ id_put (id_of lines) request b (ids_of lines requests)
ids_put lines request requests true is = rw is refl
ids_put lines request requests false is = rw is refl

pub ids_stay : (lines later : List Line) (requests : List ℕ) → AllOf (StaysOf lines later) requests → ids_of later requests ≡ ids_of lines requests
ids_stay lines later [] all = refl
ids_stay lines later (request ∷ requests) all =
    ids_put later request requests (is_left_out lines request) (out_stays lines later request all.0)
    ∙ ap (λ (ids : List Id). id_put (id_of later) request (is_left_out lines request) ids) (ids_stay lines later requests all.1)
    ∙ ap (λ (id : Id). if is_left_out lines request then ids_of lines requests else id ∷ ids_of lines requests) all.0.id
    ∙ sym (ids_put lines request requests (is_left_out lines request) refl)

waits_stay : (lines later : List Line) (requests : List ℕ) → AllOf (StaysOf lines later) requests → wait_for_all later requests ≡ wait_for_all lines requests
waits_stay lines later requests all = ap (λ (ids : List Id). WaitsForAll ids ∷ []) (ids_stay lines later requests all)

both_if : (b : Bool) (one two other also : List Step) → one ≡ other → two ≡ also → (if b then one else two) ≡ (if b then other else also)
both_if b one two other also first second = rw (first, second) refl

passes_stay : (lines later : List Line) (requests : List ℕ) → AllOf (StaysOf lines later) requests → pass_test later requests ≡ pass_test lines requests
passes_stay lines later requests all =
    ap (λ (ids : List Id). WaitsForAll ids ∷ PutsOff (ids_of later (filter (is_of_send later) requests)) ∷ [])
    (part (λ request. not (is_of_send later request)) (λ request. not (is_of_send lines request)) (λ request is. ap (λ (b : Bool). not b) is.sends))
    ∙ ap (λ (ids : List Id). WaitsForAll (ids_of lines (filter (λ request. not (is_of_send lines request)) requests)) ∷ PutsOff ids ∷ [])
    (part (is_of_send later) (is_of_send lines) (λ request is. is.sends))
  where
    part : (f g : ℕ → Bool) → ((request : ℕ) → StaysOf lines later request → f request ≡ g request) → ids_of later (filter f requests) ≡ ids_of lines (filter g requests)
    part f g same =
        ap (λ (rs : List ℕ). ids_of later rs) (filter_same (StaysOf lines later) f g requests same all)
        ∙ ids_stay lines later (filter g requests) (filter_all (StaysOf lines later) g requests all)

tests_stay : (choice : Choice) (lines later : List Line) (requests : List ℕ) → AllOf (StaysOf lines later) requests → test choice later requests ≡ test choice lines requests
tests_stay choice lines later requests all =
    both_if (passes_tests choice.tests choice.calls) (pass_test later requests) (wait_for_all later requests) (pass_test lines requests) (wait_for_all lines requests)
    (passes_stay lines later requests all) (waits_stay lines later requests all)

one_stays : (one two other also : List Id) → one ≡ other → two ≡ also → wait_for_one one two ≡ wait_for_one other also
one_stays one two other also first second = rw (first, second) refl

any_stays : (lines later : List Line) (requests wanted : List ℕ) → AllOf (StaysOf lines later) requests → AllOf (StaysOf lines later) wanted → wait_for_any later requests wanted ≡ wait_for_any lines requests wanted
any_stays lines later [] wanted all also = one_stays _ _ _ _ (ids_stay lines later wanted also) refl
any_stays lines later (request ∷ []) wanted all also = waits_stay lines later (request ∷ []) all
any_stays lines later (one ∷ two ∷ requests) wanted all also =
    one_stays (ids_of later wanted) (ids_of later (one ∷ two ∷ requests)) (ids_of lines wanted) (ids_of lines (one ∷ two ∷ requests))
    (ids_stay lines later wanted also) (ids_stay lines later (one ∷ two ∷ requests) all)

pub record ChosenStays (placed : Placed) (it : More placed) (requests : List ℕ) : Type 0 where
  pub same : chosen (with_more placed it) requests ≡ chosen placed requests
  pub all : AllOf (StaysOf placed.journal.lines it.later.lines) (chosen placed requests)

chosen_by : (placed : Placed) (it : More placed) → is_none (report_of report.Chose placed.entry) ≡ false → AllOf (StaysOf placed.journal.lines it.later.lines) (requests_in (report_of report.Chose placed.entry))
chosen_by placed it h = of_line (report_of report.Chose placed.entry) refl h
  where
    of_line : (o : Option Line) → report_of report.Chose placed.entry ≡ o → is_none o ≡ false → AllOf (StaysOf placed.journal.lines it.later.lines) (requests_in o)
    of_line None is e = absurd (false≢true (sym e))
    of_line (Some line) is e = it.chosen line is

pub chosen_stays : (placed : Placed) (it : More placed) (requests : List ℕ) → AllOf (StaysOf placed.journal.lines it.later.lines) requests → chose_none placed requests ≡ false → ChosenStays placed it requests
chosen_stays placed it [] all h = record {
  same = ap (λ (o : Option Line). requests_in o) (chose_by placed it h);
  all = chosen_by placed it h;
}
chosen_stays placed it (request ∷ []) all h = record { same = refl; all = all }
chosen_stays placed it (one ∷ two ∷ requests) all h = record {
  same = ap (λ (o : Option Line). requests_in o) (chose_by placed it h);
  all = chosen_by placed it h;
}

none_stays : (choice : Choice) (placed : Placed) (it : More placed) (one : Called) → Requests placed it one → is_unknown placed one ≡ false → on_none choice (with_more placed it) it.later.lines one ≡ on_none choice placed placed.journal.lines one
none_stays choice placed it (ReceivesMatched message) all h = waits_stay placed.journal.lines it.later.lines (message ∷ []) (all, tt)
none_stays choice placed it (Waits requests) all h = waits_stay placed.journal.lines it.later.lines requests all
none_stays choice placed it (Tests requests) all h = tests_stay choice placed.journal.lines it.later.lines requests all
none_stays choice placed it (WaitsAny requests) all h =
    let own = chosen_stays placed it requests all h in
    ap (λ (wanted : List ℕ). wait_for_any it.later.lines requests wanted) own.same
    ∙ any_stays placed.journal.lines it.later.lines requests (chosen placed requests) all own.all
none_stays choice placed it (WaitsSome requests) all h =
    let own = chosen_stays placed it requests all h in
    ap (λ (wanted : List ℕ). wait_for_all it.later.lines wanted) own.same
    ∙ waits_stay placed.journal.lines it.later.lines (chosen placed requests) own.all
none_stays choice placed it _ all h = refl

-- ---- Calls on a communicator ----

abbrev here_of : ℕ → ℕ → Bool → List Line → Option Message → Call → Here
here_of comm line past lines message made =
    record { comm = comm; line = line; is_past = past; lines = lines; message = message; maker = made }

abbrev Told : List Line → Option Message → Called → Type 0
Told lines message (Receives awaited) = is_none message ≡ false
Told lines message (StartsReceive request awaited) = (is_none message && not (is_gone lines request)) ≡ false
Told lines message (Exchanges sent awaited) = is_none message ≡ false
Told lines message (StartsExchange request received sent awaited) = (is_none message && not (is_gone lines received)) ≡ false
Told lines message (Probes awaited) = is_none message ≡ false
Told lines message (ProbesMatching own awaited) = is_none message ≡ false
Told lines message it = ⊤

told_of : (placed : Placed) (it : Called) → is_unreported placed it ≡ false → is_unknown placed it ≡ false → Told placed.journal.lines (message_at placed) it
told_of placed (Receives awaited) told known = known
told_of placed (StartsReceive request awaited) told known = told
told_of placed (Exchanges sent awaited) told known = known
told_of placed (StartsExchange request received sent awaited) told known = told
told_of placed (Probes awaited) told known = known
told_of placed (ProbesMatching own awaited) told known = known
told_of placed _ told known = tt

abbrev no_steps : List Step
no_steps = []

nothing : (o : Option Message) → option_map_or (λ (m : Message). no_steps) o no_steps ≡ no_steps
nothing None = refl
nothing (Some m) = refl

received_by : (gone : Bool) (request : ℕ) (start : Message → ℕ → Call) (message newer : Option Message) → (is_none message && not gone) ≡ false → (is_none message ≡ false → newer ≡ message) → option_map_or (λ (m : Message). if gone then [] else Starts (Own request) (start m) ∷ []) newer [] ≡ option_map_or (λ (m : Message). if gone then [] else Starts (Own request) (start m) ∷ []) message []
received_by true request start message newer told keeps = nothing newer ∙ sym (nothing message)
received_by false request start (Some m) newer told keeps =
    ap (λ (o : Option Message). option_map_or (λ (one : Message). Starts (Own request) (start one) ∷ []) o []) (keeps refl)
received_by false request start None newer told keeps = absurd (false≢true (sym told))

received_stays : (lines later : List Line) (request : ℕ) (start : Message → ℕ → Call) (message newer : Option Message) → is_gone later request ≡ is_gone lines request → (is_none message && not (is_gone lines request)) ≡ false → (is_none message ≡ false → newer ≡ message) → option_map_or (λ (m : Message). if is_gone later request then [] else Starts (Own request) (start m) ∷ []) newer [] ≡ option_map_or (λ (m : Message). if is_gone lines request then [] else Starts (Own request) (start m) ∷ []) message []
received_stays lines later request start message newer gone told keeps =
    ap (λ (b : Bool). option_map_or (λ (m : Message). if b then [] else Starts (Own request) (start m) ∷ []) newer []) gone
    ∙ received_by (is_gone lines request) request start message newer told keeps

abbrev start_if : ℕ → (ℕ → Call) → Bool → List Step
start_if request start gone = if gone then [] else Starts (Own request) start ∷ []

comm_stays : (comm line : ℕ) (past : Bool) (lines later : List Line) (message newer : Option Message) (made other : Call) (it : Called) → Numbers (StaysOf lines later) (StaysOf lines later) (StaysOf lines later) it → Told lines message it → (is_none message ≡ false → newer ≡ message) → (makes_comm it ≡ true → other ≡ made) → on_comm (here_of comm line past later newer other) it ≡ on_comm (here_of comm line past lines message made) it
comm_stays comm line past lines later message newer made other (StartsSend request mode sent) all told keeps same =
    ap (start_if request (start_send mode comm sent)) all.gone
comm_stays comm line past lines later message newer made other (Receives awaited) all told keeps same =
    ap (λ (o : Option Message). on_comm (here_of comm line past lines o made) (Receives awaited)) (keeps told)
comm_stays comm line past lines later message newer made other (StartsReceive request awaited) all told keeps same =
    received_stays lines later request (start_receive comm) message newer all.gone told keeps
comm_stays comm line past lines later message newer made other (Exchanges sent awaited) all told keeps same =
    ap (λ (o : Option Message). on_comm (here_of comm line past lines o made) (Exchanges sent awaited)) (keeps told)
comm_stays comm line past lines later message newer made other (StartsExchange request received sent awaited) all told keeps same =
    ap (λ (b : Bool). start_if request (start_send Standard comm sent) b ++ knowing (here_of comm line past later newer other) (λ m. starts (here_of comm line past later newer other) received (start_receive comm m))) all.0.gone
    ∙ ap (λ (steps : List Step). start_if request (start_send Standard comm sent) (is_gone lines request) ++ steps)
    (received_stays lines later received (start_receive comm) message newer all.1.gone told keeps)
comm_stays comm line past lines later message newer made other (Probes awaited) all told keeps same =
    ap (λ (o : Option Message). on_comm (here_of comm line past lines o made) (Probes awaited)) (keeps told)
comm_stays comm line past lines later message newer made other (ProbesMatching own awaited) all told keeps same =
    ap (λ (o : Option Message). on_comm (here_of comm line past lines o made) (ProbesMatching own awaited)) (keeps told)
comm_stays comm line past lines later message newer made other (StartsCollective request collective own root) all told keeps same =
    ap (start_if request (start_collective comm (kind_of collective root))) all.gone
comm_stays comm line past lines later message newer made other (StartsDuplicate request own) all told keeps same =
    ap (start_if request (start_collective comm kind.Barrier)) all.gone
comm_stays comm line past lines later message newer made other (Duplicates own) all told keeps same = ap (λ (call : Call). Does call ∷ []) (same refl)
comm_stays comm line past lines later message newer made other (Splits own colour key) all told keeps same = ap (λ (call : Call). Does call ∷ []) (same refl)
comm_stays comm line past lines later message newer made other (Makes own) all told keeps same = ap (λ (call : Call). Does call ∷ []) (same refl)
comm_stays comm line past lines later message newer made other _ all told keeps same = refl

-- ---- Steps ----

pub steps_stay : (run longer : Run) (choice : Choice) (placed : Placed) (it : More placed) → choice.calls ≡ Strict → ((key : Key) → number_of longer key ≡ number_of run key) → is_unreported placed placed.called ≡ false → is_unknown placed placed.called ≡ false → (makes_comm placed.called ≡ true → (comm : ℕ) → maker longer (with_more placed it) comm ≡ maker run placed comm) → steps_of longer choice (with_more placed it) ≡ steps_of run choice placed
steps_stay run longer choice placed it strict numbers told known same =
    ap (λ (o : Option ℕ). steps_by longer choice (with_more placed it) o) (number_same run longer (named_key placed) numbers)
    ∙ by_number (number_at run placed)
  where
    past : is_past choice.calls (with_more placed it) ≡ is_past choice.calls placed
    past = strict_past choice (with_more placed it) strict ∙ sym (strict_past choice placed strict)

    by_number : (o : Option ℕ) → steps_by longer choice (with_more placed it) o ≡ steps_by run choice placed o
    by_number (Some comm) =
        ap (λ (b : Bool). on_comm (here_of comm placed.line b it.later.lines (message_at (with_more placed it)) (maker longer (with_more placed it) comm)) placed.called) past
        ∙ comm_stays comm placed.line (is_past choice.calls placed) placed.journal.lines it.later.lines (message_at placed) (message_at (with_more placed it))
        (maker run placed comm) (maker longer (with_more placed it) comm) placed.called it.numbers (told_of placed placed.called told known) (message_kept placed it)
        (λ makes_one. same makes_one comm)
    by_number None =
        ap (λ (b : Bool). unless_past b (on_none choice (with_more placed it) it.later.lines placed.called)) past
        ∙ ap (λ (steps : List Step). unless_past (is_past choice.calls placed) steps) (none_stays choice placed it placed.called it.numbers known)
