-- Lists of entries that are the same but for the numbers of their lines are the same but for these.
use Rattle.std.proofs.Common.{◌≡◌, ◌⊎◌, ℕ, ◌||◌, not, Bool, true, false, Option, Some, None, is_some, is_none, unwrap_or, if◌then◌else◌, List, [], ◌∷◌, ◌++◌, length, take, refl, sym, ap, subst, ◌∙◌, inl, inr}
use Rattle.std.specs.Prelude.{⊤, option_and_then}
use Rattle.std.specs.List.{list_any}
use Rattle.std.proofs.lemmas.Bool.{cases_Bool}
use Rattle.std.specs.Option.{option_map_or}
use Rattle.mpicall.specs.declared.limits.TheConstants.{MOST_REQUESTS}
use Rattle.mpicall.specs.declared.call.Call.{Call}
use Rattle.mpicall.specs.declared.call.Call.TheVariants.{Irecv, Finalize, Open}
use Rattle.mpicall.specs.declared.call.Mode.TheVariants.{Standard}
use Rattle.mpicall.specs.declared.call.Peer.TheVariants as peer
use Rattle.journals.specs.Lines.{Line}
use Rattle.journals.specs.Entries.{Entry}
use Rattle.journals.specs.Journal.{Journal}
use Rattle.journals.specs.Known.{report_of, requests_in}
use Rattle.journals.specs.declared.word.ReportWord.TheVariants as report
use Rattle.closing.specs.Called.{Called, Sent, Awaited, Exchanges, StartsExchange, ReceivesMatched, Waits, Tests, WaitsAny, WaitsSome, Duplicates, Splits, Makes}
use Rattle.closing.specs.Keys.{Key}
use Rattle.closing.specs.RankComms.{RankComms}
use Rattle.closing.specs.Entries.{Run, Placed}
use Rattle.closing.specs.Made.{key_made}
use Rattle.closing.specs.Numbers.{number_of}
use Rattle.closing.specs.Steps.{Id, Own, Whole, ReceiveHalf, Sink, Written, Progress, Step, Does, Starts, WaitsForAll, WaitsForOne, PutsOff, WaitsForLate, number_in, numbers_of, least_free, waits_for, wait_for_one, plain, wait_one, after_step, after_steps}
use Rattle.closing.specs.Endings.{message_at, number_at, why_at}
use Rattle.closing.specs.Entry.{Choice, here_at, ids_of, is_past, start_send, giving_line, maker, maker_by, on_comm, on_none, steps_by}
use Rattle.closing.specs.Recording.{Listed, is_end, steps_before, outcome_by, outcome_of, outcome_in, go_on, list_from}
use Rattle.closing.specs.Sinks.{Outcome, GoesOn, Ends, ends, sinks, starts_half, is_of, sink_in, sink_for, name_sink, is_met, overlap, waits_by, chooses_by, takes_by, unsure, wanted_at, is_sound, by_call, outcome_by_sinks}
use Rattle.closing.specs.declared.choice.Tests.{Tests as TestsChoice}
use Rattle.closing.specs.declared.choice.Calls.{Calls}
use Rattle.closing.specs.declared.choice.Calls.TheVariants.{Strict}
use Rattle.closing.specs.declared.choice.Unreported.{Unreported}
use Rattle.closing.specs.declared.choice.Unreported.TheVariants as unreported
use Rattle.closing.specs.declared.pending.Wanted.{Wanted}
use Rattle.closing.specs.declared.why.Why.{Why}
use Rattle.closing.specs.declared.why.Why.TheVariants.{NeverCameBack, NeverReported, NotJudged}
use Rattle.lawful.specs.LongerTold.{StartsSame, AreSame}
use Rattle.lawful.proofs.LongerLemmas.{AreLater, with_line, with_lines}

-- ---- Records ----

starts_same : (o : Option Id) → StartsSame o o
starts_same (Some (Whole line)) = tt
starts_same (Some (Own request)) = refl
starts_same (Some (ReceiveHalf line)) = refl
starts_same (Some (Sink own wanted is_known)) = refl
starts_same None = refl

pub all_same : (records : List Written) → AreSame records records
all_same [] = tt
all_same (one ∷ records) = (record { call = refl; starts = starts_same one.starts }, all_same records)

same_append : (old new more also : List Written) → AreSame old new → AreSame more also → AreSame (old ++ more) (new ++ also)
same_append [] [] more also same others = others
same_append (one ∷ old) (other ∷ new) more also same others = (same.0, same_append old new more also same.1 others)
same_append [] (other ∷ new) more also same others = absurd same
same_append (one ∷ old) [] more also same others = absurd same

plain_same : (line other : ℕ) (calls : List Call) → AreSame (plain line calls) (plain other calls)
plain_same line other [] = tt
plain_same line other (call ∷ calls) = (record { call = refl; starts = refl }, plain_same line other calls)

-- ---- What comes by the sinks before ----

by_starts : {A : Type 0} (said : Option Id → A) (one other : Option Id) → ((line place : ℕ) → said (Some (Whole place)) ≡ said (Some (Whole line))) → StartsSame one other → said other ≡ said one
by_starts said (Some (Whole line)) (Some (Whole place)) whole same = whole line place
by_starts said (Some (Whole line)) (Some (Own own)) whole same = ap said same
by_starts said (Some (Whole line)) (Some (ReceiveHalf place)) whole same = ap said same
by_starts said (Some (Whole line)) (Some (Sink own wanted is_known)) whole same = ap said same
by_starts said (Some (Whole line)) None whole same = ap said same
by_starts said (Some (Own own)) other whole same = ap said same
by_starts said (Some (ReceiveHalf line)) other whole same = ap said same
by_starts said (Some (Sink own wanted is_known)) other whole same = ap said same
by_starts said None other whole same = ap said same

whole_of : (id : Id) (line place : ℕ) → is_of id (Some (Whole place)) ≡ is_of id (Some (Whole line))
whole_of (Own request) line place = refl
whole_of (Whole own) line place = refl
whole_of (ReceiveHalf own) line place = refl
whole_of (Sink own wanted is_known) line place = refl

sink_same : (id : Id) (old new : List Written) → AreSame old new → sink_for new id ≡ sink_for old id
sink_same id [] [] same = refl
sink_same id (one ∷ old) (other ∷ new) same =
    let is = by_starts (is_of id) one.starts other.starts (whole_of id) same.0.starts in
    elim (cases_Bool (is_of id one.starts)) [
      | inl here ↦ rw (is ∙ here, here) (by_starts sink_in one.starts other.starts (λ line place. refl) same.0.starts)
      | inr there ↦ rw (is ∙ there, there) (sink_same id old new same.1)
    ]
sink_same id [] (other ∷ new) same = absurd same
sink_same id (one ∷ old) [] same = absurd same

any_same : (one other : Id → Bool) (ids : List Id) → ((id : Id) → other id ≡ one id) → list_any other ids ≡ list_any one ids
any_same one other [] same = refl
any_same one other (id ∷ ids) same =
    ap (λ (b : Bool). b || list_any other ids) (same id) ∙ ap (λ (b : Bool). one id || b) (any_same one other ids same)

name_same : (old new : List Written) (placed : Placed) (requests : List ℕ) → AreSame old new → name_sink new placed requests ≡ name_sink old placed requests
name_same old new placed requests same =
    any_same (λ id. is_some (sink_for old id)) (λ id. is_some (sink_for new id)) (ids_of placed.journal.lines requests)
    (λ id. ap (λ (o : Option Wanted). is_some o) (sink_same id old new same))

met_same : (wanted : Wanted) (old new : List Written) → AreSame old new → is_met new wanted ≡ is_met old wanted
met_same wanted [] [] same = refl
met_same wanted (one ∷ old) (other ∷ new) same =
    ap (λ (o : Option Wanted). option_map_or (overlap wanted) o false || is_met new wanted) (by_starts sink_in one.starts other.starts (λ line place. refl) same.0.starts)
    ∙ ap (λ (b : Bool). option_map_or (overlap wanted) (sink_in one.starts) false || b) (met_same wanted old new same.1)
met_same wanted [] (other ∷ new) same = absurd same
met_same wanted (one ∷ old) [] same = absurd same

waits_same : (choice : Choice) (old new : List Written) (placed : Placed) (requests : List ℕ) → AreSame old new → waits_by choice new placed requests ≡ waits_by choice old placed requests
waits_same choice old new placed requests same =
    ap (λ (b : Bool). if is_past choice.calls placed || not b then None else Some (ends (if placed.came_back then NotJudged else NeverCameBack))) (name_same old new placed requests same)

line_same : (choice : Choice) (old new : List Written) (placed : Placed) (o : Option Line) → AreSame old new → option_and_then (λ line. waits_by choice new placed (requests_in (Some line))) o ≡ option_and_then (λ line. waits_by choice old placed (requests_in (Some line))) o
line_same choice old new placed None same = refl
line_same choice old new placed (Some line) same = waits_same choice old new placed (requests_in (Some line)) same

chooses_same : (choice : Choice) (old new : List Written) (placed : Placed) (requests : List ℕ) → AreSame old new → chooses_by choice new placed requests ≡ chooses_by choice old placed requests
chooses_same choice old new placed [] same = line_same choice old new placed (report_of report.Chose placed.entry) same
chooses_same choice old new placed (request ∷ []) same = waits_same choice old new placed (request ∷ []) same
chooses_same choice old new placed (one ∷ two ∷ requests) same = line_same choice old new placed (report_of report.Chose placed.entry) same

takes_same : (choice : Choice) (old new : List Written) (placed : Placed) (o : Option Wanted) → AreSame old new → option_and_then (takes_by choice new placed) o ≡ option_and_then (takes_by choice old placed) o
takes_same choice old new placed None same = refl
takes_same choice old new placed (Some wanted) same =
    ap (λ (b : Bool). if is_none (message_at placed) || b then Some (unsure choice placed wanted placed.called) else None) (met_same wanted old new same)

call_same : (run : Run) (choice : Choice) (old new : List Written) (placed : Placed) (it : Called) → AreSame old new → by_call run choice new placed it ≡ by_call run choice old placed it
call_same run choice old new placed (ReceivesMatched message) same = waits_same choice old new placed (message ∷ []) same
call_same run choice old new placed (Waits requests) same = waits_same choice old new placed requests same
call_same run choice old new placed (Tests requests) same = waits_same choice old new placed requests same
call_same run choice old new placed (WaitsAny requests) same = chooses_same choice old new placed requests same
call_same run choice old new placed (WaitsSome requests) same = chooses_same choice old new placed requests same
call_same run choice old new placed _ same = takes_same choice old new placed (option_and_then (wanted_at placed) (number_at run placed)) same

in_same : (run : Run) (choice : Choice) (old new : List Written) (placed : Placed) (mode : Unreported) → choice.unreported ≡ mode → AreSame old new → outcome_in run choice new placed ≡ outcome_in run choice old placed
in_same run choice old new placed unreported.Ends is same = rw is refl
in_same run choice old new placed unreported.Sinks is same =
    rw is (ap (λ (o : Option Outcome). unwrap_or (if is_sound run placed then o else None) (outcome_of run choice placed)) (call_same run choice old new placed placed.called same))

-- ---- What comes at another line ----

-- the list ends at a blocking exchange, whose send stands for its line
pub record IsHalf (line place : ℕ) (one other : Outcome) : Type 0 where
  pub start : ℕ → Call
  pub rest : Id
  pub next : ℕ → Call
  pub end : Call
  pub why : Option Why
  pub is : one ≡ Ends (Starts (Whole line) start ∷ Starts rest next ∷ []) end why
  pub also : other ≡ Ends (Starts (Whole place) start ∷ Starts rest next ∷ []) end why

abbrev Half : ℕ → ℕ → Outcome → Outcome → Type 0
Half line place one other = (other ≡ one) ⊎ IsHalf line place one other

abbrev strictly : TestsChoice → Unreported → Choice
strictly tests mode = record { tests = tests; calls = Strict; unreported = mode }

module _ (run : Run) (tests : TestsChoice) (mode : Unreported) (rank : ℕ) (journal : Journal) (entry : Entry) (comms : RankComms) (back : Bool) (line place : ℕ) where
  abbrev at : ℕ → Called → Placed
  at number it = record { rank = rank; journal = journal; line = number; entry = entry; called = it; comms = comms; came_back = back }

  giving_free : (comm : ℕ) (it : Called) (key : Key) (new : ℕ) → giving_line run (at place it) comm it key new ≡ giving_line run (at line it) comm it key new
  giving_free comm (Splits own (Some colour) key) made new = refl
  giving_free comm (Splits own None key) made new = refl
  giving_free comm (Makes own) made new = refl
  giving_free comm _ made new = refl

  maker_by_free : (comm : ℕ) (it : Called) (key : Option Key) (new : Option ℕ) → maker_by run (at place it) comm key new ≡ maker_by run (at line it) comm key new
  maker_by_free comm it (Some key) (Some new) = giving_free comm it key new
  maker_by_free comm it (Some key) None = refl
  maker_by_free comm it None new = refl

  maker_free : (comm : ℕ) (it : Called) → maker run (at place it) comm ≡ maker run (at line it) comm
  maker_free comm it = maker_by_free comm it (key_made run (at line it)) (option_and_then (number_of run) (key_made run (at line it)))

  comm_free : (comm : ℕ) (it : Called) → on_comm (here_at run (strictly tests mode) (at place it) comm) it ≡ on_comm (here_at run (strictly tests mode) (at line it) comm) it
  comm_free comm (Duplicates own) = ap (λ (call : Call). Does call ∷ []) (maker_free comm (Duplicates own))
  comm_free comm (Splits own colour key) = ap (λ (call : Call). Does call ∷ []) (maker_free comm (Splits own colour key))
  comm_free comm (Makes own) = ap (λ (call : Call). Does call ∷ []) (maker_free comm (Makes own))
  comm_free comm _ = refl

  none_free : (it : Called) → on_none (strictly tests mode) (at place it) journal.lines it ≡ on_none (strictly tests mode) (at line it) journal.lines it
  none_free (Waits requests) = refl
  none_free _ = refl

  steps_free : (it : Called) (o : Option ℕ) → steps_by run (strictly tests mode) (at place it) o ≡ steps_by run (strictly tests mode) (at line it) o
  steps_free it (Some comm) = comm_free comm it
  steps_free it None = none_free it

  before_free : (it : Called) (why : Why) → steps_before run (strictly tests mode) (at place it) it why ≡ steps_before run (strictly tests mode) (at line it) it why
  before_free (StartsExchange request received sent awaited) NeverReported =
      steps_free (StartsExchange request received sent awaited) (number_at run (at line (StartsExchange request received sent awaited)))
  before_free (StartsExchange request received sent awaited) _ = refl
  before_free _ why = refl

  by_free : (it : Called) (o : Option Why) → outcome_by run (strictly tests mode) (at place it) o ≡ outcome_by run (strictly tests mode) (at line it) o
  by_free it (Some why) = ap (λ (steps : List Step). Ends steps Open (Some why)) (before_free it why)
  by_free it None =
      ap (λ (steps : List Step). if is_end it then Ends (WaitsForLate ∷ []) Finalize None else GoesOn steps) (steps_free it (number_at run (at line it)))

  why_free : (it : Called) → why_at run (at place it) ≡ why_at run (at line it)
  why_free (Waits requests) = refl
  why_free _ = refl

  pub of_free : (it : Called) → outcome_of run (strictly tests mode) (at place it) ≡ outcome_of run (strictly tests mode) (at line it)
  of_free it =
      ap (λ (o : Option Why). outcome_by run (strictly tests mode) (at place it) o) (why_free it) ∙ by_free it (why_at run (at line it))

  -- what comes by sinks of a call that is no blocking exchange
  abbrev IsOther : Called → Type 0
  IsOther (Exchanges sent awaited) = ⊥
  IsOther it = ⊤

  exchange_or : (it : Called) → IsOther it ⊎ ((sent : Sent) × (awaited : Awaited) × (it ≡ Exchanges sent awaited))
  exchange_or (Exchanges sent awaited) = inr (sent, awaited, refl)
  exchange_or _ = inl tt

  sunk_free : (records : List Written) (it : Called) → IsOther it → outcome_by_sinks run (strictly tests mode) records (at place it) ≡ outcome_by_sinks run (strictly tests mode) records (at line it)
  sunk_free records (Exchanges sent awaited) other = absurd other
  sunk_free records _ other = refl

  abbrev both : ℕ → Sent → Awaited → Wanted → List Step
  both number sent awaited wanted = starts_half wanted (Whole number) sent ∷ sinks (at number (Exchanges sent awaited)) wanted None ∷ []

  abbrev exchange_if : List Written → Sent → Awaited → ℕ → Bool → Option Wanted → Outcome
  exchange_if records sent awaited number sound wanted =
      unwrap_or (if sound then option_and_then (takes_by (strictly tests mode) records (at number (Exchanges sent awaited))) wanted else None)
      (outcome_of run (strictly tests mode) (at number (Exchanges sent awaited)))

  abbrev blocks_if : Sent → Awaited → Wanted → ℕ → Bool → Bool → Outcome
  blocks_if sent awaited wanted number came none =
      if not came then Ends (both number sent awaited wanted) Open (Some NeverCameBack) else if none then ends NeverCameBack else ends NotJudged

  blocks_free : (sent : Sent) (awaited : Awaited) (wanted : Wanted) (came none : Bool) → Half line place (blocks_if sent awaited wanted line came none) (blocks_if sent awaited wanted place came none)
  blocks_free sent awaited wanted true none = inl refl
  blocks_free sent awaited wanted false none =
      inr (record {
        start = start_send Standard wanted.comm sent;
        rest = Sink None wanted (is_some (message_at (at line (Exchanges sent awaited))));
        next = λ request. Irecv request wanted.comm peer.Null 0;
        end = Open;
        why = Some NeverCameBack;
        is = refl;
        also = refl;
      })

  met_free : (records : List Written) (sent : Sent) (awaited : Awaited) (wanted : Wanted) (b : Bool) → Half line place (unwrap_or (if b then Some (unsure (strictly tests mode) (at line (Exchanges sent awaited)) wanted (Exchanges sent awaited)) else None) (outcome_of run (strictly tests mode) (at line (Exchanges sent awaited)))) (unwrap_or (if b then Some (unsure (strictly tests mode) (at place (Exchanges sent awaited)) wanted (Exchanges sent awaited)) else None) (outcome_of run (strictly tests mode) (at place (Exchanges sent awaited))))
  met_free records sent awaited wanted true = blocks_free sent awaited wanted back (is_none (message_at (at line (Exchanges sent awaited))))
  met_free records sent awaited wanted false = inl (of_free (Exchanges sent awaited))

  exchange_free : (records : List Written) (sent : Sent) (awaited : Awaited) (sound : Bool) (o : Option Wanted) → Half line place (exchange_if records sent awaited line sound o) (exchange_if records sent awaited place sound o)
  exchange_free records sent awaited false o = inl (of_free (Exchanges sent awaited))
  exchange_free records sent awaited true None = inl (of_free (Exchanges sent awaited))
  exchange_free records sent awaited true (Some wanted) =
      met_free records sent awaited wanted (is_none (message_at (at line (Exchanges sent awaited))) || is_met records wanted)

  other_free : (records : List Written) (it : Called) → IsOther it → Half line place (unwrap_or (outcome_by_sinks run (strictly tests mode) records (at line it)) (outcome_of run (strictly tests mode) (at line it))) (unwrap_or (outcome_by_sinks run (strictly tests mode) records (at place it)) (outcome_of run (strictly tests mode) (at place it)))
  other_free records it other =
      inl (ap (λ (o : Option Outcome). unwrap_or o (outcome_of run (strictly tests mode) (at place it))) (sunk_free records it other)
      ∙ ap (λ (one : Outcome). unwrap_or (outcome_by_sinks run (strictly tests mode) records (at line it)) one) (of_free it))

  pub unwrapped_free : (records : List Written) (it : Called) → Half line place (unwrap_or (outcome_by_sinks run (strictly tests mode) records (at line it)) (outcome_of run (strictly tests mode) (at line it))) (unwrap_or (outcome_by_sinks run (strictly tests mode) records (at place it)) (outcome_of run (strictly tests mode) (at place it)))
  unwrapped_free records it = by_kind (exchange_or it)
    where
      by_kind : IsOther it ⊎ ((sent : Sent) × (awaited : Awaited) × (it ≡ Exchanges sent awaited)) → Half line place (unwrap_or (outcome_by_sinks run (strictly tests mode) records (at line it)) (outcome_of run (strictly tests mode) (at line it))) (unwrap_or (outcome_by_sinks run (strictly tests mode) records (at place it)) (outcome_of run (strictly tests mode) (at place it)))
      by_kind (inl other) = other_free records it other
      by_kind (inr is) =
          subst (λ (c : Called). Half line place (unwrap_or (outcome_by_sinks run (strictly tests mode) records (at line c)) (outcome_of run (strictly tests mode) (at line c))) (unwrap_or (outcome_by_sinks run (strictly tests mode) records (at place c)) (outcome_of run (strictly tests mode) (at place c)))) (sym is.2)
          (exchange_free records is.0 is.1 (is_sound run (at line (Exchanges is.0 is.1)))
          (option_and_then (wanted_at (at line (Exchanges is.0 is.1))) (number_at run (at line (Exchanges is.0 is.1)))))

in_free : (run : Run) (tests : TestsChoice) (mode : Unreported) (records : List Written) (placed : Placed) (place : ℕ) → Half placed.line place (outcome_in run (strictly tests mode) records placed) (outcome_in run (strictly tests mode) records (with_line placed place))
in_free run tests unreported.Ends records placed place =
    inl (of_free run tests unreported.Ends placed.rank placed.journal placed.entry placed.comms placed.came_back placed.line place placed.called)
in_free run tests unreported.Sinks records placed place =
    unwrapped_free run tests unreported.Sinks placed.rank placed.journal placed.entry placed.comms placed.came_back placed.line place records placed.called

-- ---- Steps ----

abbrev prog : List Written → List (Id × ℕ) → List Id → Progress
prog records active late = record { records = records; active = active; late = late }

record Lined (one other : Progress) : Type 0 where
  records : AreSame one.records other.records
  active : other.active ≡ one.active
  late : other.late ≡ one.late

as_prog : (one other : Progress) → Lined one other → prog other.records one.active one.late ≡ other
as_prog one other lined =
    ap (λ (active : List (Id × ℕ)). prog other.records active one.late) (sym lined.active)
    ∙ ap (λ (late : List Id). prog other.records other.active late) (sym lined.late)

wait_lined : (old new : List Written) (active : List (Id × ℕ)) (late : List Id) (line place : ℕ) (o : Option ℕ) (numbers : List ℕ) → AreSame old new → Lined (wait_one (prog old active late) line o numbers) (wait_one (prog new active late) place o numbers)
wait_lined old new active late line place None numbers same = record { records = same; active = refl; late = refl }
wait_lined old new active late line place (Some number) numbers same = record {
  records = same_append old new (plain line (wait_for_one number numbers ∷ [])) (plain place (wait_for_one number numbers ∷ [])) same (plain_same line place (wait_for_one number numbers ∷ []));
  active = refl;
  late = refl;
}

step_lined : (old new : List Written) (active : List (Id × ℕ)) (late : List Id) (line place : ℕ) (step : Step) → AreSame old new → Lined (after_step (prog old active late) line step) (after_step (prog new active late) place step)
step_lined old new active late line place (Does call) same = record {
  records = same_append old new (plain line (call ∷ [])) (plain place (call ∷ [])) same (plain_same line place (call ∷ []));
  active = refl;
  late = refl;
}
step_lined old new active late line place (Starts id call) same =
    let one : Written = record { call = call (least_free active); line = line; starts = Some id } in
    let other : Written = record { call = call (least_free active); line = place; starts = Some id } in
    record {
      records = same_append old new (one ∷ []) (other ∷ []) same (record { call = refl; starts = starts_same (Some id) }, tt);
      active = refl;
      late = refl;
    }
step_lined old new active late line place (WaitsForAll ids) same =
    let numbers = numbers_of active ids in
    let calls = waits_for (length numbers) numbers in
    record { records = same_append old new (plain line calls) (plain place calls) same (plain_same line place calls); active = refl; late = refl }
step_lined old new active late line place (WaitsForOne id ids) same =
    wait_lined old new active late line place (number_in active id) (take MOST_REQUESTS (numbers_of active ids)) same
step_lined old new active late line place (PutsOff ids) same = record { records = same; active = refl; late = refl }
step_lined old new active late line place WaitsForLate same =
    let numbers = numbers_of active late in
    let calls = waits_for (length numbers) numbers in
    record { records = same_append old new (plain line calls) (plain place calls) same (plain_same line place calls); active = refl; late = refl }

steps_lined : (one other : Progress) (line place : ℕ) (steps : List Step) → Lined one other → Lined (after_steps one line steps) (after_steps other place steps)
steps_lined one other line place [] lined = lined
steps_lined one other line place (step ∷ steps) lined =
    steps_lined (after_step one line step) (after_step other place step) line place steps
    (subst (λ (next : Progress). Lined (after_step one line step) (after_step next place step)) (as_prog one other lined)
    (step_lined one.records other.records one.active one.late line place step lined.records))

half_lined : (old new : List Written) (active : List (Id × ℕ)) (late : List Id) (line place : ℕ) (start next : ℕ → Call) (rest : Id) → AreSame old new → AreSame (after_steps (prog old active late) line (Starts (Whole line) start ∷ Starts rest next ∷ [])).records (after_steps (prog new active late) place (Starts (Whole place) start ∷ Starts rest next ∷ [])).records
half_lined old new active late line place start next rest same =
    let number = least_free active in
    let one : Written = record { call = start number; line = line; starts = Some (Whole line) } in
    let other : Written = record { call = start number; line = place; starts = Some (Whole place) } in
    let free = least_free ((Whole line, number) ∷ active) in
    same_append (old ++ one ∷ []) (new ++ other ∷ []) (record { call = next free; line = line; starts = Some rest } ∷ []) (record { call = next free; line = place; starts = Some rest } ∷ [])
    (same_append old new (one ∷ []) (other ∷ []) same (record { call = refl; starts = tt }, tt)) (record { call = refl; starts = starts_same (Some rest) }, tt)

-- ---- Lists ----

abbrev AreLined : List Placed → List Placed → Type 0
AreLined [] [] = ⊤
AreLined (one ∷ entries) (other ∷ others) = (other ≡ with_line one other.line) × AreLined entries others
AreLined entries others = ⊥

abbrev RestLined : (Progress → Listed) → (Progress → Listed) → Type 0
RestLined rest others = (one other : Progress) → Lined one other → AreSame (rest one).records (others other).records

goes_lined : (one other : Progress) (line place : ℕ) (outcome : Outcome) (rest others : Progress → Listed) → Lined one other → RestLined rest others → AreSame (go_on one line outcome rest).records (go_on other place outcome others).records
goes_lined one other line place (GoesOn steps) rest others lined all = all (after_steps one line steps) (after_steps other place steps) (steps_lined one other line place steps lined)
goes_lined one other line place (Ends steps end why) rest others lined all = (steps_lined one other line place steps lined).records

comes_lined : (one other : Progress) (line place : ℕ) (outcome next : Outcome) (rest others : Progress → Listed) → Half line place outcome next → Lined one other → RestLined rest others → AreSame (go_on one line outcome rest).records (go_on other place next others).records
comes_lined one other line place outcome next rest others (inl same) lined all =
    subst (λ (o : Outcome). AreSame (go_on one line outcome rest).records (go_on other place o others).records) (sym same)
    (goes_lined one other line place outcome rest others lined all)
comes_lined one other line place outcome next rest others (inr half) lined all =
    subst (λ (o : Outcome). AreSame (go_on one line o rest).records (go_on other place next others).records) (sym half.is)
    (subst (λ (o : Outcome). AreSame (after_steps one line (Starts (Whole line) half.start ∷ Starts half.rest half.next ∷ [])).records (go_on other place o others).records) (sym half.also)
    (subst (λ (q : Progress). AreSame (after_steps one line (Starts (Whole line) half.start ∷ Starts half.rest half.next ∷ [])).records (after_steps q place (Starts (Whole place) half.start ∷ Starts half.rest half.next ∷ [])).records) (as_prog one other lined)
    (half_lined one.records other.records one.active one.late line place half.start half.next half.rest lined.records)))

list_lined : (run : Run) (tests : TestsChoice) (mode : Unreported) (entries others : List Placed) (one other : Progress) → AreLined entries others → Lined one other → AreSame (list_from run (strictly tests mode) one entries).records (list_from run (strictly tests mode) other others).records
list_lined run tests mode [] [] one other all lined = lined.records
list_lined run tests mode (placed ∷ entries) (next ∷ others) one other all lined =
    comes_lined one other placed.line next.line (outcome_in run (strictly tests mode) one.records placed) (outcome_in run (strictly tests mode) other.records next)
    (λ p. list_from run (strictly tests mode) p entries) (λ p. list_from run (strictly tests mode) p others)
    (subst (λ (o : Outcome). Half placed.line next.line (outcome_in run (strictly tests mode) one.records placed) o)
    (ap (λ (it : Placed). outcome_in run (strictly tests mode) one.records it) (sym all.0) ∙ sym (in_same run (strictly tests mode) one.records other.records next mode refl lined.records))
    (in_free run tests mode one.records placed next.line))
    lined (λ p q same. list_lined run tests mode entries others p q all.1 same)
list_lined run tests mode [] (next ∷ others) one other all lined = absurd all
list_lined run tests mode (placed ∷ entries) [] one other all lined = absurd all

lined_itself : (others : List Placed) → AreLined others others
lined_itself [] = tt
lined_itself (other ∷ others) = (refl, lined_itself others)

-- there are as many others at least
abbrev pub AreAsMany : List Placed → List Placed → Type 0
AreAsMany [] others = ⊤
AreAsMany (placed ∷ entries) [] = ⊥
AreAsMany (placed ∷ entries) (other ∷ others) = AreAsMany entries others

pub as_many : (entries others : List Placed) → AreLater entries others → AreAsMany entries others
as_many [] others all = tt
as_many (placed ∷ entries) [] all = all
as_many (placed ∷ entries) (other ∷ others) all = as_many entries others all.2

with_lined : (entries others : List Placed) → AreAsMany entries others → AreLined (with_lines entries others) others
with_lined [] others many = lined_itself others
with_lined (placed ∷ entries) [] many = absurd many
with_lined (placed ∷ entries) (other ∷ others) many = (refl, with_lined entries others many)

strict_is : (choice : Choice) → choice.calls ≡ Strict → strictly choice.tests choice.unreported ≡ choice
strict_is choice strict = ap (λ (calls : Calls). as_choice calls) (sym strict)
  where
    as_choice : Calls → Choice
    as_choice calls = record { tests = choice.tests; calls = calls; unreported = choice.unreported }

pub lists_same : (run : Run) (choice : Choice) (entries others : List Placed) (progress : Progress) → choice.calls ≡ Strict → AreAsMany entries others → AreSame (list_from run choice progress (with_lines entries others)).records (list_from run choice progress others).records
lists_same run choice entries others progress strict many =
    subst (λ (c : Choice). AreSame (list_from run c progress (with_lines entries others)).records (list_from run c progress others).records) (strict_is choice strict)
    (list_lined run choice.tests choice.unreported (with_lines entries others) others progress progress (with_lined entries others many)
    (record { records = all_same progress.records; active = refl; late = refl }))
