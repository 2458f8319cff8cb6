-- What is kept after an entry, whether it is taken by the sinks before it or not.
use Rattle.std.proofs.Common.{◌≡◌, ◌∙◌, refl, sym, ap, subst, arith, ℕ, ◌-◌, ◌<◌, ◌≤◌, Bool, true, false, not, Option, Some, None, Ok, Err, List, [], ◌∷◌, length}
use Rattle.std.specs.Prelude.{if◌then◌else◌, is_none, option_and_then, unwrap_or}
use Rattle.mpicall.specs.Word.{or_else}
use Rattle.mpicall.specs.declared.call.Call.{Call}
use Rattle.mpicall.specs.declared.call.Call.TheVariants.{Open}
use Rattle.journals.specs.Known.{has_report}
use Rattle.journals.specs.declared.word.ReportWord.TheVariants as report
use Rattle.closing.specs.Called.{Called, Sends, StartsSend, Receives, StartsReceive, Exchanges, StartsExchange, Probes, ProbesMatching, ReceivesMatched, StartsMatched, Waits, Tests, WaitsAny, WaitsSome, Cancels, FreesRequest, Collects, StartsCollective, Duplicates, StartsDuplicate, Splits, Makes, MakesOfGroup, FreesComm, Nothing, Finalizes, Exits, Aborts, Fills, Stops, Cuts}
use Rattle.closing.specs.Endings.{awaited_at, breaks_off, can_be, first_of, lacks_number, message_at, number_at}
use Rattle.closing.specs.Entries.{Run, Placed, is_window}
use Rattle.closing.specs.Entry.{Choice}
use Rattle.closing.specs.Fit.{steps_in}
use Rattle.closing.specs.Pending.{sinks_from, unknown, pending_said}
use Rattle.closing.specs.Recording.{Listed, ended, is_end, outcome_in, outcome_of}
use Rattle.closing.specs.Sinks.{Outcome, GoesOn, Ends, blocks, by_call, chooses_by, is_met, is_sound, name_sink, outcome_by_sinks, sinks, starts_half, takes_by, unsure, wanted_at, waits_by}
use Rattle.closing.specs.Sinks as sunk
use Rattle.closing.specs.Steps.{Progress, Step, Written, after_steps}
use Rattle.closing.specs.inner.Lists.{Handed, IsCut}
use Rattle.closing.specs.inner.SoFar.{Entered}
use Rattle.closing.specs.inner.Taken.{CutKept, EndsKept, EndsTaken, IsCutTaken, IsKept, IsNotTaken, IsTakenBy, IsTakenOn, StopsKept, chooses_none, pending_at, pending_if, sinks_stand}
use Rattle.closing.specs.inner.Walked.{EndsAt, message_after}
use Rattle.closing.specs.inner.Walks.{ends}
use Rattle.closing.specs.declared.choice.Calls.{Calls}
use Rattle.closing.specs.declared.choice.Tests.{Tests as TestsChoice}
use Rattle.closing.specs.declared.choice.Unreported.{Unreported}
use Rattle.closing.specs.declared.choice.Unreported.TheVariants as unreported
use Rattle.closing.specs.declared.list.List.{List as ListCode}
use Rattle.closing.specs.declared.list.TheConstants.{MOST_RECORDS}
use Rattle.closing.specs.declared.stop.Stop.{Stop}
use Rattle.closing.specs.declared.stop.Stop.TheVariants.{Left, Memory}
use Rattle.closing.specs.declared.walk.Walk.{Walk}
use Rattle.closing.specs.declared.why.Why.{Why}
use Rattle.closing.specs.declared.why.Why.TheVariants.{NeverCameBack, NeverReported, Failed, NoNumber, TooLong, CannotBe, Stopped, Aborted, Full, Cut, NoJournal, NotJudged}
use Rattle.closing.proofs.ChosenLemmas.{chooses_is, pending_ends, pending_other}
use Rattle.closing.proofs.EntryCases.{found_stands, memory_entered}
use Rattle.closing.proofs.OutcomeOfEntry.{goes_on_past}
use Rattle.closing.proofs.SinkOutcomes.{if_some}
use Rattle.closing.proofs.UnsunkLemmas.{StartNone, cut_steps, kept_as, kept_steps, sinks_on, unsunk_steps}
use Rattle.closing.proofs.UnsunkSteps.{outcome_unsunk}

-- ---- By the sinks before it, or not ----

plain_by : (run : Run) (which : TestsChoice) (calls : Calls) (u : Unreported) (records : List Written) (placed : Placed)
    → (u ≡ unreported.Sinks → outcome_by_sinks run (record { tests = which; calls = calls; unreported = u }) records placed ≡ None)
    → outcome_in run (record { tests = which; calls = calls; unreported = u }) records placed ≡ outcome_of run (record { tests = which; calls = calls; unreported = u }) placed
plain_by run which calls unreported.Ends records placed none = refl
plain_by run which calls unreported.Sinks records placed none =
    let choice : Choice = record { tests = which; calls = calls; unreported = unreported.Sinks } in
    ap (λ (it : Option Outcome). unwrap_or it (outcome_of run choice placed)) (none refl)

pub plain_is : (run : Run) (choice : Choice) (records : List Written) (placed : Placed)
    → (choice.unreported ≡ unreported.Sinks → outcome_by_sinks run choice records placed ≡ None)
    → outcome_in run choice records placed ≡ outcome_of run choice placed
plain_is run choice records placed none = plain_by run choice.tests choice.calls choice.unreported records placed none

sunk_by : (run : Run) (which : TestsChoice) (calls : Calls) (u : Unreported) (records : List Written) (placed : Placed) (outcome : Outcome) → u ≡ unreported.Sinks
    → outcome_by_sinks run (record { tests = which; calls = calls; unreported = u }) records placed ≡ Some outcome
    → outcome_in run (record { tests = which; calls = calls; unreported = u }) records placed ≡ outcome
sunk_by run which calls unreported.Ends records placed outcome stand is = absurd (cc (stand))
sunk_by run which calls unreported.Sinks records placed outcome stand is =
    let choice : Choice = record { tests = which; calls = calls; unreported = unreported.Sinks } in
    ap (λ (it : Option Outcome). unwrap_or it (outcome_of run choice placed)) is

pub sunk_is : (run : Run) (choice : Choice) (records : List Written) (placed : Placed) (outcome : Outcome) → choice.unreported ≡ unreported.Sinks
    → outcome_by_sinks run choice records placed ≡ Some outcome → outcome_in run choice records placed ≡ outcome
sunk_is run choice records placed outcome stand is = sunk_by run choice.tests choice.calls choice.unreported records placed outcome stand is

-- ---- Entries that aren't, whatever sinks there are ----

-- the rules of what is no sound entry, but for a call that breaks the list off
abbrev others_of : Run → Placed → Bool → Option Why
others_of run placed failed = first_of ((failed, Failed) ∷ (not (can_be run placed), CannotBe) ∷ (lacks_number run placed, NoNumber) ∷ [])

unsound : (run : Run) (choice : Choice) (records : List Written) (placed : Placed) → is_sound run placed ≡ false → outcome_by_sinks run choice records placed ≡ None
unsound run choice records placed e = ap (λ (b : Bool). if b then by_call run choice records placed placed.called else None) e

pub broken_plain : (run : Run) (choice : Choice) (records : List Written) (placed : Placed) (why : Why) → breaks_off (is_window run) placed.called ≡ Some why
    → outcome_in run choice records placed ≡ outcome_of run choice placed
broken_plain run choice records placed why e =
    plain_is run choice records placed (λ stand. unsound run choice records placed
    (ap (λ (it : Option Why). is_none (or_else it (others_of run placed (has_report report.Failed placed.entry)))) e))

pub failed_plain : (run : Run) (choice : Choice) (records : List Written) (placed : Placed) → breaks_off (is_window run) placed.called ≡ None → has_report report.Failed placed.entry ≡ true
    → outcome_in run choice records placed ≡ outcome_of run choice placed
failed_plain run choice records placed broken failed =
    plain_is run choice records placed (λ stand. unsound run choice records placed
    (ap (λ (it : Option Why). is_none (or_else it (others_of run placed (has_report report.Failed placed.entry)))) broken
    ∙ ap (λ (b : Bool). is_none (others_of run placed b)) failed))

-- one that takes no message
takes_none : (choice : Choice) (records : List Written) (placed : Placed) (number : Option ℕ) → awaited_at placed ≡ None
    → option_and_then (takes_by choice records placed) (option_and_then (wanted_at placed) number) ≡ None
takes_none choice records placed None e = refl
takes_none choice records placed (Some comm) e =
    ap (λ it. option_and_then (takes_by choice records placed) (option_and_then (λ one. if sunk.takes_nothing placed one.0 then None else Some (sunk.wanted_by comm one.0 (message_at placed))) it)) e

none_if : (b : Bool) (it : Option Outcome) → it ≡ None → (if b then it else None) ≡ None
none_if true it e = e
none_if false it e = refl

end_by : (run : Run) (choice : Choice) (records : List Written) (placed : Placed) (it : Called) → is_end it ≡ true → awaited_at placed ≡ None
    → by_call run choice records placed it ≡ None
end_by run choice records placed Finalizes e none = takes_none choice records placed (number_at run placed) none
end_by run choice records placed Exits e none = takes_none choice records placed (number_at run placed) none
end_by run choice records placed Cuts e none = takes_none choice records placed (number_at run placed) none
end_by run choice records placed (Sends mode sent) e none = absurd (cc (e))
end_by run choice records placed (StartsSend request mode sent) e none = absurd (cc (e))
end_by run choice records placed (Receives awaited) e none = absurd (cc (e))
end_by run choice records placed (StartsReceive request awaited) e none = absurd (cc (e))
end_by run choice records placed (Exchanges sent awaited) e none = absurd (cc (e))
end_by run choice records placed (StartsExchange request received sent awaited) e none = absurd (cc (e))
end_by run choice records placed (Probes awaited) e none = absurd (cc (e))
end_by run choice records placed (ProbesMatching message awaited) e none = absurd (cc (e))
end_by run choice records placed (ReceivesMatched message) e none = absurd (cc (e))
end_by run choice records placed (StartsMatched request message) e none = absurd (cc (e))
end_by run choice records placed (Waits requests) e none = absurd (cc (e))
end_by run choice records placed (Tests requests) e none = absurd (cc (e))
end_by run choice records placed (WaitsAny requests) e none = absurd (cc (e))
end_by run choice records placed (WaitsSome requests) e none = absurd (cc (e))
end_by run choice records placed (Cancels request) e none = absurd (cc (e))
end_by run choice records placed (FreesRequest request) e none = absurd (cc (e))
end_by run choice records placed (Collects collective comm root) e none = absurd (cc (e))
end_by run choice records placed (StartsCollective request collective comm root) e none = absurd (cc (e))
end_by run choice records placed (Duplicates comm) e none = absurd (cc (e))
end_by run choice records placed (StartsDuplicate request comm) e none = absurd (cc (e))
end_by run choice records placed (Splits comm colour key) e none = absurd (cc (e))
end_by run choice records placed (Makes comm) e none = absurd (cc (e))
end_by run choice records placed (MakesOfGroup group) e none = absurd (cc (e))
end_by run choice records placed (FreesComm comm) e none = absurd (cc (e))
end_by run choice records placed Nothing e none = absurd (cc (e))
end_by run choice records placed Aborts e none = absurd (cc (e))
end_by run choice records placed Fills e none = absurd (cc (e))
end_by run choice records placed Stops e none = absurd (cc (e))

-- ---- By the call, with its parts ----

abbrev with_call : Placed → Called → Placed
with_call placed it = record placed { called = it }

end_awaits : (placed : Placed) (it : Called) → is_end it ≡ true → awaited_at (with_call placed it) ≡ None
end_awaits placed Finalizes e = refl
end_awaits placed Exits e = refl
end_awaits placed Cuts e = refl
end_awaits placed (Sends mode sent) e = absurd (cc (e))
end_awaits placed (StartsSend request mode sent) e = absurd (cc (e))
end_awaits placed (Receives awaited) e = absurd (cc (e))
end_awaits placed (StartsReceive request awaited) e = absurd (cc (e))
end_awaits placed (Exchanges sent awaited) e = absurd (cc (e))
end_awaits placed (StartsExchange request received sent awaited) e = absurd (cc (e))
end_awaits placed (Probes awaited) e = absurd (cc (e))
end_awaits placed (ProbesMatching message awaited) e = absurd (cc (e))
end_awaits placed (ReceivesMatched message) e = absurd (cc (e))
end_awaits placed (StartsMatched request message) e = absurd (cc (e))
end_awaits placed (Waits requests) e = absurd (cc (e))
end_awaits placed (Tests requests) e = absurd (cc (e))
end_awaits placed (WaitsAny requests) e = absurd (cc (e))
end_awaits placed (WaitsSome requests) e = absurd (cc (e))
end_awaits placed (Cancels request) e = absurd (cc (e))
end_awaits placed (FreesRequest request) e = absurd (cc (e))
end_awaits placed (Collects collective comm root) e = absurd (cc (e))
end_awaits placed (StartsCollective request collective comm root) e = absurd (cc (e))
end_awaits placed (Duplicates comm) e = absurd (cc (e))
end_awaits placed (StartsDuplicate request comm) e = absurd (cc (e))
end_awaits placed (Splits comm colour key) e = absurd (cc (e))
end_awaits placed (Makes comm) e = absurd (cc (e))
end_awaits placed (MakesOfGroup group) e = absurd (cc (e))
end_awaits placed (FreesComm comm) e = absurd (cc (e))
end_awaits placed Nothing e = absurd (cc (e))
end_awaits placed Aborts e = absurd (cc (e))
end_awaits placed Fills e = absurd (cc (e))
end_awaits placed Stops e = absurd (cc (e))

pub end_plain : (run : Run) (choice : Choice) (records : List Written) (placed : Placed) → is_end placed.called ≡ true
    → outcome_in run choice records placed ≡ outcome_of run choice placed
end_plain run choice records placed e =
    plain_is run choice records placed (λ stand. none_if (is_sound run placed) (by_call run choice records placed placed.called)
    (end_by run choice records placed placed.called e (end_awaits placed placed.called e)))

-- no request takes another message
message_by : (run : Run) (choice : Choice) (records : List Written) (placed : Placed) (it : Called) (outcome : Outcome) → by_call run choice records (with_call placed it) it ≡ Some outcome
    → (before : ℕ → Option ℕ) (asked : ℕ) → message_after it before asked ≡ before asked
message_by run choice records placed (StartsMatched started message) outcome e before asked =
    let none = takes_none choice records (with_call placed (StartsMatched started message)) (number_at run (with_call placed (StartsMatched started message))) refl in
    absurd (cc (none, e))
message_by run choice records placed (Sends mode sent) outcome e before asked = refl
message_by run choice records placed (StartsSend request mode sent) outcome e before asked = refl
message_by run choice records placed (Receives awaited) outcome e before asked = refl
message_by run choice records placed (StartsReceive request awaited) outcome e before asked = refl
message_by run choice records placed (Exchanges sent awaited) outcome e before asked = refl
message_by run choice records placed (StartsExchange request received sent awaited) outcome e before asked = refl
message_by run choice records placed (Probes awaited) outcome e before asked = refl
message_by run choice records placed (ProbesMatching message awaited) outcome e before asked = refl
message_by run choice records placed (ReceivesMatched message) outcome e before asked = refl
message_by run choice records placed (Waits requests) outcome e before asked = refl
message_by run choice records placed (Tests requests) outcome e before asked = refl
message_by run choice records placed (WaitsAny requests) outcome e before asked = refl
message_by run choice records placed (WaitsSome requests) outcome e before asked = refl
message_by run choice records placed (Cancels request) outcome e before asked = refl
message_by run choice records placed (FreesRequest request) outcome e before asked = refl
message_by run choice records placed (Collects collective comm root) outcome e before asked = refl
message_by run choice records placed (StartsCollective request collective comm root) outcome e before asked = refl
message_by run choice records placed (Duplicates comm) outcome e before asked = refl
message_by run choice records placed (StartsDuplicate request comm) outcome e before asked = refl
message_by run choice records placed (Splits comm colour key) outcome e before asked = refl
message_by run choice records placed (Makes comm) outcome e before asked = refl
message_by run choice records placed (MakesOfGroup group) outcome e before asked = refl
message_by run choice records placed (FreesComm comm) outcome e before asked = refl
message_by run choice records placed Nothing outcome e before asked = refl
message_by run choice records placed Finalizes outcome e before asked = refl
message_by run choice records placed Exits outcome e before asked = refl
message_by run choice records placed Aborts outcome e before asked = refl
message_by run choice records placed Fills outcome e before asked = refl
message_by run choice records placed Stops outcome e before asked = refl
message_by run choice records placed Cuts outcome e before asked = refl

pub messages_sunk : (run : Run) (choice : Choice) (records : List Written) (placed : Placed) (outcome : Outcome) → outcome_by_sinks run choice records placed ≡ Some outcome
    → (before : ℕ → Option ℕ) (request : ℕ) → message_after placed.called before request ≡ before request
messages_sunk run choice records placed outcome e before request =
    message_by run choice records placed placed.called outcome (if_some (is_sound run placed) (by_call run choice records placed placed.called) outcome e) before request

-- ---- The list ends at one that is taken by the sinks before it ----

module _ (run : Run) (choice : Choice) (placed : Placed) (handed : Handed) (progress : Progress) (walk : Walk) where
  abbrev outcome : Outcome
  outcome = outcome_in run choice progress.records placed

  taken_goes_on : (taken : IsTakenOn run choice placed handed progress walk) → outcome ≡ GoesOn taken.steps
  taken_goes_on taken = sunk_is run choice progress.records placed (GoesOn taken.steps) taken.unreported taken.is

  -- the list goes on
  pub goes_taken : IsTakenOn run choice placed handed progress walk → Entered (Ok false) outcome handed progress placed.line walk.list
  goes_taken taken = subst (λ (one : Outcome). Entered (Ok false) one handed progress placed.line walk.list) (sym (taken_goes_on taken)) taken.stands

  pub steps_taken : (steps : List Step) (taken : IsTakenOn run choice placed handed progress walk) → outcome ≡ GoesOn steps → taken.steps ≡ steps
  steps_taken steps taken e = let one = taken_goes_on taken in cc (one, e)

  cut_enters : (one : Outcome) → IsCut handed (after_steps progress placed.line (steps_in one)) placed.line walk.list
      → Entered (Err (Left TooLong)) one handed progress placed.line walk.list
  cut_enters (GoesOn steps) cut = cut
  cut_enters (Ends steps end why) cut = cut

  cut_taken : IsCutTaken run choice placed handed progress walk
      → Entered (Err (Left TooLong)) outcome handed progress placed.line walk.list × StopsKept run choice placed outcome TooLong progress walk
  cut_taken taken =
      let is = sunk_is run choice progress.records placed taken.outcome taken.unreported taken.is in (
        subst (λ (one : Outcome). Entered (Err (Left TooLong)) one handed progress placed.line walk.list) (sym is) (cut_enters taken.outcome taken.cut),
        subst (λ (one : Outcome). CutKept placed one progress walk) (sym is) (record { same = taken.same; kept = taken.kept }),
      )

  stand_on : (u : Unreported) → u ≡ unreported.Sinks → sinks_stand u ≡ true
  stand_on unreported.Sinks e = refl
  stand_on unreported.Ends e = absurd (cc (e))

  ends_taken : (why : Why) → (why ≡ TooLong → ⊥) → EndsTaken run choice placed why handed progress walk
      → Entered (Err (Left why)) outcome handed progress placed.line walk.list × EndsKept run choice placed outcome why progress walk
  ends_taken why short taken =
      let is = sunk_is run choice progress.records placed (Ends taken.steps Open (Some why)) taken.unreported taken.is in
      let after : List Step → Progress = λ steps. after_steps progress placed.line steps in (
        subst (λ (one : Outcome). Entered (Err (Left why)) one handed progress placed.line walk.list) (sym is)
            (found_stands handed (after taken.steps) placed.line walk.list why short taken.stands),
        record {
          sinks = λ steps end found e.
              let same : taken.steps ≡ steps = cc (is, e) in taken.sinks ∙ ap (λ (xs : List Step). sinks_from 0 (after xs).records) same;
          pending = λ steps end found e.
              let same : taken.steps ≡ steps = cc (is, e) in
              taken.pending
              ∙ ap (λ (xs : List Step). pending_if run placed (ended (after xs) Open placed.line (Some why)) why) same
              ∙ sym (ap (λ (b : Bool). if b then pending_if run placed (ended (after steps) Open placed.line (Some why)) why else unknown) (stand_on choice.unreported taken.unreported));
          left_out = taken.left_out;
        },
      )

  pub stops_taken : (why : Why) → IsTakenBy run choice placed (Err (Left why)) handed progress walk
      → Entered (Err (Left why)) outcome handed progress placed.line walk.list × StopsKept run choice placed outcome why progress walk
  stops_taken TooLong taken = cut_taken taken
  stops_taken NeverCameBack taken = ends_taken NeverCameBack (λ long. cc (long)) taken
  stops_taken NeverReported taken = ends_taken NeverReported (λ long. cc (long)) taken
  stops_taken Failed taken = ends_taken Failed (λ long. cc (long)) taken
  stops_taken NoNumber taken = ends_taken NoNumber (λ long. cc (long)) taken
  stops_taken CannotBe taken = ends_taken CannotBe (λ long. cc (long)) taken
  stops_taken Stopped taken = ends_taken Stopped (λ long. cc (long)) taken
  stops_taken Aborted taken = ends_taken Aborted (λ long. cc (long)) taken
  stops_taken Full taken = ends_taken Full (λ long. cc (long)) taken
  stops_taken Cut taken = ends_taken Cut (λ long. cc (long)) taken
  stops_taken NoJournal taken = ends_taken NoJournal (λ long. cc (long)) taken
  stops_taken NotJudged taken = ends_taken NotJudged (λ long. cc (long)) taken

  -- so it is however it stops
  pub taken_stops : (stop : Stop) → IsTakenBy run choice placed (Err stop) handed progress walk
      → Entered (Err stop) outcome handed progress placed.line walk.list × ((why : Why) → stop ≡ Left why → StopsKept run choice placed outcome why progress walk)
  taken_stops Memory taken = (memory_entered outcome handed progress placed.line walk.list, λ why is. absurd (cc (is)))
  taken_stops (Left found) taken =
      let both = stops_taken found taken in
      (both.0, λ why is. let same : found ≡ why = cc (is) in subst (λ (one : Why). StopsKept run choice placed outcome one progress walk) same both.1)

-- ---- A list that ends at an entry, whatever was kept of sinks ----

same_found : (handed : Handed) (progress : Progress) (line : ℕ) (found : Option Why) (it : ListCode) (why : Why) → (why ≡ TooLong → ⊥)
    → EndsAt {A = Bool} (Err (Left why)) handed progress line found it → found ≡ Some why
same_found handed progress line found it TooLong short is = absurd (short refl)
same_found handed progress line found it NeverCameBack short is = is.0
same_found handed progress line found it NeverReported short is = is.0
same_found handed progress line found it Failed short is = is.0
same_found handed progress line found it NoNumber short is = is.0
same_found handed progress line found it CannotBe short is = is.0
same_found handed progress line found it Stopped short is = is.0
same_found handed progress line found it Aborted short is = is.0
same_found handed progress line found it Full short is = is.0
same_found handed progress line found it Cut short is = is.0
same_found handed progress line found it NoJournal short is = is.0
same_found handed progress line found it NotJudged short is = is.0

no_pending_at : (run : Run) (placed : Placed) (list : Listed) (why : Why) → (why ≡ NeverCameBack → ⊥) → pending_if run placed list why ≡ unknown
no_pending_at run placed list NeverCameBack h = absurd (h refl)
no_pending_at run placed list TooLong h = refl
no_pending_at run placed list NeverReported h = refl
no_pending_at run placed list Failed h = refl
no_pending_at run placed list NoNumber h = refl
no_pending_at run placed list CannotBe h = refl
no_pending_at run placed list Stopped h = refl
no_pending_at run placed list Aborted h = refl
no_pending_at run placed list Full h = refl
no_pending_at run placed list Cut h = refl
no_pending_at run placed list NoJournal h = refl
no_pending_at run placed list NotJudged h = refl

unknown_at : (run : Run) (choice : Choice) (placed : Placed) (list : Listed) (why : Why) → (why ≡ NeverCameBack → ⊥) → unknown ≡ pending_at run choice placed list why
unknown_at run choice placed list why h = by_bool (sinks_stand choice.unreported)
  where
    by_bool : (b : Bool) → unknown ≡ (if b then pending_if run placed list why else unknown)
    by_bool true = sym (no_pending_at run placed list why h)
    by_bool false = refl

module _ (run : Run) (choice : Choice) (placed : Placed) (progress : Progress) (walk : Walk) (kept : IsKept progress.records walk) (outcome : Outcome) where
  ends_unknown : (why : Why) → (why ≡ NeverCameBack → ⊥) → outcome ≡ ends why → EndsKept run choice placed outcome why progress walk
  ends_unknown why known is = record {
    sinks = λ steps end found e.
        let same : [] ≡ steps = cc (is, e) in kept.sinks.all ∙ ap (λ (xs : List Step). sinks_from 0 (after_steps progress placed.line xs).records) same;
    pending = λ steps end found e. kept.pending ∙ unknown_at run choice placed (ended (after_steps progress placed.line steps) Open placed.line (Some why)) why known;
    left_out = kept.left_out;
  }

  -- it ends for another reason than that a call never came back, with nothing put
  pub stops_unknown : (why : Why) → (why ≡ NeverCameBack → ⊥) → (why ≡ TooLong → ⊥) → outcome ≡ ends why → StopsKept run choice placed outcome why progress walk
  stops_unknown TooLong known short is = absurd (short refl)
  stops_unknown NeverCameBack known short is = ends_unknown NeverCameBack known is
  stops_unknown NeverReported known short is = ends_unknown NeverReported known is
  stops_unknown Failed known short is = ends_unknown Failed known is
  stops_unknown NoNumber known short is = ends_unknown NoNumber known is
  stops_unknown CannotBe known short is = ends_unknown CannotBe known is
  stops_unknown Stopped known short is = ends_unknown Stopped known is
  stops_unknown Aborted known short is = ends_unknown Aborted known is
  stops_unknown Full known short is = ends_unknown Full known is
  stops_unknown Cut known short is = ends_unknown Cut known is
  stops_unknown NoJournal known short is = ends_unknown NoJournal known is
  stops_unknown NotJudged known short is = ends_unknown NotJudged known is

  -- it ends with the rank's calls, which have no room
  final_cut : StartNone (steps_in outcome) → length progress.records < MOST_RECORDS → CutKept placed outcome progress walk
  final_cut none few = record {
    same = cut_steps (MOST_RECORDS - 1) placed.line progress (steps_in outcome) none (omega (arith, few));
    kept = kept;
  }

  final_none : (handed : Handed) (steps : List Step) (end : Call) (why : Why) → (why ≡ TooLong → ⊥) → outcome ≡ Ends steps end None
      → Entered (Err (Left why)) outcome handed progress placed.line walk.list → ⊥
  final_none handed steps end why short is entered =
      let no : None ≡ Some why =
      same_found handed (after_steps progress placed.line steps) placed.line None walk.list why short
      (subst (λ (one : Outcome). Entered (Err (Left why)) one handed progress placed.line walk.list) is entered) in
      cc (no)

  pub final_stops : (handed : Handed) (steps : List Step) (end : Call) (why : Why) → StartNone (steps_in outcome) → length progress.records < MOST_RECORDS → outcome ≡ Ends steps end None
      → Entered (Err (Left why)) outcome handed progress placed.line walk.list → StopsKept run choice placed outcome why progress walk
  final_stops handed steps end TooLong none few is entered = final_cut none few
  final_stops handed steps end NeverCameBack none few is entered = absurd (final_none handed steps end NeverCameBack (λ long. cc (long)) is entered)
  final_stops handed steps end NeverReported none few is entered = absurd (final_none handed steps end NeverReported (λ long. cc (long)) is entered)
  final_stops handed steps end Failed none few is entered = absurd (final_none handed steps end Failed (λ long. cc (long)) is entered)
  final_stops handed steps end NoNumber none few is entered = absurd (final_none handed steps end NoNumber (λ long. cc (long)) is entered)
  final_stops handed steps end CannotBe none few is entered = absurd (final_none handed steps end CannotBe (λ long. cc (long)) is entered)
  final_stops handed steps end Stopped none few is entered = absurd (final_none handed steps end Stopped (λ long. cc (long)) is entered)
  final_stops handed steps end Aborted none few is entered = absurd (final_none handed steps end Aborted (λ long. cc (long)) is entered)
  final_stops handed steps end Full none few is entered = absurd (final_none handed steps end Full (λ long. cc (long)) is entered)
  final_stops handed steps end Cut none few is entered = absurd (final_none handed steps end Cut (λ long. cc (long)) is entered)
  final_stops handed steps end NoJournal none few is entered = absurd (final_none handed steps end NoJournal (λ long. cc (long)) is entered)
  final_stops handed steps end NotJudged none few is entered = absurd (final_none handed steps end NotJudged (λ long. cc (long)) is entered)

-- ---- One that isn't taken by them ----

-- what else is known of it, and the list and its sinks after its call is taken
pub record IsPlain (run : Run) (choice : Choice) (placed : Placed) (handed : Handed) (progress : Progress) (old new : Walk) : Type 0 where
  pub past : goes_on_past placed.called ≡ true
  pub failed : has_report report.Failed placed.entry ≡ false
  pub not_taken : IsNotTaken run choice placed handed progress old
  pub rank : new.rank ≡ old.rank
  pub sinks : new.sinks ≡ old.sinks
  pub pending : new.pending ≡ old.pending
  pub left_out : new.left_out ≡ old.left_out

module _ (run : Run) (choice : Choice) (placed : Placed) (handed : Handed) (progress : Progress) (old new : Walk) (plain : IsPlain run choice placed handed progress old new) where
  pub plain_outcome : outcome_in run choice progress.records placed ≡ outcome_of run choice placed
  plain_outcome = plain_is run choice progress.records placed plain.not_taken.none

  kept_if : (chooses_none placed placed.called ≡ true → ⊥) → IsKept progress.records new
  kept_if other =
      kept_as progress.records old new plain.rank plain.sinks plain.pending plain.left_out (record {
        sinks = plain.not_taken.sinks;
        pending = plain.not_taken.pending ∙ pending_other run choice progress placed other;
        left_out = plain.not_taken.left_out;
      })

  -- the list goes on with the same sinks
  pub plain_kept : (steps : List Step) → outcome_of run choice placed ≡ GoesOn steps → IsKept (after_steps progress placed.line steps).records new
  plain_kept steps goes =
      kept_steps new placed.line progress steps (subst (λ (one : Outcome). StartNone (steps_in one)) goes (outcome_unsunk run choice placed))
      (kept_if (λ chooses. let ends_is = chooses_is run choice placed plain.past plain.failed chooses in cc (ends_is, goes)))

  steps_cut : (one : Outcome) → Entered (Err (Left TooLong)) one handed progress placed.line new.list
      → IsCut handed (after_steps progress placed.line (steps_in one)) placed.line new.list
  steps_cut (GoesOn steps) entered = entered
  steps_cut (Ends steps end why) entered = entered

  few : length progress.records < MOST_RECORDS
  few = omega (arith, plain.not_taken.stands.count, plain.not_taken.stands.short)

  plain_cut : Entered (Err (Left TooLong)) (outcome_of run choice placed) handed progress placed.line new.list → CutKept placed (outcome_of run choice placed) progress new
  plain_cut entered = record {
    same = cut_steps (MOST_RECORDS - 1) placed.line progress (steps_in (outcome_of run choice placed)) (outcome_unsunk run choice placed) (omega (arith, few));
    kept = kept_if (λ chooses.
        let is = steps_cut (outcome_of run choice placed) entered in
        let none : steps_in (outcome_of run choice placed) ≡ [] = ap steps_in (chooses_is run choice placed plain.past plain.failed chooses) in
        let long : MOST_RECORDS ≤ length progress.records =
        subst (λ (xs : List Step). MOST_RECORDS ≤ length (after_steps progress placed.line xs).records) none is.long in
        omega (arith, long, few));
  }

  plain_ends : (why : Why) → (why ≡ TooLong → ⊥) → Entered (Err (Left why)) (outcome_of run choice placed) handed progress placed.line new.list
      → EndsKept run choice placed (outcome_of run choice placed) why progress new
  plain_ends why short entered = record {
    sinks = λ steps end found e.
        let grown = unsunk_steps placed.line progress steps (subst (λ (one : Outcome). StartNone (steps_in one)) e (outcome_unsunk run choice placed)) in
        ap (λ it. it.all.items) plain.sinks ∙ plain.not_taken.sinks.all
        ∙ sym (ap (sinks_from 0) grown.records ∙ sinks_on 0 progress.records grown.more grown.all);
    pending = λ steps end found e.
        let found_is : found ≡ Some why =
        same_found handed (after_steps progress placed.line steps) placed.line found new.list why short
        (subst (λ (one : Outcome). Entered (Err (Left why)) one handed progress placed.line new.list) e entered) in
        ap pending_said plain.pending ∙ plain.not_taken.pending
        ∙ pending_ends run choice progress placed steps end why plain.past plain.failed plain.not_taken.none (e ∙ ap (Ends steps end) found_is);
    left_out = rw (plain.rank, plain.left_out) plain.not_taken.left_out;
  }

  stops_by : (why : Why) → Entered (Err (Left why)) (outcome_of run choice placed) handed progress placed.line new.list
      → StopsKept run choice placed (outcome_of run choice placed) why progress new
  stops_by TooLong entered = plain_cut entered
  stops_by NeverCameBack entered = plain_ends NeverCameBack (λ long. cc (long)) entered
  stops_by NeverReported entered = plain_ends NeverReported (λ long. cc (long)) entered
  stops_by Failed entered = plain_ends Failed (λ long. cc (long)) entered
  stops_by NoNumber entered = plain_ends NoNumber (λ long. cc (long)) entered
  stops_by CannotBe entered = plain_ends CannotBe (λ long. cc (long)) entered
  stops_by Stopped entered = plain_ends Stopped (λ long. cc (long)) entered
  stops_by Aborted entered = plain_ends Aborted (λ long. cc (long)) entered
  stops_by Full entered = plain_ends Full (λ long. cc (long)) entered
  stops_by Cut entered = plain_ends Cut (λ long. cc (long)) entered
  stops_by NoJournal entered = plain_ends NoJournal (λ long. cc (long)) entered
  stops_by NotJudged entered = plain_ends NotJudged (λ long. cc (long)) entered

  pub plain_stops : (why : Why) → Entered (Err (Left why)) (outcome_of run choice placed) handed progress placed.line new.list
      → StopsKept run choice placed (outcome_in run choice progress.records placed) why progress new
  plain_stops why entered = subst (λ (one : Outcome). StopsKept run choice placed one why progress new) (sym plain_outcome) (stops_by why entered)
