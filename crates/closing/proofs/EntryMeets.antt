-- What an entry of a run that fits meets as it is taken, and what is kept after it.
use Rattle.std.proofs.Common.{◌≡◌, ◌∙◌, refl, sym, ap, subst, arith, ℕ, ◌+◌, Bool, true, false, List, ◌∷◌, ◌++◌, length, map, take, drop, option_map, Option, Some, None, Result, Ok, Err}
use Rattle.std.specs.Prelude.{IfSome, slice_get}
use Rattle.std.specs.List.{Contains}
use Rattle.std.proofs.lemmas.Option.{get_or_from_slice_get, slice_get_within}
use Rattle.mpicall.specs.declared.call.Call.{Call}
use Rattle.journals.specs.Journal.{Journal}
use Rattle.journals.specs.Known.{has_report, report_of, requests_in}
use Rattle.journals.specs.Lines.{Line}
use Rattle.journals.specs.Taking.{word_at, fields_at}
use Rattle.journals.specs.declared.word.CallWord.{CallWord}
use Rattle.journals.specs.declared.word.ReportWord.TheVariants as report
use Rattle.journals.specs.declared.word.Word.TheVariants.{Call as CallLine}
use Rattle.closing.specs.Called.{Called, Tests, naturals_in}
use Rattle.closing.specs.Entries.{Run, Placed, entries_at, journal_at}
use Rattle.closing.specs.Entry.{Choice, id_of, matched_message}
use Rattle.closing.specs.Fit as fit
use Rattle.closing.specs.Fit.{AllFit, AllSame, AreChosen, AreNumbers, EntriesFit, IsFit, NamesKnown, TestsFit, lines_before, steps_in}
use Rattle.closing.specs.Recording.{is_end, outcome_in, outcome_of}
use Rattle.closing.specs.Sinks.{Ends, GoesOn, Outcome}
use Rattle.closing.specs.Steps.{Id, Own, Progress, Step, after_steps}
use Rattle.closing.specs.Table.{Table}
use Rattle.closing.specs.inner.Lists.{Handed, Stands}
use Rattle.closing.specs.inner.Makers.{MayMake}
use Rattle.closing.specs.inner.Noted.{reports_in}
use Rattle.closing.specs.inner.RequestReports.{AllStandFor, Tells}
use Rattle.closing.specs.inner.SoFar.{Entered, IsAtEntry, IsEntered, IsFitEntry, StaysOn, entries_left, placed_here}
use Rattle.closing.specs.inner.Standings.{id_in, message_for}
use Rattle.closing.specs.inner.Table.{Grows}
use Rattle.closing.specs.inner.Taken.{IsKept, StopsKept}
use Rattle.closing.specs.inner.Views.{called_view}
use Rattle.closing.specs.inner.Walked.{AreRequests, Follows, LateCall, Meets, TakesCall, TestFits, late_in, message_after}
use Rattle.closing.specs.inner.Walks.{Spot, outcome_on, spot_of}
use Rattle.closing.specs.declared.called.Called.{Called as CalledCode}
use Rattle.closing.specs.declared.list.List.{List as ListCode}
use Rattle.closing.specs.declared.numbers.Communicators.{Communicators}
use Rattle.closing.specs.declared.standing.Standing.{Standing}
use Rattle.closing.specs.declared.stop.Stop.{Stop}
use Rattle.closing.specs.declared.stop.Stop.TheVariants.{Left, Memory}
use Rattle.closing.specs.declared.walk.At.{At}
use Rattle.closing.specs.declared.walk.Walk.{Walk}
use Rattle.closing.specs.declared.why.Why.{Why}
use Rattle.closing.proofs.AtLemmas.{entry_among, rank_within}
use Rattle.closing.proofs.MatchedLemmas.{after_same, id_same, matched_next}
use Rattle.closing.proofs.MeetsLemmas.{may_make, same_stand}
use Rattle.closing.proofs.OutcomeOfEntry.{goes_on_past, taken_is}
use Rattle.closing.proofs.PlacedLemmas.{entries_at_call}
use Rattle.closing.proofs.WaitingLemmas.{late_after}

-- what is tested fits, as the walk asks for it
test_fits : (run : Run) (choice : Choice) (placed : Placed) (it : Called) (progress : Progress) → fit.TestFits choice placed it progress
    → TestFits choice (spot_of run choice placed) it progress
test_fits run choice placed (Tests requests) progress h = h
test_fits run choice placed _ progress h = tt

chosen_stand : (lines : List Line) (standing : Standing) (placed : Placed) (found : Option Line) → ((request : ℕ) → Own (id_in standing request) ≡ id_of (lines_before placed) request)
    → lines ≡ placed.journal.lines → IfSome found (AreChosen placed)
    → IfSome (option_map (λ line. requests_in (Some line)) found) (AllStandFor lines standing)
chosen_stand lines standing placed None has same chosen = tt
chosen_stand lines standing placed (Some line) has same chosen =
    same_stand (lines_before placed) lines standing (requests_in (Some line)) has
    (subst (λ (ls : List Line). AllSame (lines_before placed) ls (requests_in (Some line))) (sym same) chosen.same)

numbers_of_chosen : (placed : Placed) (found : Option Line) → IfSome found (AreChosen placed)
    → (line : Line) → found ≡ Some line → naturals_in line.fields ≡ requests_in (Some line)
numbers_of_chosen placed None chosen line e = absurd (cc (e))
numbers_of_chosen placed (Some one) chosen line e =
    let same : one ≡ line = cc (e) in
    subst (λ (it : Line). naturals_in it.fields ≡ requests_in (Some it)) same chosen.are

module _ (run : Run) (choice : Choice) (journal : Journal) (rank place : ℕ) (word : CallWord) (is_fit : IsFit run choice)
    (there : journal_at run rank ≡ Some journal) (call : word_at journal.lines place ≡ Some (CallLine word)) where
  abbrev placed : Placed
  placed = placed_here rank journal place word

  abbrev spot : Spot
  spot = spot_of run choice placed

  abbrev after : ℕ
  after = place + 1 + length (reports_in (drop (place + 1) journal.lines))

  here : (n : ℕ) × (slice_get (entries_at run rank) n ≡ Some placed)
  here = entry_among run rank journal place word call there

  among : Contains (entries_at run rank) placed
  among = (here.0, slice_get_within (entries_at run rank) here.0 placed here.1, get_or_from_slice_get (entries_at run rank) here.0 placed placed here.1)

  names : NamesKnown placed
  names = is_fit.named rank placed among

  pub fit_entry : IsFitEntry run placed
  fit_entry = record {
    small = is_fit.sizes rank placed among;
    chose = numbers_of_chosen placed (report_of report.Chose placed.entry) names.chosen;
  }

  -- the rank's last call didn't fail
  pub ends_well : is_end placed.called ≡ true → has_report report.Failed placed.entry ≡ false
  ends_well is = is_fit.ends rank placed among is

  pub makes : (kept : Communicators) (at : At) (it : CalledCode) → IsAtEntry run choice placed kept at → called_view it ≡ placed.called → MayMake spot kept rank at it
  makes kept at it is same = may_make run choice placed kept at here.0 is (rank_within run rank journal there) here.1 it (sym same)

  before_is : lines_before placed ≡ take place journal.lines
  before_is = ap (λ (n : ℕ). take n journal.lines) (omega arith)

  -- what the walk has is what is known of the entry
  pub meets : (kept : Communicators) (standing : Standing) (at : At) (it : CalledCode) → IsAtEntry run choice placed kept at → Tells journal.lines standing.outcomes
      → ((request : ℕ) → message_for standing request ≡ matched_message (take place journal.lines) request) → called_view it ≡ placed.called
      → (AreNumbers word (length (naturals_in (fields_at journal.lines place))) (length (fields_at journal.lines place)) → AreRequests it)
      → Meets spot journal.lines standing at it
  meets kept standing at it is tells has same requests = record {
    at = is.at;
    lines = refl;
    tells = tells;
    named =
        subst (λ (one : Called). AllStandFor journal.lines standing (fit.waited one)) (sym same)
        (same_stand (lines_before placed) journal.lines standing (fit.waited placed.called) stands names.waited);
    chosen = chosen_stand journal.lines standing placed (report_of report.Chose placed.entry) stands refl names.chosen;
    fields = requests names.fields;
  }
    where
      stands : (request : ℕ) → Own (id_in standing request) ≡ id_of (lines_before placed) request
      stands request = id_same (lines_before placed) standing request (has request ∙ ap (λ (lines : List Line). matched_message lines request) (sym before_is))

  module _ (handed : Handed) (progress : Progress) (entries : EntriesFit run choice progress (entries_left rank journal place))
      (tests : TestsFit run choice progress (entries_left rank journal place)) where
    entries_are : entries_left rank journal place ≡ placed ∷ entries_left rank journal (place + 1)
    entries_are = entries_at_call rank journal place word call

    pub fits : AllFit progress placed.line (steps_in (outcome_in run choice progress.records placed))
    fits = (subst (λ (some : List Placed). EntriesFit run choice progress some) entries_are entries).0

    holds : TestFits choice spot placed.called progress
    holds = test_fits run choice placed placed.called progress (subst (λ (some : List Placed). TestsFit run choice progress some) entries_are tests).0

    -- the list as the call takes it
    pub follows : (A : Type 0) (it : CalledCode) (result : Result A Stop) (old new : ListCode) → goes_on_past placed.called ≡ true → has_report report.Failed placed.entry ≡ false
        → called_view it ≡ placed.called → outcome_in run choice progress.records placed ≡ outcome_of run choice placed → Stands handed progress old
        → TakesCall {A = A} choice spot (called_view it) result old new
        → Follows {A = A} (outcome_of run choice placed) result handed progress placed.line new
    follows A it result old new past failed same plain stands takes =
        let steps_fit : AllFit progress placed.line (steps_in (outcome_of run choice placed)) =
        subst (λ (one : Outcome). AllFit progress placed.line (steps_in one)) plain fits in
        let outcome : outcome_of run choice placed ≡ outcome_on choice spot placed.called = taken_is run choice placed past failed in
        let called : TakesCall {A = A} choice spot placed.called result old new = subst (λ (one : Called). TakesCall {A = A} choice spot one result old new) same takes in
        subst (λ (one : Outcome). Follows {A = A} one result handed progress placed.line new) (sym outcome)
        (called handed progress stands (subst (λ (one : Outcome). AllFit progress placed.line (steps_in one)) outcome steps_fit) holds)

    -- what is waited for right before the end
    pub late_is : (it : CalledCode) (list : ListCode) (old new : List ℕ) (steps : List Step) → goes_on_past placed.called ≡ true → has_report report.Failed placed.entry ≡ false
        → called_view it ≡ placed.called → Stands handed progress list → map Own old ≡ progress.late → LateCall choice spot (called_view it) list old new
        → outcome_of run choice placed ≡ GoesOn steps → map Own new ≡ (after_steps progress placed.line steps).late
    late_is it list old new steps past failed same stands late call e =
        let outcome : outcome_on choice spot placed.called ≡ GoesOn steps = sym (taken_is run choice placed past failed) ∙ e in
        let called : LateCall choice spot placed.called list old new = subst (λ (one : Called). LateCall choice spot one list old new) same call in
        called handed progress stands holds
        ∙ ap (λ (ids : List Id). ids ++ late_in (steps_in (outcome_on choice spot placed.called))) late
        ∙ ap (λ (one : Outcome). progress.late ++ late_in (steps_in one)) outcome
        ∙ sym (late_after progress placed.line steps)

  -- the messages that requests take after it
  pub messages_are : (it : CalledCode) (end : ℕ) (old new : Standing) → called_view it ≡ placed.called → end ≡ after
      → ((request : ℕ) → message_for old request ≡ matched_message (take place journal.lines) request)
      → ((request : ℕ) → message_for new request ≡ message_after (called_view it) (message_for old) request)
      → (request : ℕ) → message_for new request ≡ matched_message (take end journal.lines) request
  messages_are it end old new same last has next request =
      next request
      ∙ ap (λ (one : Called). message_after one (message_for old) request) same
      ∙ after_same placed.called (message_for old) (matched_message (take place journal.lines)) request (has request)
      ∙ sym (matched_next journal.lines place word call request)
      ∙ sym (ap (λ (n : ℕ). matched_message (take n journal.lines) request) last)

-- ---- All that is known after it ----

module _ (run : Run) (choice : Choice) (placed : Placed) (handed : Handed) (progress : Progress) (old now : Table) (place : ℕ) (walk : Walk) where
  -- the list has ended at it, or memory ran out
  pub is_stopped : (result : Result Bool Stop) (stop : Stop) → result ≡ Err stop → Entered (Err stop) (outcome_in run choice progress.records placed) handed progress placed.line walk.list
      → ((why : Why) → stop ≡ Left why → StopsKept run choice placed (outcome_in run choice progress.records placed) why progress walk)
      → ((stop ≡ Memory → ⊥) → Grows old now) → IsEntered run choice placed result handed progress old now place walk
  is_stopped result stop e list kept grows =
      subst (λ (r : Result Bool Stop). IsEntered run choice placed r handed progress old now place walk) (sym e) (record {
        list = list;
        on = λ steps is goes. absurd (cc (is));
        done = λ steps end why is goes. absurd (cc (is));
        stopped = λ why is. kept why (cc (is));
        grows = λ some. grows (λ is. some (ap (λ (one : Stop). Err one) is));
      })

  pub is_done : Entered (Ok true) (outcome_in run choice progress.records placed) handed progress placed.line walk.list
      → ((steps : List Step) (end : Call) (why : Option Why) → outcome_in run choice progress.records placed ≡ Ends steps end why → IsKept (after_steps progress placed.line steps).records walk)
      → Grows old now → IsEntered run choice placed (Ok true) handed progress old now place walk
  is_done list kept grows = record {
    list = list;
    on = λ steps is goes. absurd (cc (is));
    done = λ steps end why is goes. kept steps end why goes;
    stopped = λ why is. absurd (cc (is));
    grows = λ some. grows;
  }

  pub is_on : Entered (Ok false) (outcome_in run choice progress.records placed) handed progress placed.line walk.list → Grows old now
      → ((steps : List Step) → outcome_in run choice progress.records placed ≡ GoesOn steps
      → StaysOn now placed.journal.lines place (after_steps progress placed.line steps).records (after_steps progress placed.line steps).late walk)
      → IsEntered run choice placed (Ok false) handed progress old now place walk
  is_on list grows stays = record {
    list = list;
    on = λ steps is goes. stays steps goes;
    done = λ steps end why is goes. absurd (cc (is));
    stopped = λ why is. absurd (cc (is));
    grows = λ some. grows;
  }
