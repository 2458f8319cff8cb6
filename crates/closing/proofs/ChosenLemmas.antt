-- The pending call of a list that ends at an entry without the sinks before it: a wait for any or some that chose none.
use Rattle.std.proofs.Common.{◌≡◌, ◌∙◌, refl, sym, ap, ℕ, Bool, true, false, ◌&&◌, ◌||◌, not, Option, Some, None, option_map, List, [], ◌∷◌}
use Rattle.std.specs.Prelude.{if◌then◌else◌, is_none, option_and_then}
use Rattle.std.specs.Option.{option_map_or}
use Rattle.mpicall.specs.declared.call.Call.{Call}
use Rattle.mpicall.specs.declared.call.Call.TheVariants.{Open}
use Rattle.journals.specs.Entries.{Entry}
use Rattle.journals.specs.Journal.{Journal}
use Rattle.journals.specs.Known.{has_report, report_of, requests_in}
use Rattle.journals.specs.Lines.{Line}
use Rattle.journals.specs.declared.field.Field.{Field}
use Rattle.journals.specs.declared.field.Field.TheVariants as field
use Rattle.journals.specs.declared.word.ReportWord.TheVariants as report
use Rattle.closing.specs.Called.{Called, Awaited, Sends, StartsSend, Receives, StartsReceive, Exchanges, StartsExchange, Probes, ProbesMatching, ReceivesMatched, StartsMatched, Waits, Tests, WaitsAny, WaitsSome, Cancels, FreesRequest, Collects, StartsCollective, Duplicates, StartsDuplicate, Splits, Makes, MakesOfGroup, FreesComm, Nothing, Finalizes, Exits, Aborts, Fills, Stops, Cuts}
use Rattle.closing.specs.Endings.{awaited_at, awaited_can_be, first_of, message_at, number_at, sent_can_be, size_at}
use Rattle.closing.specs.Entries.{Run, Placed}
use Rattle.closing.specs.Entry.{Choice}
use Rattle.closing.specs.Pending.{unknown}
use Rattle.closing.specs.RankComms.{RankComms}
use Rattle.closing.specs.Recording.{Listed, ended, outcome_of}
use Rattle.closing.specs.Reported.{Message, done_of, got_in, is_gone, is_settled, message_from, message_of, root_can_be, unless_moved}
use Rattle.closing.specs.Sinks.{Outcome, GoesOn, Ends, by_call, is_met, is_nobody, is_sound, outcome_by_sinks, request_received, takes_by, takes_nothing, unsure, wanted_at, wanted_by}
use Rattle.closing.specs.Steps.{Progress, Step, Written, after_steps}
use Rattle.closing.specs.inner.Taken.{chooses_none, pending_at, pending_if, pending_kept, sinks_stand}
use Rattle.closing.specs.inner.Walks.{Spot, chosen_or_ends, ends, known_or_ends, numbered, outcome_on, receives_after, spot_of}
use Rattle.closing.specs.declared.choice.Unreported.{Unreported}
use Rattle.closing.specs.declared.choice.Unreported.TheVariants as unreported
use Rattle.closing.specs.declared.why.Why.{Why}
use Rattle.closing.specs.declared.why.Why.TheVariants.{NeverCameBack, NeverReported, Failed, NoNumber, TooLong, CannotBe, Stopped, Aborted, Full, Cut, NoJournal, NotJudged}
use Rattle.closing.proofs.OutcomeOfEntry.{goes_on_past, taken_is}

-- ---- One that chose none ----

none_chosen : (found : Option Line) (steps : List ℕ → List Step) → is_none found ≡ true
    → chosen_or_ends (option_map (λ line. requests_in (Some line)) found) steps ≡ ends NeverCameBack
none_chosen None steps h = refl
none_chosen (Some line) steps h = absurd (cc (h))

chooses_on : (run : Run) (choice : Choice) (placed : Placed) (it : Called) → chooses_none placed it ≡ true
    → outcome_on choice (spot_of run choice placed) it ≡ ends NeverCameBack
chooses_on run choice placed (WaitsAny []) h = none_chosen (report_of report.Chose placed.entry) _ h
chooses_on run choice placed (WaitsAny (request ∷ [])) h = absurd (cc (h))
chooses_on run choice placed (WaitsAny (request ∷ other ∷ others)) h = none_chosen (report_of report.Chose placed.entry) _ h
chooses_on run choice placed (WaitsSome []) h = none_chosen (report_of report.Chose placed.entry) _ h
chooses_on run choice placed (WaitsSome (request ∷ [])) h = absurd (cc (h))
chooses_on run choice placed (WaitsSome (request ∷ other ∷ others)) h = none_chosen (report_of report.Chose placed.entry) _ h
chooses_on run choice placed (Sends mode sent) h = absurd (cc (h))
chooses_on run choice placed (StartsSend request mode sent) h = absurd (cc (h))
chooses_on run choice placed (Receives awaited) h = absurd (cc (h))
chooses_on run choice placed (StartsReceive request awaited) h = absurd (cc (h))
chooses_on run choice placed (Exchanges sent awaited) h = absurd (cc (h))
chooses_on run choice placed (StartsExchange request received sent awaited) h = absurd (cc (h))
chooses_on run choice placed (Probes awaited) h = absurd (cc (h))
chooses_on run choice placed (ProbesMatching message awaited) h = absurd (cc (h))
chooses_on run choice placed (ReceivesMatched message) h = absurd (cc (h))
chooses_on run choice placed (StartsMatched request message) h = absurd (cc (h))
chooses_on run choice placed (Waits requests) h = absurd (cc (h))
chooses_on run choice placed (Tests requests) h = absurd (cc (h))
chooses_on run choice placed (Cancels request) h = absurd (cc (h))
chooses_on run choice placed (FreesRequest request) h = absurd (cc (h))
chooses_on run choice placed (Collects collective comm root) h = absurd (cc (h))
chooses_on run choice placed (StartsCollective request collective comm root) h = absurd (cc (h))
chooses_on run choice placed (Duplicates comm) h = absurd (cc (h))
chooses_on run choice placed (StartsDuplicate request comm) h = absurd (cc (h))
chooses_on run choice placed (Splits comm colour key) h = absurd (cc (h))
chooses_on run choice placed (Makes comm) h = absurd (cc (h))
chooses_on run choice placed (MakesOfGroup group) h = absurd (cc (h))
chooses_on run choice placed (FreesComm comm) h = absurd (cc (h))
chooses_on run choice placed Nothing h = absurd (cc (h))
chooses_on run choice placed Finalizes h = absurd (cc (h))
chooses_on run choice placed Exits h = absurd (cc (h))
chooses_on run choice placed Aborts h = absurd (cc (h))
chooses_on run choice placed Fills h = absurd (cc (h))
chooses_on run choice placed Stops h = absurd (cc (h))
chooses_on run choice placed Cuts h = absurd (cc (h))

-- it ends the list
pub chooses_is : (run : Run) (choice : Choice) (placed : Placed) → goes_on_past placed.called ≡ true → has_report report.Failed placed.entry ≡ false
    → chooses_none placed placed.called ≡ true → outcome_of run choice placed ≡ ends NeverCameBack
chooses_is run choice placed past failed h = taken_is run choice placed past failed ∙ chooses_on run choice placed placed.called h

-- ---- One of which nothing is known ----

-- what it names can be, on a communicator with a number
record IsNumbered (able : Bool) (number : Option ℕ) (others : ℕ → Outcome) (outcome : Outcome) : Type 0 where
  comm : ℕ
  able_is : able ≡ true
  number_is : number ≡ Some comm
  is : others comm ≡ outcome

numbered_of : (able : Bool) (number : Option ℕ) (others : ℕ → Outcome) (steps : List Step) (end : Call) → numbered able number others ≡ Ends steps end (Some NeverCameBack)
    → IsNumbered able number others (Ends steps end (Some NeverCameBack))
numbered_of false number others steps end e = absurd (cc (e))
numbered_of true None others steps end e = absurd (cc (e))
numbered_of true (Some comm) others steps end e = record { comm = comm; able_is = refl; number_is = refl; is = e }

known_none : (m : Option Message) (f : Message → List Step) (steps : List Step) (end : Call) → known_or_ends m f ≡ Ends steps end (Some NeverCameBack) → m ≡ None
known_none None f steps end e = refl
known_none (Some it) f steps end e = absurd (cc (e))

after_not : (before : List Step) (spot : Spot) (comm request : ℕ) (m : Option Message) (steps : List Step) (end : Call)
    → receives_after before spot comm request m ≡ Ends steps end (Some NeverCameBack) → ⊥
after_not before spot comm request (Some it) steps end e = cc (e)
after_not before spot comm request None steps end e = by_gone (is_gone spot.lines request) e
  where
    by_gone : (b : Bool) → (if b then GoesOn before else Ends before Open (Some NeverReported)) ≡ Ends steps end (Some NeverCameBack) → ⊥
    by_gone true f = cc (f)
    by_gone false f = cc (f)

chosen_none : (found : Option Line) (f : List ℕ → List Step) (steps : List Step) (end : Call)
    → chosen_or_ends (option_map (λ line. requests_in (Some line)) found) f ≡ Ends steps end (Some NeverCameBack) → is_none found ≡ true
chosen_none None f steps end e = refl
chosen_none (Some line) f steps end e = absurd (cc (e))

settled_not : (b : Bool) (steps : List Step) (end : Call) → (if b then GoesOn [] else ends NeverReported) ≡ Ends steps end (Some NeverCameBack) → ⊥
settled_not true steps end e = cc (e)
settled_not false steps end e = cc (e)

-- it takes no message from nobody
nobody_of : (awaited : Awaited) (reported : Option Message) → message_of awaited reported ≡ None → is_nobody awaited.source ≡ false
nobody_of awaited reported none = by_source awaited.source none
  where
    by_source : (source : Field) → message_from source awaited reported ≡ None → is_nobody source ≡ false
    by_source field.Null e = absurd (cc (e))
    by_source (field.Natural number) e = refl
    by_source (field.Signed number) e = refl
    by_source field.Any e = refl
    by_source field.Undefined e = refl

sound_by : (able failed : Bool) (number : Option ℕ) (comm : ℕ) → failed ≡ false → able ≡ true → number ≡ Some comm
    → is_none (first_of ((failed, Failed) ∷ (not able, CannotBe) ∷ (is_none number, NoNumber) ∷ [])) ≡ true
sound_by true false (Some other) comm ef ea en = refl
sound_by true false None comm ef ea en = absurd (cc (en))
sound_by false false number comm ef ea en = absurd (cc (ea))
sound_by able true number comm ef ea en = absurd (cc (ef))

module _ (run : Run) (choice : Choice) (records : List Written) where
  abbrev by_wanted : Placed → Option ℕ → Option Outcome
  by_wanted placed number = option_and_then (takes_by choice records placed) (option_and_then (wanted_at placed) number)

  -- a receive or probe of which no message is known is one that a sink may have taken, or is one
  sunk : (placed : Placed) (comm : ℕ) (awaited : Awaited) (reported : Option Message) → is_sound run placed ≡ true → number_at run placed ≡ Some comm
      → awaited_at placed ≡ Some (awaited, reported) → message_of awaited reported ≡ None → request_received placed.called ≡ None
      → by_call run choice records placed placed.called ≡ by_wanted placed (number_at run placed)
      → outcome_by_sinks run choice records placed ≡ None → ⊥
  sunk placed comm awaited reported sound number there none received by without =
      let message : message_at placed ≡ None = ap (option_and_then (λ it. message_of it.0 it.1)) there ∙ none in
      let wanted = wanted_by comm awaited (message_at placed) in
      let gone : Option ℕ → Bool = λ it. option_map_or (is_gone placed.journal.lines) it false in
      let from : Option Message → Bool = λ it. option_map_or (λ (one : Message). is_nobody one.source) it false in
      let nothing : takes_nothing placed awaited ≡ false =
      ap (λ (b : Bool). b || (from (message_at placed) || gone (request_received placed.called))) (nobody_of awaited reported none)
      ∙ ap (λ (it : Option Message). from it || gone (request_received placed.called)) message
      ∙ ap gone received in
      let is_wanted : wanted_at placed comm ≡ Some wanted =
      ap (option_and_then (λ it. if takes_nothing placed it.0 then None else Some (wanted_by comm it.0 (message_at placed)))) there
      ∙ ap (λ (b : Bool). if b then None else Some wanted) nothing in
      let taken : takes_by choice records placed wanted ≡ Some (unsure choice placed wanted placed.called) =
      ap (λ (it : Option Message). if is_none it || is_met records wanted then Some (unsure choice placed wanted placed.called) else None) message in
      let is : outcome_by_sinks run choice records placed ≡ Some (unsure choice placed wanted placed.called) =
      ap (λ (b : Bool). if b then by_call run choice records placed placed.called else None) sound
      ∙ by ∙ ap (by_wanted placed) number ∙ ap (option_and_then (takes_by choice records placed)) is_wanted ∙ taken in
      cc (without, is)

  module _ (rank : ℕ) (journal : Journal) (line : ℕ) (entry : Entry) (comms : RankComms) (came_back : Bool) where
    abbrev at : Called → Placed
    at it = record { rank = rank; journal = journal; line = line; entry = entry; called = it; comms = comms; came_back = came_back }

    abbrev spot : Called → Spot
    spot it = spot_of run choice (at it)

    unknown_by : (it : Called) (steps : List Step) (end : Call) → has_report report.Failed entry ≡ false
        → outcome_on choice (spot it) it ≡ Ends steps end (Some NeverCameBack) → outcome_by_sinks run choice records (at it) ≡ None → chooses_none (at it) it ≡ true
    unknown_by (Sends mode sent) steps end failed e none =
        let by = numbered_of (sent_can_be (size_at run (at (Sends mode sent))) sent) (number_at run (at (Sends mode sent))) _ steps end e in let no = by.is in absurd (cc (no))
    unknown_by (StartsSend request mode sent) steps end failed e none =
        let by = numbered_of (sent_can_be (size_at run (at (StartsSend request mode sent))) sent) (number_at run (at (StartsSend request mode sent))) _ steps end e in let no = by.is in absurd (cc (no))
    unknown_by (Receives awaited) steps end failed e none =
        let by = numbered_of (awaited_can_be (size_at run (at (Receives awaited))) (awaited, got_in entry)) (number_at run (at (Receives awaited))) _ steps end e in
        absurd (sunk (at (Receives awaited)) by.comm awaited (got_in entry) (sound_by (awaited_can_be (size_at run (at (Receives awaited))) (awaited, got_in entry)) (has_report report.Failed entry) (number_at run (at (Receives awaited))) by.comm failed by.able_is by.number_is)
        by.number_is refl (known_none (message_of awaited (got_in entry)) _ steps end by.is) refl refl none)
    unknown_by (StartsReceive request awaited) steps end failed e none =
        let by = numbered_of (awaited_can_be (size_at run (at (StartsReceive request awaited))) (unless_moved journal.lines request awaited, done_of journal.lines request)) (number_at run (at (StartsReceive request awaited))) _ steps end e in absurd (after_not _ (spot (StartsReceive request awaited)) by.comm request _ steps end by.is)
    unknown_by (Exchanges sent awaited) steps end failed e none =
        let by = numbered_of (sent_can_be (size_at run (at (Exchanges sent awaited))) sent && awaited_can_be (size_at run (at (Exchanges sent awaited))) (awaited, got_in entry)) (number_at run (at (Exchanges sent awaited))) _ steps end e in
        absurd (sunk (at (Exchanges sent awaited)) by.comm awaited (got_in entry) (sound_by (sent_can_be (size_at run (at (Exchanges sent awaited))) sent && awaited_can_be (size_at run (at (Exchanges sent awaited))) (awaited, got_in entry)) (has_report report.Failed entry) (number_at run (at (Exchanges sent awaited))) by.comm failed by.able_is by.number_is)
        by.number_is refl (known_none (message_of awaited (got_in entry)) _ steps end by.is) refl refl none)
    unknown_by (StartsExchange request received sent awaited) steps end failed e none =
        let by = numbered_of (sent_can_be (size_at run (at (StartsExchange request received sent awaited))) sent && awaited_can_be (size_at run (at (StartsExchange request received sent awaited))) (unless_moved journal.lines received awaited, done_of journal.lines received)) (number_at run (at (StartsExchange request received sent awaited))) _ steps end e in absurd (after_not _ (spot (StartsExchange request received sent awaited)) by.comm received _ steps end by.is)
    unknown_by (Probes awaited) steps end failed e none =
        let by = numbered_of (awaited_can_be (size_at run (at (Probes awaited))) (awaited, got_in entry)) (number_at run (at (Probes awaited))) _ steps end e in
        absurd (sunk (at (Probes awaited)) by.comm awaited (got_in entry) (sound_by (awaited_can_be (size_at run (at (Probes awaited))) (awaited, got_in entry)) (has_report report.Failed entry) (number_at run (at (Probes awaited))) by.comm failed by.able_is by.number_is)
        by.number_is refl (known_none (message_of awaited (got_in entry)) _ steps end by.is) refl refl none)
    unknown_by (ProbesMatching message awaited) steps end failed e none =
        let by = numbered_of (awaited_can_be (size_at run (at (ProbesMatching message awaited))) (awaited, got_in entry)) (number_at run (at (ProbesMatching message awaited))) _ steps end e in
        absurd (sunk (at (ProbesMatching message awaited)) by.comm awaited (got_in entry) (sound_by (awaited_can_be (size_at run (at (ProbesMatching message awaited))) (awaited, got_in entry)) (has_report report.Failed entry) (number_at run (at (ProbesMatching message awaited))) by.comm failed by.able_is by.number_is)
        by.number_is refl (known_none (message_of awaited (got_in entry)) _ steps end by.is) refl refl none)
    unknown_by (ReceivesMatched message) steps end failed e none = absurd (cc (e))
    unknown_by (StartsMatched request message) steps end failed e none = absurd (cc (e))
    unknown_by (Waits requests) steps end failed e none = absurd (cc (e))
    unknown_by (Tests requests) steps end failed e none = absurd (cc (e))
    unknown_by (WaitsAny []) steps end failed e none = chosen_none (report_of report.Chose entry) _ steps end e
    unknown_by (WaitsAny (request ∷ [])) steps end failed e none = absurd (cc (e))
    unknown_by (WaitsAny (request ∷ other ∷ others)) steps end failed e none = chosen_none (report_of report.Chose entry) _ steps end e
    unknown_by (WaitsSome []) steps end failed e none = chosen_none (report_of report.Chose entry) _ steps end e
    unknown_by (WaitsSome (request ∷ [])) steps end failed e none = absurd (cc (e))
    unknown_by (WaitsSome (request ∷ other ∷ others)) steps end failed e none = chosen_none (report_of report.Chose entry) _ steps end e
    unknown_by (Cancels request) steps end failed e none = absurd (settled_not (is_settled journal.lines request) steps end e)
    unknown_by (FreesRequest request) steps end failed e none = absurd (cc (e))
    unknown_by (Collects collective comm root) steps end failed e none =
        let by = numbered_of (root_can_be (size_at run (at (Collects collective comm root))) collective root) (number_at run (at (Collects collective comm root))) _ steps end e in let no = by.is in absurd (cc (no))
    unknown_by (StartsCollective request collective comm root) steps end failed e none =
        let by = numbered_of (root_can_be (size_at run (at (StartsCollective request collective comm root))) collective root) (number_at run (at (StartsCollective request collective comm root))) _ steps end e in let no = by.is in absurd (cc (no))
    unknown_by (Duplicates comm) steps end failed e none =
        let by = numbered_of (true) (number_at run (at (Duplicates comm))) _ steps end e in let no = by.is in absurd (cc (no))
    unknown_by (StartsDuplicate request comm) steps end failed e none =
        let by = numbered_of (true) (number_at run (at (StartsDuplicate request comm))) _ steps end e in let no = by.is in absurd (cc (no))
    unknown_by (Splits comm colour key) steps end failed e none =
        let by = numbered_of (true) (number_at run (at (Splits comm colour key))) _ steps end e in let no = by.is in absurd (cc (no))
    unknown_by (Makes comm) steps end failed e none =
        let by = numbered_of (true) (number_at run (at (Makes comm))) _ steps end e in let no = by.is in absurd (cc (no))
    unknown_by (MakesOfGroup group) steps end failed e none =
        let by = numbered_of (true) (number_at run (at (MakesOfGroup group))) _ steps end e in let no = by.is in absurd (cc (no))
    unknown_by (FreesComm comm) steps end failed e none = absurd (cc (e))
    unknown_by Nothing steps end failed e none = absurd (cc (e))
    unknown_by Finalizes steps end failed e none = absurd (cc (e))
    unknown_by Exits steps end failed e none = absurd (cc (e))
    unknown_by Aborts steps end failed e none = absurd (cc (e))
    unknown_by Fills steps end failed e none = absurd (cc (e))
    unknown_by Stops steps end failed e none = absurd (cc (e))
    unknown_by Cuts steps end failed e none = absurd (cc (e))

  -- so a call that ends the list as it never came back chose none, if it isn't taken by the sinks before it
  pub unknown_chooses : (placed : Placed) (steps : List Step) (end : Call) → goes_on_past placed.called ≡ true → has_report report.Failed placed.entry ≡ false
      → outcome_of run choice placed ≡ Ends steps end (Some NeverCameBack) → outcome_by_sinks run choice records placed ≡ None → chooses_none placed placed.called ≡ true
  unknown_chooses placed steps end past failed e none =
      unknown_by placed.rank placed.journal placed.line placed.entry placed.comms placed.came_back placed.called steps end failed
      (sym (taken_is run choice placed past failed) ∙ e) none

-- ---- The pending call ----

pub pending_other : (run : Run) (choice : Choice) (progress : Progress) (placed : Placed) → (chooses_none placed placed.called ≡ true → ⊥)
    → pending_kept run choice progress placed ≡ unknown
pending_other run choice progress placed other = by_bool (sinks_stand choice.unreported) (chooses_none placed placed.called) refl
  where
    by_bool : (stand chooses : Bool) → chooses_none placed placed.called ≡ chooses
        → (if stand && chooses then pending_if run placed (ended progress Open placed.line (Some NeverCameBack)) NeverCameBack else unknown) ≡ unknown
    by_bool false chooses e = refl
    by_bool true false e = refl
    by_bool true true e = absurd (other e)

pub pending_ends : (run : Run) (choice : Choice) (progress : Progress) (placed : Placed) (steps : List Step) (end : Call) (why : Why) → goes_on_past placed.called ≡ true
    → has_report report.Failed placed.entry ≡ false → (choice.unreported ≡ unreported.Sinks → outcome_by_sinks run choice progress.records placed ≡ None)
    → outcome_of run choice placed ≡ Ends steps end (Some why)
    → pending_kept run choice progress placed
    ≡ pending_at run choice placed (ended (after_steps progress placed.line steps) Open placed.line (Some why)) why
pending_ends run choice progress placed steps end why past failed none e = by_choice choice.unreported (chooses_none placed placed.called) refl refl
  where
    whole : List Step → Why → Listed
    whole steps why = ended (after_steps progress placed.line steps) Open placed.line (Some why)

    no_pending : (one : Why) → (one ≡ NeverCameBack → ⊥) → unknown ≡ pending_if run placed (whole steps why) one
    no_pending NeverCameBack h = absurd (h refl)
    no_pending NeverReported h = refl
    no_pending Failed h = refl
    no_pending NoNumber h = refl
    no_pending TooLong h = refl
    no_pending CannotBe h = refl
    no_pending Stopped h = refl
    no_pending Aborted h = refl
    no_pending Full h = refl
    no_pending Cut h = refl
    no_pending NoJournal h = refl
    no_pending NotJudged h = refl

    by_choice : (u : Unreported) (chooses : Bool) → choice.unreported ≡ u → chooses_none placed placed.called ≡ chooses
        → (if sinks_stand u && chooses then pending_if run placed (whole [] NeverCameBack) NeverCameBack else unknown)
        ≡ (if sinks_stand u then pending_if run placed (whole steps why) why else unknown)
    by_choice unreported.Ends chooses f g = refl
    by_choice unreported.Sinks true f g =
        let same : ends NeverCameBack ≡ Ends steps end (Some why) = sym (chooses_is run choice placed past failed g) ∙ e in
        let steps_are : [] ≡ steps = cc (same) in
        let why_is : NeverCameBack ≡ why = cc (same) in
        ap (λ (xs : List Step). pending_if run placed (whole xs NeverCameBack) NeverCameBack) steps_are
        ∙ ap (λ (one : Why). pending_if run placed (whole steps one) one) why_is
    by_choice unreported.Sinks false f g =
        no_pending why (λ is.
        let chooses : chooses_none placed placed.called ≡ true =
        unknown_chooses run choice progress.records placed steps end past failed (e ∙ ap (λ (one : Why). Ends steps end (Some one)) is) (none f) in cc (chooses, g))
