-- What the definitions make of an entry is what stands for it by what is known of where its call stands.
use Rattle.std.proofs.Common.{◌≡◌, refl, ◌∙◌, ap, ℕ, Bool, true, false, ◌&&◌, not, if◌then◌else◌, Option, Some, None, List, [], ◌∷◌, ◌++◌}
use Rattle.std.specs.Prelude.{is_none, option_map}
use Rattle.std.specs.Option.{option_map_or}
use Rattle.std.proofs.Math.Bool.{and-true}
use Rattle.mpicall.specs.Word.{or_else}
use Rattle.mpicall.specs.declared.call.Call.TheVariants.{Open, Finalize}
use Rattle.journals.specs.Known.{report_of, requests_in, has_report}
use Rattle.journals.specs.Journal.{Journal}
use Rattle.journals.specs.Lines.{Line}
use Rattle.journals.specs.Entries.{Entry}
use Rattle.journals.specs.declared.word.ReportWord.TheVariants as report
use Rattle.closing.specs.Called.{Called, Sends, StartsSend, Receives, StartsReceive, Exchanges, StartsExchange, Probes, ProbesMatching, ReceivesMatched, StartsMatched, Waits, Tests, WaitsAny, WaitsSome, Cancels, FreesRequest, Collects, StartsCollective, Duplicates, Splits, Makes, StartsDuplicate, MakesOfGroup, FreesComm, Nothing, Finalizes, Exits, Aborts, Fills, Stops, Cuts}
use Rattle.closing.specs.Entries.{Run, Placed, is_window}
use Rattle.closing.specs.RankComms.{RankComms}
use Rattle.closing.specs.Reported.{Message, done_of, got_in, is_gone, is_settled, message_of, root_can_be, unless_moved}
use Rattle.closing.specs.Steps.{Step, WaitsForLate}
use Rattle.mpicall.specs.declared.call.Mode.TheVariants.{Standard}
use Rattle.closing.specs.Endings.{breaks_off, first_of, why_at, number_at, sent_can_be, size_at}
use Rattle.closing.specs.Entry.{wait_for_all, wait_for_any, Choice, steps_by, steps_of, unless_past, is_past, start_send, start_receive}
use Rattle.closing.specs.Recording.{is_end, steps_before, outcome_by, outcome_of}
use Rattle.closing.specs.Sinks.{Outcome, GoesOn, Ends}
use Rattle.closing.specs.inner.Walks.{Spot, spot_of, ends, numbered, known_or_ends, receives_after, starts_at, chosen_or_ends, outcome_on}
use Rattle.closing.specs.declared.why.Why.{Why}
use Rattle.closing.specs.declared.why.Why.TheVariants.{NeverCameBack, NeverReported, Failed, NoNumber, CannotBe}

-- ---- Why, and else what ----

abbrev outcome_with : (Why → List Step) → Outcome → Option Why → Outcome
outcome_with before goes (Some why) = Ends (before why) Open (Some why)
outcome_with before goes None = goes

by_why : (run : Run) (choice : Choice) (placed : Placed) (why : Option Why)
    → outcome_by run choice placed why
    ≡ outcome_with (steps_before run choice placed placed.called)
    (if is_end placed.called then Ends (WaitsForLate ∷ []) Finalize None else GoesOn (steps_of run choice placed)) why
by_why run choice placed (Some why) = refl
by_why run choice placed None = refl

-- the rules after the number
abbrev rest_of : Bool → Bool → List (Bool × Why)
rest_of u k = (u, NeverReported) ∷ (k, NeverCameBack) ∷ []

by_number : (before : Why → List Step) (steps : Option ℕ → List Step) (failed b : Bool) (n : Option ℕ) (u k : Bool)
    (others : ℕ → Outcome) → before Failed ≡ [] → before CannotBe ≡ [] → before NoNumber ≡ []
    → ((comm : ℕ) → n ≡ Some comm → outcome_with before (GoesOn (steps (Some comm))) (first_of (rest_of u k)) ≡ others comm)
    → outcome_with before (GoesOn (steps n)) (first_of ((failed, Failed) ∷ (not b, CannotBe) ∷ (is_none n, NoNumber) ∷ rest_of u k))
    ≡ (if failed then ends Failed else numbered b n others)
by_number before steps true b n u k others ef ec en h = ap (λ s. Ends s Open (Some Failed)) ef
by_number before steps false false n u k others ef ec en h = ap (λ s. Ends s Open (Some CannotBe)) ec
by_number before steps false true None u k others ef ec en h = ap (λ s. Ends s Open (Some NoNumber)) en
by_number before steps false true (Some comm) u k others ef ec en h = h comm refl

-- by the message
by_message : (before : Why → List Step) (f : Message → List Step) (m : Option Message) → before NeverCameBack ≡ []
    → outcome_with before (GoesOn (option_map_or f m [])) (first_of (rest_of false (is_none m))) ≡ known_or_ends m f
by_message before f None e = ap (λ s. Ends s Open (Some NeverCameBack)) e
by_message before f (Some it) e = refl

append_none : (xs : List Step) → xs ++ [] ≡ xs
append_none [] = refl
append_none (x ∷ xs) = ap (λ ys. x ∷ ys) (append_none xs)

-- the start of a receive after other steps
by_receive : (before : Why → List Step) (steps : List Step) (spot : Spot) (comm request : ℕ) (m : Option Message)
    → (m ≡ None → before NeverReported ≡ steps ++ [])
    → outcome_with before (GoesOn (steps ++ option_map_or (λ it. starts_at spot request (start_receive comm it)) m []))
    (first_of (rest_of (is_none m && not (is_gone spot.lines request)) false))
    ≡ receives_after steps spot comm request m
by_receive before steps spot comm request None e = by_gone (is_gone spot.lines request)
  where
    by_gone : (gone : Bool)
        → outcome_with before (GoesOn (steps ++ [])) (first_of (rest_of (not gone) false))
        ≡ (if gone then GoesOn steps else Ends steps Open (Some NeverReported))
    by_gone true = ap GoesOn (append_none steps)
    by_gone false = ap (λ s. Ends s Open (Some NeverReported)) (e refl ∙ append_none steps)
by_receive before steps spot comm request (Some it) e = refl

-- ---- Entries on no communicator ----

by_failed : (before : Why → List Step) (failed : Bool) (goes others : Outcome) → before Failed ≡ [] → goes ≡ others
    → outcome_with before goes (first_of ((failed, Failed) ∷ (false, CannotBe) ∷ (false, NoNumber) ∷ rest_of false false))
    ≡ (if failed then ends Failed else others)
by_failed before true goes others ef e = ap (λ s. Ends s Open (Some Failed)) ef
by_failed before false goes others ef e = e

by_chosen : (before : Why → List Step) (failed : Bool) (r : Option Line) (goes : Option Line → List Step) (steps : List ℕ → List Step)
    → before Failed ≡ [] → before NeverCameBack ≡ [] → ((line : Line) → goes (Some line) ≡ steps (requests_in (Some line)))
    → outcome_with before (GoesOn (goes r))
    (first_of ((failed, Failed) ∷ (false, CannotBe) ∷ (false, NoNumber) ∷ rest_of false (is_none r)))
    ≡ (if failed then ends Failed else chosen_or_ends (option_map (λ line. requests_in (Some line)) r) steps)
by_chosen before true r goes steps ef ec h = ap (λ s. Ends s Open (Some Failed)) ef
by_chosen before false None goes steps ef ec h = ap (λ s. Ends s Open (Some NeverCameBack)) ec
by_chosen before false (Some line) goes steps ef ec h = ap GoesOn (h line)

by_settled : (before : Why → List Step) (failed s : Bool) (goes : List Step) → before Failed ≡ [] → before NeverReported ≡ []
    → goes ≡ []
    → outcome_with before (GoesOn goes)
    (first_of ((failed, Failed) ∷ (false, CannotBe) ∷ (false, NoNumber) ∷ rest_of (not s) false))
    ≡ (if failed then ends Failed else if s then GoesOn [] else ends NeverReported)
by_settled before true s goes ef er e = ap (λ x. Ends x Open (Some Failed)) ef
by_settled before false true goes ef er e = ap GoesOn e
by_settled before false false goes ef er e = ap (λ x. Ends x Open (Some NeverReported)) er

past_none : (past : Bool) → unless_past past [] ≡ []
past_none true = refl
past_none false = refl

-- ---- By the call ----

-- an entry of which these are the parts
abbrev placed : ℕ → Journal → ℕ → Entry → RankComms → Bool → Called → Placed
placed rank journal line entry comms came_back it = record {
  rank = rank;
  journal = journal;
  line = line;
  entry = entry;
  called = it;
  comms = comms;
  came_back = came_back;
}

-- neither the rank's last call nor what breaks its list off
abbrev pub goes_on_past : Called → Bool
goes_on_past Finalizes = false
goes_on_past Exits = false
goes_on_past Aborts = false
goes_on_past Fills = false
goes_on_past Stops = false
goes_on_past Cuts = false
goes_on_past it = true

abbrev pub failed_or : Entry → Outcome → Outcome
failed_or entry others = if has_report report.Failed entry then ends Failed else others

module _ (run : Run) (choice : Choice) (rank : ℕ) (journal : Journal) (line : ℕ) (entry : Entry) (comms : RankComms) (came_back : Bool) where
  abbrev at : Called → Placed
  at it = placed rank journal line entry comms came_back it

  abbrev spot : Called → Spot
  spot it = spot_of run choice (at it)

  abbrev before : Called → Why → List Step
  before it why = steps_before run choice (at it) it why

  abbrev Goal : Called → Type 0
  Goal it = outcome_of run choice (at it) ≡ failed_or entry (outcome_on choice (spot it) it)

  of_call : (it : Called)
      → outcome_of run choice (at it)
      ≡ outcome_with (before it) (if is_end it then Ends (WaitsForLate ∷ []) Finalize None else GoesOn (steps_of run choice (at it)))
      (why_at run (at it))
  of_call it = by_why run choice (at it) (why_at run (at it))

  by_comm : (it : Called) (b : Bool) (n : Option ℕ) (u k : Bool) (others : ℕ → Outcome)
      → before it Failed ≡ [] → before it CannotBe ≡ [] → before it NoNumber ≡ []
      → ((comm : ℕ) → n ≡ Some comm → outcome_with (before it) (GoesOn (steps_by run choice (at it) (Some comm))) (first_of (rest_of u k)) ≡ others comm)
      → outcome_with (before it) (GoesOn (steps_by run choice (at it) n))
      (first_of ((has_report report.Failed entry, Failed) ∷ (not b, CannotBe) ∷ (is_none n, NoNumber) ∷ rest_of u k))
      ≡ failed_or entry (numbered b n others)
  by_comm it b n u k others = by_number (before it) (steps_by run choice (at it)) (has_report report.Failed entry) b n u k others

  -- what is sent alone can be or can't
  by_sent : (it : Called) (b : Bool) (n : Option ℕ) (others : ℕ → Outcome)
      → before it Failed ≡ [] → before it CannotBe ≡ [] → before it NoNumber ≡ []
      → ((comm : ℕ) → n ≡ Some comm → outcome_with (before it) (GoesOn (steps_by run choice (at it) (Some comm))) (first_of (rest_of false false)) ≡ others comm)
      → outcome_with (before it) (GoesOn (steps_by run choice (at it) n))
      (first_of ((has_report report.Failed entry, Failed) ∷ (not (b && true), CannotBe) ∷ (is_none n, NoNumber) ∷ rest_of false false))
      ≡ failed_or entry (numbered b n others)
  by_sent it b n others ef ec en h =
      by_comm it (b && true) n false false others ef ec en h ∙ ap (λ v. failed_or entry (numbered v n others)) (and-true b)

  by_none : (it : Called) (goes others : Outcome) → before it Failed ≡ [] → goes ≡ others
      → outcome_with (before it) goes
      (first_of ((has_report report.Failed entry, Failed) ∷ (false, CannotBe) ∷ (false, NoNumber) ∷ rest_of false false))
      ≡ failed_or entry others
  by_none it goes others = by_failed (before it) (has_report report.Failed entry) goes others

  of_waits_any : (requests : List ℕ) → Goal (WaitsAny requests)
  of_waits_any [] = of_call (WaitsAny []) ∙ by_chosen (before (WaitsAny [])) (has_report report.Failed entry) (report_of report.Chose entry)
      (λ r. unless_past (is_past choice.calls (at (WaitsAny []))) (wait_for_any journal.lines [] (requests_in r)))
      (λ wanted. unless_past (is_past choice.calls (at (WaitsAny []))) (wait_for_any journal.lines [] wanted)) refl refl (λ line. refl)
  of_waits_any (x ∷ []) = of_call (WaitsAny (x ∷ [])) ∙ by_none (WaitsAny (x ∷ [])) _ _ refl refl
  of_waits_any (x ∷ y ∷ zs) = of_call (WaitsAny (x ∷ y ∷ zs)) ∙ by_chosen (before (WaitsAny (x ∷ y ∷ zs))) (has_report report.Failed entry) (report_of report.Chose entry)
      (λ r. unless_past (is_past choice.calls (at (WaitsAny (x ∷ y ∷ zs)))) (wait_for_any journal.lines (x ∷ y ∷ zs) (requests_in r)))
      (λ wanted. unless_past (is_past choice.calls (at (WaitsAny (x ∷ y ∷ zs)))) (wait_for_any journal.lines (x ∷ y ∷ zs) wanted)) refl refl (λ line. refl)

  of_waits_some : (requests : List ℕ) → Goal (WaitsSome requests)
  of_waits_some [] = of_call (WaitsSome []) ∙ by_chosen (before (WaitsSome [])) (has_report report.Failed entry) (report_of report.Chose entry)
      (λ r. unless_past (is_past choice.calls (at (WaitsSome []))) (wait_for_all journal.lines (requests_in r)))
      (λ wanted. unless_past (is_past choice.calls (at (WaitsSome []))) (wait_for_all journal.lines wanted)) refl refl (λ line. refl)
  of_waits_some (x ∷ []) = of_call (WaitsSome (x ∷ [])) ∙ by_none (WaitsSome (x ∷ [])) _ _ refl refl
  of_waits_some (x ∷ y ∷ zs) = of_call (WaitsSome (x ∷ y ∷ zs)) ∙ by_chosen (before (WaitsSome (x ∷ y ∷ zs))) (has_report report.Failed entry) (report_of report.Chose entry)
      (λ r. unless_past (is_past choice.calls (at (WaitsSome (x ∷ y ∷ zs)))) (wait_for_all journal.lines (requests_in r)))
      (λ wanted. unless_past (is_past choice.calls (at (WaitsSome (x ∷ y ∷ zs)))) (wait_for_all journal.lines wanted)) refl refl (λ line. refl)

  of_nothing : (it : Called) → outcome_of run choice (at it) ≡ outcome_with (before it) (GoesOn (unless_past (is_past choice.calls (at it)) [])) (first_of ((has_report report.Failed entry, Failed) ∷ (false, CannotBe) ∷ (false, NoNumber) ∷ rest_of false false))
      → before it Failed ≡ [] → outcome_of run choice (at it) ≡ failed_or entry (GoesOn [])
  of_nothing it e ef = e ∙ by_none it _ _ ef (ap GoesOn (past_none (is_past choice.calls (at it))))

  pub of_entry : (it : Called) → goes_on_past it ≡ true → Goal it
  of_entry (Sends mode it) h =
      of_call (Sends mode it)
      ∙ by_sent (Sends mode it) (sent_can_be (size_at run (at (Sends mode it))) it) (number_at run (at (Sends mode it))) _ refl refl refl (λ comm e. refl)
  of_entry (StartsSend request mode it) h =
      of_call (StartsSend request mode it)
      ∙ by_sent (StartsSend request mode it) (sent_can_be (size_at run (at (StartsSend request mode it))) it) (number_at run (at (StartsSend request mode it))) _ refl refl refl (λ comm e. refl)
  of_entry (Receives awaited) h =
      of_call (Receives awaited)
      ∙ by_comm (Receives awaited) _ (number_at run (at (Receives awaited))) _ _ _ refl refl refl
      (λ comm e. by_message (before (Receives awaited)) _ (message_of awaited (got_in entry)) refl)
  of_entry (StartsReceive request awaited) h =
      of_call (StartsReceive request awaited)
      ∙ by_comm (StartsReceive request awaited) _ (number_at run (at (StartsReceive request awaited))) _ _ _ refl refl refl
      (λ comm e. by_receive (before (StartsReceive request awaited)) [] (spot (StartsReceive request awaited)) comm request (message_of (unless_moved journal.lines request awaited) (done_of journal.lines request)) (λ none. refl))
  of_entry (Exchanges sent awaited) h =
      of_call (Exchanges sent awaited)
      ∙ by_comm (Exchanges sent awaited) _ (number_at run (at (Exchanges sent awaited))) _ _ _ refl refl refl
      (λ comm e. by_message (before (Exchanges sent awaited)) _ (message_of awaited (got_in entry)) refl)
  of_entry (StartsExchange request received sent awaited) h =
      of_call (StartsExchange request received sent awaited)
      ∙ by_comm (StartsExchange request received sent awaited) _ (number_at run (at (StartsExchange request received sent awaited))) _ _ _ refl refl refl
      (λ comm e. by_receive (before (StartsExchange request received sent awaited)) _ (spot (StartsExchange request received sent awaited)) comm received (message_of (unless_moved journal.lines received awaited) (done_of journal.lines received))
      (λ none. ap (λ n. steps_by run choice (at (StartsExchange request received sent awaited)) n) e
      ∙ ap (λ m. starts_at (spot (StartsExchange request received sent awaited)) request (start_send Standard comm sent)
      ++ option_map_or (λ it. starts_at (spot (StartsExchange request received sent awaited)) received (start_receive comm it)) m []) none))
  of_entry (Probes awaited) h =
      of_call (Probes awaited)
      ∙ by_comm (Probes awaited) _ (number_at run (at (Probes awaited))) _ _ _ refl refl refl
      (λ comm e. by_message (before (Probes awaited)) _ (message_of awaited (got_in entry)) refl)
  of_entry (ProbesMatching message awaited) h =
      of_call (ProbesMatching message awaited)
      ∙ by_comm (ProbesMatching message awaited) _ (number_at run (at (ProbesMatching message awaited))) _ _ _ refl refl refl
      (λ comm e. by_message (before (ProbesMatching message awaited)) _ (message_of awaited (got_in entry)) refl)
  of_entry (ReceivesMatched message) h = of_call (ReceivesMatched message) ∙ by_none (ReceivesMatched message) _ _ refl refl
  of_entry (StartsMatched request message) h = of_nothing (StartsMatched request message) (of_call (StartsMatched request message)) refl
  of_entry (Waits requests) h = of_call (Waits requests) ∙ by_none (Waits requests) _ _ refl refl
  of_entry (Tests requests) h = of_call (Tests requests) ∙ by_none (Tests requests) _ _ refl refl
  of_entry (WaitsAny requests) h = of_waits_any requests
  of_entry (WaitsSome requests) h = of_waits_some requests
  of_entry (Cancels request) h =
      of_call (Cancels request)
      ∙ by_settled (before (Cancels request)) (has_report report.Failed entry) (is_settled journal.lines request) _ refl refl (past_none (is_past choice.calls (at (Cancels request))))
  of_entry (FreesRequest request) h = of_nothing (FreesRequest request) (of_call (FreesRequest request)) refl
  of_entry (Collects collective comm root) h =
      of_call (Collects collective comm root)
      ∙ by_sent (Collects collective comm root) (root_can_be (size_at run (at (Collects collective comm root))) collective root) (number_at run (at (Collects collective comm root))) _ refl refl refl (λ number e. refl)
  of_entry (StartsCollective request collective comm root) h =
      of_call (StartsCollective request collective comm root)
      ∙ by_sent (StartsCollective request collective comm root) (root_can_be (size_at run (at (StartsCollective request collective comm root))) collective root) (number_at run (at (StartsCollective request collective comm root))) _ refl refl refl (λ number e. refl)
  of_entry (Duplicates comm) h =
      of_call (Duplicates comm) ∙ by_comm (Duplicates comm) true (number_at run (at (Duplicates comm))) _ _ _ refl refl refl (λ number e. refl)
  of_entry (StartsDuplicate request comm) h =
      of_call (StartsDuplicate request comm)
      ∙ by_comm (StartsDuplicate request comm) true (number_at run (at (StartsDuplicate request comm))) _ _ _ refl refl refl (λ number e. refl)
  of_entry (Splits comm colour key) h =
      of_call (Splits comm colour key)
      ∙ by_comm (Splits comm colour key) true (number_at run (at (Splits comm colour key))) _ _ _ refl refl refl (λ number e. refl)
  of_entry (Makes comm) h =
      of_call (Makes comm) ∙ by_comm (Makes comm) true (number_at run (at (Makes comm))) _ _ _ refl refl refl (λ number e. refl)
  of_entry (MakesOfGroup group) h =
      of_call (MakesOfGroup group)
      ∙ by_comm (MakesOfGroup group) true (number_at run (at (MakesOfGroup group))) _ _ _ refl refl refl (λ number e. refl)
  of_entry (FreesComm comm) h = of_nothing (FreesComm comm) (of_call (FreesComm comm)) refl
  of_entry Nothing h = of_nothing Nothing (of_call Nothing) refl
  of_entry Finalizes h = cc
  of_entry Exits h = cc
  of_entry Aborts h = cc
  of_entry Fills h = cc
  of_entry Stops h = cc
  of_entry Cuts h = cc

  of_end : (it : Called) → breaks_off (is_window run) it ≡ None → is_end it ≡ true → has_report report.Failed entry ≡ false → outcome_of run choice (at it) ≡ Ends (WaitsForLate ∷ []) Finalize None
  of_end Finalizes n h e =
      of_call Finalizes
      ∙ ap (λ failed. outcome_with (before Finalizes) (Ends (WaitsForLate ∷ []) Finalize None) (first_of ((failed, Failed) ∷ (false, CannotBe) ∷ (false, NoNumber) ∷ rest_of false false))) e
  of_end Exits n h e =
      of_call Exits
      ∙ ap (λ failed. outcome_with (before Exits) (Ends (WaitsForLate ∷ []) Finalize None) (first_of ((failed, Failed) ∷ (false, CannotBe) ∷ (false, NoNumber) ∷ rest_of false false))) e
  of_end (Sends mode it) n h e = cc
  of_end (StartsSend request mode it) n h e = cc
  of_end (Receives awaited) n h e = cc
  of_end (StartsReceive request awaited) n h e = cc
  of_end (Exchanges sent awaited) n h e = cc
  of_end (StartsExchange request received sent awaited) n h e = cc
  of_end (Probes awaited) n h e = cc
  of_end (ProbesMatching message awaited) n h e = cc
  of_end (ReceivesMatched message) n h e = cc
  of_end (StartsMatched request message) n h e = cc
  of_end (Waits requests) n h e = cc
  of_end (Tests requests) n h e = cc
  of_end (WaitsAny requests) n h e = cc
  of_end (WaitsSome requests) n h e = cc
  of_end (Cancels request) n h e = cc
  of_end (FreesRequest request) n h e = cc
  of_end (Collects collective comm root) n h e = cc
  of_end (StartsCollective request collective comm root) n h e = cc
  of_end (Duplicates comm) n h e = cc
  of_end (StartsDuplicate request comm) n h e = cc
  of_end (Splits comm colour key) n h e = cc
  of_end (Makes comm) n h e = cc
  of_end (MakesOfGroup group) n h e = cc
  of_end (FreesComm comm) n h e = cc
  of_end Nothing n h e = cc
  of_end Aborts n h e = cc
  of_end Fills n h e = cc
  of_end Stops n h e = cc
  of_end Cuts n h e =
      of_call Cuts
      ∙ ap (λ some. outcome_with (before Cuts) (Ends (WaitsForLate ∷ []) Finalize None) (or_else some (first_of ((has_report report.Failed entry, Failed) ∷ (false, CannotBe) ∷ (false, NoNumber) ∷ rest_of false false)))) n
      ∙ ap (λ failed. outcome_with (before Cuts) (Ends (WaitsForLate ∷ []) Finalize None) (first_of ((failed, Failed) ∷ (false, CannotBe) ∷ (false, NoNumber) ∷ rest_of false false))) e

  of_break : (it : Called) (why : Why) → breaks_off (is_window run) it ≡ Some why → outcome_of run choice (at it) ≡ ends why
  of_break Stops why e = of_call Stops ∙ ap (λ some. outcome_with (before Stops) (GoesOn (steps_of run choice (at Stops))) some) e
  of_break Aborts why e = of_call Aborts ∙ ap (λ some. outcome_with (before Aborts) (GoesOn (steps_of run choice (at Aborts))) some) e
  of_break Fills why e = of_call Fills ∙ ap (λ some. outcome_with (before Fills) (GoesOn (steps_of run choice (at Fills))) some) e
  of_break Cuts why e =
      of_call Cuts
      ∙ ap (λ some. outcome_with (before Cuts) (Ends (WaitsForLate ∷ []) Finalize None) (or_else some (first_of ((has_report report.Failed entry, Failed) ∷ (false, CannotBe) ∷ (false, NoNumber) ∷ rest_of false false)))) e
  of_break Finalizes why e = cc
  of_break Exits why e = cc
  of_break (Sends mode it) why e = cc
  of_break (StartsSend request mode it) why e = cc
  of_break (Receives awaited) why e = cc
  of_break (StartsReceive request awaited) why e = cc
  of_break (Exchanges sent awaited) why e = cc
  of_break (StartsExchange request received sent awaited) why e = cc
  of_break (Probes awaited) why e = cc
  of_break (ProbesMatching message awaited) why e = cc
  of_break (ReceivesMatched message) why e = cc
  of_break (StartsMatched request message) why e = cc
  of_break (Waits requests) why e = cc
  of_break (Tests requests) why e = cc
  of_break (WaitsAny requests) why e = cc
  of_break (WaitsSome requests) why e = cc
  of_break (Cancels request) why e = cc
  of_break (FreesRequest request) why e = cc
  of_break (Collects collective comm root) why e = cc
  of_break (StartsCollective request collective comm root) why e = cc
  of_break (Duplicates comm) why e = cc
  of_break (StartsDuplicate request comm) why e = cc
  of_break (Splits comm colour key) why e = cc
  of_break (Makes comm) why e = cc
  of_break (MakesOfGroup group) why e = cc
  of_break (FreesComm comm) why e = cc
  of_break Nothing why e = cc

-- ---- By the entry ----

-- one that goes on past its call and didn't fail
pub taken_is : (run : Run) (choice : Choice) (it : Placed) → goes_on_past it.called ≡ true → has_report report.Failed it.entry ≡ false
    → outcome_of run choice it ≡ outcome_on choice (spot_of run choice it) it.called
taken_is run choice it h e =
    of_entry run choice it.rank it.journal it.line it.entry it.comms it.came_back it.called h
    ∙ ap (λ failed. if failed then ends Failed else outcome_on choice (spot_of run choice it) it.called) e

pub failed_is : (run : Run) (choice : Choice) (it : Placed) → goes_on_past it.called ≡ true → has_report report.Failed it.entry ≡ true
    → outcome_of run choice it ≡ ends Failed
failed_is run choice it h e =
    of_entry run choice it.rank it.journal it.line it.entry it.comms it.came_back it.called h
    ∙ ap (λ failed. if failed then ends Failed else outcome_on choice (spot_of run choice it) it.called) e

-- the last call of the rank
pub ended_is : (run : Run) (choice : Choice) (it : Placed) → breaks_off (is_window run) it.called ≡ None → is_end it.called ≡ true → has_report report.Failed it.entry ≡ false
    → outcome_of run choice it ≡ Ends (WaitsForLate ∷ []) Finalize None
ended_is run choice it n h e = of_end run choice it.rank it.journal it.line it.entry it.comms it.came_back it.called n h e

-- a call after which nothing is known of the rank
pub broken_is : (run : Run) (choice : Choice) (it : Placed) (why : Why) → breaks_off (is_window run) it.called ≡ Some why → outcome_of run choice it ≡ ends why
broken_is run choice it why e = of_break run choice it.rank it.journal it.line it.entry it.comms it.came_back it.called why e
