-- The pending call of a list that ends at an entry, by what is known of where its call stands.
use Rattle.std.proofs.Common.{◌≡◌, refl, sym, ◌∙◌, ap, ℕ, Bool, true, false, ◌&&◌, ◌||◌, not, if◌then◌else◌, Option, Some, None, option_and_then, option_map, Result, Ok, Err, List, [], ◌∷◌, ◌++◌, eqb}
use Rattle.std.specs.Prelude.{is_none, is_some, option_to_list}
use Rattle.std.specs.Option.{option_map_or}
use Rattle.std.proofs.lemmas.Bool.{eq-eqb}
use Rattle.mpicall.specs.declared.call.Call.TheVariants.{Open}
use Rattle.journals.specs.Known.{report_of, requests_in, has_report}
use Rattle.journals.specs.Journal.{Journal}
use Rattle.journals.specs.Lines.{Line}
use Rattle.journals.specs.Entries.{Entry}
use Rattle.journals.specs.declared.word.ReportWord.TheVariants as report
use Rattle.closing.specs.Called.{Called, Sent, Awaited, Sends, StartsSend, Receives, StartsReceive, Exchanges, StartsExchange, Probes, ProbesMatching, ReceivesMatched, StartsMatched, Waits, Tests, WaitsAny, WaitsSome, Cancels, FreesRequest, Collects, StartsCollective, Duplicates, Splits, Makes, StartsDuplicate, MakesOfGroup, FreesComm, Nothing, Finalizes, Exits, Aborts, Fills, Stops, Cuts}
use Rattle.closing.specs.Endings.{number_at, sent_can_be, size_at}
use Rattle.closing.specs.Entries.{Run, Placed}
use Rattle.closing.specs.Entry.{Choice, is_past}
use Rattle.closing.specs.Pending.{PendingCall, for_all, pending_by, unknown}
use Rattle.closing.specs.RankComms.{RankComms}
use Rattle.closing.specs.Recording.{Listed, ended}
use Rattle.closing.specs.Reported.{Message, got_in, message_can_be, message_of, peer_can_be, tag_can_be}
use Rattle.closing.specs.Sinks.{Outcome, Ends, ends, is_met, is_nobody, outcome_by_sinks, wanted_by}
use Rattle.closing.specs.Steps.{Step, Progress, Whole, after_steps, least_free, number_in}
use Rattle.closing.specs.inner.Lists.{Handed}
use Rattle.closing.specs.inner.Sunk.{IsSunkBy, any_pending, blocks_on, blocks_sunk, exchange_pending, exchange_steps, fate_by, idle_on, is_from_nobody, message_pending, names_sink, outcome_by_fate, pending_on, pending_when, steps_left, sunk_on, waits_pending, waits_sunk, wants_both, wants_in}
use Rattle.closing.specs.inner.Taken.{IsBack, IsTakenBy, chooses_none, pending_if, pending_kept, sinks_stand}
use Rattle.closing.specs.inner.Walks.{Spot, spot_of}
use Rattle.closing.specs.declared.choice.Unreported.{Unreported}
use Rattle.closing.specs.declared.choice.Unreported.TheVariants as unreported
use Rattle.closing.specs.declared.pending.Item.TheVariants as item
use Rattle.closing.specs.declared.pending.Wanted.{Wanted}
use Rattle.closing.specs.declared.stop.Stop.{Stop}
use Rattle.closing.specs.declared.stop.Stop.TheVariants.{Left, Memory}
use Rattle.closing.specs.declared.walk.Walk.{Walk}
use Rattle.closing.specs.declared.walk.sinks.Leaves.{Leaves}
use Rattle.closing.specs.declared.walk.sinks.Leaves.TheVariants as leaves
use Rattle.closing.specs.declared.why.Why.{Why}
use Rattle.closing.specs.declared.why.Why.TheVariants.{NeverCameBack, NeverReported, Failed, NoNumber, TooLong, CannotBe, Stopped, Aborted, Full, Cut, NoJournal, NotJudged}
use Rattle.closing.proofs.SunkOutcomes.{sunk_is}

-- ---- What is wanted ----

-- where something is wanted of one that can be, that is wanted of it
wanted_by_test : (a b b' c : Bool) (wanted : Option Wanted) (found : Wanted) → b ≡ b'
    → (if a || not c then None else if b then None else wanted) ≡ Some found
    → (if a || (b' || false) then None else wanted) ≡ Some found
wanted_by_test true b b' c wanted found e is = cc
wanted_by_test false b b' false wanted found e is = cc
wanted_by_test false true b' true wanted found e is = cc
wanted_by_test false false true true wanted found e is = cc
wanted_by_test false false false true wanted found e is = is

from_is : (message : Option Message) → is_from_nobody message ≡ option_map_or (λ it. is_nobody it.source) message false
from_is None = refl
from_is (Some it) = refl

abbrev wanted_of : Awaited → Option Message → ℕ → Option Wanted
wanted_of awaited message comm =
    if is_nobody awaited.source || (option_map_or (λ it. is_nobody it.source) message false || false) then None else Some (wanted_by comm awaited message)

wanted_there : (size : ℕ) (n : Option ℕ) (awaited : Awaited) (message : Option Message) (found : Wanted)
    → wants_in size n awaited message ≡ Some found → option_and_then (wanted_of awaited message) n ≡ Some found
wanted_there size None awaited message found is = cc
wanted_there size (Some comm) awaited message found is =
    wanted_by_test (is_nobody awaited.source) (is_from_nobody message) (option_map_or (λ it. is_nobody it.source) message false)
    (peer_can_be size awaited.source && (tag_can_be awaited.tag && message_can_be size message)) (Some (wanted_by comm awaited message)) found (from_is message) is

wanted_is : (size : ℕ) (n : Option ℕ) (awaited : Awaited) (message : Option Message) (outcome : Outcome) (f : Wanted → Option Outcome)
    → (wants : Option Wanted) → wants_in size n awaited message ≡ wants → option_and_then f wants ≡ Some outcome
    → wants ≡ option_and_then (wanted_of awaited message) n
wanted_is size n awaited message outcome f None e is = cc
wanted_is size n awaited message outcome f (Some found) e is = sym (wanted_there size n awaited message found e)

-- of an exchange
both_there : (b : Bool) (size : ℕ) (n : Option ℕ) (awaited : Awaited) (message : Option Message) (found : Wanted)
    → (if b then wants_in size n awaited message else None) ≡ Some found → option_and_then (wanted_of awaited message) n ≡ Some found
both_there true size n awaited message found is = wanted_there size n awaited message found is
both_there false size n awaited message found is = cc

-- ---- Where the list ends ----

-- never came back, and ends the list: it is pending
pends_by : (known met past : Bool) (pending went steps : List Step) → outcome_by_fate (fate_by known met false past) pending went ≡ Some (Ends steps Open (Some NeverCameBack)) → steps ≡ pending
pends_by true true past pending went steps is = cc
pends_by true false past pending went steps is = cc
pends_by false true past pending went steps is = cc
pends_by false false past pending went steps is = cc

waits_end : (past named came_back : Bool) (steps : List Step) (why : Why)
    → (if past || not named then None else Some (ends (if came_back then NotJudged else NeverCameBack))) ≡ Some (Ends steps Open (Some why)) → steps ≡ []
waits_end true named came_back steps why is = cc
waits_end false false came_back steps why is = cc
waits_end false true true steps why is = cc
waits_end false true false steps why is = cc

-- ---- By the call ----

abbrev placed : ℕ → Journal → ℕ → Entry → RankComms → Bool → Called → Placed
placed rank journal line entry comms came_back it = record {
  rank = rank;
  journal = journal;
  line = line;
  entry = entry;
  called = it;
  comms = comms;
  came_back = came_back;
}

module _ (run : Run) (choice : Choice) (progress : Progress) (rank : ℕ) (journal : Journal) (line : ℕ) (entry : Entry) (comms : RankComms) where
  abbrev at : Called → Placed
  at it = placed rank journal line entry comms false it

  abbrev spot : Called → Spot
  spot it = spot_of run choice (at it)

  abbrev list_after : List Step → Listed
  list_after steps = ended (after_steps progress line steps) Open line (Some NeverCameBack)

  abbrev Ending : Called → List Step → Type 0
  Ending it steps = sunk_on (spot it) false progress.records it ≡ Some (Ends steps Open (Some NeverCameBack))

  abbrev Goal : Called → List Step → Type 0
  Goal it steps = pending_on (spot it) it progress ≡ pending_by run (list_after steps) (at it) it

  of_message : (it : Called) (awaited : Awaited) (left : Leaves) (steps : List Step)
      → blocks_sunk (spot it) false left awaited (message_of awaited (got_in entry)) progress.records ≡ Some (Ends steps Open (Some NeverCameBack))
      → message_pending (wants_in (size_at run (at it)) (number_at run (at it)) awaited (message_of awaited (got_in entry)))
      ≡ message_pending (option_and_then (wanted_of awaited (message_of awaited (got_in entry))) (number_at run (at it)))
  of_message it awaited left steps is =
      let message = message_of awaited (got_in entry) in
      ap message_pending (wanted_is (size_at run (at it)) (number_at run (at it)) awaited message _
      (λ wanted. blocks_on (spot it) false progress.records (is_some message) wanted [] (steps_left left wanted (is_some message)))
      (wants_in (size_at run (at it)) (number_at run (at it)) awaited message) refl is)

  abbrev message_here : Awaited → Option Message
  message_here awaited = message_of awaited (got_in entry)

  abbrev both : Sent → Awaited → Wanted → List Step
  both sent awaited wanted = exchange_steps (spot (Exchanges sent awaited)) wanted sent (is_some (message_here awaited))

  abbrev wants_here : Sent → Awaited → Option Wanted
  wants_here sent awaited =
      wants_both (size_at run (at (Exchanges sent awaited))) (number_at run (at (Exchanges sent awaited))) sent awaited (message_here awaited)

  abbrev items_by : Bool → Option Wanted → PendingCall
  items_by b wanted =
      for_all (option_to_list (option_map (λ number. item.Request number) (if b then Some (least_free progress.active) else number_in progress.active (Whole line))) ++ option_to_list (option_map (λ it. item.Message it) wanted))

  by_line : (b : Bool) (wanted : Wanted) → b ≡ true → exchange_pending (Some wanted) progress ≡ items_by b (Some wanted)
  by_line true wanted e = refl
  by_line false wanted e = cc

  by_wants : (sent : Sent) (awaited : Awaited) (steps : List Step) (wants : Option Wanted) → wants_here sent awaited ≡ wants
      → option_and_then (λ wanted. blocks_on (spot (Exchanges sent awaited)) false progress.records (is_some (message_here awaited)) wanted (both sent awaited wanted) (both sent awaited wanted)) wants
      ≡ Some (Ends steps Open (Some NeverCameBack))
      → exchange_pending (wants_here sent awaited) progress ≡ pending_by run (list_after steps) (at (Exchanges sent awaited)) (Exchanges sent awaited)
  by_wants sent awaited steps None e is = cc
  by_wants sent awaited steps (Some wanted) e is =
      let it = Exchanges sent awaited in
      let same : steps ≡ both sent awaited wanted =
      pends_by (is_some (message_here awaited)) (is_met progress.records wanted) (is_past choice.calls (at it)) (both sent awaited wanted) (both sent awaited wanted) steps is in
      let there : option_and_then (wanted_of awaited (message_here awaited)) (number_at run (at it)) ≡ Some wanted =
      both_there (sent_can_be (size_at run (at it)) sent) (size_at run (at it)) (number_at run (at it)) awaited (message_here awaited) wanted e in
      ap (λ w. exchange_pending w progress) e
      ∙ by_line (eqb line line) wanted (eq-eqb line line refl)
      ∙ sym (ap (λ w. items_by (eqb line line) w) there)
      ∙ sym (ap (λ xs. pending_by run (list_after xs) (at it) it) same)

  of_exchange : (sent : Sent) (awaited : Awaited) (steps : List Step) → Ending (Exchanges sent awaited) steps → Goal (Exchanges sent awaited) steps
  of_exchange sent awaited steps is = by_wants sent awaited steps (wants_here sent awaited) refl is

  of_waits : (it : Called) (requests : List ℕ) (steps : List Step) → waits_sunk (spot it) false requests progress.records ≡ Some (Ends steps Open (Some NeverCameBack))
      → waits_pending journal.lines requests progress ≡ pending_by run (list_after []) (at it) it
      → waits_pending journal.lines requests progress ≡ pending_by run (list_after steps) (at it) it
  of_waits it requests steps is e =
      e ∙ sym (ap (λ xs. pending_by run (list_after xs) (at it) it)
      (waits_end (is_past choice.calls (at it)) (names_sink journal.lines requests progress.records) false steps NeverCameBack is))

  -- a wait that chose came back
  none_chosen : (chose : Option Line) (f : List ℕ → Option Outcome) (outcome : Outcome) → ((line : Line) → chose ≡ Some line → false ≡ true)
      → option_and_then f (option_map (λ line. requests_in (Some line)) chose) ≡ Some outcome → ⊥
  none_chosen None f outcome back is = cc
  none_chosen (Some line) f outcome back is = let e : false ≡ true = back line refl in cc (e)

  of_any : (requests : List ℕ) (steps : List Step) → IsBack (at (WaitsAny requests)) → Ending (WaitsAny requests) steps → Goal (WaitsAny requests) steps
  of_any [] steps back is = absurd (none_chosen (report_of report.Chose entry) _ _ back.chose is)
  of_any (x ∷ []) steps back is = of_waits (WaitsAny (x ∷ [])) (x ∷ []) steps is refl
  of_any (x ∷ y ∷ zs) steps back is = absurd (none_chosen (report_of report.Chose entry) _ _ back.chose is)

  of_some : (requests : List ℕ) (steps : List Step) → IsBack (at (WaitsSome requests)) → Ending (WaitsSome requests) steps → Goal (WaitsSome requests) steps
  of_some [] steps back is = absurd (none_chosen (report_of report.Chose entry) _ _ back.chose is)
  of_some (x ∷ []) steps back is = of_waits (WaitsSome (x ∷ [])) (x ∷ []) steps is refl
  of_some (x ∷ y ∷ zs) steps back is = absurd (none_chosen (report_of report.Chose entry) _ _ back.chose is)

  of_call : (it : Called) (steps : List Step) → IsBack (at it) → Ending it steps → Goal it steps
  of_call (Receives awaited) steps back is = of_message (Receives awaited) awaited (leaves.Sink None) steps is
  of_call (Exchanges sent awaited) steps back is = of_exchange sent awaited steps is
  of_call (Probes awaited) steps back is = of_message (Probes awaited) awaited leaves.Nothing steps is
  of_call (ProbesMatching own awaited) steps back is = of_message (ProbesMatching own awaited) awaited (leaves.Sink (Some own)) steps is
  of_call (ReceivesMatched message) steps back is = of_waits (ReceivesMatched message) (message ∷ []) steps is refl
  of_call (Waits requests) steps back is = of_waits (Waits requests) requests steps is refl
  of_call (WaitsAny requests) steps back is = of_any requests steps back is
  of_call (WaitsSome requests) steps back is = of_some requests steps back is
  of_call (StartsReceive request awaited) steps back is = refl
  of_call (StartsExchange request received sent awaited) steps back is = refl
  of_call (Tests requests) steps back is = refl
  of_call (Sends mode it) steps back is = refl
  of_call (StartsSend request mode it) steps back is = refl
  of_call (StartsMatched request message) steps back is = refl
  of_call (Cancels request) steps back is = refl
  of_call (FreesRequest request) steps back is = refl
  of_call (Collects collective comm root) steps back is = refl
  of_call (StartsCollective request collective comm root) steps back is = refl
  of_call (Duplicates comm) steps back is = refl
  of_call (StartsDuplicate request comm) steps back is = refl
  of_call (Splits comm colour key) steps back is = refl
  of_call (Makes comm) steps back is = refl
  of_call (MakesOfGroup group) steps back is = refl
  of_call (FreesComm comm) steps back is = refl
  of_call Nothing steps back is = refl
  of_call Finalizes steps back is = refl
  of_call Exits steps back is = refl
  of_call Aborts steps back is = refl
  of_call Fills steps back is = refl
  of_call Stops steps back is = refl
  of_call Cuts steps back is = refl

by_back : (run : Run) (choice : Choice) (progress : Progress) (rank : ℕ) (journal : Journal) (line : ℕ) (entry : Entry) (comms : RankComms) (came_back : Bool) (it : Called) (steps : List Step)
    → IsBack (placed rank journal line entry comms came_back it)
    → sunk_on (spot_of run choice (placed rank journal line entry comms came_back it)) came_back progress.records it ≡ Some (Ends steps Open (Some NeverCameBack))
    → pending_when NeverCameBack came_back (pending_on (spot_of run choice (placed rank journal line entry comms came_back it)) it progress)
    ≡ pending_if run (placed rank journal line entry comms came_back it) (ended (after_steps progress line steps) Open line (Some NeverCameBack)) NeverCameBack
by_back run choice progress rank journal line entry comms true it steps back is = refl
by_back run choice progress rank journal line entry comms false it steps back is = of_call run choice progress rank journal line entry comms it steps back is

pending_is : (run : Run) (choice : Choice) (progress : Progress) (it : Placed) (steps : List Step) (why : Why) → IsBack it
    → sunk_on (spot_of run choice it) it.came_back progress.records it.called ≡ Some (Ends steps Open (Some why))
    → pending_when why it.came_back (pending_on (spot_of run choice it) it.called progress)
    ≡ pending_if run it (ended (after_steps progress it.line steps) Open it.line (Some why)) why
pending_is run choice progress it steps NeverCameBack back is =
    by_back run choice progress it.rank it.journal it.line it.entry it.comms it.came_back it.called steps back is
pending_is run choice progress it steps NeverReported back is = refl
pending_is run choice progress it steps Failed back is = refl
pending_is run choice progress it steps NoNumber back is = refl
pending_is run choice progress it steps TooLong back is = refl
pending_is run choice progress it steps CannotBe back is = refl
pending_is run choice progress it steps Stopped back is = refl
pending_is run choice progress it steps Aborted back is = refl
pending_is run choice progress it steps Full back is = refl
pending_is run choice progress it steps Cut back is = refl
pending_is run choice progress it steps NoJournal back is = refl
pending_is run choice progress it steps NotJudged back is = refl

-- ---- Where nothing was put ----

idle_by : (chose : Option Line) (came_back : Bool) (any : PendingCall)
    → (if is_none (option_map (λ line. requests_in (Some line)) chose) && not came_back then any else unknown)
    ≡ (if is_none chose then (if came_back then unknown else any) else unknown)
idle_by None true any = refl
idle_by None false any = refl
idle_by (Some line) came_back any = refl

module _ (run : Run) (choice : Choice) (progress : Progress) (rank : ℕ) (journal : Journal) (line : ℕ) (entry : Entry) (comms : RankComms) (came_back : Bool) where
  abbrev here : Called → Placed
  here it = placed rank journal line entry comms came_back it

  abbrev Idle : Called → Type 0
  Idle it = idle_on (spot_of run choice (here it)) came_back it progress
      ≡ (if chooses_none (here it) it then pending_if run (here it) (ended progress Open line (Some NeverCameBack)) NeverCameBack else unknown)

  idle_any : (requests : List ℕ) → Idle (WaitsAny requests)
  idle_any [] = idle_by (report_of report.Chose entry) came_back (any_pending journal.lines [] progress)
  idle_any (x ∷ []) = refl
  idle_any (x ∷ y ∷ zs) = idle_by (report_of report.Chose entry) came_back (any_pending journal.lines (x ∷ y ∷ zs) progress)

  idle_some : (requests : List ℕ) → Idle (WaitsSome requests)
  idle_some [] = idle_by (report_of report.Chose entry) came_back (any_pending journal.lines [] progress)
  idle_some (x ∷ []) = refl
  idle_some (x ∷ y ∷ zs) = idle_by (report_of report.Chose entry) came_back (any_pending journal.lines (x ∷ y ∷ zs) progress)

  idle_call : (it : Called) → Idle it
  idle_call (WaitsAny requests) = idle_any requests
  idle_call (WaitsSome requests) = idle_some requests
  idle_call (Receives awaited) = refl
  idle_call (Exchanges sent awaited) = refl
  idle_call (Probes awaited) = refl
  idle_call (ProbesMatching own awaited) = refl
  idle_call (ReceivesMatched message) = refl
  idle_call (Waits requests) = refl
  idle_call (StartsReceive request awaited) = refl
  idle_call (StartsExchange request received sent awaited) = refl
  idle_call (Tests requests) = refl
  idle_call (Sends mode it) = refl
  idle_call (StartsSend request mode it) = refl
  idle_call (StartsMatched request message) = refl
  idle_call (Cancels request) = refl
  idle_call (FreesRequest request) = refl
  idle_call (Collects collective comm root) = refl
  idle_call (StartsCollective request collective comm root) = refl
  idle_call (Duplicates comm) = refl
  idle_call (StartsDuplicate request comm) = refl
  idle_call (Splits comm colour key) = refl
  idle_call (Makes comm) = refl
  idle_call (MakesOfGroup group) = refl
  idle_call (FreesComm comm) = refl
  idle_call Nothing = refl
  idle_call Finalizes = refl
  idle_call Exits = refl
  idle_call Aborts = refl
  idle_call Fills = refl
  idle_call Stops = refl
  idle_call Cuts = refl

idle_is : (run : Run) (choice : Choice) (progress : Progress) (it : Placed) → choice.unreported ≡ unreported.Sinks
    → idle_on (spot_of run choice it) it.came_back it.called progress ≡ pending_kept run choice progress it
idle_is run choice progress it sinks =
    idle_call run choice progress it.rank it.journal it.line it.entry it.comms it.came_back it.called
    ∙ sym (ap (λ (u : Unreported). if sinks_stand u && chooses_none it it.called
    then pending_if run it (ended progress Open it.line (Some NeverCameBack)) NeverCameBack else unknown) sinks)

-- ---- The entry ----

module _ (run : Run) (choice : Choice) (it : Placed) (handed : Handed) (progress : Progress) (walk : Walk) (back : IsBack it)
    (sinks : choice.unreported ≡ unreported.Sinks) (fine : has_report report.Failed it.entry ≡ false) where
  abbrev Sunk : Result Bool Stop → Type 0
  Sunk result = IsSunkBy it.line it.came_back (sunk_on (spot_of run choice it) it.came_back progress.records it.called)
      (pending_on (spot_of run choice it) it.called progress) (idle_on (spot_of run choice it) it.came_back it.called progress) result handed progress walk

  is : outcome_by_sinks run choice progress.records it ≡ sunk_on (spot_of run choice it) it.came_back progress.records it.called
  is = sunk_is run choice progress.records it fine

  pub taken_by : (result : Result Bool Stop) → Sunk result → IsTakenBy run choice it result handed progress walk
  taken_by (Ok false) h = record {
    none = λ _. is ∙ h.0;
    stands = h.1.stands;
    sinks = h.1.sinks;
    pending = h.1.pending ∙ idle_is run choice progress it sinks;
    left_out = h.1.left_out;
  }
  taken_by (Ok true) h = record { steps = h.steps; unreported = sinks; is = is ∙ h.is; stands = h.stands; kept = h.kept }
  taken_by (Err Memory) h = tt
  taken_by (Err (Left TooLong)) h = record { outcome = h.found; unreported = sinks; is = is ∙ h.is; cut = h.before.cut; same = h.before.same; kept = h.before.kept }
  taken_by (Err (Left NeverCameBack)) h = record { steps = h.steps; unreported = sinks; is = is ∙ h.is; stands = h.stands; sinks = h.sinks; pending = h.waits ∙ pending_is run choice progress it h.steps NeverCameBack back h.is; left_out = h.left_out }
  taken_by (Err (Left NeverReported)) h = record { steps = h.steps; unreported = sinks; is = is ∙ h.is; stands = h.stands; sinks = h.sinks; pending = h.waits; left_out = h.left_out }
  taken_by (Err (Left Failed)) h = record { steps = h.steps; unreported = sinks; is = is ∙ h.is; stands = h.stands; sinks = h.sinks; pending = h.waits; left_out = h.left_out }
  taken_by (Err (Left NoNumber)) h = record { steps = h.steps; unreported = sinks; is = is ∙ h.is; stands = h.stands; sinks = h.sinks; pending = h.waits; left_out = h.left_out }
  taken_by (Err (Left CannotBe)) h = record { steps = h.steps; unreported = sinks; is = is ∙ h.is; stands = h.stands; sinks = h.sinks; pending = h.waits; left_out = h.left_out }
  taken_by (Err (Left Stopped)) h = record { steps = h.steps; unreported = sinks; is = is ∙ h.is; stands = h.stands; sinks = h.sinks; pending = h.waits; left_out = h.left_out }
  taken_by (Err (Left Aborted)) h = record { steps = h.steps; unreported = sinks; is = is ∙ h.is; stands = h.stands; sinks = h.sinks; pending = h.waits; left_out = h.left_out }
  taken_by (Err (Left Full)) h = record { steps = h.steps; unreported = sinks; is = is ∙ h.is; stands = h.stands; sinks = h.sinks; pending = h.waits; left_out = h.left_out }
  taken_by (Err (Left Cut)) h = record { steps = h.steps; unreported = sinks; is = is ∙ h.is; stands = h.stands; sinks = h.sinks; pending = h.waits; left_out = h.left_out }
  taken_by (Err (Left NotJudged)) h = record { steps = h.steps; unreported = sinks; is = is ∙ h.is; stands = h.stands; sinks = h.sinks; pending = h.waits; left_out = h.left_out }
  taken_by (Err (Left NoJournal)) h = record { steps = h.steps; unreported = sinks; is = is ∙ h.is; stands = h.stands; sinks = h.sinks; pending = h.waits; left_out = h.left_out }
