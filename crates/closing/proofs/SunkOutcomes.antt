-- What comes of an entry by the sinks before it is what comes of it by what is known of where its call stands.
use Rattle.std.proofs.Common.{◌≡◌, refl, sym, ◌∙◌, ap, ℕ, Bool, true, false, ◌&&◌, ◌||◌, not, if◌then◌else◌, Option, Some, None, option_and_then, option_map, List, [], ◌∷◌, ◌++◌}
use Rattle.std.specs.Prelude.{is_none, is_some}
use Rattle.std.specs.Option.{option_map_or}
use Rattle.mpicall.specs.declared.call.Call.TheVariants.{Open}
use Rattle.mpicall.specs.declared.call.Mode.TheVariants.{Standard}
use Rattle.journals.specs.Known.{report_of, requests_in, has_report}
use Rattle.journals.specs.Journal.{Journal}
use Rattle.journals.specs.Entries.{Entry}
use Rattle.journals.specs.declared.word.ReportWord.TheVariants as report
use Rattle.closing.specs.Called.{Called, Sent, Awaited, Sends, StartsSend, Receives, StartsReceive, Exchanges, StartsExchange, Probes, ProbesMatching, ReceivesMatched, StartsMatched, Waits, Tests, WaitsAny, WaitsSome, Cancels, FreesRequest, Collects, StartsCollective, Duplicates, Splits, Makes, StartsDuplicate, MakesOfGroup, FreesComm, Nothing, Finalizes, Exits, Aborts, Fills, Stops, Cuts}
use Rattle.closing.specs.Endings.{awaited_can_be, first_of, number_at, sent_can_be, size_at}
use Rattle.closing.specs.Entries.{Run, Placed}
use Rattle.closing.specs.Entry.{Choice, is_past, start_send}
use Rattle.closing.specs.RankComms.{RankComms}
use Rattle.closing.specs.Reported.{Message, done_of, got_in, is_gone, message_can_be, message_of, peer_can_be, tag_can_be, unless_moved}
use Rattle.closing.specs.Sinks.{Outcome, GoesOn, Ends, ends, is_met, is_nobody, outcome_by_sinks, takes_by, wanted_by, waits_by}
use Rattle.closing.specs.Steps.{Step, Written}
use Rattle.closing.specs.inner.Sunk.{blocks_on, exchange_steps, fate_by, is_from_nobody, is_sink_by, outcome_by_fate, sink_step, sunk_on, waits_sunk, wants_both, wants_in}
use Rattle.closing.specs.inner.Walks.{Spot, spot_of, starts_at}
use Rattle.closing.specs.declared.pending.Wanted.{Wanted}
use Rattle.closing.specs.declared.why.Why.TheVariants.{NeverCameBack, Failed, NoNumber, CannotBe, NotJudged}
use Rattle.closing.proofs.EntryLemmas.{can_be_as}

-- ---- Whether it is sound ----

abbrev sound : Bool → Bool → Bool → Bool
sound failed b lacks = is_none (first_of ((failed, Failed) ∷ (not b, CannotBe) ∷ (lacks, NoNumber) ∷ []))

none_of : {A B C : Type 0} (b : Bool) (f : B → Option C) (n : Option A) → (if b then option_and_then f (option_and_then (λ (comm : A). None) n) else None) ≡ None
none_of true f None = refl
none_of true f (Some comm) = refl
none_of false f n = refl

-- ---- What is wanted ----

-- of one that names nobody, whose message is from nobody, or that was cancelled
abbrev takes_none : Awaited → Option Message → Bool → Bool
takes_none awaited message gone = is_nobody awaited.source || (option_map_or (λ it. is_nobody it.source) message false || gone)

abbrev wanted_if : Awaited → Option Message → Bool → ℕ → Option Wanted
wanted_if awaited message gone comm = if takes_none awaited message gone then None else Some (wanted_by comm awaited message)

from_is : (message : Option Message) → is_from_nobody message ≡ option_map_or (λ it. is_nobody it.source) message false
from_is None = refl
from_is (Some it) = refl

abbrev can_be_in : ℕ → Awaited → Option Message → Bool
can_be_in size awaited message = peer_can_be size awaited.source && (tag_can_be awaited.tag && message_can_be size message)

wants_by : (a b can gone : Bool) (wanted : Option Wanted)
    → (if can then (if a || (b || gone) then None else wanted) else None) ≡ (if gone then None else if a || not can then None else if b then None else wanted)
wants_by true true true true wanted = refl
wants_by true true true false wanted = refl
wants_by true true false true wanted = refl
wants_by true true false false wanted = refl
wants_by true false true true wanted = refl
wants_by true false true false wanted = refl
wants_by true false false true wanted = refl
wants_by true false false false wanted = refl
wants_by false true true true wanted = refl
wants_by false true true false wanted = refl
wants_by false true false true wanted = refl
wants_by false true false false wanted = refl
wants_by false false true true wanted = refl
wants_by false false true false wanted = refl
wants_by false false false true wanted = refl
wants_by false false false false wanted = refl

-- with its number
wants_one : (size comm : ℕ) (awaited : Awaited) (message : Option Message) (gone : Bool)
    → (if can_be_in size awaited message then wanted_if awaited message gone comm else None) ≡ (if gone then None else wants_in size (Some comm) awaited message)
wants_one size comm awaited message gone =
    wants_by (is_nobody awaited.source) (option_map_or (λ it. is_nobody it.source) message false) (can_be_in size awaited message) gone (Some (wanted_by comm awaited message))
    ∙ ap (λ b. if gone then None else if is_nobody awaited.source || not (can_be_in size awaited message) then None else if b then None else Some (wanted_by comm awaited message)) (sym (from_is message))

abbrev no_wanted : Option Wanted
no_wanted = None

same_none : (b : Bool) → no_wanted ≡ (if b then no_wanted else no_wanted)
same_none true = refl
same_none false = refl

then_if : {A B : Type 0} (b : Bool) (f : A → Option B) (o : Option A) → (if b then option_and_then f o else None) ≡ option_and_then f (if b then o else None)
then_if true f o = refl
then_if false f o = refl

sound_one : (b : Bool) → sound false b false ≡ b
sound_one true = refl
sound_one false = refl

-- of one that is sound, with or without a number
wants_all : (size : ℕ) (n : Option ℕ) (awaited : Awaited) (message : Option Message) (gone failed : Bool) (f : Wanted → Option Outcome) → failed ≡ false
    → (if sound failed (can_be_in size awaited message) (is_none n) then option_and_then f (option_and_then (wanted_if awaited message gone) n) else None)
    ≡ option_and_then f (if gone then None else wants_in size n awaited message)
wants_all size n awaited message gone true f e = cc
wants_all size None awaited message gone false f e = then_if (sound false (can_be_in size awaited message) true) f None ∙ ap (option_and_then f) (sym (same_none (sound false (can_be_in size awaited message) true)) ∙ same_none gone)
wants_all size (Some comm) awaited message gone false f e =
    then_if (sound false (can_be_in size awaited message) false) f (wanted_if awaited message gone comm)
    ∙ ap (λ b. option_and_then f (if b then wanted_if awaited message gone comm else None)) (sound_one (can_be_in size awaited message))
    ∙ ap (option_and_then f) (wants_one size comm awaited message gone)

-- with what is sent
wants_sent : (size : ℕ) (n : Option ℕ) (sent : Sent) (awaited : Awaited) (message : Option Message) (gone failed : Bool) (f : Wanted → Option Outcome) → failed ≡ false
    → (if sound failed (sent_can_be size sent && can_be_in size awaited message) (is_none n) then option_and_then f (option_and_then (wanted_if awaited message gone) n) else None)
    ≡ option_and_then f (if gone then None else wants_both size n sent awaited message)
wants_sent size n sent awaited message gone failed f e = by_sent (sent_can_be size sent)
  where
    unsound : (failed lacks : Bool) → failed ≡ false → sound failed false lacks ≡ false
    unsound true lacks e = cc
    unsound false lacks e = refl

    by_sent : (b : Bool)
        → (if sound failed (b && can_be_in size awaited message) (is_none n) then option_and_then f (option_and_then (wanted_if awaited message gone) n) else None)
        ≡ option_and_then f (if gone then None else if b then wants_in size n awaited message else None)
    by_sent true = wants_all size n awaited message gone failed f e
    by_sent false =
        ap (λ b. if b then option_and_then f (option_and_then (wanted_if awaited message gone) n) else None) (unsound failed (is_none n) e)
        ∙ ap (option_and_then f) (same_none gone)

-- ---- What becomes of it ----

fate_same : (message : Option Message) (met back past : Bool) (pending went : List Step)
    → (if is_none message || met
    then Some (if not back then Ends pending Open (Some NeverCameBack) else if is_none message then ends NeverCameBack else if past then GoesOn went else ends NotJudged)
    else None)
    ≡ outcome_by_fate (fate_by (is_some message) met back past) pending went
fate_same None true true true pending went = refl
fate_same None true true false pending went = refl
fate_same None true false true pending went = refl
fate_same None true false false pending went = refl
fate_same None false true true pending went = refl
fate_same None false true false pending went = refl
fate_same None false false true pending went = refl
fate_same None false false false pending went = refl
fate_same (Some it) true true true pending went = refl
fate_same (Some it) true true false pending went = refl
fate_same (Some it) true false true pending went = refl
fate_same (Some it) true false false pending went = refl
fate_same (Some it) false true true pending went = refl
fate_same (Some it) false true false pending went = refl
fate_same (Some it) false false true pending went = refl
fate_same (Some it) false false false pending went = refl

and_then_same : {A B : Type 0} (f g : A → Option B) (o : Option A) → ((x : A) → f x ≡ g x) → option_and_then f o ≡ option_and_then g o
and_then_same f g None h = refl
and_then_same f g (Some x) h = h x

sink_same : (message : Option Message) (gone met : Bool) (o : Option Wanted) (steps : Wanted → List Step) (is_met : Wanted → Bool)
    → option_and_then (λ wanted. if is_none message || is_met wanted then Some (GoesOn (steps wanted)) else None) (if gone then None else o)
    ≡ option_and_then (λ wanted. if is_sink_by gone (is_some message) (is_met wanted) then Some (GoesOn (steps wanted)) else None) o
sink_same message true met None steps is_met = refl
sink_same message true met (Some wanted) steps is_met = refl
sink_same None false met None steps is_met = refl
sink_same (Some it) false met None steps is_met = refl
sink_same None false met (Some wanted) steps is_met = refl
sink_same (Some it) false met (Some wanted) steps is_met = refl

chosen_same : {A B C : Type 0} (f : B → Option C) (g : A → B) (o : Option A) → option_and_then (λ (x : A). f (g x)) o ≡ option_and_then f (option_map g o)
chosen_same f g None = refl
chosen_same f g (Some x) = refl

-- ---- By the call ----

abbrev placed : ℕ → Journal → ℕ → Entry → RankComms → Bool → Called → Placed
placed rank journal line entry comms came_back it = record {
  rank = rank;
  journal = journal;
  line = line;
  entry = entry;
  called = it;
  comms = comms;
  came_back = came_back;
}

module _ (run : Run) (choice : Choice) (records : List Written) (rank : ℕ) (journal : Journal) (line : ℕ) (entry : Entry) (comms : RankComms) (came_back : Bool) where
  abbrev at : Called → Placed
  at it = placed rank journal line entry comms came_back it

  abbrev spot : Called → Spot
  spot it = spot_of run choice (at it)

  abbrev Goal : Called → Type 0
  Goal it = outcome_by_sinks run choice records (at it) ≡ sunk_on (spot it) came_back records it

  abbrev failed : Bool
  failed = has_report report.Failed entry

  can_as : (size : ℕ) (awaited : Awaited) (reported : Option Message) → awaited_can_be size (awaited, reported) ≡ can_be_in size awaited (message_of awaited reported)
  can_as size awaited reported = sym (can_be_as size awaited reported (message_of awaited reported) refl)

  of_wait : (it : Called) (b : Bool) (o : Option Outcome) → b ≡ false → outcome_by_sinks run choice records (at it) ≡ (if sound b true false then o else None)
      → outcome_by_sinks run choice records (at it) ≡ o
  of_wait it true o e h = cc
  of_wait it false o e h = h

  of_choice : (it : Called) → option_and_then (λ line. waits_by choice records (at it) (requests_in (Some line))) (report_of report.Chose entry)
      ≡ option_and_then (λ chosen. waits_sunk (spot it) came_back chosen records) (option_map (λ line. requests_in (Some line)) (report_of report.Chose entry))
  of_choice it = chosen_same (λ chosen. waits_sunk (spot it) came_back chosen records) (λ line. requests_in (Some line)) (report_of report.Chose entry)

  of_any : (requests : List ℕ) → failed ≡ false → Goal (WaitsAny requests)
  of_any [] e = of_wait (WaitsAny []) failed _ e refl ∙ of_choice (WaitsAny [])
  of_any (x ∷ []) e = of_wait (WaitsAny (x ∷ [])) failed _ e refl
  of_any (x ∷ y ∷ zs) e = of_wait (WaitsAny (x ∷ y ∷ zs)) failed _ e refl ∙ of_choice (WaitsAny (x ∷ y ∷ zs))

  of_some : (requests : List ℕ) → failed ≡ false → Goal (WaitsSome requests)
  of_some [] e = of_wait (WaitsSome []) failed _ e refl ∙ of_choice (WaitsSome [])
  of_some (x ∷ []) e = of_wait (WaitsSome (x ∷ [])) failed _ e refl
  of_some (x ∷ y ∷ zs) e = of_wait (WaitsSome (x ∷ y ∷ zs)) failed _ e refl ∙ of_choice (WaitsSome (x ∷ y ∷ zs))

  of_blocking : (it : Called) (awaited : Awaited) (pending went : Wanted → List Step)
      → outcome_by_sinks run choice records (at it)
      ≡ (if sound failed (awaited_can_be (size_at run (at it)) (awaited, got_in entry)) (is_none (number_at run (at it)))
      then option_and_then (λ wanted. if is_none (message_of awaited (got_in entry)) || is_met records wanted
      then Some (if not came_back then Ends (pending wanted) Open (Some NeverCameBack) else if is_none (message_of awaited (got_in entry)) then ends NeverCameBack
      else if is_past choice.calls (at it) then GoesOn (went wanted) else ends NotJudged)
      else None) (option_and_then (wanted_if awaited (message_of awaited (got_in entry)) false) (number_at run (at it))) else None)
      → failed ≡ false
      → outcome_by_sinks run choice records (at it)
      ≡ option_and_then (λ wanted. blocks_on (spot it) came_back records (is_some (message_of awaited (got_in entry))) wanted (pending wanted) (went wanted))
      (wants_in (size_at run (at it)) (number_at run (at it)) awaited (message_of awaited (got_in entry)))
  of_blocking it awaited pending went h e =
      let message = message_of awaited (got_in entry) in
      let size = size_at run (at it) in
      let n = number_at run (at it) in
      h
      ∙ ap (λ b. if sound failed b (is_none n) then option_and_then (λ wanted. if is_none message || is_met records wanted
      then Some (if not came_back then Ends (pending wanted) Open (Some NeverCameBack) else if is_none message then ends NeverCameBack
      else if is_past choice.calls (at it) then GoesOn (went wanted) else ends NotJudged)
      else None) (option_and_then (wanted_if awaited message false) n) else None) (can_as size awaited (got_in entry))
      ∙ wants_all size n awaited message false failed _ e
      ∙ and_then_same _ _ (wants_in size n awaited message)
      (λ wanted. fate_same message (is_met records wanted) came_back (is_past choice.calls (at it)) (pending wanted) (went wanted))

  of_exchange : (sent : Sent) (awaited : Awaited) → failed ≡ false → Goal (Exchanges sent awaited)
  of_exchange sent awaited e =
      let it = Exchanges sent awaited in
      let message = message_of awaited (got_in entry) in
      let size = size_at run (at it) in
      let n = number_at run (at it) in
      let both : (Wanted → List Step) = λ (wanted : Wanted). exchange_steps (spot it) wanted sent (is_some message) in
      ap (λ b. if sound failed (sent_can_be size sent && b) (is_none n) then option_and_then (λ wanted. if is_none message || is_met records wanted
      then Some (if not came_back then Ends (both wanted) Open (Some NeverCameBack) else if is_none message then ends NeverCameBack
      else if is_past choice.calls (at it) then GoesOn (both wanted) else ends NotJudged)
      else None) (option_and_then (wanted_if awaited message false) n) else None) (can_as size awaited (got_in entry))
      ∙ wants_sent size n sent awaited message false failed _ e
      ∙ and_then_same _ _ (wants_both size n sent awaited message)
      (λ wanted. fate_same message (is_met records wanted) came_back (is_past choice.calls (at it)) (both wanted) (both wanted))

  of_start : (request : ℕ) (asked : Awaited) → failed ≡ false → Goal (StartsReceive request asked)
  of_start request asked e =
      let it = StartsReceive request asked in
      let awaited = unless_moved journal.lines request asked in
      let done = done_of journal.lines request in
      let message = message_of awaited done in
      let size = size_at run (at it) in
      let n = number_at run (at it) in
      let gone = is_gone journal.lines request in
      ap (λ b. if sound failed b (is_none n) then option_and_then (λ wanted. if is_none message || is_met records wanted
      then Some (GoesOn (sink_step (Some request) wanted (is_some message) ∷ []))
      else None) (option_and_then (wanted_if awaited message gone) n) else None) (can_as size awaited done)
      ∙ wants_all size n awaited message gone failed _ e
      ∙ sink_same message gone true (wants_in size n awaited message) (λ wanted. sink_step (Some request) wanted (is_some message) ∷ []) (is_met records)

  of_starts : (request received : ℕ) (sent : Sent) (asked : Awaited) → failed ≡ false → Goal (StartsExchange request received sent asked)
  of_starts request received sent asked e =
      let it = StartsExchange request received sent asked in
      let awaited = unless_moved journal.lines received asked in
      let done = done_of journal.lines received in
      let message = message_of awaited done in
      let size = size_at run (at it) in
      let n = number_at run (at it) in
      let gone = is_gone journal.lines received in
      let both : (Wanted → List Step) = λ (wanted : Wanted). starts_at (spot it) request (start_send Standard wanted.comm sent) ++ sink_step (Some received) wanted (is_some message) ∷ [] in
      ap (λ b. if sound failed (sent_can_be size sent && b) (is_none n) then option_and_then (λ wanted. if is_none message || is_met records wanted
      then Some (GoesOn (both wanted))
      else None) (option_and_then (wanted_if awaited message gone) n) else None) (can_as size awaited done)
      ∙ wants_sent size n sent awaited message gone failed _ e
      ∙ sink_same message gone true (wants_both size n sent awaited message) both (is_met records)

  of_call : (it : Called) → failed ≡ false → Goal it
  of_call (Receives awaited) e = of_blocking (Receives awaited) awaited (λ wanted. []) (λ wanted. sink_step None wanted (is_some (message_of awaited (got_in entry))) ∷ []) refl e
  of_call (StartsReceive request awaited) e = of_start request awaited e
  of_call (Exchanges sent awaited) e = of_exchange sent awaited e
  of_call (StartsExchange request received sent awaited) e = of_starts request received sent awaited e
  of_call (Probes awaited) e = of_blocking (Probes awaited) awaited (λ wanted. []) (λ wanted. []) refl e
  of_call (ProbesMatching own awaited) e =
      of_blocking (ProbesMatching own awaited) awaited (λ wanted. []) (λ wanted. sink_step (Some own) wanted (is_some (message_of awaited (got_in entry))) ∷ []) refl e
  of_call (ReceivesMatched message) e = of_wait (ReceivesMatched message) failed _ e refl
  of_call (Waits requests) e = of_wait (Waits requests) failed _ e refl
  of_call (Tests requests) e = of_wait (Tests requests) failed _ e refl
  of_call (WaitsAny requests) e = of_any requests e
  of_call (WaitsSome requests) e = of_some requests e
  of_call Aborts e = refl
  of_call Fills e = refl
  of_call Stops e = refl
  of_call (Sends mode it) e = none_of _ _ (number_at run (at (Sends mode it)))
  of_call (StartsSend request mode it) e = none_of _ _ (number_at run (at (StartsSend request mode it)))
  of_call (StartsMatched request message) e = none_of {A = ℕ} {B = Wanted} {C = Outcome} _ (takes_by choice records (at (StartsMatched request message))) (number_at run (at (StartsMatched request message)))
  of_call (Cancels request) e = none_of {A = ℕ} {B = Wanted} {C = Outcome} _ (takes_by choice records (at (Cancels request))) (number_at run (at (Cancels request)))
  of_call (FreesRequest request) e = none_of {A = ℕ} {B = Wanted} {C = Outcome} _ (takes_by choice records (at (FreesRequest request))) (number_at run (at (FreesRequest request)))
  of_call (Collects collective comm root) e = none_of _ _ (number_at run (at (Collects collective comm root)))
  of_call (StartsCollective request collective comm root) e = none_of _ _ (number_at run (at (StartsCollective request collective comm root)))
  of_call (Duplicates comm) e = none_of _ _ (number_at run (at (Duplicates comm)))
  of_call (StartsDuplicate request comm) e = none_of _ _ (number_at run (at (StartsDuplicate request comm)))
  of_call (Splits comm colour key) e = none_of _ _ (number_at run (at (Splits comm colour key)))
  of_call (Makes comm) e = none_of _ _ (number_at run (at (Makes comm)))
  of_call (MakesOfGroup group) e = none_of _ _ (number_at run (at (MakesOfGroup group)))
  of_call (FreesComm comm) e = none_of {A = ℕ} {B = Wanted} {C = Outcome} _ (takes_by choice records (at (FreesComm comm))) (number_at run (at (FreesComm comm)))
  of_call Nothing e = none_of {A = ℕ} {B = Wanted} {C = Outcome} _ (takes_by choice records (at Nothing)) (number_at run (at Nothing))
  of_call Finalizes e = none_of {A = ℕ} {B = Wanted} {C = Outcome} _ (takes_by choice records (at Finalizes)) (number_at run (at Finalizes))
  of_call Exits e = none_of {A = ℕ} {B = Wanted} {C = Outcome} _ (takes_by choice records (at Exits)) (number_at run (at Exits))
  of_call Cuts e = none_of {A = ℕ} {B = Wanted} {C = Outcome} _ (takes_by choice records (at Cuts)) (number_at run (at Cuts))

pub sunk_is : (run : Run) (choice : Choice) (records : List Written) (it : Placed) → has_report report.Failed it.entry ≡ false
    → outcome_by_sinks run choice records it ≡ sunk_on (spot_of run choice it) it.came_back records it.called
sunk_is run choice records it e = of_call run choice records it.rank it.journal it.line it.entry it.comms it.came_back it.called e
