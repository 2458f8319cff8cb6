-- What comes of an entry by the sinks before it: nothing else than without them; or a sink, alone or after a send; or
-- nothing; or the list is left open.
use Rattle.std.proofs.Common.{◌≡◌, ℕ, ◌||◌, not, Bool, true, false, Option, Some, None, is_some, is_none, if◌then◌else◌, List, [], ◌∷◌, ◌++◌, refl, sym, ap, ◌∙◌}
use Rattle.std.specs.Prelude.{⊤, option_and_then, unwrap_or}
use Rattle.std.proofs.lemmas.Bool.{false≢true}
use Rattle.std.proofs.lemmas.Option.{none-some, same_Some}
use Rattle.mpicall.specs.Word.{or_else}
use Rattle.mpicall.specs.declared.call.Call.{Call}
use Rattle.mpicall.specs.declared.call.Call.TheVariants.{Irecv, Open}
use Rattle.mpicall.specs.declared.call.Mode.TheVariants.{Standard}
use Rattle.mpicall.specs.declared.call.Peer.TheVariants as peer
use Rattle.journals.specs.Lines.{Line}
use Rattle.journals.specs.Known.{has_report, report_of, requests_in}
use Rattle.journals.specs.declared.word.ReportWord.TheVariants as report
use Rattle.closing.specs.Called.{Called, Sent, Awaited, Receives, StartsReceive, Exchanges, StartsExchange, Probes, ProbesMatching, ReceivesMatched, Waits, Tests, WaitsAny, WaitsSome, Stops, Cuts, Aborts, Fills}
use Rattle.closing.specs.RankComms.{makes_comm}
use Rattle.closing.specs.Entries.{Run, Placed, is_window}
use Rattle.closing.specs.Reported.{Message, is_gone}
use Rattle.closing.specs.Steps.{Whole, Own, Written, Step}
use Rattle.closing.specs.Endings.{awaited_at, message_at, breaks_off, can_be, first_of, lacks_number, number_at}
use Rattle.closing.specs.Entry.{Choice, is_past, start_send}
use Rattle.closing.specs.Recording.{is_end, outcome_of, outcome_in}
use Rattle.closing.specs.Sinks.{Outcome, GoesOn, Ends, ends, sinks, starts_half, blocks, unsure, takes_by, takes_nothing, wanted_by, wanted_at, is_met, name_sink, waits_by, chooses_by, is_sound, by_call, outcome_by_sinks}
use Rattle.closing.specs.declared.choice.Unreported.{Unreported}
use Rattle.closing.specs.declared.choice.Unreported.TheVariants as unreported
use Rattle.closing.specs.declared.pending.Wanted.{Wanted}
use Rattle.closing.specs.declared.why.Why.{Why}
use Rattle.closing.specs.declared.why.Why.TheVariants.{NeverCameBack, NotJudged, Failed, NoNumber, CannotBe}
use Rattle.lawful.proofs.PassLemmas.{AreSteps, steps_append, steps_if}

-- ---- Entries that receive or probe ----

-- the entry takes or sees one of these messages
pub record IsUnsure (run : Run) (placed : Placed) (wanted : Wanted) : Type 0 where
  pub sound : is_sound run placed ≡ true
  pub number : number_at run placed ≡ Some wanted.comm
  pub awaited : Awaited × Option Message
  pub is_awaited : awaited_at placed ≡ Some awaited
  pub takes_some : takes_nothing placed awaited.0 ≡ false
  pub is_wanted : wanted ≡ wanted_by wanted.comm awaited.0 (message_at placed)

-- it receives or probes, and sends nothing
abbrev pub awaits_alone : Called → Bool
awaits_alone (Receives awaited) = true
awaits_alone (StartsReceive request awaited) = true
awaits_alone (Probes awaited) = true
awaits_alone (ProbesMatching message awaited) = true
awaits_alone it = false

-- what a call sends that awaits a message too
abbrev pub half_sent : Called → Option Sent
half_sent (Exchanges sent awaited) = Some sent
half_sent (StartsExchange request received sent awaited) = Some sent
half_sent it = None

-- what stands for an exchange, and for one that is started
abbrev pub both_halves : Placed → Wanted → Sent → List Step
both_halves placed wanted sent = starts_half wanted (Whole placed.line) sent ∷ sinks placed wanted None ∷ []

abbrev pub started_halves : Placed → Wanted → ℕ → ℕ → Sent → List Step
started_halves placed wanted request received sent =
    (if is_gone placed.journal.lines request then [] else starts_half wanted (Own request) sent ∷ []) ++ sinks placed wanted (Some received) ∷ []

-- what comes of an entry by the sinks before it passes a test, if these do
pub record PassSinks (run : Run) (placed : Placed) (P : Outcome → Type 0) : Type 0 where
  pub ended : (why : Why) → P (Ends [] Open (Some why))
  pub ended_by_both : (wanted : Wanted) → IsUnsure run placed wanted → (sent : Sent) (awaited : Awaited) → placed.called ≡ Exchanges sent awaited
      → P (Ends (both_halves placed wanted sent) Open (Some NeverCameBack))
  pub nothing : (wanted : Wanted) → IsUnsure run placed wanted → awaits_alone placed.called ≡ true → P (GoesOn [])
  pub alone : (wanted : Wanted) → IsUnsure run placed wanted → awaits_alone placed.called ≡ true → (own : Option ℕ)
      → P (GoesOn (sinks placed wanted own ∷ []))
  pub both : (wanted : Wanted) → IsUnsure run placed wanted → (sent : Sent) (awaited : Awaited) → placed.called ≡ Exchanges sent awaited
      → P (GoesOn (both_halves placed wanted sent))
  pub halves : (wanted : Wanted) → IsUnsure run placed wanted → (request received : ℕ) (sent : Sent) (awaited : Awaited)
      → placed.called ≡ StartsExchange request received sent awaited → P (GoesOn (started_halves placed wanted request received sent))

-- ---- What comes of it ----

-- what some outcome is, if there is one
abbrev pub Given : (Outcome → Type 0) → Option Outcome → Type 0
Given P None = ⊤
Given P (Some outcome) = P outcome

pick : (P : Outcome → Type 0) (b : Bool) (first other : Outcome) → P first → P other → P (if b then first else other)
pick P true first other is_first is_other = is_first
pick P false first other is_first is_other = is_other

given_if : (P : Outcome → Type 0) (b : Bool) (o : Option Outcome) → (b ≡ true → Given P o) → Given P (if b then o else None)
given_if P true o given = given refl
given_if P false o given = tt

given_unless : (P : Outcome → Type 0) (b : Bool) (outcome : Outcome) → P outcome → Given P (if b then None else Some outcome)
given_unless P true outcome is = tt
given_unless P false outcome is = is

blocks_pass : (P : Outcome → Type 0) (choice : Choice) (placed : Placed) (pending past : List Step) → P (Ends pending Open (Some NeverCameBack)) → ((why : Why) → P (Ends [] Open (Some why))) → P (GoesOn past) → P (blocks choice placed pending past)
blocks_pass P choice placed pending past never ended goes =
    pick P (not placed.came_back) (Ends pending Open (Some NeverCameBack)) (if is_none (message_at placed) then ends NeverCameBack else if is_past choice.calls placed then GoesOn past else ends NotJudged) never
    (pick P (is_none (message_at placed)) (ends NeverCameBack) (if is_past choice.calls placed then GoesOn past else ends NotJudged) (ended NeverCameBack)
    (pick P (is_past choice.calls placed) (GoesOn past) (ends NotJudged) goes (ended NotJudged)))

-- a call that awaits no message
pub not_awaited : (run : Run) (placed : Placed) (wanted : Wanted) → IsUnsure run placed wanted → awaited_at placed ≡ None → ⊥
not_awaited run placed wanted is none = none-some is.awaited (sym none ∙ is.is_awaited)

unsure_passes : (run : Run) (choice : Choice) (placed : Placed) (wanted : Wanted) (P : Outcome → Type 0) (it : Called) → placed.called ≡ it → IsUnsure run placed wanted → PassSinks run placed P → P (unsure choice placed wanted it)
unsure_passes run choice placed wanted P (Receives awaited) called is pass =
    blocks_pass P choice placed [] (sinks placed wanted None ∷ []) (pass.ended NeverCameBack) pass.ended (pass.alone wanted is (rw called refl) None)
unsure_passes run choice placed wanted P (Exchanges sent awaited) called is pass =
    blocks_pass P choice placed (both_halves placed wanted sent) (both_halves placed wanted sent) (pass.ended_by_both wanted is sent awaited called) pass.ended
    (pass.both wanted is sent awaited called)
unsure_passes run choice placed wanted P (Probes awaited) called is pass =
    blocks_pass P choice placed [] [] (pass.ended NeverCameBack) pass.ended (pass.nothing wanted is (rw called refl))
unsure_passes run choice placed wanted P (ProbesMatching message awaited) called is pass =
    blocks_pass P choice placed [] (sinks placed wanted (Some message) ∷ []) (pass.ended NeverCameBack) pass.ended (pass.alone wanted is (rw called refl) (Some message))
unsure_passes run choice placed wanted P (StartsReceive request awaited) called is pass = pass.alone wanted is (rw called refl) (Some request)
unsure_passes run choice placed wanted P (StartsExchange request received sent awaited) called is pass = pass.halves wanted is request received sent awaited called
unsure_passes run choice placed wanted P _ called is pass = absurd (not_awaited run placed wanted is (rw called refl))

takes_passes : (run : Run) (choice : Choice) (records : List Written) (placed : Placed) (wanted : Wanted) (P : Outcome → Type 0) → IsUnsure run placed wanted → PassSinks run placed P → Given P (takes_by choice records placed wanted)
takes_passes run choice records placed wanted P is pass =
    given_if P (is_none (message_at placed) || is_met records wanted) (Some (unsure choice placed wanted placed.called))
    (λ meets. unsure_passes run choice placed wanted P placed.called refl is pass)

-- what is wanted is of the entry's communicator
pub is_unsure : (run : Run) (placed : Placed) (wanted : Wanted) (comm : ℕ) → is_sound run placed ≡ true → number_at run placed ≡ Some comm → wanted_at placed comm ≡ Some wanted → IsUnsure run placed wanted
is_unsure run placed wanted comm sound number h = of_awaited (awaited_at placed) refl h
  where
    of_wanted : (it : Awaited × Option Message) (b : Bool) → takes_nothing placed it.0 ≡ b → awaited_at placed ≡ Some it → (if b then None else Some (wanted_by comm it.0 (message_at placed))) ≡ Some wanted → IsUnsure run placed wanted
    of_wanted it true takes is e = absurd (none-some wanted e)
    of_wanted it false takes is e =
        let same = sym (same_Some (wanted_by comm it.0 (message_at placed)) wanted e) in
        let on = is_on it.0 (message_at placed) in
        let comms : comm ≡ wanted.comm = sym (ap (λ (w : Wanted). w.comm) same ∙ on) in
        record {
          sound = sound;
          number = number ∙ ap (λ (n : ℕ). Some n) comms;
          awaited = it;
          is_awaited = is;
          takes_some = takes;
          is_wanted = same ∙ ap (λ (n : ℕ). wanted_by n it.0 (message_at placed)) comms;
        }
      where
        is_on : (awaited : Awaited) (o : Option Message) → (wanted_by comm awaited o).comm ≡ comm
        is_on awaited None = refl
        is_on awaited (Some message) = refl

    of_awaited : (o : Option (Awaited × Option Message)) → awaited_at placed ≡ o → option_and_then (λ (it : Awaited × Option Message). if takes_nothing placed it.0 then None else Some (wanted_by comm it.0 (message_at placed))) o ≡ Some wanted → IsUnsure run placed wanted
    of_awaited None is e = absurd (none-some wanted e)
    of_awaited (Some it) is e = of_wanted it (takes_nothing placed it.0) refl is e

wanted_passes : (run : Run) (choice : Choice) (records : List Written) (placed : Placed) (P : Outcome → Type 0) → is_sound run placed ≡ true → PassSinks run placed P → Given P (option_and_then (takes_by choice records placed) (option_and_then (wanted_at placed) (number_at run placed)))
wanted_passes run choice records placed P sound pass = of_number (number_at run placed) refl
  where
    of_wanted : (comm : ℕ) (o : Option Wanted) → number_at run placed ≡ Some comm → wanted_at placed comm ≡ o → Given P (option_and_then (takes_by choice records placed) o)
    of_wanted comm None is e = tt
    of_wanted comm (Some wanted) is e = takes_passes run choice records placed wanted P (is_unsure run placed wanted comm sound is e) pass

    of_number : (o : Option ℕ) → number_at run placed ≡ o → Given P (option_and_then (takes_by choice records placed) (option_and_then (wanted_at placed) o))
    of_number None is = tt
    of_number (Some comm) is = of_wanted comm (wanted_at placed comm) is refl

waits_pass : (run : Run) (choice : Choice) (records : List Written) (placed : Placed) (P : Outcome → Type 0) (requests : List ℕ) → PassSinks run placed P → Given P (waits_by choice records placed requests)
waits_pass run choice records placed P requests pass =
    given_unless P (is_past choice.calls placed || not (name_sink records placed requests)) (ends (if placed.came_back then NotJudged else NeverCameBack))
    (pass.ended (if placed.came_back then NotJudged else NeverCameBack))

chosen_passes : (run : Run) (choice : Choice) (records : List Written) (placed : Placed) (P : Outcome → Type 0) (o : Option Line) → PassSinks run placed P → Given P (option_and_then (λ line. waits_by choice records placed (requests_in (Some line))) o)
chosen_passes run choice records placed P None pass = tt
chosen_passes run choice records placed P (Some line) pass = waits_pass run choice records placed P (requests_in (Some line)) pass

chooses_pass : (run : Run) (choice : Choice) (records : List Written) (placed : Placed) (P : Outcome → Type 0) (requests : List ℕ) → PassSinks run placed P → Given P (chooses_by choice records placed requests)
chooses_pass run choice records placed P [] pass = chosen_passes run choice records placed P (report_of report.Chose placed.entry) pass
chooses_pass run choice records placed P (request ∷ []) pass = waits_pass run choice records placed P (request ∷ []) pass
chooses_pass run choice records placed P (one ∷ two ∷ requests) pass = chosen_passes run choice records placed P (report_of report.Chose placed.entry) pass

call_passes : (run : Run) (choice : Choice) (records : List Written) (placed : Placed) (P : Outcome → Type 0) (it : Called) → is_sound run placed ≡ true → PassSinks run placed P → Given P (by_call run choice records placed it)
call_passes run choice records placed P (ReceivesMatched message) sound pass = waits_pass run choice records placed P (message ∷ []) pass
call_passes run choice records placed P (Waits requests) sound pass = waits_pass run choice records placed P requests pass
call_passes run choice records placed P (Tests requests) sound pass = waits_pass run choice records placed P requests pass
call_passes run choice records placed P (WaitsAny requests) sound pass = chooses_pass run choice records placed P requests pass
call_passes run choice records placed P (WaitsSome requests) sound pass = chooses_pass run choice records placed P requests pass
call_passes run choice records placed P _ sound pass = wanted_passes run choice records placed P sound pass

pub given_by_sinks : (run : Run) (choice : Choice) (records : List Written) (placed : Placed) (P : Outcome → Type 0) → PassSinks run placed P → Given P (outcome_by_sinks run choice records placed)
given_by_sinks run choice records placed P pass =
    given_if P (is_sound run placed) (by_call run choice records placed placed.called) (λ sound. call_passes run choice records placed P placed.called sound pass)

-- ---- With or without sinks ----

given_or : (P : Outcome → Type 0) (o : Option Outcome) (other : Outcome) → P other → Given P o → P (unwrap_or o other)
given_or P None other is given = is
given_or P (Some outcome) other is given = given

pub in_passes : (run : Run) (choice : Choice) (records : List Written) (placed : Placed) (P : Outcome → Type 0) → P (outcome_of run choice placed) → PassSinks run placed P → P (outcome_in run choice records placed)
in_passes run choice records placed P without pass = by_choice choice.unreported refl
  where
    by_choice : (it : Unreported) → choice.unreported ≡ it → P (outcome_in run choice records placed)
    by_choice unreported.Ends is = rw is without
    by_choice unreported.Sinks is =
        rw is (given_or P (outcome_by_sinks run choice records placed) (outcome_of run choice placed) without (given_by_sinks run choice records placed P pass))

-- without sinks
pub in_as_of : (run : Run) (choice : Choice) (records : List Written) (placed : Placed) → choice.unreported ≡ unreported.Ends → outcome_in run choice records placed ≡ outcome_of run choice placed
in_as_of run choice records placed is = rw is refl

-- where no sink is before an entry
pub in_if_none : (run : Run) (choice : Choice) (records : List Written) (placed : Placed) → outcome_by_sinks run choice records placed ≡ None → outcome_in run choice records placed ≡ outcome_of run choice placed
in_if_none run choice records placed none = by_choice choice.unreported refl
  where
    by_choice : (it : Unreported) → choice.unreported ≡ it → outcome_in run choice records placed ≡ outcome_of run choice placed
    by_choice unreported.Ends is = rw is refl
    by_choice unreported.Sinks is = rw is (ap (λ (o : Option Outcome). unwrap_or o (outcome_of run choice placed)) none)

-- ---- Tests of steps alone ----

-- lists of steps pass a test, if these do
pub record PassLists (run : Run) (placed : Placed) (P : List Step → Type 0) : Type 0 where
  pub nothing : P []
  pub alone : (wanted : Wanted) → IsUnsure run placed wanted → (own : Option ℕ) → P (sinks placed wanted own ∷ [])
  pub both : (wanted : Wanted) → IsUnsure run placed wanted → (sent : Sent) (awaited : Awaited) → placed.called ≡ Exchanges sent awaited
      → P (both_halves placed wanted sent)
  pub halves : (wanted : Wanted) → IsUnsure run placed wanted → (request received : ℕ) (sent : Sent) (awaited : Awaited)
      → placed.called ≡ StartsExchange request received sent awaited → P (started_halves placed wanted request received sent)

-- it receives or probes
abbrev pub awaits : Called → Bool
awaits it = awaits_alone it || is_some (half_sent it)

alone_awaits : (b c : Bool) → b ≡ true → (b || c) ≡ true
alone_awaits b c h = rw h refl

pub by_lists : (run : Run) (placed : Placed) (P : List Step → Type 0) (Q : Outcome → Type 0) → ((steps : List Step) → P steps → awaits placed.called ≡ true → Q (GoesOn steps)) → ((steps : List Step) (why : Why) → P steps → Q (Ends steps Open (Some why))) → PassLists run placed P → PassSinks run placed Q
by_lists run placed P Q goes ended pass = record {
  ended = λ why. ended [] why pass.nothing;
  ended_by_both = λ wanted is sent awaited called. ended (both_halves placed wanted sent) NeverCameBack (pass.both wanted is sent awaited called);
  nothing = λ wanted is alone. goes [] pass.nothing (alone_awaits (awaits_alone placed.called) (is_some (half_sent placed.called)) alone);
  alone = λ wanted is alone own.
      goes (sinks placed wanted own ∷ []) (pass.alone wanted is own) (alone_awaits (awaits_alone placed.called) (is_some (half_sent placed.called)) alone);
  both = λ wanted is sent awaited called. goes (both_halves placed wanted sent) (pass.both wanted is sent awaited called) (rw called refl);
  halves = λ wanted is request received sent awaited called.
      goes (started_halves placed wanted request received sent) (pass.halves wanted is request received sent awaited called) (rw called refl);
}

pub awaits_no_end : (it : Called) → awaits it ≡ true → is_end it ≡ false
awaits_no_end (Receives awaited) h = refl
awaits_no_end (StartsReceive request awaited) h = refl
awaits_no_end (Exchanges sent awaited) h = refl
awaits_no_end (StartsExchange request received sent awaited) h = refl
awaits_no_end (Probes awaited) h = refl
awaits_no_end (ProbesMatching message awaited) h = refl
awaits_no_end _ h = absurd (false≢true h)

pub awaits_makes_none : (it : Called) → awaits it ≡ true → makes_comm it ≡ false
awaits_makes_none (Receives awaited) h = refl
awaits_makes_none (StartsReceive request awaited) h = refl
awaits_makes_none (Exchanges sent awaited) h = refl
awaits_makes_none (StartsExchange request received sent awaited) h = refl
awaits_makes_none (Probes awaited) h = refl
awaits_makes_none (ProbesMatching message awaited) h = refl
awaits_makes_none _ h = absurd (false≢true h)

pub lists_both : (run : Run) (placed : Placed) (P Q : List Step → Type 0) → PassLists run placed P → PassLists run placed Q → PassLists run placed (λ steps. P steps × Q steps)
lists_both run placed P Q first other = record {
  nothing = (first.nothing, other.nothing);
  alone = λ wanted is own. (first.alone wanted is own, other.alone wanted is own);
  both = λ wanted is sent awaited called. (first.both wanted is sent awaited called, other.both wanted is sent awaited called);
  halves = λ wanted is request received sent awaited called.
      (first.halves wanted is request received sent awaited called, other.halves wanted is request received sent awaited called);
}

-- ---- Tests of calls alone ----

-- the calls of a sink, and of a send before it, pass a test
pub record PassCalls (P : Call → Type 0) (placed : Placed) (wanted : Wanted) : Type 0 where
  pub sink : (number : ℕ) → P (Irecv number wanted.comm peer.Null 0)
  pub half : (sent : Sent) → half_sent placed.called ≡ Some sent → (number : ℕ) → P (start_send Standard wanted.comm sent number)

pub alone_steps : (P : Call → Type 0) (placed : Placed) (wanted : Wanted) (own : Option ℕ) → PassCalls P placed wanted → AreSteps P (sinks placed wanted own ∷ [])
alone_steps P placed wanted own pass = (pass.sink, tt)

pub both_steps : (P : Call → Type 0) (placed : Placed) (wanted : Wanted) (sent : Sent) (awaited : Awaited) → placed.called ≡ Exchanges sent awaited → PassCalls P placed wanted → AreSteps P (both_halves placed wanted sent)
both_steps P placed wanted sent awaited called pass = (pass.half sent (ap half_sent called), (pass.sink, tt))

pub halves_steps : (P : Call → Type 0) (placed : Placed) (wanted : Wanted) (request received : ℕ) (sent : Sent) (awaited : Awaited) → placed.called ≡ StartsExchange request received sent awaited → PassCalls P placed wanted → AreSteps P (started_halves placed wanted request received sent)
halves_steps P placed wanted request received sent awaited called pass =
    steps_append P (if is_gone placed.journal.lines request then [] else starts_half wanted (Own request) sent ∷ []) (sinks placed wanted (Some received) ∷ [])
    (steps_if P (is_gone placed.journal.lines request) [] (starts_half wanted (Own request) sent ∷ []) tt (pass.half sent (ap half_sent called), tt))
    (pass.sink, tt)

pub calls_pass : (P : Call → Type 0) (run : Run) (placed : Placed) → ((wanted : Wanted) → IsUnsure run placed wanted → PassCalls P placed wanted) → PassLists run placed (AreSteps P)
calls_pass P run placed pass = record {
  nothing = tt;
  alone = λ wanted is own. alone_steps P placed wanted own (pass wanted is);
  both = λ wanted is sent awaited called. both_steps P placed wanted sent awaited called (pass wanted is);
  halves = λ wanted is request received sent awaited called. halves_steps P placed wanted request received sent awaited called (pass wanted is);
}

-- ---- What is so of such an entry ----

pub record IsWell (run : Run) (placed : Placed) : Type 0 where
  pub well : has_report report.Failed placed.entry ≡ false
  pub can : can_be run placed ≡ true
  pub numbered : lacks_number run placed ≡ false

none_breaks : (w : Bool) (it : Called) (o : Option Why) → is_none (or_else (breaks_off w it) o) ≡ true → is_none o ≡ true
none_breaks w Stops o h = absurd (false≢true h)
none_breaks w Aborts o h = absurd (false≢true h)
none_breaks w Fills o h = absurd (false≢true h)
none_breaks true Cuts o h = h
none_breaks false Cuts o h = absurd (false≢true h)
none_breaks w _ o h = h

well_of : (run : Run) (placed : Placed) (a b c : Bool) → has_report report.Failed placed.entry ≡ a → can_be run placed ≡ b → lacks_number run placed ≡ c → is_none (first_of ((a, Failed) ∷ (not b, CannotBe) ∷ (c, NoNumber) ∷ [])) ≡ true → IsWell run placed
well_of run placed true b c first second third h = absurd (false≢true h)
well_of run placed false false c first second third h = absurd (false≢true h)
well_of run placed false true true first second third h = absurd (false≢true h)
well_of run placed false true false first second third h = record { well = first; can = second; numbered = third }

pub sound_is : (run : Run) (placed : Placed) → is_sound run placed ≡ true → IsWell run placed
sound_is run placed h =
    well_of run placed (has_report report.Failed placed.entry) (can_be run placed) (lacks_number run placed) refl refl refl
    (none_breaks (is_window run) placed.called (first_of ((has_report report.Failed placed.entry, Failed) ∷ (not (can_be run placed), CannotBe) ∷ (lacks_number run placed, NoNumber) ∷ [])) h)
