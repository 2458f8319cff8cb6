-- What has come of an entry by the sinks before it, and so a list with sinks, stays when the journals go on.
use Rattle.std.proofs.Common.{◌≡◌, ◌⊎◌, ℕ, ◌&&◌, ◌||◌, ◌==◌, not, Bool, true, false, Option, Some, None, is_some, is_none, if◌then◌else◌, List, [], ◌∷◌, ◌++◌, length, refl, sym, ap, subst, ◌∙◌, inl, inr, eq-eqb, append_assoc, append-nil}
use Rattle.std.specs.Prelude.{option_and_then}
use Rattle.std.specs.List.{list_all}
use Rattle.std.specs.Option.{option_map_or}
use Rattle.std.proofs.lemmas.Bool.{cases_Bool, false≢true, or_parts}
use Rattle.std.proofs.lemmas.Option.{none-some, same_Some}
use Rattle.mpicall.specs.Word.{or_else}
use Rattle.mpicall.specs.declared.call.Call.{Call}
use Rattle.mpicall.specs.declared.call.Call.TheVariants.{Finalize, Open}
use Rattle.mpicall.specs.declared.call.Mode.TheVariants.{Standard}
use Rattle.journals.specs.Lines.{Line}
use Rattle.journals.specs.Known.{has_report, report_of}
use Rattle.journals.specs.declared.word.ReportWord.TheVariants as report
use Rattle.closing.specs.Called.{Called, Sent, Awaited, Receives, StartsReceive, Exchanges, StartsExchange, Probes, ProbesMatching, ReceivesMatched, Waits, Tests, WaitsAny, WaitsSome}
use Rattle.closing.specs.RankComms.{makes_comm}
use Rattle.closing.specs.Entries.{Run, Placed, entries_at, is_window, journal_at, lines_at}
use Rattle.closing.specs.Reported.{Message, done_of, got_in, is_gone, unless_moved, message_of}
use Rattle.closing.specs.Numbers.{named_key, preface_of}
use Rattle.closing.specs.Steps.{Own, Whole, Written, Progress, Step, Does, Starts, WaitsForAll, WaitsForOne, PutsOff, WaitsForLate, number_in, numbers_of, waits_for, wait_for_one, wait_one, plain, after_step, after_steps}
use Rattle.closing.specs.Endings.{awaited_at, breaks_off, can_be, is_unknown, is_unreported, lacks_number, message_at, needs_number, number_at, why_at}
use Rattle.closing.specs.Entry.{Choice, is_of_send, here_at, start_send, start_receive, on_comm, steps_by, steps_of, is_past}
use Rattle.closing.specs.Recording.{is_end, steps_before, outcome_by, outcome_in, go_on, list_from, progress_first, whole_list}
use Rattle.closing.specs.Sinks.{Outcome, GoesOn, Ends, ends, blocks, sinks, starts_half, unsure, takes_by, takes_nothing, is_met, is_nobody, wanted_at, wanted_by, is_sound, by_call, request_received}
use Rattle.closing.specs.declared.pending.Wanted.{Wanted}
use Rattle.closing.specs.declared.choice.Calls.TheVariants.{Strict}
use Rattle.closing.specs.declared.choice.Unreported.TheVariants as unreported
use Rattle.closing.specs.declared.why.Why.{Why}
use Rattle.closing.specs.declared.why.Why.TheVariants.{NeverCameBack, NotJudged, Failed, NoNumber, CannotBe}
use Rattle.lawful.specs.Longer.{IsKept, AllKept, is_silent}
use Rattle.lawful.specs.Laws.{IsRead}
use Rattle.lawful.specs.LongerTold.{IsToldMore, WhatIsToldBetweenStaysWithSinks}
use Rattle.lawful.specs.LongerSinks.{StaysWithSinks, IsWithin, AllStay, last_may_change, is_exchange, NoneIsFromNobody, WhatIsToldStaysWithSinks}
use Rattle.lawful.proofs.ActiveSends.{AllSteps}
use Rattle.lawful.proofs.NewNumbers.{Numbers}
use Rattle.lawful.proofs.PlainSteps.{AreOf, all_of, strict_past}
use Rattle.lawful.proofs.SoFarLemmas.{list_grows}
use Rattle.lawful.proofs.LongerLemmas.{StaysOf, More, with_more, IsOver, AreLater, entries_later, with_lines, same_lines, told_more}
use Rattle.lawful.proofs.LongerLines.{as_many, lists_same}
use Rattle.lawful.proofs.LongerSteps.{kept_line, message_line, over_there, moved_stays, awaited_by, awaited_is, known_kept, message_kept, number_same}
use Rattle.lawful.proofs.LongerMakers.{over_maker, told_maker}
use Rattle.lawful.proofs.LongerWaves.{waves_same}
use Rattle.lawful.proofs.LongerWindows.{window_still}
use Rattle.lawful.proofs.LongerLists.{steps_append, first_with}
use Rattle.lawful.proofs.SinkStays.{plain_quiet, Pairs, Alike, IsCall, pairs_same, pairs_stay, calls_alike}
use Rattle.lawful.proofs.SinkTakes.{met_stays, message_within, within_itself, nobody_known, wanted_comm, sink_step, still_alike, received_alike}
use Rattle.lawful.proofs.SinkGoes.{Both, Fine, Comes, stops, Result, Silent, MakerStays, NamesNone, Case, BeforeNone, five, none_by, sound_at, sound_kept, in_by, unsound_result, none_result, waits_result, chooses_result}

-- ---- Takes ----

abbrev from_nobody : Option Message → Bool
from_nobody o = option_map_or (λ it. is_nobody it.source) o false

abbrev is_out : List Line → Called → Bool
is_out lines it = option_map_or (is_gone lines) (request_received it) false

out_same : (placed : Placed) (it : More placed) (one : Called) → Numbers (StaysOf placed.journal.lines it.later.lines) (StaysOf placed.journal.lines it.later.lines) (StaysOf placed.journal.lines it.later.lines) one → is_out it.later.lines one ≡ is_out placed.journal.lines one
out_same placed it (StartsReceive request awaited) all = all.gone
out_same placed it (StartsExchange request received sent awaited) all = all.1.gone
out_same placed it _ all = refl

known_nobody : (o : Option Message) → from_nobody o ≡ true → is_none o ≡ false
known_nobody None h = absurd (false≢true h)
known_nobody (Some m) h = refl

or_still : (x y g also out : Bool) → (y ≡ true → also ≡ true) → out ≡ g → (x || (y || g)) ≡ true → (x || (also || out)) ≡ true
or_still true y g also out keeps same h = refl
or_still false true g also out keeps same h = rw (keeps refl) refl
or_still false false g true out keeps same h = refl
or_still false false g false out keeps same h = same ∙ h

nothing_still : (placed : Placed) (it : More placed) (awaited : Awaited) → takes_nothing placed awaited ≡ true → takes_nothing (with_more placed it) awaited ≡ true
nothing_still placed it awaited h =
    or_still (is_nobody awaited.source) (from_nobody (message_at placed)) (is_out placed.journal.lines placed.called)
    (from_nobody (message_at (with_more placed it))) (is_out it.later.lines placed.called)
    (λ own. ap (λ (o : Option Message). from_nobody o) (message_kept placed it (known_nobody (message_at placed) own)) ∙ own) (out_same placed it placed.called it.numbers) h

record Something (placed : Placed) (awaited : Awaited) : Type 0 where
  source : is_nobody awaited.source ≡ false
  message : from_nobody (message_at placed) ≡ false
  stays : is_out placed.journal.lines placed.called ≡ false

something : (placed : Placed) (awaited : Awaited) → takes_nothing placed awaited ≡ false → Something placed awaited
something placed awaited h =
    let first = or_parts (is_nobody awaited.source) (from_nobody (message_at placed) || is_out placed.journal.lines placed.called) h in
    let second = or_parts (from_nobody (message_at placed)) (is_out placed.journal.lines placed.called) first.1 in
    record { source = first.0; message = second.0; stays = second.1 }

nobody_still : (run longer : Run) (placed : Placed) (it : More placed) (o also : Option Message) → Fine run longer placed it → message_at placed ≡ o → message_at (with_more placed it) ≡ also → from_nobody o ≡ false → from_nobody also ≡ false
nobody_still run longer placed it (Some m) also fine is other h =
    ap (λ (one : Option Message). from_nobody one) (sym other ∙ message_kept placed it (ap (λ (one : Option Message). is_none one) is) ∙ is) ∙ h
nobody_still run longer placed it None None fine is other h = refl
nobody_still run longer placed it None (Some m) fine is other h = fine.nobody m is other

three_false : (a b c : Bool) → a ≡ false → b ≡ false → c ≡ false → (a || (b || c)) ≡ false
three_false a b c first second third = rw (first, second, third) refl

something_still : (run longer : Run) (placed : Placed) (it : More placed) (awaited : Awaited) → Fine run longer placed it → Something placed awaited → takes_nothing (with_more placed it) awaited ≡ false
something_still run longer placed it awaited fine some =
    three_false (is_nobody awaited.source) (from_nobody (message_at (with_more placed it))) (is_out it.later.lines placed.called) some.source
    (nobody_still run longer placed it (message_at placed) (message_at (with_more placed it)) fine refl refl some.message)
    (out_same placed it placed.called it.numbers ∙ some.stays)

-- ---- A call that awaits a message ----

record Awaiting (run longer : Run) (choice : Choice) (placed : Placed) (it : More placed) (old new : Progress) (comm : ℕ) (awaited : Awaited) : Type 0 where
  reported : Option Message
  later : Option Message
  awaits : awaited_at placed ≡ Some (awaited, reported)
  also : awaited_at (with_more placed it) ≡ Some (awaited, later)
  number : number_at run placed ≡ Some comm
  call : by_call run choice old.records placed placed.called ≡ option_and_then (takes_by choice old.records placed) (option_and_then (wanted_at placed) (number_at run placed))
  next : by_call longer choice new.records (with_more placed it) placed.called ≡ option_and_then (takes_by choice new.records (with_more placed it)) (option_and_then (wanted_at (with_more placed it)) (number_at longer (with_more placed it)))
  names : NamesNone old.records placed placed.called
  told_known : is_none (message_at placed) ≡ false → is_unreported placed placed.called ≡ false
  told_out : is_out placed.journal.lines placed.called ≡ true → is_unreported placed placed.called ≡ false

abbrev wanted_if : Bool → Wanted → Option Wanted
wanted_if b wanted = if b then None else Some wanted

taken_is : (run : Run) (choice : Choice) (records : List Written) (placed : Placed) (comm : ℕ) (awaited : Awaited) (reported : Option Message) → by_call run choice records placed placed.called ≡ option_and_then (takes_by choice records placed) (option_and_then (wanted_at placed) (number_at run placed)) → number_at run placed ≡ Some comm → awaited_at placed ≡ Some (awaited, reported) → by_call run choice records placed placed.called ≡ option_and_then (takes_by choice records placed) (wanted_if (takes_nothing placed awaited) (wanted_by comm awaited (message_at placed)))
taken_is run choice records placed comm awaited reported call number awaits =
    call ∙ ap (λ (n : Option ℕ). option_and_then (takes_by choice records placed) (option_and_then (wanted_at placed) n)) number
    ∙ ap (λ (o : Option (Awaited × Option Message)). option_and_then (takes_by choice records placed) (option_and_then (λ one. if takes_nothing placed one.0 then None else Some (wanted_by comm one.0 (message_at placed))) o)) awaits

none_taken : (run : Run) (choice : Choice) (records : List Written) (placed : Placed) (comm : ℕ) (awaited : Awaited) (reported : Option Message) → by_call run choice records placed placed.called ≡ option_and_then (takes_by choice records placed) (option_and_then (wanted_at placed) (number_at run placed)) → number_at run placed ≡ Some comm → awaited_at placed ≡ Some (awaited, reported) → takes_nothing placed awaited ≡ true → by_call run choice records placed placed.called ≡ None
none_taken run choice records placed comm awaited reported call number awaits nothing =
    taken_is run choice records placed comm awaited reported call number awaits
    ∙ ap (λ (b : Bool). option_and_then (takes_by choice records placed) (wanted_if b (wanted_by comm awaited (message_at placed)))) nothing

some_taken : (run : Run) (choice : Choice) (records : List Written) (placed : Placed) (comm : ℕ) (awaited : Awaited) (reported : Option Message) (b : Bool) → by_call run choice records placed placed.called ≡ option_and_then (takes_by choice records placed) (option_and_then (wanted_at placed) (number_at run placed)) → number_at run placed ≡ Some comm → awaited_at placed ≡ Some (awaited, reported) → takes_nothing placed awaited ≡ false → (is_none (message_at placed) || is_met records (wanted_by comm awaited (message_at placed))) ≡ b → by_call run choice records placed placed.called ≡ (if b then Some (unsure choice placed (wanted_by comm awaited (message_at placed)) placed.called) else None)
some_taken run choice records placed comm awaited reported b call number awaits takes met =
    taken_is run choice records placed comm awaited reported call number awaits
    ∙ ap (λ (one : Bool). option_and_then (takes_by choice records placed) (wanted_if one (wanted_by comm awaited (message_at placed)))) takes
    ∙ ap (λ (one : Bool). if one then Some (unsure choice placed (wanted_by comm awaited (message_at placed)) placed.called) else None) met

exchange_five : (run : Run) (choice : Choice) (placed : Placed) (request received : ℕ) (sent : Sent) (awaited : Awaited) (a b c e : Bool) (why : Why) → five a b c false e ≡ Some why → steps_before run choice placed (StartsExchange request received sent awaited) why ≡ []
exchange_five run choice placed request received sent awaited true b c e why h =
    subst (λ (w : Why). steps_before run choice placed (StartsExchange request received sent awaited) w ≡ []) (same_Some Failed why h) refl
exchange_five run choice placed request received sent awaited false true c e why h =
    subst (λ (w : Why). steps_before run choice placed (StartsExchange request received sent awaited) w ≡ []) (same_Some CannotBe why h) refl
exchange_five run choice placed request received sent awaited false false true e why h =
    subst (λ (w : Why). steps_before run choice placed (StartsExchange request received sent awaited) w ≡ []) (same_Some NoNumber why h) refl
exchange_five run choice placed request received sent awaited false false false true why h =
    subst (λ (w : Why). steps_before run choice placed (StartsExchange request received sent awaited) w ≡ []) (same_Some NeverCameBack why h) refl
exchange_five run choice placed request received sent awaited false false false false why h = absurd (none-some why h)

before_five : (run : Run) (choice : Choice) (placed : Placed) (one : Called) (window a b c e : Bool) (why : Why) → or_else (breaks_off window one) (five a b c false e) ≡ Some why → steps_before run choice placed one why ≡ []
before_five run choice placed (StartsExchange request received sent awaited) window a b c e why h = exchange_five run choice placed request received sent awaited a b c e why h
before_five run choice placed _ window a b c e why h = refl

before_told : (run : Run) (choice : Choice) (placed : Placed) → is_unreported placed placed.called ≡ false → BeforeNone run choice placed
before_told run choice placed told why h =
    before_five run choice placed placed.called (is_window run) (has_report report.Failed placed.entry) (not (can_be run placed)) (lacks_number run placed) (is_unknown placed placed.called) why
    (ap (λ (d : Bool). or_else (breaks_off (is_window run) placed.called) (five (has_report report.Failed placed.entry) (not (can_be run placed)) (lacks_number run placed) d (is_unknown placed placed.called))) (sym told) ∙ h)

nothing_told : (run longer : Run) (choice : Choice) (placed : Placed) (it : More placed) (old new : Progress) (comm : ℕ) (awaited : Awaited) (x y g : Bool) → Awaiting run longer choice placed it old new comm awaited → is_nobody awaited.source ≡ x → from_nobody (message_at placed) ≡ y → is_out placed.journal.lines placed.called ≡ g → (x || (y || g)) ≡ true → is_unreported placed placed.called ≡ false
nothing_told run longer choice placed it old new comm awaited true y g wait source own out h =
    wait.told_known (ap (λ (o : Option (Awaited × Option Message)). is_none (option_and_then (λ one. message_of one.0 one.1) o)) wait.awaits ∙ nobody_known awaited wait.reported source)
nothing_told run longer choice placed it old new comm awaited false true g wait source own out h = wait.told_known (known_nobody (message_at placed) own)
nothing_told run longer choice placed it old new comm awaited false false g wait source own out h = wait.told_out (out ∙ h)

-- what comes of it where it isn't known that no sink took its message
abbrev Sure : Run → Run → Choice → (placed : Placed) → More placed → List Placed → Progress → Progress → ℕ → Awaited → Type 0
Sure run longer choice placed it entries old new comm awaited =
    Something placed awaited → by_call run choice old.records placed placed.called ≡ Some (unsure choice placed (wanted_by comm awaited (message_at placed)) placed.called) → Result run longer choice placed it entries old new

number_later : (run longer : Run) (choice : Choice) (placed : Placed) (it : More placed) (comm : ℕ) → Both run longer choice → number_at run placed ≡ Some comm → number_at longer (with_more placed it) ≡ Some comm
number_later run longer choice placed it comm both number = number_same run longer (named_key placed) both.numbers ∙ number

awaited_result : (run longer : Run) (choice : Choice) (placed : Placed) (it : More placed) (entries : List Placed) (old new : Progress) (comm : ℕ) (awaited : Awaited) → Case run longer choice placed it entries old new → Awaiting run longer choice placed it old new comm awaited → Sure run longer choice placed it entries old new comm awaited → Result run longer choice placed it entries old new
awaited_result run longer choice placed it entries old new comm awaited case wait sure = by_takes (takes_nothing placed awaited) refl
  where
    wanted : Wanted
    wanted = wanted_by comm awaited (message_at placed)

    later : number_at longer (with_more placed it) ≡ Some comm
    later = number_later run longer choice placed it comm case.both wait.number

    by_met : takes_nothing placed awaited ≡ false → (b : Bool) → (is_none (message_at placed) || is_met old.records wanted) ≡ b → Result run longer choice placed it entries old new
    by_met takes true met =
        sure (something placed awaited takes) (some_taken run choice old.records placed comm awaited wait.reported true wait.call wait.number wait.awaits takes met)
    by_met takes false met =
        let parts = or_parts (is_none (message_at placed)) (is_met old.records wanted) met in
        let still : (is_none (message_at (with_more placed it)) || is_met new.records (wanted_by comm awaited (message_at (with_more placed it)))) ≡ false =
        ap (λ (b : Bool). b || is_met new.records (wanted_by comm awaited (message_at (with_more placed it)))) (known_kept placed it parts.0)
        ∙ ap (λ (o : Option Message). is_met new.records (wanted_by comm awaited o)) (message_kept placed it parts.0)
        ∙ met_stays wanted old.records new.records case.alike.records parts.1 in
        none_result run longer choice placed it entries old new case (before_told run choice placed (wait.told_known parts.0))
        (some_taken run choice old.records placed comm awaited wait.reported false wait.call wait.number wait.awaits takes met)
        (λ why. (
          wait.names,
          some_taken longer choice new.records (with_more placed it) comm awaited wait.later false wait.next later wait.also
              (something_still run longer placed it awaited case.fine (something placed awaited takes)) still,
        ))

    by_takes : (b : Bool) → takes_nothing placed awaited ≡ b → Result run longer choice placed it entries old new
    by_takes true takes =
        none_result run longer choice placed it entries old new case
        (before_told run choice placed (nothing_told run longer choice placed it old new comm awaited (is_nobody awaited.source) (from_nobody (message_at placed)) (is_out placed.journal.lines placed.called) wait refl refl refl takes))
        (none_taken run choice old.records placed comm awaited wait.reported wait.call wait.number wait.awaits takes)
        (λ why. (wait.names, none_taken longer choice new.records (with_more placed it) comm awaited wait.later wait.next later wait.also (nothing_still placed it awaited takes)))
    by_takes false takes = by_met takes (is_none (message_at placed) || is_met old.records wanted) refl

-- ---- A call that blocks ----

abbrev blocks_if : Bool → Bool → Bool → List Step → List Step → Outcome
blocks_if back none past pending steps =
    if not back then Ends pending Open (Some NeverCameBack) else if none then ends NeverCameBack else if past then GoesOn steps else ends NotJudged

blocks_comes : (lines : List Line) (old new : Progress) (line : ℕ) (back none past : Bool) (pending steps : List Step) (other : Outcome) → past ≡ false → (back ≡ false → pending ≡ []) → Comes lines old new line (blocks_if back none past pending steps) other
blocks_comes lines old new line false none past pending steps other strict empty = stops lines old new line pending (Some NeverCameBack) other (empty refl)
blocks_comes lines old new line true true past pending steps other strict empty = stops lines old new line [] (Some NeverCameBack) other refl
blocks_comes lines old new line true false past pending steps other strict empty =
    subst (λ (b : Bool). Comes lines old new line (if b then GoesOn steps else ends NotJudged) other) (sym strict) (stops lines old new line [] (Some NotJudged) other refl)

blocks_result : (run longer : Run) (choice : Choice) (placed : Placed) (it : More placed) (entries : List Placed) (old new : Progress) (pending steps : List Step) → Case run longer choice placed it entries old new → (placed.came_back ≡ false → pending ≡ []) → by_call run choice old.records placed placed.called ≡ Some (blocks choice placed pending steps) → Result run longer choice placed it entries old new
blocks_result run longer choice placed it entries old new pending steps case empty is =
    inl (subst (λ (one : Outcome). Comes placed.journal.lines old new placed.line one (outcome_in longer choice new.records (with_more placed it)))
    (sym (in_by run choice old.records placed (Some (blocks choice placed pending steps)) case.both.with_sinks case.sound is))
    (blocks_comes placed.journal.lines old new placed.line placed.came_back (is_none (message_at placed)) (is_past choice.calls placed) pending steps (outcome_in longer choice new.records (with_more placed it))
    (strict_past choice placed case.both.strict) empty))

or_right : (a b : Bool) → b ≡ true → (a || b) ≡ true
or_right true b h = refl
or_right false b h = h

exchange_result : (run longer : Run) (choice : Choice) (placed : Placed) (it : More placed) (entries : List Placed) (old new : Progress) (pending : List Step) → Case run longer choice placed it entries old new → is_exchange placed.called ≡ true → by_call run choice old.records placed placed.called ≡ Some (blocks choice placed pending pending) → Result run longer choice placed it entries old new
exchange_result run longer choice placed it entries old new pending case exchanges is = by_back placed.came_back refl
  where
    last_of : placed.came_back ≡ false → (entries ≡ []) ⊎ IsOver placed (with_more placed it) → last_may_change (placed ∷ entries) ≡ true
    last_of back (inr over) = absurd (false≢true (sym back ∙ over.came))
    last_of back (inl last) =
        subst (λ (es : List Placed). last_may_change (placed ∷ es) ≡ true) (sym last)
        (or_right (is_silent placed) (is_exchange placed.called && not placed.came_back) (rw (exchanges, back) refl))

    by_back : (b : Bool) → placed.came_back ≡ b → Result run longer choice placed it entries old new
    by_back true back = blocks_result run longer choice placed it entries old new pending pending case (λ none. absurd (false≢true (sym none ∙ back))) is
    by_back false back =
        inr (record {
          steps = pending;
          list = ap (λ (one : Outcome). (go_on old placed.line one (λ next. list_from run choice next entries)).records)
              (in_by run choice old.records placed (Some (blocks choice placed pending pending)) case.both.with_sinks case.sound is
              ∙ ap (λ (b : Bool). blocks_if b (is_none (message_at placed)) (is_past choice.calls placed) pending pending) back);
          may = last_of back case.over;
        })

-- ---- A receive that is started ----

wanted_within : (run longer : Run) (choice : Choice) (placed : Placed) (it : More placed) (old new : Progress) (comm : ℕ) (awaited : Awaited) (o also : Option Message) → Awaiting run longer choice placed it old new comm awaited → is_nobody awaited.source ≡ false → message_at placed ≡ o → message_at (with_more placed it) ≡ also → IsWithin (wanted_by comm awaited also) (wanted_by comm awaited o)
wanted_within run longer choice placed it old new comm awaited (Some m) also wait source is other =
    subst (λ (one : Option Message). IsWithin (wanted_by comm awaited one) (wanted_by comm awaited (Some m)))
    (sym (sym other ∙ message_kept placed it (ap (λ (one : Option Message). is_none one) is) ∙ is)) (within_itself (wanted_by comm awaited (Some m)))
wanted_within run longer choice placed it old new comm awaited None None wait source is other = within_itself (wanted_by comm awaited None)
wanted_within run longer choice placed it old new comm awaited None (Some m) wait source is other =
    message_within comm awaited wait.later m source
    (sym (ap (λ (one : Option (Awaited × Option Message)). option_and_then (λ pair. message_of pair.0 pair.1) one) wait.also) ∙ other)

why_now : (run : Run) (placed : Placed) → is_sound run placed ≡ true → is_unreported placed placed.called ≡ false → is_unknown placed placed.called ≡ false → why_at run placed ≡ None
why_now run placed sound told known =
    let is = sound_at run placed sound in
    none_by (breaks_off (is_window run) placed.called) (has_report report.Failed placed.entry) (not (can_be run placed)) (lacks_number run placed) (is_unreported placed placed.called) (is_unknown placed placed.called)
    is.breaks is.well is.can is.numbered told known

-- some steps that are the same, and then the receive
record Starting (run longer : Run) (choice : Choice) (placed : Placed) (it : More placed) (comm : ℕ) (awaited : Awaited) : Type 0 where
  request : ℕ
  starts : request_received placed.called ≡ Some request
  first : List Step
  calls : AllSteps IsCall first
  now : is_out placed.journal.lines placed.called ≡ false → unsure choice placed (wanted_by comm awaited (message_at placed)) placed.called ≡ GoesOn (first ++ sink_step request (wanted_by comm awaited (message_at placed)) (is_some (message_at placed)) ∷ [])
  still : unsure choice (with_more placed it) (wanted_by comm awaited (message_at (with_more placed it))) placed.called ≡ GoesOn (first ++ sink_step request (wanted_by comm awaited (message_at (with_more placed it))) (is_some (message_at (with_more placed it))) ∷ [])
  received : (m : Message) → message_at (with_more placed it) ≡ Some m → is_out placed.journal.lines placed.called ≡ false → steps_of longer choice (with_more placed it) ≡ first ++ Starts (Own request) (start_receive comm m) ∷ []
  told : is_none (message_at (with_more placed it)) ≡ false → is_unreported (with_more placed it) placed.called ≡ false
  known : is_unknown (with_more placed it) placed.called ≡ false
  no_end : is_end placed.called ≡ false

some_message : (o : Option Message) → is_none o ≡ false → (m : Message) × (o ≡ Some m)
some_message None h = absurd (false≢true (sym h))
some_message (Some m) h = (m, refl)

append_alike : (lines : List Line) (old new : Progress) (line : ℕ) (first steps others : List Step) → Alike lines (after_steps (after_steps old line first) line steps) (after_steps (after_steps new line first) line others) → Alike lines (after_steps old line (first ++ steps)) (after_steps new line (first ++ others))
append_alike lines old new line first steps others alike =
    subst (λ (next : Progress). Alike lines next (after_steps new line (first ++ others))) (sym (steps_append old line first steps))
    (subst (λ (next : Progress). Alike lines (after_steps (after_steps old line first) line steps) next) (sym (steps_append new line first others)) alike)

start_result : (run longer : Run) (choice : Choice) (placed : Placed) (it : More placed) (entries : List Placed) (old new : Progress) (comm : ℕ) (awaited : Awaited) → Case run longer choice placed it entries old new → Awaiting run longer choice placed it old new comm awaited → Starting run longer choice placed it comm awaited → Sure run longer choice placed it entries old new comm awaited
start_result run longer choice placed it entries old new comm awaited case wait begin some is =
    inl (subst (λ (one : Outcome). Comes placed.journal.lines old new placed.line one (outcome_in longer choice new.records (with_more placed it)))
    (sym (in_by run choice old.records placed (Some (unsure choice placed wanted placed.called)) case.both.with_sinks case.sound is ∙ begin.now some.stays))
    (by_met (is_none (message_at (with_more placed it)) || is_met new.records less) refl))
  where
    wanted : Wanted
    wanted = wanted_by comm awaited (message_at placed)

    less : Wanted
    less = wanted_by comm awaited (message_at (with_more placed it))

    within : IsWithin less wanted
    within = wanted_within run longer choice placed it old new comm awaited (message_at placed) (message_at (with_more placed it)) wait some.source refl refl

    sound : is_sound longer (with_more placed it) ≡ true
    sound = sound_kept run longer choice placed it case.both case.fine case.sound

    later : number_at longer (with_more placed it) ≡ Some comm
    later = number_later run longer choice placed it comm case.both wait.number

    none : is_of_send placed.journal.lines begin.request ≡ false
    none = it.receives begin.request begin.starts

    middle : Alike placed.journal.lines (after_steps old placed.line begin.first) (after_steps new placed.line begin.first)
    middle = calls_alike placed.journal.lines old new placed.line begin.first begin.calls case.alike

    call : (b : Bool) → (is_none (message_at (with_more placed it)) || is_met new.records less) ≡ b → by_call longer choice new.records (with_more placed it) placed.called ≡ (if b then Some (unsure choice (with_more placed it) less placed.called) else None)
    call b met = some_taken longer choice new.records (with_more placed it) comm awaited wait.later b wait.next later wait.also (something_still run longer placed it awaited case.fine some) met

    by_met : (b : Bool) → (is_none (message_at (with_more placed it)) || is_met new.records less) ≡ b → Comes placed.journal.lines old new placed.line (GoesOn (begin.first ++ sink_step begin.request wanted (is_some (message_at placed)) ∷ [])) (outcome_in longer choice new.records (with_more placed it))
    by_met true met =
        subst (λ (one : Outcome). Comes placed.journal.lines old new placed.line (GoesOn (begin.first ++ sink_step begin.request wanted (is_some (message_at placed)) ∷ [])) one)
        (sym (in_by longer choice new.records (with_more placed it) (Some (unsure choice (with_more placed it) less placed.called)) case.both.with_sinks sound (call true met) ∙ begin.still))
        (append_alike placed.journal.lines old new placed.line begin.first (sink_step begin.request wanted (is_some (message_at placed)) ∷ []) (sink_step begin.request less (is_some (message_at (with_more placed it))) ∷ [])
        (still_alike placed.journal.lines (after_steps old placed.line begin.first) (after_steps new placed.line begin.first) placed.line begin.request wanted less (is_some (message_at placed)) (is_some (message_at (with_more placed it))) middle none within))
    by_met false met =
        let parts = or_parts (is_none (message_at (with_more placed it))) (is_met new.records less) met in
        let m = some_message (message_at (with_more placed it)) parts.0 in
        let why = why_now longer (with_more placed it) sound (begin.told parts.0) begin.known in
        subst (λ (one : Outcome). Comes placed.journal.lines old new placed.line (GoesOn (begin.first ++ sink_step begin.request wanted (is_some (message_at placed)) ∷ [])) one)
        (sym (in_by longer choice new.records (with_more placed it) None case.both.with_sinks sound (call false met)
        ∙ ap (λ (o : Option Why). outcome_by longer choice (with_more placed it) o) why
        ∙ ap (λ (b : Bool). if b then Ends (WaitsForLate ∷ []) Finalize None else GoesOn (steps_of longer choice (with_more placed it))) begin.no_end
        ∙ ap (λ (steps : List Step). GoesOn steps) (begin.received m.0 m.1 some.stays)))
        (append_alike placed.journal.lines old new placed.line begin.first (sink_step begin.request wanted (is_some (message_at placed)) ∷ []) (Starts (Own begin.request) (start_receive comm m.0) ∷ [])
        (received_alike placed.journal.lines (after_steps old placed.line begin.first) (after_steps new placed.line begin.first) placed.line begin.request comm wanted (is_some (message_at placed)) m.0 middle none
        (wanted_comm comm awaited (message_at placed)) (subst (λ (o : Option Message). IsWithin (wanted_by comm awaited o) wanted) m.1 within)))

-- ---- By the call ----

some_number : (o : Option ℕ) → is_none o ≡ false → (number : ℕ) × (o ≡ Some number)
some_number None h = absurd (false≢true (sym h))
some_number (Some number) h = (number, refl)

number_there : (run : Run) (placed : Placed) → is_sound run placed ≡ true → needs_number placed.called ≡ true → (number : ℕ) × (number_at run placed ≡ Some number)
number_there run placed sound needs =
    some_number (number_at run placed) (ap (λ (b : Bool). b && is_none (number_at run placed)) (sym needs) ∙ (sound_at run placed sound).numbered)

abbrev taking : Run → Choice → List Written → Placed → Option Outcome
taking run choice records placed = option_and_then (takes_by choice records placed) (option_and_then (wanted_at placed) (number_at run placed))

awaiting : (run longer : Run) (choice : Choice) (placed : Placed) (it : More placed) (old new : Progress) (comm : ℕ) (awaited : Awaited) (one : Called) (reported later : Option Message) → placed.called ≡ one → number_at run placed ≡ Some comm → awaited_by placed.entry placed.journal.lines one ≡ Some (awaited, reported) → awaited_by it.entry it.later.lines one ≡ Some (awaited, later) → by_call run choice old.records placed one ≡ taking run choice old.records placed → by_call longer choice new.records (with_more placed it) one ≡ taking longer choice new.records (with_more placed it) → NamesNone old.records placed one → (is_none (message_at placed) ≡ false → is_unreported placed one ≡ false) → (is_out placed.journal.lines one ≡ true → is_unreported placed one ≡ false) → Awaiting run longer choice placed it old new comm awaited
awaiting run longer choice placed it old new comm awaited one reported later is number now next call also names known out = record {
  reported = reported;
  later = later;
  awaits = awaited_is placed one is ∙ now;
  also = awaited_is (with_more placed it) one is ∙ next;
  number = number;
  call = ap (λ (it : Called). by_call run choice old.records placed it) is ∙ call;
  next = ap (λ (c : Called). by_call longer choice new.records (with_more placed it) c) is ∙ also;
  names = subst (λ (c : Called). NamesNone old.records placed c) (sym is) names;
  told_known = λ h. ap (λ (c : Called). is_unreported placed c) is ∙ known h;
  told_out = λ h. ap (λ (c : Called). is_unreported placed c) is ∙ out (ap (λ (c : Called). is_out placed.journal.lines c) (sym is) ∙ h);
}

out_told : (none gone : Bool) → gone ≡ true → (none && not gone) ≡ false
out_told true gone h = rw h refl
out_told false gone h = refl

abbrev receive_if : ℕ → ℕ → Bool → Message → List Step
receive_if comm request gone m = if gone then [] else Starts (Own request) (start_receive comm m) ∷ []

abbrev send_if : ℕ → ℕ → Sent → Bool → List Step
send_if comm request sent gone = if gone then [] else Starts (Own request) (start_send Standard comm sent) ∷ []

calls_if : (comm request : ℕ) (sent : Sent) (gone : Bool) → AllSteps IsCall (send_if comm request sent gone)
calls_if comm request sent true = tt
calls_if comm request sent false = (λ other. refl, tt)

steps_on : (run : Run) (choice : Choice) (placed : Placed) (comm : ℕ) (one : Called) → number_at run placed ≡ Some comm → placed.called ≡ one → steps_of run choice placed ≡ on_comm (here_at run choice placed comm) one
steps_on run choice placed comm one number is =
    ap (λ (o : Option ℕ). steps_by run choice placed o) number ∙ ap (λ (c : Called). on_comm (here_at run choice placed comm) c) is

receive_starts : (run longer : Run) (choice : Choice) (placed : Placed) (it : More placed) (comm request : ℕ) (said awaited : Awaited) → placed.called ≡ StartsReceive request said → number_at longer (with_more placed it) ≡ Some comm → StaysOf placed.journal.lines it.later.lines request → Starting run longer choice placed it comm awaited
receive_starts run longer choice placed it comm request said awaited is number stays = record {
  request = request;
  starts = ap (λ (c : Called). request_received c) is;
  first = [];
  calls = tt;
  now = λ out. ap (λ (c : Called). unsure choice placed (wanted_by comm awaited (message_at placed)) c) is;
  still = ap (λ (c : Called). unsure choice (with_more placed it) (wanted_by comm awaited (message_at (with_more placed it))) c) is;
  received = λ m h out. steps_on longer choice (with_more placed it) comm (StartsReceive request said) number is
      ∙ ap (λ (o : Option Message). option_map_or (receive_if comm request (is_gone it.later.lines request)) o []) h
      ∙ ap (λ (b : Bool). receive_if comm request b m) (stays.gone ∙ ap (λ (c : Called). is_out placed.journal.lines c) (sym is) ∙ out);
  told = λ h. ap (λ (c : Called). is_unreported (with_more placed it) c) is ∙ ap (λ (b : Bool). b && not (is_gone it.later.lines request)) h;
  known = ap (λ (c : Called). is_unknown (with_more placed it) c) is;
  no_end = ap (λ (c : Called). is_end c) is;
}

exchange_starts : (run longer : Run) (choice : Choice) (placed : Placed) (it : More placed) (comm request received : ℕ) (sent : Sent) (said awaited : Awaited) → placed.called ≡ StartsExchange request received sent said → number_at longer (with_more placed it) ≡ Some comm → StaysOf placed.journal.lines it.later.lines request → StaysOf placed.journal.lines it.later.lines received → Starting run longer choice placed it comm awaited
exchange_starts run longer choice placed it comm request received sent said awaited is number sends receives = record {
  request = received;
  starts = ap (λ (c : Called). request_received c) is;
  first = send_if comm request sent (is_gone placed.journal.lines request);
  calls = calls_if comm request sent (is_gone placed.journal.lines request);
  now = λ out. ap (λ (c : Called). unsure choice placed (wanted_by comm awaited (message_at placed)) c) is
      ∙ ap (λ (n : ℕ). GoesOn (send_if n request sent (is_gone placed.journal.lines request) ++ sink_step received (wanted_by comm awaited (message_at placed)) (is_some (message_at placed)) ∷ [])) (wanted_comm comm awaited (message_at placed));
  still = ap (λ (c : Called). unsure choice (with_more placed it) (wanted_by comm awaited (message_at (with_more placed it))) c) is
      ∙ ap (λ (n : ℕ). GoesOn (send_if n request sent (is_gone it.later.lines request) ++ sink_step received (wanted_by comm awaited (message_at (with_more placed it))) (is_some (message_at (with_more placed it))) ∷ [])) (wanted_comm comm awaited (message_at (with_more placed it)))
      ∙ ap (λ (b : Bool). GoesOn (send_if comm request sent b ++ sink_step received (wanted_by comm awaited (message_at (with_more placed it))) (is_some (message_at (with_more placed it))) ∷ [])) sends.gone;
  received = λ m h out. steps_on longer choice (with_more placed it) comm (StartsExchange request received sent said) number is
      ∙ ap (λ (b : Bool). send_if comm request sent b ++ option_map_or (receive_if comm received (is_gone it.later.lines received)) (message_at (with_more placed it)) []) sends.gone
      ∙ ap (λ (o : Option Message). send_if comm request sent (is_gone placed.journal.lines request) ++ option_map_or (receive_if comm received (is_gone it.later.lines received)) o []) h
      ∙ ap (λ (b : Bool). send_if comm request sent (is_gone placed.journal.lines request) ++ receive_if comm received b m) (receives.gone ∙ ap (λ (c : Called). is_out placed.journal.lines c) (sym is) ∙ out);
  told = λ h. ap (λ (c : Called). is_unreported (with_more placed it) c) is ∙ ap (λ (b : Bool). b && not (is_gone it.later.lines received)) h;
  known = ap (λ (c : Called). is_unknown (with_more placed it) c) is;
  no_end = ap (λ (c : Called). is_end c) is;
}

unawaited : (run : Run) (choice : Choice) (records : List Written) (placed : Placed) (o : Option ℕ) → awaited_at placed ≡ None → option_and_then (takes_by choice records placed) (option_and_then (wanted_at placed) o) ≡ None
unawaited run choice records placed None none = refl
unawaited run choice records placed (Some comm) none =
    ap (λ (o : Option (Awaited × Option Message)). option_and_then (takes_by choice records placed) (option_and_then (λ one. if takes_nothing placed one.0 then None else Some (wanted_by comm one.0 (message_at placed))) o)) none

call_result : (run longer : Run) (choice : Choice) (placed : Placed) (it : More placed) (entries : List Placed) (old new : Progress) (one : Called) → placed.called ≡ one → Numbers (StaysOf placed.journal.lines it.later.lines) (StaysOf placed.journal.lines it.later.lines) (StaysOf placed.journal.lines it.later.lines) one → Case run longer choice placed it entries old new → Result run longer choice placed it entries old new
call_result run longer choice placed it entries old new (ReceivesMatched message) is all case =
    waits_result run longer choice placed it entries old new (message ∷ []) case
    (subst (λ (c : Called). (why : Why) → why_at run placed ≡ Some why → steps_before run choice placed c why ≡ []) (sym is) (λ why h. refl)) (all, tt)
    (λ h. subst (λ (c : Called). NamesNone old.records placed c) (sym is) h)
    (ap (λ (c : Called). by_call run choice old.records placed c) is) (ap (λ (c : Called). by_call longer choice new.records (with_more placed it) c) is)
call_result run longer choice placed it entries old new (Waits requests) is all case =
    waits_result run longer choice placed it entries old new requests case
    (subst (λ (c : Called). (why : Why) → why_at run placed ≡ Some why → steps_before run choice placed c why ≡ []) (sym is) (λ why h. refl)) all
    (λ h. subst (λ (c : Called). NamesNone old.records placed c) (sym is) h)
    (ap (λ (c : Called). by_call run choice old.records placed c) is) (ap (λ (c : Called). by_call longer choice new.records (with_more placed it) c) is)
call_result run longer choice placed it entries old new (Tests requests) is all case =
    waits_result run longer choice placed it entries old new requests case
    (subst (λ (c : Called). (why : Why) → why_at run placed ≡ Some why → steps_before run choice placed c why ≡ []) (sym is) (λ why h. refl)) all
    (λ h. subst (λ (c : Called). NamesNone old.records placed c) (sym is) h)
    (ap (λ (c : Called). by_call run choice old.records placed c) is) (ap (λ (c : Called). by_call longer choice new.records (with_more placed it) c) is)
call_result run longer choice placed it entries old new (WaitsAny requests) is all case =
    chooses_result run longer choice placed it entries old new requests case
    (subst (λ (c : Called). (why : Why) → why_at run placed ≡ Some why → steps_before run choice placed c why ≡ []) (sym is) (λ why h. refl)) all
    (λ h. subst (λ (c : Called). NamesNone old.records placed c) (sym is) h) (ap (λ (c : Called). is_unknown placed c) is)
    (ap (λ (c : Called). by_call run choice old.records placed c) is) (ap (λ (c : Called). by_call longer choice new.records (with_more placed it) c) is)
call_result run longer choice placed it entries old new (WaitsSome requests) is all case =
    chooses_result run longer choice placed it entries old new requests case
    (subst (λ (c : Called). (why : Why) → why_at run placed ≡ Some why → steps_before run choice placed c why ≡ []) (sym is) (λ why h. refl)) all
    (λ h. subst (λ (c : Called). NamesNone old.records placed c) (sym is) h) (ap (λ (c : Called). is_unknown placed c) is)
    (ap (λ (c : Called). by_call run choice old.records placed c) is) (ap (λ (c : Called). by_call longer choice new.records (with_more placed it) c) is)
call_result run longer choice placed it entries old new (Receives awaited) is all case =
    let number = number_there run placed case.sound (ap (λ (c : Called). needs_number c) is) in
    let wait = awaiting run longer choice placed it old new number.0 awaited (Receives awaited) (got_in placed.entry) (got_in it.entry) is number.1 refl refl refl refl tt (λ h. refl) (λ h. refl) in
    awaited_result run longer choice placed it entries old new number.0 awaited case wait
    (λ some h. blocks_result run longer choice placed it entries old new [] (sinks placed (wanted_by number.0 awaited (message_at placed)) None ∷ []) case (λ back. refl)
    (h ∙ ap (λ (c : Called). Some (unsure choice placed (wanted_by number.0 awaited (message_at placed)) c)) is))
call_result run longer choice placed it entries old new (Probes awaited) is all case =
    let number = number_there run placed case.sound (ap (λ (c : Called). needs_number c) is) in
    let wait = awaiting run longer choice placed it old new number.0 awaited (Probes awaited) (got_in placed.entry) (got_in it.entry) is number.1 refl refl refl refl tt (λ h. refl) (λ h. refl) in
    awaited_result run longer choice placed it entries old new number.0 awaited case wait
    (λ some h. blocks_result run longer choice placed it entries old new [] [] case (λ back. refl)
    (h ∙ ap (λ (c : Called). Some (unsure choice placed (wanted_by number.0 awaited (message_at placed)) c)) is))
call_result run longer choice placed it entries old new (ProbesMatching own awaited) is all case =
    let number = number_there run placed case.sound (ap (λ (c : Called). needs_number c) is) in
    let wait = awaiting run longer choice placed it old new number.0 awaited (ProbesMatching own awaited) (got_in placed.entry) (got_in it.entry) is number.1 refl refl refl refl tt (λ h. refl) (λ h. refl) in
    awaited_result run longer choice placed it entries old new number.0 awaited case wait
    (λ some h. blocks_result run longer choice placed it entries old new [] (sinks placed (wanted_by number.0 awaited (message_at placed)) (Some own) ∷ []) case (λ back. refl)
    (h ∙ ap (λ (c : Called). Some (unsure choice placed (wanted_by number.0 awaited (message_at placed)) c)) is))
call_result run longer choice placed it entries old new (Exchanges sent awaited) is all case =
    let number = number_there run placed case.sound (ap (λ (c : Called). needs_number c) is) in
    let wait = awaiting run longer choice placed it old new number.0 awaited (Exchanges sent awaited) (got_in placed.entry) (got_in it.entry) is number.1 refl refl refl refl tt (λ h. refl) (λ h. refl) in
    let wanted = wanted_by number.0 awaited (message_at placed) in
    awaited_result run longer choice placed it entries old new number.0 awaited case wait
    (λ some h. exchange_result run longer choice placed it entries old new (starts_half wanted (Whole placed.line) sent ∷ sinks placed wanted None ∷ []) case
    (ap (λ (c : Called). is_exchange c) is) (h ∙ ap (λ (c : Called). Some (unsure choice placed wanted c)) is))
call_result run longer choice placed it entries old new (StartsReceive request said) is all case =
    let number = number_there run placed case.sound (ap (λ (c : Called). needs_number c) is) in
    let awaited = unless_moved placed.journal.lines request said in
    let also = ap (λ (a : Awaited). Some (a, done_of it.later.lines request)) (moved_stays placed.journal.lines it.later.lines request said all) in
    let wait = awaiting run longer choice placed it old new number.0 awaited (StartsReceive request said) (done_of placed.journal.lines request) (done_of it.later.lines request) is number.1 refl also refl refl tt
    (λ h. ap (λ (b : Bool). b && not (is_gone placed.journal.lines request)) h) (λ h. out_told (is_none (message_at placed)) (is_gone placed.journal.lines request) h) in
    awaited_result run longer choice placed it entries old new number.0 awaited case wait
    (start_result run longer choice placed it entries old new number.0 awaited case wait
    (receive_starts run longer choice placed it number.0 request said awaited is (number_later run longer choice placed it number.0 case.both number.1) all))
call_result run longer choice placed it entries old new (StartsExchange request received sent said) is all case =
    let number = number_there run placed case.sound (ap (λ (c : Called). needs_number c) is) in
    let awaited = unless_moved placed.journal.lines received said in
    let also = ap (λ (a : Awaited). Some (a, done_of it.later.lines received)) (moved_stays placed.journal.lines it.later.lines received said all.1) in
    let wait = awaiting run longer choice placed it old new number.0 awaited (StartsExchange request received sent said) (done_of placed.journal.lines received) (done_of it.later.lines received) is number.1 refl also refl refl tt
    (λ h. ap (λ (b : Bool). b && not (is_gone placed.journal.lines received)) h) (λ h. out_told (is_none (message_at placed)) (is_gone placed.journal.lines received) h) in
    awaited_result run longer choice placed it entries old new number.0 awaited case wait
    (start_result run longer choice placed it entries old new number.0 awaited case wait
    (exchange_starts run longer choice placed it number.0 request received sent said awaited is (number_later run longer choice placed it number.0 case.both number.1) all.0 all.1))
call_result run longer choice placed it entries old new one is all case =
    none_result run longer choice placed it entries old new case
    (subst (λ (c : Called). (why : Why) → why_at run placed ≡ Some why → steps_before run choice placed c why ≡ []) (sym is) (λ why h. refl))
    (ap (λ (c : Called). by_call run choice old.records placed c) is ∙ unawaited run choice old.records placed (number_at run placed) (awaited_is placed one is))
    (λ why. (
      subst (λ (c : Called). NamesNone old.records placed c) (sym is) tt,
      ap (λ (c : Called). by_call longer choice new.records (with_more placed it) c) is
          ∙ unawaited longer choice new.records (with_more placed it) (number_at longer (with_more placed it)) (awaited_is (with_more placed it) one is),
    ))

-- ---- Records of one line ----

record Adds (old all : List Written) (line : ℕ) : Type 0 where
  own : List Written
  are : all ≡ old ++ own
  of_line : list_all (λ one. one.line == line) own ≡ true

all_both : (line : ℕ) (xs ys : List Written) → list_all (λ one. one.line == line) xs ≡ true → list_all (λ one. one.line == line) ys ≡ true → list_all (λ one. one.line == line) (xs ++ ys) ≡ true
all_both line [] ys first others = others
all_both line (x ∷ xs) ys first others =
    elim (cases_Bool (x.line == line)) [
      | inl same ↦ rw same (all_both line xs ys (rw same at first) others)
      | inr apart ↦ absurd (false≢true (rw apart at first))
    ]

plain_line : (line : ℕ) (calls : List Call) → list_all (λ one. one.line == line) (plain line calls) ≡ true
plain_line line [] = refl
plain_line line (call ∷ calls) = rw (eq-eqb line line refl) (plain_line line calls)

one_adds : (old : Progress) (line : ℕ) (o : Option ℕ) (numbers : List ℕ) → Adds old.records (wait_one old line o numbers).records line
one_adds old line None numbers = record { own = []; are = sym (append-nil old.records); of_line = refl }
one_adds old line (Some number) numbers = record { own = _; are = refl; of_line = plain_line line (wait_for_one number numbers ∷ []) }

step_adds : (old : Progress) (line : ℕ) (step : Step) → Adds old.records (after_step old line step).records line
step_adds old line (Does call) = record { own = _; are = refl; of_line = plain_line line (call ∷ []) }
step_adds old line (Starts id call) = record { own = _; are = refl; of_line = rw (eq-eqb line line refl) refl }
step_adds old line (WaitsForAll ids) =
    let numbers = numbers_of old.active ids in
    record { own = plain line (waits_for (length numbers) numbers); are = refl; of_line = plain_line line (waits_for (length numbers) numbers) }
step_adds old line (WaitsForOne id ids) = one_adds old line (number_in old.active id) _
step_adds old line (PutsOff ids) = record { own = []; are = sym (append-nil old.records); of_line = refl }
step_adds old line WaitsForLate =
    let numbers = numbers_of old.active old.late in
    record { own = plain line (waits_for (length numbers) numbers); are = refl; of_line = plain_line line (waits_for (length numbers) numbers) }

steps_add : (old : Progress) (line : ℕ) (steps : List Step) → Adds old.records (after_steps old line steps).records line
steps_add old line [] = record { own = []; are = sym (append-nil old.records); of_line = refl }
steps_add old line (step ∷ steps) =
    let first = step_adds old line step in
    let rest = steps_add (after_step old line step) line steps in
    record {
      own = first.own ++ rest.own;
      are = rest.are ∙ ap (λ (rs : List Written). rs ++ rest.own) first.are ∙ append_assoc old.records first.own rest.own;
      of_line = all_both line first.own rest.own first.of_line rest.of_line;
    }

-- ---- Lists ----

stay_grown : (old new all : List Written) → Pairs old new → (rest : List Written) × (all ≡ new ++ rest) → AllStay old all
stay_grown old new all pairs grows = subst (λ (rs : List Written). AllStay old rs) (sym grows.1) (pairs_stay old new grows.0 pairs)

may_more : (placed : Placed) (entries : List Placed) → last_may_change entries ≡ true → last_may_change (placed ∷ entries) ≡ true
may_more placed [] h = absurd (false≢true h)
may_more placed (one ∷ entries) h = h

stay_more : (placed : Placed) (entries : List Placed) (old new : List Written) → StaysWithSinks entries old new → StaysWithSinks (placed ∷ entries) old new
stay_more placed entries old new (inl stay) = inl stay
stay_more placed entries old new (inr but) = inr (may_more placed entries but.0, but.1)

empty_stays : (lines : List Line) (old new : Progress) (line : ℕ) (steps : List Step) (all : List Written) → Alike lines old new → steps ≡ [] → (rest : List Written) × (all ≡ new.records ++ rest) → AllStay (after_steps old line steps).records all
empty_stays lines old new line steps all alike none grows =
    subst (λ (ss : List Step). AllStay (after_steps old line ss).records all) (sym none) (stay_grown old.records new.records all alike.records grows)

abbrev Rest : Run → Run → Choice → List Line → List Placed → List Placed → Type 0
Rest run longer choice lines entries others = (old new : Progress) → Alike lines old new → StaysWithSinks entries (list_from run choice old entries).records (list_from longer choice new others).records

comes_stay : (run longer : Run) (choice : Choice) (placed : Placed) (entries others : List Placed) (old new : Progress) (one other : Outcome) → Alike placed.journal.lines old new → Comes placed.journal.lines old new placed.line one other → (rest : List Written) × ((go_on new placed.line other (λ next. list_from longer choice next others)).records ≡ new.records ++ rest) → Rest run longer choice placed.journal.lines entries others → StaysWithSinks (placed ∷ entries) (go_on old placed.line one (λ next. list_from run choice next entries)).records (go_on new placed.line other (λ next. list_from longer choice next others)).records
comes_stay run longer choice placed entries others old new (GoesOn steps) (GoesOn also) alike comes grows rest =
    stay_more placed entries (list_from run choice (after_steps old placed.line steps) entries).records (list_from longer choice (after_steps new placed.line also) others).records
    (rest (after_steps old placed.line steps) (after_steps new placed.line also) comes)
comes_stay run longer choice placed entries others old new (GoesOn steps) (Ends also end why) alike comes grows rest = absurd comes
comes_stay run longer choice placed entries others old new (Ends steps end why) (GoesOn also) alike comes grows rest =
    inl (empty_stays placed.journal.lines old new placed.line steps (list_from longer choice (after_steps new placed.line also) others).records alike comes grows)
comes_stay run longer choice placed entries others old new (Ends steps end why) (Ends also last reason) alike (inl none) grows rest =
    inl (empty_stays placed.journal.lines old new placed.line steps (after_steps new placed.line also).records alike none grows)
comes_stay run longer choice placed entries others old new (Ends steps end why) (Ends also last reason) alike (inr next) grows rest =
    inl (stay_grown (after_steps old placed.line steps).records (after_steps new placed.line also).records (after_steps new placed.line also).records next.records
    ([], sym (append-nil (after_steps new placed.line also).records)))

result_stays : (run longer : Run) (choice : Choice) (placed : Placed) (it : More placed) (entries others : List Placed) (old new : Progress) → Alike placed.journal.lines old new → Result run longer choice placed it entries old new → Rest run longer choice placed.journal.lines entries others → StaysWithSinks (placed ∷ entries) (list_from run choice old (placed ∷ entries)).records (list_from longer choice new (with_more placed it ∷ others)).records
result_stays run longer choice placed it entries others old new alike (inl comes) rest =
    comes_stay run longer choice placed entries others old new (outcome_in run choice old.records placed) (outcome_in longer choice new.records (with_more placed it)) alike comes
    (list_grows longer choice (with_more placed it ∷ others) new) rest
result_stays run longer choice placed it entries others old new alike (inr last) rest =
    let adds = steps_add old placed.line last.steps in
    inr (
      last.may,
      record {
        before = old.records;
        own = adds.own;
        line = placed.line;
        old_is = last.list ∙ adds.are;
        own_line = adds.of_line;
        stay = stay_grown old.records new.records (list_from longer choice new (with_more placed it ∷ others)).records alike.records (list_grows longer choice (with_more placed it ∷ others) new);
      },
    )

record Runs (run longer : Run) (choice : Choice) : Type 0 where
  both : Both run longer choice
  makers : (placed : Placed) (it : More placed) (entries : List Placed) → (entries ≡ []) ⊎ IsOver placed (with_more placed it) → Silent run longer placed it entries

sunk_entry : (run longer : Run) (choice : Choice) (placed : Placed) (it : More placed) (entries : List Placed) (old new : Progress) → Runs run longer choice → Fine run longer placed it → (entries ≡ []) ⊎ IsOver placed (with_more placed it) → Alike placed.journal.lines old new → Result run longer choice placed it entries old new
sunk_entry run longer choice placed it entries old new whole fine over alike = by_sound (is_sound run placed) refl
  where
    by_sound : (b : Bool) → is_sound run placed ≡ b → Result run longer choice placed it entries old new
    by_sound false sound = unsound_result run longer choice placed it entries old new whole.both sound
    by_sound true sound =
        call_result run longer choice placed it entries old new placed.called refl it.numbers
        (record { both = whole.both; fine = fine; alike = alike; silent = whole.makers placed it entries over; sound = sound; over = over })

lists_sunk : (run longer : Run) (choice : Choice) (lines : List Line) (entries others : List Placed) (old new : Progress) → Runs run longer choice → AreOf lines entries → AreLater entries others → AllKept run longer entries others → NoneIsFromNobody entries others → Alike lines old new → StaysWithSinks entries (list_from run choice old entries).records (list_from longer choice new (with_lines entries others)).records
lists_sunk run longer choice lines [] others old new whole own all kept nobody alike =
    inl (stay_grown old.records new.records (list_from longer choice new others).records alike.records (list_grows longer choice others new))
lists_sunk run longer choice lines (placed ∷ entries) [] old new whole own all kept nobody alike = absurd all
lists_sunk run longer choice lines (placed ∷ entries) (other ∷ others) old new whole own all kept nobody alike =
    let it = all.0.it in
    let here : Alike placed.journal.lines old new = subst (λ (ls : List Line). Alike ls old new) (sym own.0) alike in
    let fine : Fine run longer placed it = record {
      kept = subst (λ (one : Placed). IsKept run longer placed one) all.0.is (kept_line run longer placed other placed.line kept.0);
      nobody = λ m none known. nobody.0 m none (sym (message_line other placed.line) ∙ ap (λ (one : Placed). message_at one) all.0.is ∙ known);
    } in
    subst (λ (one : Placed). StaysWithSinks (placed ∷ entries) (list_from run choice old (placed ∷ entries)).records (list_from longer choice new (one ∷ with_lines entries others)).records) (sym all.0.is)
    (result_stays run longer choice placed it entries (with_lines entries others) old new here
    (sunk_entry run longer choice placed it entries old new whole fine (over_there placed other it entries all.0.is all.1) here)
    (λ next also still. lists_sunk run longer choice lines entries others next also whole own.1 all.2 kept.1 nobody.1 (subst (λ (ls : List Line). Alike ls next also) own.0 still)))

-- ---- A rank ----

makers_by : (run longer : Run) (placed : Placed) (it : More placed) (entries : List Placed) (b : Bool) (o : Option Line) → ((line : Line) → o ≡ Some line → makes_comm placed.called ≡ true → MakerStays run longer placed it) → entries ≡ [] → makes_comm placed.called ≡ b → report_of report.Comm placed.entry ≡ o → Silent run longer placed it entries
makers_by run longer placed it entries false o told last is line = inl (λ also comm. absurd (false≢true (sym is ∙ also)))
makers_by run longer placed it entries true (Some one) told last is line = inl (told one refl is)
makers_by run longer placed it entries true None told last is line = inr (last, is, rw (is, line) refl)

-- by the longer run's entries as if they were of the lines of the other's
what_stays : (run longer : Run) (choice : Choice) (rank : ℕ) → choice.calls ≡ Strict → choice.unreported ≡ unreported.Sinks → IsRead run → IsRead longer → IsToldMore run longer → AllKept run longer (entries_at run rank) (entries_at longer rank) → NoneIsFromNobody (entries_at run rank) (entries_at longer rank) → StaysWithSinks (entries_at run rank) (whole_list run choice rank).records (list_from longer choice (progress_first longer rank) (with_lines (entries_at run rank) (entries_at longer rank))).records
what_stays run longer choice rank strict with_sinks read read_longer long kept nobody =
    let all = λ (other : ℕ). entries_later run longer other read read_longer (long.more other) (long.none_gone other) (long.none_moved other) in
    let waves = waves_same run longer read long.ranks long.numbers all in
    let whole : Runs run longer choice = record {
      both = record { strict = strict; with_sinks = with_sinks; numbers = long.numbers; windows = window_still run longer read_longer long.ranks long.more };
      makers = λ placed it entries over. elim over [
        | inl last ↦ makers_by run longer placed it entries (makes_comm placed.called) (report_of report.Comm placed.entry)
            (λ line is makes also comm. told_maker run longer placed it comm line long.ranks long.numbers waves makes is) last refl refl
        | inr is ↦ inl (λ also comm. over_maker run longer placed it comm long.ranks long.numbers waves is)
      ];
    } in
    let first : Alike (lines_at run rank) (progress_first run rank) (progress_first run rank) = record {
      records = pairs_same (progress_first run rank).records;
      active = tt;
      late = refl;
      sends = tt;
      quiet = λ requested sent. plain_quiet requested 0 (preface_of run rank);
      covers = λ request none. refl;
    } in
    subst (λ (progress : Progress). StaysWithSinks (entries_at run rank) (whole_list run choice rank).records (list_from longer choice progress (with_lines (entries_at run rank) (entries_at longer rank))).records)
    (sym (ap (λ (calls : List Call). first_with calls) (long.prefaces rank)))
    (lists_sunk run longer choice (lines_at run rank) (entries_at run rank) (entries_at longer rank) (progress_first run rank) (progress_first run rank) whole (all_of rank (journal_at run rank)) (all rank) kept nobody first)

pub what_is_told_stays_with_sinks : WhatIsToldStaysWithSinks
what_is_told_stays_with_sinks run longer choice rank strict with_sinks read read_longer long kept nobody =
    subst (λ (entries : List Placed). StaysWithSinks (entries_at run rank) (whole_list run choice rank).records (list_from longer choice (progress_first longer rank) entries).records)
    (same_lines run longer rank (long.more rank))
    (what_stays run longer choice rank strict with_sinks read read_longer (told_more run longer long) kept nobody)

pub what_is_told_between_stays_with_sinks : WhatIsToldBetweenStaysWithSinks
what_is_told_between_stays_with_sinks run longer choice rank strict with_sinks read read_longer long kept nobody = (
  (list_from longer choice (progress_first longer rank) (with_lines (entries_at run rank) (entries_at longer rank))).records,
  what_stays run longer choice rank strict with_sinks read read_longer long kept nobody,
  lists_same longer choice (entries_at run rank) (entries_at longer rank) (progress_first longer rank) strict
      (as_many (entries_at run rank) (entries_at longer rank) (entries_later run longer rank read read_longer (long.more rank) (long.none_gone rank) (long.none_moved rank))),
)
