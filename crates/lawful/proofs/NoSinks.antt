-- Where a list has no sinks so far, an entry at which it goes on stands for what it does without them, and adds none.
use Rattle.std.proofs.Common.{◌≡◌, ℕ, zero, suc, ◌-◌, ◌&&◌, ◌||◌, not, Bool, true, false, Option, Some, None, is_some, is_none, if◌then◌else◌, List, [], ◌∷◌, ◌++◌, length, map, take, refl, sym, ap, subst, ◌∙◌, inl, inr}
use Rattle.std.specs.Prelude.{⊤, nat_lt, option_and_then}
use Rattle.std.specs.List.{find, list_any}
use Rattle.std.specs.Option.{option_map_or}
use Rattle.std.proofs.lemmas.Bool.{cases_Bool, false≢true, or_parts}
use Rattle.std.proofs.lemmas.Option.{none-some}
use Rattle.mpicall.specs.declared.call.Call.{Call}
use Rattle.mpicall.specs.declared.call.Call.TheVariants.{Finalize}
use Rattle.journals.specs.Lines.{Line}
use Rattle.journals.specs.Known.{has_report, report_of, requests_in}
use Rattle.journals.specs.declared.word.ReportWord.TheVariants as report
use Rattle.closing.specs.Called.{Called, StartsSend, Receives, StartsReceive, Exchanges, StartsExchange, Probes, ProbesMatching, ReceivesMatched, Waits, Tests, WaitsAny, WaitsSome, StartsCollective, StartsDuplicate}
use Rattle.closing.specs.Entries.{Run, Placed, journal_at, entries_at, is_window}
use Rattle.closing.specs.Numbers.{preface_of}
use Rattle.closing.specs.Reported.{is_gone}
use Rattle.closing.specs.Steps.{Id, Own, Whole, ReceiveHalf, Sink, Written, Progress, Step, Does, Starts, WaitsForAll, WaitsForOne, PutsOff, WaitsForLate, number_in, numbers_of, waits_for, wait_for_one, wait_one, plain, after_step, after_steps}
use Rattle.closing.specs.Endings.{can_be, first_of, is_unknown, is_unreported, lacks_number, message_at, number_at, why_at}
use Rattle.closing.specs.Entry.{Choice, here_at, ids_of, is_past, on_none, steps_by, steps_of}
use Rattle.closing.specs.Recording.{Listed, is_end, steps_before, outcome_by, outcome_of, outcome_in, go_on, list_from, progress_first, whole_list, most_records, cut, without_journal, list_of}
use Rattle.closing.specs.Sinks.{sink_in, is_met, is_nobody, is_of, sink_for, name_sink, overlap, ends, request_received, takes_by, unsure, wanted_at, waits_by, chooses_by, is_sound, by_call, Outcome, GoesOn, Ends}
use Rattle.closing.specs.declared.choice.Unreported.TheVariants as unreported
use Rattle.closing.specs.declared.pending.Wanted.{Wanted}
use Rattle.closing.specs.declared.why.Why.{Why}
use Rattle.closing.specs.declared.why.Why.TheVariants.{NeverCameBack, NeverReported, NotJudged, Failed, NoNumber, CannotBe}
use Rattle.lawful.proofs.NameLemmas.{none_names}
use Rattle.lawful.proofs.WalkLemmas.{breaks_none}
use Rattle.lawful.proofs.ActiveSends.{AllSteps}
use Rattle.lawful.proofs.OwnSteps.{PassOwn, on_comm_all, all_unless, waits_all}
use Rattle.lawful.proofs.SinkCases.{IsUnsure, is_unsure, not_awaited, in_as_of, in_if_none}

-- ---- An entry at which the list goes on ----

-- what is so of it
pub record Clear (run : Run) (placed : Placed) : Type 0 where
  pub well : has_report report.Failed placed.entry ≡ false
  pub numbered : lacks_number run placed ≡ false
  pub told : is_unreported placed placed.called ≡ false
  pub known : is_unknown placed placed.called ≡ false

clear_of : (run : Run) (placed : Placed) (a b c d e : Bool) → has_report report.Failed placed.entry ≡ a → lacks_number run placed ≡ c → is_unreported placed placed.called ≡ d → is_unknown placed placed.called ≡ e → first_of ((a, Failed) ∷ (b, CannotBe) ∷ (c, NoNumber) ∷ (d, NeverReported) ∷ (e, NeverCameBack) ∷ []) ≡ None → Clear run placed
clear_of run placed true b c d e first third fourth fifth h = absurd (none-some Failed (sym h))
clear_of run placed false true c d e first third fourth fifth h = absurd (none-some CannotBe (sym h))
clear_of run placed false false true d e first third fourth fifth h = absurd (none-some NoNumber (sym h))
clear_of run placed false false false true e first third fourth fifth h = absurd (none-some NeverReported (sym h))
clear_of run placed false false false false true first third fourth fifth h = absurd (none-some NeverCameBack (sym h))
clear_of run placed false false false false false first third fourth fifth h = record { well = first; numbered = third; told = fourth; known = fifth }

pub clear : (run : Run) (placed : Placed) → why_at run placed ≡ None → Clear run placed
clear run placed h =
    clear_of run placed (has_report report.Failed placed.entry) (not (can_be run placed)) (lacks_number run placed) (is_unreported placed placed.called)
    (is_unknown placed placed.called) refl refl refl refl (breaks_none (is_window run) placed.called _ h)

-- ---- Records without sinks ----

abbrev pub NoSinks : List Written → Type 0
NoSinks [] = ⊤
NoSinks (one ∷ records) = (is_none (sink_in one.starts) ≡ true) × NoSinks records

pub none_append : (xs ys : List Written) → NoSinks xs → NoSinks ys → NoSinks (xs ++ ys)
none_append [] ys first others = others
none_append (x ∷ xs) ys first others = (first.0, none_append xs ys first.1 others)

pub none_plain : (line : ℕ) (calls : List Call) → NoSinks (plain line calls)
none_plain line [] = tt
none_plain line (call ∷ calls) = (refl, none_plain line calls)

not_met : (wanted : Wanted) (o : Option Wanted) → is_none o ≡ true → option_map_or (overlap wanted) o false ≡ false
not_met wanted None none = refl
not_met wanted (Some other) none = absurd (false≢true none)

none_met : (records : List Written) (wanted : Wanted) → NoSinks records → is_met records wanted ≡ false
none_met [] wanted none = refl
none_met (one ∷ records) wanted none = rw (not_met wanted (sink_in one.starts) none.0) (none_met records wanted none.1)

not_of : (id : Id) (o : Option Id) → is_none (sink_in o) ≡ true → is_of id o ≡ false
not_of (Own request) (Some (Sink (Some own) wanted is_known)) h = absurd (false≢true h)
not_of (Own request) (Some (Sink None wanted is_known)) h = refl
not_of (Own request) (Some (Own other)) h = refl
not_of (Own request) (Some (Whole line)) h = refl
not_of (Own request) (Some (ReceiveHalf line)) h = refl
not_of (Own request) None h = refl
not_of (Whole line) o h = refl
not_of (ReceiveHalf line) o h = refl
not_of (Sink own wanted is_known) o h = refl

none_found : (records : List Written) (id : Id) → NoSinks records → find (λ one. is_of id one.starts) records ≡ None
none_found [] id none = refl
none_found (one ∷ records) id none = rw (not_of id one.starts none.0) (none_found records id none.1)

none_for : (records : List Written) (id : Id) → NoSinks records → is_some (sink_for records id) ≡ false
none_for records id none = ap (λ (o : Option Written). is_some (option_and_then (λ one. sink_in one.starts) o)) (none_found records id none)

none_named : (records : List Written) (ids : List Id) → NoSinks records → list_any (λ id. is_some (sink_for records id)) ids ≡ false
none_named records [] none = refl
none_named records (id ∷ ids) none = rw (none_for records id none) (none_named records ids none)

-- ---- Entries ----

waits_none : (choice : Choice) (records : List Written) (placed : Placed) (requests : List ℕ) → NoSinks records → waits_by choice records placed requests ≡ None
waits_none choice records placed requests none =
    unless (is_past choice.calls placed) (name_sink records placed requests) (ends (if placed.came_back then NotJudged else NeverCameBack))
    (none_named records (ids_of placed.journal.lines requests) none)
  where
    unless : (past names : Bool) (outcome : Outcome) → names ≡ false → (if past || not names then None else Some outcome) ≡ None
    unless true names outcome h = refl
    unless false names outcome h = rw h refl

chosen_none : (choice : Choice) (records : List Written) (placed : Placed) (o : Option Line) → NoSinks records → option_and_then (λ line. waits_by choice records placed (requests_in (Some line))) o ≡ None
chosen_none choice records placed None none = refl
chosen_none choice records placed (Some line) none = waits_none choice records placed (requests_in (Some line)) none

chooses_none : (choice : Choice) (records : List Written) (placed : Placed) (requests : List ℕ) → NoSinks records → chooses_by choice records placed requests ≡ None
chooses_none choice records placed [] none = chosen_none choice records placed (report_of report.Chose placed.entry) none
chooses_none choice records placed (request ∷ []) none = waits_none choice records placed (request ∷ []) none
chooses_none choice records placed (one ∷ two ∷ requests) none = chosen_none choice records placed (report_of report.Chose placed.entry) none

not_gone : (placed : Placed) (o : Option ℕ) (a b : Bool) → (a || (b || option_map_or (is_gone placed.journal.lines) o false)) ≡ false → option_map_or (is_gone placed.journal.lines) o false ≡ false
not_gone placed o a b h =
    (or_parts b (option_map_or (is_gone placed.journal.lines) o false) (or_parts a (b || option_map_or (is_gone placed.journal.lines) o false) h).1).1

started_stays : (run : Run) (placed : Placed) (wanted : Wanted) → IsUnsure run placed wanted → option_map_or (is_gone placed.journal.lines) (request_received placed.called) false ≡ false
started_stays run placed wanted is =
    not_gone placed (request_received placed.called) (is_nobody is.awaited.0.source) (option_map_or (λ it. is_nobody it.source) (message_at placed) false)
    is.takes_some

told_message : (none gone : Bool) → (none && not gone) ≡ false → gone ≡ false → none ≡ false
told_message true gone h is = absurd (false≢true (sym h ∙ ap (λ (b : Bool). not b) is))
told_message false gone h is = refl

-- the message is known that the entry takes or sees
known_at : (run : Run) (placed : Placed) (wanted : Wanted) (it : Called) → placed.called ≡ it → IsUnsure run placed wanted → is_unreported placed it ≡ false → is_unknown placed it ≡ false → is_none (message_at placed) ≡ false
known_at run placed wanted (Receives awaited) called is told known = known
known_at run placed wanted (Exchanges sent awaited) called is told known = known
known_at run placed wanted (Probes awaited) called is told known = known
known_at run placed wanted (ProbesMatching message awaited) called is told known = known
known_at run placed wanted (StartsReceive request awaited) called is told known =
    told_message (is_none (message_at placed)) (is_gone placed.journal.lines request) told
    (subst (λ (it : Called). option_map_or (is_gone placed.journal.lines) (request_received it) false ≡ false) called (started_stays run placed wanted is))
known_at run placed wanted (StartsExchange request received sent awaited) called is told known =
    told_message (is_none (message_at placed)) (is_gone placed.journal.lines received) told
    (subst (λ (it : Called). option_map_or (is_gone placed.journal.lines) (request_received it) false ≡ false) called (started_stays run placed wanted is))
known_at run placed wanted _ called is told known = absurd (not_awaited run placed wanted is (rw called refl))

takes_none : (run : Run) (choice : Choice) (records : List Written) (placed : Placed) (wanted : Wanted) → NoSinks records → Clear run placed → IsUnsure run placed wanted → takes_by choice records placed wanted ≡ None
takes_none run choice records placed wanted none clear is =
    neither (is_none (message_at placed)) (is_met records wanted) (unsure choice placed wanted placed.called)
    (known_at run placed wanted placed.called refl is clear.told clear.known) (none_met records wanted none)
  where
    neither : (a b : Bool) (outcome : Outcome) → a ≡ false → b ≡ false → (if a || b then Some outcome else None) ≡ None
    neither a b outcome first other = rw (first, other) refl

wanted_none : (run : Run) (choice : Choice) (records : List Written) (placed : Placed) → NoSinks records → Clear run placed → is_sound run placed ≡ true → option_and_then (takes_by choice records placed) (option_and_then (wanted_at placed) (number_at run placed)) ≡ None
wanted_none run choice records placed none clear sound = of_number (number_at run placed) refl
  where
    of_wanted : (comm : ℕ) (o : Option Wanted) → number_at run placed ≡ Some comm → wanted_at placed comm ≡ o → option_and_then (takes_by choice records placed) o ≡ None
    of_wanted comm None is e = refl
    of_wanted comm (Some wanted) is e = takes_none run choice records placed wanted none clear (is_unsure run placed wanted comm sound is e)

    of_number : (o : Option ℕ) → number_at run placed ≡ o → option_and_then (takes_by choice records placed) (option_and_then (wanted_at placed) o) ≡ None
    of_number None is = refl
    of_number (Some comm) is = of_wanted comm (wanted_at placed comm) is refl

call_none : (run : Run) (choice : Choice) (records : List Written) (placed : Placed) (it : Called) → NoSinks records → Clear run placed → is_sound run placed ≡ true → by_call run choice records placed it ≡ None
call_none run choice records placed (ReceivesMatched message) none clear sound = waits_none choice records placed (message ∷ []) none
call_none run choice records placed (Waits requests) none clear sound = waits_none choice records placed requests none
call_none run choice records placed (Tests requests) none clear sound = waits_none choice records placed requests none
call_none run choice records placed (WaitsAny requests) none clear sound = chooses_none choice records placed requests none
call_none run choice records placed (WaitsSome requests) none clear sound = chooses_none choice records placed requests none
call_none run choice records placed _ none clear sound = wanted_none run choice records placed none clear sound

none_if : (b : Bool) (o : Option Outcome) → (b ≡ true → o ≡ None) → (if b then o else None) ≡ None
none_if true o none = none refl
none_if false o none = refl

pub same_without : (run : Run) (choice : Choice) (records : List Written) (placed : Placed) → NoSinks records → why_at run placed ≡ None → outcome_in run choice records placed ≡ outcome_of run choice placed
same_without run choice records placed none why =
    in_if_none run choice records placed
    (none_if (is_sound run placed) (by_call run choice records placed placed.called)
    (λ sound. call_none run choice records placed placed.called none (clear run placed why) sound))

-- ---- Steps that start no sinks ----

abbrev pub NotSink : Step → Type 0
NotSink (Starts id call) = is_none (sink_in (Some id)) ≡ true
NotSink step = ⊤

one_none : (progress : Progress) (line : ℕ) (o : Option ℕ) (numbers : List ℕ) → NoSinks progress.records → NoSinks (wait_one progress line o numbers).records
one_none progress line None numbers none = none
one_none progress line (Some number) numbers none =
    none_append progress.records (plain line (wait_for_one number numbers ∷ [])) none (none_plain line (wait_for_one number numbers ∷ []))

step_none : (progress : Progress) (line : ℕ) (step : Step) → NotSink step → NoSinks progress.records → NoSinks (after_step progress line step).records
step_none progress line (Does call) is none = none_append progress.records (plain line (call ∷ [])) none (none_plain line (call ∷ []))
step_none progress line (Starts id call) is none = none_append progress.records _ none (is, tt)
step_none progress line (WaitsForAll ids) is none =
    let numbers = numbers_of progress.active ids in
    none_append progress.records (plain line (waits_for (length numbers) numbers)) none (none_plain line (waits_for (length numbers) numbers))
step_none progress line (WaitsForOne id ids) is none = one_none progress line (number_in progress.active id) _ none
step_none progress line (PutsOff ids) is none = none
step_none progress line WaitsForLate is none =
    let numbers = numbers_of progress.active progress.late in
    none_append progress.records (plain line (waits_for (length numbers) numbers)) none (none_plain line (waits_for (length numbers) numbers))

pub steps_none : (progress : Progress) (line : ℕ) (steps : List Step) → AllSteps NotSink steps → NoSinks progress.records → NoSinks (after_steps progress line steps).records
steps_none progress line [] all none = none
steps_none progress line (step ∷ steps) all none = steps_none (after_step progress line step) line steps all.1 (step_none progress line step all.0 none)

own_not : (it : Called) → PassOwn NotSink it
own_not (StartsSend own mode sent) = λ comm. refl
own_not (StartsReceive own awaited) = λ comm it. refl
own_not (StartsExchange own received sent awaited) = (λ comm. refl, λ comm it. refl)
own_not (ProbesMatching own awaited) = λ comm it. refl
own_not (StartsCollective own collective comm root) = λ comm. refl
own_not (StartsDuplicate own comm) = λ comm. refl
own_not _ = tt

by_not : (run : Run) (choice : Choice) (placed : Placed) (o : Option ℕ) → AllSteps NotSink (steps_by run choice placed o)
by_not run choice placed (Some comm) =
    on_comm_all NotSink (here_at run choice placed comm) placed.called
    (record { does = λ call. tt; whole = λ line call. refl; half = λ line call. refl }) (own_not placed.called)
by_not run choice placed None =
    all_unless NotSink (is_past choice.calls placed) (on_none choice placed placed.journal.lines placed.called)
    (waits_all NotSink (on_none choice placed placed.journal.lines placed.called) (λ ids. tt) (λ id ids. tt) (λ ids. tt) tt
    (none_names (λ (call : Call). ⊥) choice placed placed.journal.lines placed.called))

pub steps_not : (run : Run) (choice : Choice) (placed : Placed) → AllSteps NotSink (steps_of run choice placed)
steps_not run choice placed = by_not run choice placed (number_at run placed)

-- ---- Lists without sinks ----

pub before_not : (run : Run) (choice : Choice) (placed : Placed) (it : Called) (why : Why) → AllSteps NotSink (steps_before run choice placed it why)
before_not run choice placed (StartsExchange request received sent awaited) NeverReported = steps_not run choice placed
before_not run choice placed _ _ = tt

-- what comes of an entry starts no sinks
abbrev NotSinking : Outcome → Type 0
NotSinking (GoesOn steps) = AllSteps NotSink steps
NotSinking (Ends steps end why) = AllSteps NotSink steps

outcome_not : (run : Run) (choice : Choice) (placed : Placed) (o : Option Why) → NotSinking (outcome_by run choice placed o)
outcome_not run choice placed (Some why) = before_not run choice placed placed.called why
outcome_not run choice placed None = of_end (is_end placed.called)
  where
    of_end : (b : Bool) → NotSinking (if b then Ends (WaitsForLate ∷ []) Finalize None else GoesOn (steps_of run choice placed))
    of_end true = (tt, tt)
    of_end false = steps_not run choice placed

goes_none : (progress : Progress) (line : ℕ) (outcome : Outcome) (others : Progress → Listed) → NotSinking outcome → NoSinks progress.records → ((new : Progress) → NoSinks new.records → NoSinks (others new).records) → NoSinks (go_on progress line outcome others).records
goes_none progress line (GoesOn steps) others all none rest = rest (after_steps progress line steps) (steps_none progress line steps all none)
goes_none progress line (Ends steps end why) others all none rest = steps_none progress line steps all none

list_none : (run : Run) (choice : Choice) (entries : List Placed) (progress : Progress) → choice.unreported ≡ unreported.Ends → NoSinks progress.records → NoSinks (list_from run choice progress entries).records
list_none run choice [] progress without none = none
list_none run choice (placed ∷ others) progress without none =
    goes_none progress placed.line (outcome_in run choice progress.records placed) (λ new. list_from run choice new others)
    (subst NotSinking (sym (in_as_of run choice progress.records placed without)) (outcome_not run choice placed (why_at run placed))) none
    (λ new none_new. list_none run choice others new without none_new)

none_take : (n : ℕ) (records : List Written) → NoSinks records → NoSinks (take n records)
none_take zero records none = tt
none_take (suc n) [] none = tt
none_take (suc n) (one ∷ records) none = (none.0, none_take n records none.1)

cut_none : (it : Listed) → NoSinks it.records → NoSinks (cut it).records
cut_none it none =
    elim (cases_Bool (nat_lt (length it.records) most_records)) [
      | inl short ↦ rw short none
      | inr long ↦ rw long (none_take (most_records - 1) it.records none)
    ]

bare_none : (b : Bool) (it : Listed) → NoSinks it.records → NoSinks (without_journal b it).records
bare_none true it none = none
bare_none false it none = none

pub list_of_none : (run : Run) (choice : Choice) (rank : ℕ) → choice.unreported ≡ unreported.Ends → NoSinks (list_of run choice rank).records
list_of_none run choice rank without =
    bare_none (is_none (journal_at run rank)) (cut (whole_list run choice rank))
    (cut_none (whole_list run choice rank)
    (list_none run choice (entries_at run rank) (progress_first run rank) without (none_plain 0 (preface_of run rank))))

abbrev pub AllWithout : List Listed → Type 0
AllWithout [] = ⊤
AllWithout (list ∷ lists) = NoSinks list.records × AllWithout lists

pub all_without : (run : Run) (choice : Choice) (ranks : List ℕ) → choice.unreported ≡ unreported.Ends → AllWithout (map (list_of run choice) ranks)
all_without run choice [] without = tt
all_without run choice (rank ∷ ranks) without = (list_of_none run choice rank without, all_without run choice ranks without)
