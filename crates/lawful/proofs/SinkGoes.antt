-- What comes of an entry by the sinks before it stays when its journal goes on, but in the places of sinks.
use Rattle.std.proofs.Common.{◌≡◌, ◌⊎◌, ℕ, ◌&&◌, ◌||◌, not, Bool, true, false, Option, Some, None, is_some, is_none, if◌then◌else◌, List, [], ◌∷◌, map, filter, refl, sym, ap, subst, ◌∙◌, inl, inr}
use Rattle.std.specs.Prelude.{⊤, option_and_then, unwrap_or}
use Rattle.std.specs.List.{list_any}
use Rattle.std.specs.Option.{option_map_or}
use Rattle.std.proofs.lemmas.Bool.{cases_Bool, false≢true, or_parts}
use Rattle.std.proofs.lemmas.Option.{none-some, same_Some}
use Rattle.mpicall.specs.Word.{or_else}
use Rattle.mpicall.specs.declared.call.Call.TheVariants.{Finalize, Open}
use Rattle.journals.specs.Lines.{Line}
use Rattle.journals.specs.Known.{has_report, report_of, requests_in}
use Rattle.journals.specs.declared.word.ReportWord.TheVariants as report
use Rattle.closing.specs.Called.{Called, Sent, Awaited, StartsSend, StartsReceive, StartsExchange, ProbesMatching, ReceivesMatched, Waits, Tests, WaitsAny, WaitsSome, StartsCollective, StartsDuplicate}
use Rattle.closing.specs.Keys.{Key}
use Rattle.closing.specs.RankComms.{makes_comm}
use Rattle.closing.specs.Entries.{Run, Placed, is_window}
use Rattle.closing.specs.Numbers.{named_key, number_of}
use Rattle.closing.specs.Reported.{Message, is_left_out}
use Rattle.closing.specs.Steps.{Id, Written, Progress, Step, WaitsForAll, WaitsForLate, after_step, after_steps}
use Rattle.closing.specs.Endings.{breaks_off, can_be, chose_none, first_of, is_unknown, is_unreported, lacks_number, message_at, needs_number, number_at, why_at}
use Rattle.closing.specs.Entry.{Choice, here_at, id_of, is_of_send, ids_of, maker, matched_message, chosen, passes_tests, pass_test, wait_for_all, wait_for_one, unless_past, on_comm, on_none, steps_by, steps_of}
use Rattle.closing.specs.Recording.{is_end, steps_before, outcome_by, outcome_of, outcome_in, go_on, list_from}
use Rattle.closing.specs.Sinks.{Outcome, GoesOn, Ends, ends, is_nobody, name_sink, sink_for, waits_by, chooses_by, is_sound, by_call, outcome_by_sinks}
use Rattle.closing.specs.declared.choice.Calls.TheVariants.{Strict}
use Rattle.closing.specs.declared.choice.Unreported.TheVariants as unreported
use Rattle.closing.specs.declared.why.Why.{Why}
use Rattle.closing.specs.declared.why.Why.TheVariants.{NeverCameBack, NeverReported, NotJudged, Failed, NoNumber, CannotBe}
use Rattle.lawful.specs.Longer.{IsKept, is_silent}
use Rattle.lawful.specs.LongerSinks.{last_may_change, is_exchange}
use Rattle.lawful.proofs.OwnSteps.{PassOwn, on_comm_all}
use Rattle.lawful.proofs.NewNumbers.{AllOf}
use Rattle.lawful.proofs.NoSinks.{clear}
use Rattle.lawful.proofs.PlainSteps.{strict_past}
use Rattle.lawful.proofs.LongerLemmas.{StaysOf, More, with_more, IsOver}
use Rattle.lawful.proofs.LongerSteps.{breaks_kept, can_stay, chose_by, chosen_stays, ids_stay, number_same, steps_stay, why_stays}
use Rattle.lawful.proofs.LongerLists.{maker_no_end}
use Rattle.lawful.proofs.SentRequests.{Sound as SoundLines}
use Rattle.lawful.proofs.SinkStays.{AreSends, a_send, put_off_alike, Pairs, Alike, Clear, IsCall, has_sink, is_active_sink, sinks_stay, none_sunk, none_found, calls_alike, all_alike, one_alike, late_alike}

-- both runs have the same of communicators
pub record Both (run longer : Run) (choice : Choice) : Type 0 where
  pub strict : choice.calls ≡ Strict
  pub with_sinks : choice.unreported ≡ unreported.Sinks
  pub numbers : (key : Key) → number_of longer key ≡ number_of run key
  pub windows : is_window run ≡ true → is_window longer ≡ true

-- of an entry nothing is reported later that breaks its list off
pub record Fine (run longer : Run) (placed : Placed) (it : More placed) : Type 0 where
  pub kept : IsKept run longer placed (with_more placed it)
  pub nobody : (m : Message) → message_at placed ≡ None → message_at (with_more placed it) ≡ Some m → is_nobody m.source ≡ false

-- ---- Outcomes ----

-- what comes of an entry in both: the list ends and has nothing of it, or it goes on or ends alike
abbrev pub Comes : List Line → Progress → Progress → ℕ → Outcome → Outcome → Type 0
Comes lines old new line (GoesOn steps) (GoesOn others) = Alike lines (after_steps old line steps) (after_steps new line others)
Comes lines old new line (GoesOn steps) (Ends others end why) = ⊥
Comes lines old new line (Ends steps end why) (GoesOn others) = steps ≡ []
Comes lines old new line (Ends steps end why) (Ends others also reason) = (steps ≡ []) ⊎ Alike lines (after_steps old line steps) (after_steps new line others)

pub stops : (lines : List Line) (old new : Progress) (line : ℕ) (steps : List Step) (why : Option Why) (other : Outcome) → steps ≡ [] → Comes lines old new line (Ends steps Open why) other
stops lines old new line steps why (GoesOn others) none = none
stops lines old new line steps why (Ends others end reason) none = inl none

-- the last call, whose records may be others
pub record IsLast (run : Run) (choice : Choice) (placed : Placed) (entries : List Placed) (old : Progress) : Type 0 where
  pub steps : List Step
  pub list : (list_from run choice old (placed ∷ entries)).records ≡ (after_steps old placed.line steps).records
  pub may : last_may_change (placed ∷ entries) ≡ true

abbrev pub Result : Run → Run → Choice → (placed : Placed) → More placed → List Placed → Progress → Progress → Type 0
Result run longer choice placed it entries old new =
    Comes placed.journal.lines old new placed.line (outcome_in run choice old.records placed) (outcome_in longer choice new.records (with_more placed it))
    ⊎ IsLast run choice placed entries old

-- ---- Sound calls ----

abbrev three : Bool → Bool → Bool → Option Why
three a b c = first_of ((a, Failed) ∷ (b, CannotBe) ∷ (c, NoNumber) ∷ [])

abbrev pub five : Bool → Bool → Bool → Bool → Bool → Option Why
five a b c d e = first_of ((a, Failed) ∷ (b, CannotBe) ∷ (c, NoNumber) ∷ (d, NeverReported) ∷ (e, NeverCameBack) ∷ [])

pub record Sound (o : Option Why) (a b c : Bool) : Type 0 where
  pub breaks : o ≡ None
  pub well : a ≡ false
  pub can : b ≡ false
  pub numbered : c ≡ false

sound_of : (o : Option Why) (a b c : Bool) → is_none (or_else o (three a b c)) ≡ true → Sound o a b c
sound_of (Some why) a b c h = absurd (false≢true h)
sound_of None true b c h = absurd (false≢true h)
sound_of None false true c h = absurd (false≢true h)
sound_of None false false true h = absurd (false≢true h)
sound_of None false false false h = record { breaks = refl; well = refl; can = refl; numbered = refl }

sound_by : (o : Option Why) (a b c : Bool) → o ≡ None → a ≡ false → b ≡ false → c ≡ false → is_none (or_else o (three a b c)) ≡ true
sound_by o a b c breaks well can numbered = rw (breaks, well, can, numbered) refl

pub none_by : (o : Option Why) (a b c d e : Bool) → o ≡ None → a ≡ false → b ≡ false → c ≡ false → d ≡ false → e ≡ false → or_else o (five a b c d e) ≡ None
none_by o a b c d e breaks well can numbered told known = rw (breaks, well, can, numbered, told, known) refl

pub sound_at : (run : Run) (placed : Placed) → is_sound run placed ≡ true → Sound (breaks_off (is_window run) placed.called) (has_report report.Failed placed.entry) (not (can_be run placed)) (lacks_number run placed)
sound_at run placed h = sound_of (breaks_off (is_window run) placed.called) (has_report report.Failed placed.entry) (not (can_be run placed)) (lacks_number run placed) h

lacks_still : (run longer : Run) (placed : Placed) (it : More placed) → ((key : Key) → number_of longer key ≡ number_of run key) → lacks_number run placed ≡ false → lacks_number longer (with_more placed it) ≡ false
lacks_still run longer placed it numbers h = ap (λ (o : Option ℕ). needs_number placed.called && is_none o) (number_same run longer (named_key placed) numbers) ∙ h

pub sound_kept : (run longer : Run) (choice : Choice) (placed : Placed) (it : More placed) → Both run longer choice → Fine run longer placed it → is_sound run placed ≡ true → is_sound longer (with_more placed it) ≡ true
sound_kept run longer choice placed it both fine h =
    let is = sound_at run placed h in
    sound_by (breaks_off (is_window longer) placed.called) (has_report report.Failed it.entry) (not (can_be longer (with_more placed it))) (lacks_number longer (with_more placed it))
    (breaks_kept (is_window run) (is_window longer) placed.called both.windows is.breaks) (fine.kept.failed is.well) (can_stay run longer placed it fine.kept is.can) (lacks_still run longer placed it both.numbers is.numbered)

unsound_why : (o : Option Why) (a b c d e : Bool) → is_none (or_else o (three a b c)) ≡ false → or_else o (five a b c d e) ≡ or_else o (three a b c)
unsound_why (Some why) a b c d e h = refl
unsound_why None true b c d e h = refl
unsound_why None false true c d e h = refl
unsound_why None false false true d e h = refl
unsound_why None false false false d e h = absurd (false≢true (sym h))

some_why : (o : Option Why) → is_none o ≡ false → (why : Why) × (o ≡ Some why)
some_why None h = absurd (false≢true (sym h))
some_why (Some why) h = (why, refl)

exchange_three : (run : Run) (choice : Choice) (placed : Placed) (request received : ℕ) (sent : Sent) (awaited : Awaited) (a b c : Bool) (why : Why) → three a b c ≡ Some why → steps_before run choice placed (StartsExchange request received sent awaited) why ≡ []
exchange_three run choice placed request received sent awaited true b c why h =
    subst (λ (w : Why). steps_before run choice placed (StartsExchange request received sent awaited) w ≡ []) (same_Some Failed why h) refl
exchange_three run choice placed request received sent awaited false true c why h =
    subst (λ (w : Why). steps_before run choice placed (StartsExchange request received sent awaited) w ≡ []) (same_Some CannotBe why h) refl
exchange_three run choice placed request received sent awaited false false true why h =
    subst (λ (w : Why). steps_before run choice placed (StartsExchange request received sent awaited) w ≡ []) (same_Some NoNumber why h) refl
exchange_three run choice placed request received sent awaited false false false why h = absurd (none-some why h)

before_three : (run : Run) (choice : Choice) (placed : Placed) (it : Called) (window a b c : Bool) (why : Why) → or_else (breaks_off window it) (three a b c) ≡ Some why → steps_before run choice placed it why ≡ []
before_three run choice placed (StartsExchange request received sent awaited) window a b c why h = exchange_three run choice placed request received sent awaited a b c why h
before_three run choice placed _ window a b c why h = refl

in_sinks : (run : Run) (choice : Choice) (records : List Written) (placed : Placed) → choice.unreported ≡ unreported.Sinks → outcome_in run choice records placed ≡ unwrap_or (outcome_by_sinks run choice records placed) (outcome_of run choice placed)
in_sinks run choice records placed is = rw is refl

pub in_by : (run : Run) (choice : Choice) (records : List Written) (placed : Placed) (o : Option Outcome) → choice.unreported ≡ unreported.Sinks → is_sound run placed ≡ true → by_call run choice records placed placed.called ≡ o → outcome_in run choice records placed ≡ unwrap_or o (outcome_of run choice placed)
in_by run choice records placed o sunk sound is =
    in_sinks run choice records placed sunk
    ∙ ap (λ (b : Bool). unwrap_or (if b then by_call run choice records placed placed.called else None) (outcome_of run choice placed)) sound
    ∙ ap (λ (one : Option Outcome). unwrap_or one (outcome_of run choice placed)) is

pub unsound_result : (run longer : Run) (choice : Choice) (placed : Placed) (it : More placed) (entries : List Placed) (old new : Progress) → Both run longer choice → is_sound run placed ≡ false → Result run longer choice placed it entries old new
unsound_result run longer choice placed it entries old new both h =
    let same = unsound_why (breaks_off (is_window run) placed.called) (has_report report.Failed placed.entry) (not (can_be run placed)) (lacks_number run placed) (is_unreported placed placed.called) (is_unknown placed placed.called) h in
    let why = some_why (or_else (breaks_off (is_window run) placed.called) (three (has_report report.Failed placed.entry) (not (can_be run placed)) (lacks_number run placed))) h in
    let is : outcome_in run choice old.records placed ≡ outcome_by run choice placed (Some why.0) =
    in_sinks run choice old.records placed both.with_sinks
    ∙ ap (λ (b : Bool). unwrap_or (if b then by_call run choice old.records placed placed.called else None) (outcome_of run choice placed)) h
    ∙ ap (λ (o : Option Why). outcome_by run choice placed o) (same ∙ why.1) in
    inl (subst (λ (one : Outcome). Comes placed.journal.lines old new placed.line one (outcome_in longer choice new.records (with_more placed it))) (sym is)
    (stops placed.journal.lines old new placed.line (steps_before run choice placed placed.called why.0) (Some why.0) (outcome_in longer choice new.records (with_more placed it))
    (before_three run choice placed placed.called (is_window run) (has_report report.Failed placed.entry) (not (can_be run placed)) (lacks_number run placed) why.0 why.1)))

-- ---- Steps without sinks ----

own_calls : (it : Called) → PassOwn IsCall it
own_calls (StartsSend own mode sent) = λ comm request. refl
own_calls (StartsReceive own awaited) = λ comm it request. refl
own_calls (StartsExchange own received sent awaited) = (λ comm request. refl, λ comm it request. refl)
own_calls (ProbesMatching own awaited) = λ comm it request. refl
own_calls (StartsCollective own collective comm root) = λ comm request. refl
own_calls (StartsDuplicate own comm) = λ comm request. refl
own_calls _ = tt

abbrev pub NamesNone : List Written → Placed → Called → Type 0
NamesNone records placed (ReceivesMatched message) = name_sink records placed (message ∷ []) ≡ false
NamesNone records placed (Waits requests) = name_sink records placed requests ≡ false
NamesNone records placed (Tests requests) = name_sink records placed requests ≡ false
NamesNone records placed (WaitsAny requests) = name_sink records placed (chosen placed requests) ≡ false
NamesNone records placed (WaitsSome requests) = name_sink records placed (chosen placed requests) ≡ false
NamesNone records placed it = ⊤

abbrev some_sunk : List Written → List Id → Bool
some_sunk records ids = list_any (λ id. is_some (sink_for records id)) ids

clear_map : (lines : List Line) (records : List Written) (active : List (Id × ℕ)) (requests : List ℕ) → ((request : ℕ) → has_sink request records ≡ false → is_active_sink request active ≡ false) → some_sunk records (map (id_of lines) requests) ≡ false → Clear active (map (id_of lines) requests)
clear_map lines records active [] covers none = tt
clear_map lines records active (request ∷ requests) covers none =
    let parts = or_parts (is_some (sink_for records (id_of lines request))) (some_sunk records (map (id_of lines) requests)) none in
    let own = option_map_or (λ (message : ℕ). message) (matched_message lines request) request in (
      record { request = own; is = refl; none = covers own (none_sunk own records parts.0) },
      clear_map lines records active requests covers parts.1,
    )

clear_ids : (old new : Progress) (placed : Placed) (requests : List ℕ) → Alike placed.journal.lines old new → name_sink old.records placed requests ≡ false → Clear old.active (ids_of placed.journal.lines requests)
clear_ids old new placed requests alike none =
    clear_map placed.journal.lines old.records old.active (filter (λ request. not (is_left_out placed.journal.lines request)) requests) alike.covers none

one_of : (lines : List Line) (old new : Progress) (line : ℕ) (ids named : List Id) → Clear old.active ids → Alike lines old new → Alike lines (after_steps old line (wait_for_one ids named)) (after_steps new line (wait_for_one ids named))
one_of lines old new line [] named clear alike = alike
one_of lines old new line (id ∷ ids) named clear alike = one_alike lines old new line id named clear.0 alike

waits_alike : (old new : Progress) (placed : Placed) (requests : List ℕ) → Alike placed.journal.lines old new → name_sink old.records placed requests ≡ false → Alike placed.journal.lines (after_steps old placed.line (wait_for_all placed.journal.lines requests)) (after_steps new placed.line (wait_for_all placed.journal.lines requests))
waits_alike old new placed requests alike none = all_alike placed.journal.lines old new placed.line (ids_of placed.journal.lines requests) (clear_ids old new placed requests alike none) alike

-- of fewer requests none is a sink's either
clear_fewer : (lines : List Line) (active : List (Id × ℕ)) (test : ℕ → Bool) (requests : List ℕ) → Clear active (ids_of lines requests) → Clear active (ids_of lines (filter test requests))
clear_fewer lines active test [] all = tt
clear_fewer lines active test (request ∷ requests) all =
    elim (cases_Bool (is_left_out lines request)) [
      | inl out ↦
          let rest : Clear active (ids_of lines requests) = rw out at all in
          elim (cases_Bool (test request)) [
            | inl stays ↦ rw (stays, out) (clear_fewer lines active test requests rest)
            | inr goes ↦ rw goes (clear_fewer lines active test requests rest)
          ]
      | inr named ↦
          let both : Clear active (id_of lines request ∷ ids_of lines requests) = rw named at all in
          elim (cases_Bool (test request)) [
            | inl stays ↦ rw (stays, named) (both.0, clear_fewer lines active test requests both.1)
            | inr goes ↦ rw goes (clear_fewer lines active test requests both.1)
          ]
    ]

unmatched : (lines : List Line) (request : ℕ) (o : Option ℕ) → SoundLines lines → is_of_send lines request ≡ true → matched_message lines request ≡ o → o ≡ None
unmatched lines request None sound sent is = refl
unmatched lines request (Some message) sound sent is = absurd (false≢true (sym (sound.receives request message is).0 ∙ sent))

sent_of : (lines : List Line) (requests : List ℕ) → SoundLines lines → AreSends lines (ids_of lines (filter (is_of_send lines) requests))
sent_of lines [] sound = tt
sent_of lines (request ∷ requests) sound =
    elim (cases_Bool (is_of_send lines request)) [
      | inl sent ↦
          elim (cases_Bool (is_left_out lines request)) [
            | inl out ↦ rw (sent, out) (sent_of lines requests sound)
            | inr named ↦ rw (sent, named) (
              a_send lines request (unmatched lines request (matched_message lines request) sound sent refl) sent,
              sent_of lines requests sound,
            )
          ]
      | inr other ↦ rw other (sent_of lines requests sound)
    ]

-- a test that is passed puts off the requests of sends
passes_alike : (old new : Progress) (placed : Placed) (requests : List ℕ) → SoundLines placed.journal.lines → Alike placed.journal.lines old new → name_sink old.records placed requests ≡ false → Alike placed.journal.lines (after_steps old placed.line (pass_test placed.journal.lines requests)) (after_steps new placed.line (pass_test placed.journal.lines requests))
passes_alike old new placed requests sound alike none =
    let lines = placed.journal.lines in
    let ids = ids_of lines (filter (λ request. not (is_of_send lines request)) requests) in
    put_off_alike lines (after_step old placed.line (WaitsForAll ids)) (after_step new placed.line (WaitsForAll ids)) placed.line
    (ids_of lines (filter (is_of_send lines) requests)) (sent_of lines requests sound)
    (all_alike lines old new placed.line ids (clear_fewer lines old.active (λ request. not (is_of_send lines request)) requests (clear_ids old new placed requests alike none)) alike)

none_alike : (choice : Choice) (old new : Progress) (placed : Placed) (it : Called) → SoundLines placed.journal.lines → Alike placed.journal.lines old new → NamesNone old.records placed it → Alike placed.journal.lines (after_steps old placed.line (on_none choice placed placed.journal.lines it)) (after_steps new placed.line (on_none choice placed placed.journal.lines it))
none_alike choice old new placed (ReceivesMatched message) sound alike none = waits_alike old new placed (message ∷ []) alike none
none_alike choice old new placed (Waits requests) sound alike none = waits_alike old new placed requests alike none
none_alike choice old new placed (Tests requests) sound alike none = by_tests (passes_tests choice.tests choice.calls)
  where
    tested : Bool → List Step
    tested b = if b then pass_test placed.journal.lines requests else wait_for_all placed.journal.lines requests

    by_tests : (b : Bool) → Alike placed.journal.lines (after_steps old placed.line (tested b)) (after_steps new placed.line (tested b))
    by_tests true = passes_alike old new placed requests sound alike none
    by_tests false = waits_alike old new placed requests alike none
none_alike choice old new placed (WaitsAny []) sound alike none =
    one_of placed.journal.lines old new placed.line (ids_of placed.journal.lines (chosen placed [])) (ids_of placed.journal.lines []) (clear_ids old new placed (chosen placed []) alike none) alike
none_alike choice old new placed (WaitsAny (request ∷ [])) sound alike none = waits_alike old new placed (request ∷ []) alike none
none_alike choice old new placed (WaitsAny (one ∷ two ∷ requests)) sound alike none =
    one_of placed.journal.lines old new placed.line (ids_of placed.journal.lines (chosen placed (one ∷ two ∷ requests))) (ids_of placed.journal.lines (one ∷ two ∷ requests))
    (clear_ids old new placed (chosen placed (one ∷ two ∷ requests)) alike none) alike
none_alike choice old new placed (WaitsSome requests) sound alike none = waits_alike old new placed (chosen placed requests) alike none
none_alike choice old new placed _ sound alike none = alike

by_alike : (run : Run) (choice : Choice) (old new : Progress) (placed : Placed) (o : Option ℕ) → choice.calls ≡ Strict → SoundLines placed.journal.lines → Alike placed.journal.lines old new → NamesNone old.records placed placed.called → Alike placed.journal.lines (after_steps old placed.line (steps_by run choice placed o)) (after_steps new placed.line (steps_by run choice placed o))
by_alike run choice old new placed (Some comm) strict sound alike none =
    calls_alike placed.journal.lines old new placed.line (on_comm (here_at run choice placed comm) placed.called)
    (on_comm_all IsCall (here_at run choice placed comm) placed.called (record { does = λ call. tt; whole = λ line call request. refl; half = λ line call request. refl }) (own_calls placed.called)) alike
by_alike run choice old new placed None strict sound alike none =
    let steps = on_none choice placed placed.journal.lines placed.called in
    subst (λ (b : Bool). Alike placed.journal.lines (after_steps old placed.line (unless_past b steps)) (after_steps new placed.line (unless_past b steps))) (sym (strict_past choice placed strict))
    (none_alike choice old new placed placed.called sound alike none)

-- ---- What comes without sinks ----

-- what makes communicators stands for the same
abbrev pub MakerStays : Run → Run → (placed : Placed) → More placed → Type 0
MakerStays run longer placed it = makes_comm placed.called ≡ true → (comm : ℕ) → maker longer (with_more placed it) comm ≡ maker run placed comm

abbrev end_by : Run → Choice → Placed → Bool → Outcome
end_by run choice placed b = if b then Ends (WaitsForLate ∷ []) Finalize None else GoesOn (steps_of run choice placed)

goes_comes : (run longer : Run) (choice : Choice) (placed : Placed) (it : More placed) (old new : Progress) → Both run longer choice → Alike placed.journal.lines old new → why_at run placed ≡ None → MakerStays run longer placed it → NamesNone old.records placed placed.called → Comes placed.journal.lines old new placed.line (end_by run choice placed (is_end placed.called)) (end_by longer choice (with_more placed it) (is_end placed.called))
goes_comes run longer choice placed it old new both alike why maker none = by_end (is_end placed.called)
  where
    by_end : (b : Bool) → Comes placed.journal.lines old new placed.line (end_by run choice placed b) (end_by longer choice (with_more placed it) b)
    by_end true = inr (late_alike placed.journal.lines old new placed.line alike)
    by_end false =
        let is = clear run placed why in
        subst (λ (steps : List Step). Alike placed.journal.lines (after_steps old placed.line (steps_of run choice placed)) (after_steps new placed.line steps))
        (sym (steps_stay run longer choice placed it both.strict both.numbers is.told is.known maker))
        (by_alike run choice old new placed (number_at run placed) both.strict it.sound alike none)

-- where the maker may be silent it is the last call
abbrev pub Silent : Run → Run → (placed : Placed) → More placed → List Placed → Type 0
Silent run longer placed it entries = MakerStays run longer placed it ⊎ ((entries ≡ []) × (makes_comm placed.called ≡ true) × (is_silent placed ≡ true))

silent_last : (run : Run) (choice : Choice) (placed : Placed) (entries : List Placed) (old : Progress) → outcome_in run choice old.records placed ≡ GoesOn (steps_of run choice placed) → entries ≡ [] → is_silent placed ≡ true → IsLast run choice placed entries old
silent_last run choice placed entries old is last silent =
    subst (λ (es : List Placed). IsLast run choice placed es old) (sym last)
    (record {
      steps = steps_of run choice placed;
      list = ap (λ (one : Outcome). (go_on old placed.line one (λ next. list_from run choice next [])).records) is;
      may = ap (λ (b : Bool). b || (is_exchange placed.called && not placed.came_back)) silent;
    })

plain_result : (run longer : Run) (choice : Choice) (placed : Placed) (it : More placed) (entries : List Placed) (old new : Progress) → Both run longer choice → Fine run longer placed it → Alike placed.journal.lines old new → Silent run longer placed it entries → outcome_in run choice old.records placed ≡ outcome_of run choice placed → ((why : Why) → why_at run placed ≡ Some why → steps_before run choice placed placed.called why ≡ []) → (why_at run placed ≡ None → NamesNone old.records placed placed.called × (outcome_in longer choice new.records (with_more placed it) ≡ outcome_of longer choice (with_more placed it))) → Result run longer choice placed it entries old new
plain_result run longer choice placed it entries old new both fine alike silent is before goes = by_why (why_at run placed) refl
  where
    other : Outcome
    other = outcome_in longer choice new.records (with_more placed it)

    of_silent : Silent run longer placed it entries → why_at run placed ≡ None → Result run longer choice placed it entries old new
    of_silent (inl maker) why =
        let go = goes why in
        inl (subst (λ (one : Outcome). Comes placed.journal.lines old new placed.line one other) (sym (is ∙ ap (λ (o : Option Why). outcome_by run choice placed o) why))
        (subst (λ (one : Outcome). Comes placed.journal.lines old new placed.line (end_by run choice placed (is_end placed.called)) one)
        (sym (go.1 ∙ ap (λ (o : Option Why). outcome_by longer choice (with_more placed it) o) (why_stays run longer placed it both.numbers both.windows fine.kept why)))
        (goes_comes run longer choice placed it old new both alike why maker go.0)))
    of_silent (inr it) why =
        inr (silent_last run choice placed entries old
        (is ∙ ap (λ (o : Option Why). outcome_by run choice placed o) why ∙ ap (λ (b : Bool). end_by run choice placed b) (maker_no_end placed.called it.1)) it.0 it.2)

    by_why : (o : Option Why) → why_at run placed ≡ o → Result run longer choice placed it entries old new
    by_why None why = of_silent silent why
    by_why (Some reason) why =
        inl (subst (λ (one : Outcome). Comes placed.journal.lines old new placed.line one other) (sym (is ∙ ap (λ (o : Option Why). outcome_by run choice placed o) why))
        (stops placed.journal.lines old new placed.line (steps_before run choice placed placed.called reason) (Some reason) other (before reason why)))

-- ---- Waits ----

abbrev waits_if : Bool → Bool → Bool → Option Outcome
waits_if past named back = if past || not named then None else Some (ends (if back then NotJudged else NeverCameBack))

name_kept : (lines : List Line) (old new : List Written) (requests : List ℕ) → Pairs old new → some_sunk old (map (id_of lines) requests) ≡ false → some_sunk new (map (id_of lines) requests) ≡ false
name_kept lines old new [] pairs none = refl
name_kept lines old new (request ∷ requests) pairs none =
    let parts = or_parts (is_some (sink_for old (id_of lines request))) (some_sunk old (map (id_of lines) requests)) none in
    let own = option_map_or (λ (message : ℕ). message) (matched_message lines request) request in
    both_false (is_some (sink_for new (id_of lines request))) (some_sunk new (map (id_of lines) requests))
    (none_found own new (sinks_stay own old new pairs (none_sunk own old parts.0))) (name_kept lines old new requests pairs parts.1)
  where
    both_false : (a b : Bool) → a ≡ false → b ≡ false → (a || b) ≡ false
    both_false a b first second = rw (first, second) refl

names_none : (old new : Progress) (placed : Placed) (it : More placed) (requests : List ℕ) → Alike placed.journal.lines old new → AllOf (StaysOf placed.journal.lines it.later.lines) requests → name_sink old.records placed requests ≡ false → name_sink new.records (with_more placed it) requests ≡ false
names_none old new placed it requests alike all none =
    ap (λ (ids : List Id). some_sunk new.records ids) (ids_stay placed.journal.lines it.later.lines requests all)
    ∙ name_kept placed.journal.lines old.records new.records (filter (λ request. not (is_left_out placed.journal.lines request)) requests) alike.records none

waits_none : (choice : Choice) (records : List Written) (placed : Placed) (requests : List ℕ) → choice.calls ≡ Strict → name_sink records placed requests ≡ false → waits_by choice records placed requests ≡ None
waits_none choice records placed requests strict none =
    ap (λ (b : Bool). waits_if b (name_sink records placed requests) placed.came_back) (strict_past choice placed strict)
    ∙ ap (λ (b : Bool). waits_if false b placed.came_back) none

waits_some : (choice : Choice) (records : List Written) (placed : Placed) (requests : List ℕ) → choice.calls ≡ Strict → name_sink records placed requests ≡ true → waits_by choice records placed requests ≡ Some (ends (if placed.came_back then NotJudged else NeverCameBack))
waits_some choice records placed requests strict some =
    ap (λ (b : Bool). waits_if b (name_sink records placed requests) placed.came_back) (strict_past choice placed strict)
    ∙ ap (λ (b : Bool). waits_if false b placed.came_back) some

-- what the proof of each kind of entry has
pub record Case (run longer : Run) (choice : Choice) (placed : Placed) (it : More placed) (entries : List Placed) (old new : Progress) : Type 0 where
  pub both : Both run longer choice
  pub fine : Fine run longer placed it
  pub alike : Alike placed.journal.lines old new
  pub silent : Silent run longer placed it entries
  pub sound : is_sound run placed ≡ true
  pub over : (entries ≡ []) ⊎ IsOver placed (with_more placed it)

abbrev pub BeforeNone : Run → Choice → Placed → Type 0
BeforeNone run choice placed = (why : Why) → why_at run placed ≡ Some why → steps_before run choice placed placed.called why ≡ []

pub none_result : (run longer : Run) (choice : Choice) (placed : Placed) (it : More placed) (entries : List Placed) (old new : Progress) → Case run longer choice placed it entries old new → BeforeNone run choice placed → by_call run choice old.records placed placed.called ≡ None → (why_at run placed ≡ None → NamesNone old.records placed placed.called × (by_call longer choice new.records (with_more placed it) placed.called ≡ None)) → Result run longer choice placed it entries old new
none_result run longer choice placed it entries old new case before none also =
    plain_result run longer choice placed it entries old new case.both case.fine case.alike case.silent
    (in_by run choice old.records placed None case.both.with_sinks case.sound none) before
    (λ why. ((also why).0, in_by longer choice new.records (with_more placed it) None case.both.with_sinks (sound_kept run longer choice placed it case.both case.fine case.sound) (also why).1))

pub ended_result : (run longer : Run) (choice : Choice) (placed : Placed) (it : More placed) (entries : List Placed) (old new : Progress) (why : Why) → Case run longer choice placed it entries old new → by_call run choice old.records placed placed.called ≡ Some (ends why) → Result run longer choice placed it entries old new
ended_result run longer choice placed it entries old new why case is =
    inl (subst (λ (one : Outcome). Comes placed.journal.lines old new placed.line one (outcome_in longer choice new.records (with_more placed it)))
    (sym (in_by run choice old.records placed (Some (ends why)) case.both.with_sinks case.sound is))
    (stops placed.journal.lines old new placed.line [] (Some why) (outcome_in longer choice new.records (with_more placed it)) refl))

pub waits_result : (run longer : Run) (choice : Choice) (placed : Placed) (it : More placed) (entries : List Placed) (old new : Progress) (requests : List ℕ) → Case run longer choice placed it entries old new → BeforeNone run choice placed → AllOf (StaysOf placed.journal.lines it.later.lines) requests → (name_sink old.records placed requests ≡ false → NamesNone old.records placed placed.called) → by_call run choice old.records placed placed.called ≡ waits_by choice old.records placed requests → by_call longer choice new.records (with_more placed it) placed.called ≡ waits_by choice new.records (with_more placed it) requests → Result run longer choice placed it entries old new
waits_result run longer choice placed it entries old new requests case before all names is also = by_name (name_sink old.records placed requests) refl
  where
    by_name : (b : Bool) → name_sink old.records placed requests ≡ b → Result run longer choice placed it entries old new
    by_name true named =
        ended_result run longer choice placed it entries old new (if placed.came_back then NotJudged else NeverCameBack) case
        (is ∙ waits_some choice old.records placed requests case.both.strict named)
    by_name false named =
        none_result run longer choice placed it entries old new case before (is ∙ waits_none choice old.records placed requests case.both.strict named)
        (λ why. (names named, also ∙ waits_none choice new.records (with_more placed it) requests case.both.strict (names_none old new placed it requests case.alike all named)))

line_none : (choice : Choice) (records : List Written) (placed : Placed) (o : Option Line) → is_none o ≡ true → option_and_then (λ line. waits_by choice records placed (requests_in (Some line))) o ≡ None
line_none choice records placed None h = refl
line_none choice records placed (Some line) h = absurd (false≢true h)

chooses_none : (choice : Choice) (records : List Written) (placed : Placed) (requests : List ℕ) → chose_none placed requests ≡ true → chooses_by choice records placed requests ≡ None
chooses_none choice records placed [] h = line_none choice records placed (report_of report.Chose placed.entry) h
chooses_none choice records placed (request ∷ []) h = absurd (false≢true h)
chooses_none choice records placed (one ∷ two ∷ requests) h = line_none choice records placed (report_of report.Chose placed.entry) h

line_some : (choice : Choice) (records : List Written) (placed : Placed) (o : Option Line) → is_none o ≡ false → option_and_then (λ line. waits_by choice records placed (requests_in (Some line))) o ≡ waits_by choice records placed (requests_in o)
line_some choice records placed None h = absurd (false≢true (sym h))
line_some choice records placed (Some line) h = refl

chooses_some : (choice : Choice) (records : List Written) (placed : Placed) (requests : List ℕ) → chose_none placed requests ≡ false → chooses_by choice records placed requests ≡ waits_by choice records placed (chosen placed requests)
chooses_some choice records placed [] h = line_some choice records placed (report_of report.Chose placed.entry) h
chooses_some choice records placed (request ∷ []) h = refl
chooses_some choice records placed (one ∷ two ∷ requests) h = line_some choice records placed (report_of report.Chose placed.entry) h

chose_still : (placed : Placed) (it : More placed) (requests : List ℕ) → chose_none placed requests ≡ false → chose_none (with_more placed it) requests ≡ false
chose_still placed it [] h = ap (λ (o : Option Line). is_none o) (chose_by placed it h) ∙ h
chose_still placed it (request ∷ []) h = refl
chose_still placed it (one ∷ two ∷ requests) h = ap (λ (o : Option Line). is_none o) (chose_by placed it h) ∙ h

pub chooses_result : (run longer : Run) (choice : Choice) (placed : Placed) (it : More placed) (entries : List Placed) (old new : Progress) (requests : List ℕ) → Case run longer choice placed it entries old new → BeforeNone run choice placed → AllOf (StaysOf placed.journal.lines it.later.lines) requests → (name_sink old.records placed (chosen placed requests) ≡ false → NamesNone old.records placed placed.called) → (is_unknown placed placed.called ≡ chose_none placed requests) → by_call run choice old.records placed placed.called ≡ chooses_by choice old.records placed requests → by_call longer choice new.records (with_more placed it) placed.called ≡ chooses_by choice new.records (with_more placed it) requests → Result run longer choice placed it entries old new
chooses_result run longer choice placed it entries old new requests case before all names unknown is also = by_none (chose_none placed requests) refl
  where
    by_none : (b : Bool) → chose_none placed requests ≡ b → Result run longer choice placed it entries old new
    by_none true none =
        none_result run longer choice placed it entries old new case before (is ∙ chooses_none choice old.records placed requests none)
        (λ why. absurd (false≢true (sym (clear run placed why).known ∙ unknown ∙ none)))
    by_none false some =
        let own = chosen_stays placed it requests all some in
        waits_result run longer choice placed it entries old new (chosen placed requests) case before own.all names
        (is ∙ chooses_some choice old.records placed requests some)
        (also ∙ chooses_some choice new.records (with_more placed it) requests (chose_still placed it requests some)
        ∙ ap (λ (rs : List ℕ). waits_by choice new.records (with_more placed it) rs) own.same)
