-- A plain entry says the same when its journal goes on, and so its list begins alike.
use Rattle.std.proofs.Common.{◌≡◌, ℕ, ◌&&◌, ◌||◌, if◌then◌else◌, not, Bool, true, false, Option, Some, None, List, [], ◌∷◌, ◌++◌, length, map, refl, sym, ap, subst, ◌∙◌}
use Rattle.std.specs.Prelude.{is_none, option_and_then}
use Rattle.std.specs.List.{list_all}
use Rattle.std.specs.Option.{option_map_or}
use Rattle.std.proofs.lemmas.Bool.{and_parts, false≢true}
use Rattle.std.proofs.lemmas.Option.{none-some}
use Rattle.mpicall.specs.Word.{or_else}
use Rattle.mpicall.specs.declared.call.Call.{Call}
use Rattle.mpicall.specs.declared.call.Call.TheVariants.{Coll}
use Rattle.journals.specs.Lines.{Line}
use Rattle.journals.specs.Journal.{Journal}
use Rattle.journals.specs.Known.{has_report}
use Rattle.journals.specs.declared.word.ReportWord.TheVariants as report
use Rattle.closing.specs.Called.{Called, Awaited, Sends, StartsSend, Receives, StartsReceive, Exchanges, Probes, Waits, Collects, StartsCollective}
use Rattle.closing.specs.Keys.{Key, group_of_key}
use Rattle.closing.specs.RankComms.{comms_first}
use Rattle.closing.specs.Entries.{Run, Placed, entries_from, entries_in, entries_at, is_window}
use Rattle.closing.specs.Reported.{Message, done_of, from_nobody, is_gone, is_left_out, is_moved, message_can_be, message_of, peer_can_be, tag_can_be}
use Rattle.closing.specs.Numbers.{named_key, number_of}
use Rattle.closing.specs.Steps.{Own, Step, Does, Starts, WaitsForAll, Progress, after_steps, plain as written}
use Rattle.closing.specs.Endings.{awaited_at, awaited_can_be, breaks_off, can_be, first_of, is_unknown, is_unreported, lacks_number, message_at, needs_number, number_at, sends_can_be, size_at, why_at}
use Rattle.closing.specs.Entry.{Choice, Here, here_at, send, start_send, receive, start_receive, exchange, probe, start_collective, kind_of, matched_message, on_comm, is_past, steps_by, steps_of}
use Rattle.closing.specs.Recording.{Listed, is_end, list_from, progress_first}
use Rattle.closing.specs.declared.why.Why.{Why}
use Rattle.closing.specs.declared.why.Why.TheVariants.{NeverCameBack, NeverReported, Failed, NoNumber, CannotBe}
use Rattle.lawful.specs.Plain.{is_plain}
use Rattle.lawful.specs.SoFar.{WhatIsSoFarStays}
use Rattle.lawful.proofs.NoSinks.{NoSinks, clear, steps_none, steps_not}
use Rattle.lawful.proofs.EndLemmas.{goes_on, end_list, none_of, next_of, first_none}
use Rattle.lawful.proofs.PlainSteps.{does_is, gone_of, starts_is, ids_are, needs_or_waits, no_number, plain_no_end, strict_past}
use Rattle.lawful.proofs.SoFarLemmas.{Grows, list_grows, with_later, AreAlike, alike, done_append, matched_first, gone_first, moved_first, message_more}

-- ---- Steps by the number and the message ----

abbrev plain_steps : Option ℕ → Option Message → Called → List Step
plain_steps (Some comm) message (Sends mode sent) = Does (send mode comm sent) ∷ []
plain_steps (Some comm) message (StartsSend request mode sent) = Starts (Own request) (start_send mode comm sent) ∷ []
plain_steps (Some comm) (Some it) (Receives awaited) = Does (receive comm it) ∷ []
plain_steps (Some comm) (Some it) (StartsReceive request awaited) = Starts (Own request) (start_receive comm it) ∷ []
plain_steps (Some comm) (Some it) (Exchanges sent awaited) = Does (exchange comm sent it) ∷ []
plain_steps (Some comm) (Some it) (Probes awaited) = Does (probe comm it) ∷ []
plain_steps (Some comm) message (Collects collective own root) = Does (Coll comm (kind_of collective root)) ∷ []
plain_steps (Some comm) message (StartsCollective request collective own root) = Starts (Own request) (start_collective comm (kind_of collective root)) ∷ []
plain_steps comm message (Waits requests) = WaitsForAll (map Own requests) ∷ []
plain_steps comm message it = []

comm_steps : (here : Here) (it : Called) (message : Option Message) → here.message ≡ message → is_plain it ≡ true → needs_number it ≡ true → here.is_past ≡ false → ((request : ℕ) → is_gone here.lines request ≡ false) → on_comm here it ≡ plain_steps (Some here.comm) message it
comm_steps here (Sends mode sent) message is plain needs past gone = does_is here _ _ past
comm_steps here (StartsSend request mode sent) message is plain needs past gone = starts_is here request _ (gone request)
comm_steps here (Receives awaited) None is plain needs past gone = rw is refl
comm_steps here (Receives awaited) (Some it) is plain needs past gone = rw (is, past) refl
comm_steps here (StartsReceive request awaited) None is plain needs past gone = rw is refl
comm_steps here (StartsReceive request awaited) (Some it) is plain needs past gone = rw (is, gone request) refl
comm_steps here (Exchanges sent awaited) None is plain needs past gone = rw is refl
comm_steps here (Exchanges sent awaited) (Some it) is plain needs past gone = rw (is, past) refl
comm_steps here (Probes awaited) None is plain needs past gone = rw is refl
comm_steps here (Probes awaited) (Some it) is plain needs past gone = rw (is, past) refl
comm_steps here (Collects collective own root) message is plain needs past gone = does_is here _ _ past
comm_steps here (StartsCollective request collective own root) message is plain needs past gone = starts_is here request _ (gone request)
comm_steps here (Waits requests) message is plain needs past gone = absurd (false≢true needs)
comm_steps here _ message is plain needs past gone = absurd (false≢true plain)

steps_by_are : (run : Run) (choice : Choice) (placed : Placed) (needs : Bool) (o : Option ℕ) → needs_number placed.called ≡ needs → number_at run placed ≡ o → (needs && is_none o) ≡ false → is_plain placed.called ≡ true → is_past choice.calls placed ≡ false → ((request : ℕ) → is_left_out placed.journal.lines request ≡ false) → ((request : ℕ) → matched_message placed.journal.lines request ≡ None) → steps_by run choice placed o ≡ plain_steps o (message_at placed) placed.called
steps_by_are run choice placed true None needs is lacks plain past gone matched = absurd (false≢true (sym lacks))
steps_by_are run choice placed true (Some comm) needs is lacks plain past gone matched =
    comm_steps (here_at run choice placed comm) placed.called (message_at placed) refl plain needs past (λ request. gone_of placed.journal.lines request (gone request))
steps_by_are run choice placed false (Some comm) needs is lacks plain past gone matched =
    let wait = needs_or_waits placed.called plain needs in
    absurd (none-some comm (sym (no_number run placed wait.0 wait.1) ∙ is))
steps_by_are run choice placed false None needs is lacks plain past gone matched =
    let wait = needs_or_waits placed.called plain needs in
    rw (past, wait.1) (ap (λ ids. WaitsForAll ids ∷ []) (ids_are placed.journal.lines wait.0 gone matched))

steps_are : (run : Run) (choice : Choice) (placed : Placed) → lacks_number run placed ≡ false → is_plain placed.called ≡ true → is_past choice.calls placed ≡ false → ((request : ℕ) → is_left_out placed.journal.lines request ≡ false) → ((request : ℕ) → matched_message placed.journal.lines request ≡ None) → steps_of run choice placed ≡ plain_steps (number_at run placed) (message_at placed) placed.called
steps_are run choice placed lacks plain past gone matched =
    steps_by_are run choice placed (needs_number placed.called) (number_at run placed) refl refl lacks plain past gone matched

-- ---- An entry of the longer journal ----

-- the journal goes on: more lines, the same numbers
record On (run longer : Run) (placed : Placed) (later : Journal) : Type 0 where
  more : List Line
  lines : later.lines ≡ placed.journal.lines ++ more
  ranks : length longer ≡ length run
  numbers : (key : Key) → number_of longer key ≡ number_of run key
  none_out : (request : ℕ) → is_left_out later.lines request ≡ false
  none_matched : (request : ℕ) → matched_message later.lines request ≡ None

number_same : (run longer : Run) (o : Option Key) → ((key : Key) → number_of longer key ≡ number_of run key) → option_and_then (number_of longer) o ≡ option_and_then (number_of run) o
number_same run longer None same = refl
number_same run longer (Some key) same = same key

moved_of : (lines : List Line) (request : ℕ) → is_left_out lines request ≡ false → is_moved lines request ≡ false
moved_of lines request h = by (is_gone lines request) h
  where
    by : (b : Bool) → (b || is_moved lines request) ≡ false → is_moved lines request ≡ false
    by true h = absurd (false≢true (sym h))
    by false h = h

moved_now : (run longer : Run) (placed : Placed) (later : Journal) → On run longer placed later → (request : ℕ) → is_moved placed.journal.lines request ≡ false
moved_now run longer placed later on request =
    moved_first placed.journal.lines on.more request (subst (λ (ls : List Line). is_moved ls request ≡ false) on.lines (moved_of later.lines request (on.none_out request)))

gone_now : (run longer : Run) (placed : Placed) (later : Journal) → On run longer placed later → (request : ℕ) → is_gone placed.journal.lines request ≡ false
gone_now run longer placed later on request =
    gone_first placed.journal.lines on.more request (subst (λ (ls : List Line). is_gone ls request ≡ false) on.lines (gone_of later.lines request (on.none_out request)))

out_now : (run longer : Run) (placed : Placed) (later : Journal) → On run longer placed later → (request : ℕ) → is_left_out placed.journal.lines request ≡ false
out_now run longer placed later on request =
    ap (λ (b : Bool). b || is_moved placed.journal.lines request) (gone_now run longer placed later on request) ∙ moved_now run longer placed later on request

matched_now : (run longer : Run) (placed : Placed) (later : Journal) → On run longer placed later → (request : ℕ) → matched_message placed.journal.lines request ≡ None
matched_now run longer placed later on request =
    matched_first placed.journal.lines on.more request (subst (λ (ls : List Line). matched_message ls request ≡ None) on.lines (on.none_matched request))

known_if : (o : Option Message) (gone : Bool) → gone ≡ false → (is_none o && not gone) ≡ false → is_none o ≡ false
known_if None gone is h = absurd (false≢true (sym h ∙ ap (λ (b : Bool). not b) is))
known_if (Some it) gone is h = refl

size_same : (run longer : Run) (o : Option Key) → length longer ≡ length run → option_map_or (λ key. length (group_of_key (length longer) key)) o 0 ≡ option_map_or (λ key. length (group_of_key (length run) key)) o 0
size_same run longer o same = ap (λ (ranks : ℕ). option_map_or (λ key. length (group_of_key ranks key)) o 0) same

message_is : (placed : Placed) (request : ℕ) (it : Awaited) → placed.called ≡ StartsReceive request it → is_moved placed.journal.lines request ≡ false → message_at placed ≡ message_of it (done_of placed.journal.lines request)
message_is placed request it is stays =
    rw is (ap (λ (b : Bool). message_of (if b then from_nobody it else it) (done_of placed.journal.lines request)) stays)

awaited_is : (placed : Placed) (request : ℕ) (it : Awaited) → placed.called ≡ StartsReceive request it → is_moved placed.journal.lines request ≡ false → awaited_at placed ≡ Some (it, done_of placed.journal.lines request)
awaited_is placed request it is stays =
    rw is (ap (λ (b : Bool). Some (if b then from_nobody it else it, done_of placed.journal.lines request)) stays)

-- of a started receive whose message is known
later_message : (run longer : Run) (placed : Placed) (later : Journal) (request : ℕ) (it : Awaited) → placed.called ≡ StartsReceive request it → is_unreported placed (StartsReceive request it) ≡ false → On run longer placed later → message_of it (done_of later.lines request) ≡ message_of it (done_of placed.journal.lines request)
later_message run longer placed later request it is told on =
    let known = known_if (message_at placed) (is_gone placed.journal.lines request) (gone_now run longer placed later on request) told in
    ap (λ (ls : List Line). message_of it (done_of ls request)) on.lines
    ∙ ap (λ (o : Option Message). message_of it o) (done_append placed.journal.lines on.more request)
    ∙ message_more it (done_of placed.journal.lines request) (done_of on.more request)
    (subst (λ (o : Option Message). is_none o ≡ false) (message_is placed request it is (moved_now run longer placed later on request)) known)

message_same : (run longer : Run) (placed : Placed) (later : Journal) (back : Bool) (it : Called) → placed.called ≡ it → is_plain it ≡ true → is_unreported placed it ≡ false → On run longer placed later → message_at (with_later placed later back) ≡ message_at placed
message_same run longer placed later back (StartsReceive request it) is plain told on =
    message_is (with_later placed later back) request it is (moved_of later.lines request (on.none_out request)) ∙ later_message run longer placed later request it is told on
    ∙ sym (message_is placed request it is (moved_now run longer placed later on request))
message_same run longer placed later back (Sends mode sent) is plain told on = rw is refl
message_same run longer placed later back (StartsSend request mode sent) is plain told on = rw is refl
message_same run longer placed later back (Receives it) is plain told on = rw is refl
message_same run longer placed later back (Exchanges sent it) is plain told on = rw is refl
message_same run longer placed later back (Probes it) is plain told on = rw is refl
message_same run longer placed later back (Waits requests) is plain told on = rw is refl
message_same run longer placed later back (Collects collective own root) is plain told on = rw is refl
message_same run longer placed later back (StartsCollective request collective own root) is plain told on = rw is refl
message_same run longer placed later back _ is plain told on = absurd (false≢true plain)

-- what it awaits can be, or not, as before
awaits_same : (run longer : Run) (placed : Placed) (later : Journal) (back : Bool) (size : ℕ) (it : Called) → placed.called ≡ it → is_plain it ≡ true → is_unreported placed it ≡ false → On run longer placed later → option_map_or (awaited_can_be size) (awaited_at (with_later placed later back)) true ≡ option_map_or (awaited_can_be size) (awaited_at placed) true
awaits_same run longer placed later back size (StartsReceive request it) is plain told on =
    ap (λ (o : Option (Awaited × Option Message)). option_map_or (awaited_can_be size) o true) (awaited_is (with_later placed later back) request it is (moved_of later.lines request (on.none_out request)))
    ∙ ap (λ (m : Option Message). peer_can_be size it.source && tag_can_be it.tag && message_can_be size m) (later_message run longer placed later request it is told on)
    ∙ sym (ap (λ (o : Option (Awaited × Option Message)). option_map_or (awaited_can_be size) o true) (awaited_is placed request it is (moved_now run longer placed later on request)))
awaits_same run longer placed later back size (Sends mode sent) is plain told on = rw is refl
awaits_same run longer placed later back size (StartsSend request mode sent) is plain told on = rw is refl
awaits_same run longer placed later back size (Receives it) is plain told on = rw is refl
awaits_same run longer placed later back size (Exchanges sent it) is plain told on = rw is refl
awaits_same run longer placed later back size (Probes it) is plain told on = rw is refl
awaits_same run longer placed later back size (Waits requests) is plain told on = rw is refl
awaits_same run longer placed later back size (Collects collective own root) is plain told on = rw is refl
awaits_same run longer placed later back size (StartsCollective request collective own root) is plain told on = rw is refl
awaits_same run longer placed later back size _ is plain told on = absurd (false≢true plain)

told_same : (run longer : Run) (placed : Placed) (later : Journal) (back : Bool) (it : Called) → is_plain it ≡ true → message_at (with_later placed later back) ≡ message_at placed → On run longer placed later → is_unreported (with_later placed later back) it ≡ is_unreported placed it
told_same run longer placed later back (StartsReceive request it) plain message on =
    ap (λ (m : Option Message). is_none m && not (is_gone later.lines request)) message
    ∙ ap (λ (b : Bool). is_none (message_at placed) && not b) (gone_of later.lines request (on.none_out request) ∙ sym (gone_now run longer placed later on request))
told_same run longer placed later back (Sends mode sent) plain message on = refl
told_same run longer placed later back (StartsSend request mode sent) plain message on = refl
told_same run longer placed later back (Receives it) plain message on = refl
told_same run longer placed later back (Exchanges sent it) plain message on = refl
told_same run longer placed later back (Probes it) plain message on = refl
told_same run longer placed later back (Waits requests) plain message on = refl
told_same run longer placed later back (Collects collective own root) plain message on = refl
told_same run longer placed later back (StartsCollective request collective own root) plain message on = refl
told_same run longer placed later back _ plain message on = absurd (false≢true plain)

known_same : (placed : Placed) (later : Journal) (back : Bool) (it : Called) → is_plain it ≡ true → message_at (with_later placed later back) ≡ message_at placed → is_unknown (with_later placed later back) it ≡ is_unknown placed it
known_same placed later back (Receives it) plain message = ap (λ (m : Option Message). is_none m) message
known_same placed later back (Exchanges sent it) plain message = ap (λ (m : Option Message). is_none m) message
known_same placed later back (Probes it) plain message = ap (λ (m : Option Message). is_none m) message
known_same placed later back (Sends mode sent) plain message = refl
known_same placed later back (StartsSend request mode sent) plain message = refl
known_same placed later back (StartsReceive request it) plain message = refl
known_same placed later back (Waits requests) plain message = refl
known_same placed later back (Collects collective own root) plain message = refl
known_same placed later back (StartsCollective request collective own root) plain message = refl
known_same placed later back _ plain message = absurd (false≢true plain)

parts_same : (first : Option Why) (a b c d e also_b also_c also_d also_e : Bool) → also_b ≡ b → also_c ≡ c → also_d ≡ d → also_e ≡ e → or_else first (first_of ((a, Failed) ∷ (not also_b, CannotBe) ∷ (also_c, NoNumber) ∷ (also_d, NeverReported) ∷ (also_e, NeverCameBack) ∷ [])) ≡ or_else first (first_of ((a, Failed) ∷ (not b, CannotBe) ∷ (c, NoNumber) ∷ (d, NeverReported) ∷ (e, NeverCameBack) ∷ []))
parts_same first a b c d e also_b also_c also_d also_e is_b is_c is_d is_e = rw (is_b, is_c, is_d, is_e) refl

-- what is the same of an entry of the longer journal
record Same (run longer : Run) (choice : Choice) (placed : Placed) (later : Journal) (back : Bool) : Type 0 where
  why : why_at longer (with_later placed later back) ≡ why_at run placed
  steps : steps_of longer choice (with_later placed later back) ≡ steps_of run choice placed

-- the rules but for a call that breaks the list off
abbrev rules : Run → Placed → Called → Option Why
rules run placed it =
    first_of ((has_report report.Failed placed.entry, Failed) ∷ (not (can_be run placed), CannotBe) ∷ (lacks_number run placed, NoNumber)
    ∷ (is_unreported placed it, NeverReported) ∷ (is_unknown placed it, NeverCameBack) ∷ [])

plain_breaks : (window : Bool) (it : Called) → is_plain it ≡ true → breaks_off window it ≡ None
plain_breaks window (Sends mode sent) plain = refl
plain_breaks window (StartsSend request mode sent) plain = refl
plain_breaks window (Receives it) plain = refl
plain_breaks window (StartsReceive request it) plain = refl
plain_breaks window (Exchanges sent it) plain = refl
plain_breaks window (Probes it) plain = refl
plain_breaks window (Waits requests) plain = refl
plain_breaks window (Collects collective own root) plain = refl
plain_breaks window (StartsCollective request collective own root) plain = refl
plain_breaks window _ plain = absurd (false≢true plain)

same : (run longer : Run) (choice : Choice) (placed : Placed) (later : Journal) (back : Bool) → ((other : Placed) → is_past choice.calls other ≡ false) → why_at run placed ≡ None → is_plain placed.called ≡ true → On run longer placed later → Same run longer choice placed later back
same run longer choice placed later back strict why plain on =
    let other = with_later placed later back in
    let clear_now = clear run placed why in
    let message = message_same run longer placed later back placed.called refl plain clear_now.told on in
    let number : number_at longer other ≡ number_at run placed = number_same run longer (named_key placed) on.numbers in
    let lacks : lacks_number longer other ≡ lacks_number run placed = ap (λ (o : Option ℕ). needs_number placed.called && is_none o) number in
    let size : size_at longer other ≡ size_at run placed = size_same run longer (named_key placed) on.ranks in
    let can : can_be longer other ≡ can_be run placed =
    ap (λ (n : ℕ). sends_can_be n placed.called && option_map_or (awaited_can_be n) (awaited_at other) true) size
    ∙ ap (λ (b : Bool). sends_can_be (size_at run placed) placed.called && b) (awaits_same run longer placed later back (size_at run placed) placed.called refl plain clear_now.told on) in
    record {
      why = subst (λ (o : Option Why). or_else o (rules longer other placed.called) ≡ why_at run placed) (sym (plain_breaks (is_window longer) placed.called plain ∙ sym (plain_breaks (is_window run) placed.called plain)))
          (parts_same (breaks_off (is_window run) placed.called) (has_report report.Failed placed.entry) (can_be run placed) (lacks_number run placed) (is_unreported placed placed.called) (is_unknown placed placed.called)
          (can_be longer other) (lacks_number longer other) (is_unreported other placed.called) (is_unknown other placed.called)
          can lacks (told_same run longer placed later back placed.called plain message on) (known_same placed later back placed.called plain message));
      steps = steps_are longer choice other (lacks ∙ clear_now.numbered) plain (strict other) on.none_out on.none_matched
          ∙ ap (λ (o : Option ℕ). plain_steps o (message_at other) placed.called) number
          ∙ ap (λ (m : Option Message). plain_steps (number_at run placed) m placed.called) message
          ∙ sym (steps_are run choice placed clear_now.numbered plain (strict placed) (out_now run longer placed later on) (matched_now run longer placed later on));
    }

-- ---- Lists ----

abbrev first_with : List Call → Progress
first_with calls = record { records = written 0 calls; active = []; late = [] }

next_list : (run : Run) (choice : Choice) (placed : Placed) (others : List Placed) (progress : Progress) → NoSinks progress.records → why_at run placed ≡ None → is_end placed.called ≡ false → list_from run choice progress (placed ∷ others) ≡ list_from run choice (after_steps progress placed.line (steps_of run choice placed)) others
next_list run choice placed others progress none why goes =
    next_of run choice placed others progress none why ∙ ap (λ (b : Bool). end_list run choice placed others progress b) goes

-- the journals of a rank in both runs
record Both (run longer : Run) (choice : Choice) (lines : List Line) (later : Journal) : Type 0 where
  strict : (other : Placed) → is_past choice.calls other ≡ false
  on : (placed : Placed) → placed.journal.lines ≡ lines → On run longer placed later

begins : (run longer : Run) (choice : Choice) (lines : List Line) (later : Journal) (entries others : List Placed) (progress : Progress) → NoSinks progress.records → Both run longer choice lines later → AreAlike lines later entries others → list_all (goes_on run) entries ≡ true → list_all (λ (placed : Placed). is_plain placed.called) entries ≡ true → Grows (list_from run choice progress entries).records (list_from longer choice progress others).records
begins run longer choice lines later [] others progress none both all goes plain = list_grows longer choice others progress
begins run longer choice lines later (placed ∷ entries) [] progress none both all goes plain = absurd all
begins run longer choice lines later (placed ∷ entries) (other ∷ others) progress none both all goes plain =
    let back = all.0.0 in
    let here = and_parts (goes_on run placed) (list_all (goes_on run) entries) goes in
    let plains = and_parts (is_plain placed.called) (list_all (λ (one : Placed). is_plain one.called) entries) plain in
    let why = none_of (why_at run placed) here.0 in
    let it = same run longer choice placed later back both.strict why plains.0 (both.on placed all.0.2) in
    let end = plain_no_end placed.called plains.0 in
    let new = after_steps progress placed.line (steps_of run choice placed) in
    let now = next_list run choice placed entries progress none why end in
    let next = ap (λ (one : Placed). list_from longer choice progress (one ∷ others)) all.0.1
    ∙ next_list longer choice (with_later placed later back) others progress none (it.why ∙ why) end
    ∙ ap (λ (steps : List Step). list_from longer choice (after_steps progress placed.line steps) others) it.steps in
    let rest = begins run longer choice lines later entries others new (steps_none progress placed.line (steps_of run choice placed) (steps_not run choice placed) none) both all.1 here.1 plains.1 in
    (rest.0, ap (λ (list : Listed). list.records) next ∙ rest.1 ∙ ap (λ (list : Listed). list.records ++ rest.0) (sym now))

pub what_is_so_far_stays : WhatIsSoFarStays
what_is_so_far_stays run longer choice rank strict on plain =
    let lines = on.journal.lines in
    let both : Both run longer choice lines on.later = record {
      strict = λ other. strict_past choice other strict;
      on = λ placed own. record {
        more = on.more;
        lines = on.lines ∙ ap (λ (ls : List Line). ls ++ on.more) (sym own);
        ranks = on.ranks;
        numbers = on.numbers;
        none_out = plain.none_out;
        none_matched = plain.none_matched;
      };
    } in
    let first = progress_first run rank in
    let start : progress_first longer rank ≡ first = ap (λ (calls : List Call). first_with calls) on.preface in
    let from : AreAlike lines on.later (entries_in rank (Some on.journal)) (entries_in rank (Some on.later)) =
    subst (λ (ls : List Line). AreAlike lines on.later (entries_in rank (Some on.journal)) (entries_from rank on.later 2 (comms_first rank) ls)) (sym on.lines)
    (alike rank on.journal on.later lines on.more on.begins_with_a_call 2 (comms_first rank)) in
    let all : AreAlike lines on.later (entries_at run rank) (entries_at longer rank) =
    subst (λ (o : Option Journal). AreAlike lines on.later (entries_in rank o) (entries_at longer rank)) (sym on.is_there)
    (subst (λ (o : Option Journal). AreAlike lines on.later (entries_in rank (Some on.journal)) (entries_in rank o)) (sym on.goes_on) from) in
    let rest = begins run longer choice lines on.later (entries_at run rank) (entries_at longer rank) first (first_none run rank) both all plain.none_breaks plain.plain in
    (rest.0, ap (λ (progress : Progress). (list_from longer choice progress (entries_at longer rank)).records) start ∙ rest.1)
