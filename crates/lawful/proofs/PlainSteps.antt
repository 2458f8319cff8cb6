-- A plain journal closes to the same calls.
use Rattle.std.proofs.Common.{◌≡◌, ℕ, ◌+◌, ◌<◌, ◌≤◌, ◌==◌, ◌&&◌, ◌||◌, not, Bool, true, false, Option, Some, None, List, [], ◌∷◌, ◌++◌, length, map, refl, sym, ap, subst, ◌∙◌, append_assoc}
use Rattle.std.specs.Prelude.{is_none, nat_le, option_and_then, ⊤}
use Rattle.std.specs.List.{flat_map, list_all}
use Rattle.std.specs.Option.{option_map_or}
use Rattle.std.proofs.lemmas.Bool.{and_from, and_parts, false≢true, leb-true, lt-ltb}
use Rattle.std.proofs.lemmas.Option.{none-some}
use Rattle.mpicall.specs.Word.{or_else}
use Rattle.mpicall.specs.declared.limits.TheConstants.{MOST_REQUESTS}
use Rattle.mpicall.specs.declared.call.Call.{Call}
use Rattle.mpicall.specs.declared.call.Call.TheVariants.{Coll, Finalize}
use Rattle.journals.specs.Lines.{Line}
use Rattle.journals.specs.Journal.{Journal}
use Rattle.journals.specs.Known.{is_among, are_distinct}
use Rattle.journals.specs.declared.field.Field.{Field}
use Rattle.journals.specs.declared.word.Word.{Word}
use Rattle.journals.specs.declared.word.Word.TheVariants.{Call as CallLine, Report}
use Rattle.closing.specs.Called.{Called, Sends, StartsSend, Receives, StartsReceive, Exchanges, Probes, Waits, Collects, StartsCollective, comm_of}
use Rattle.closing.specs.RankComms.{RankComms, comms_first, key_next, key_under, after_line}
use Rattle.closing.specs.Entries.{Run, Placed, journal_at, lines_in, lines_at, entries_from, entries_in}
use Rattle.closing.specs.Reported.{Message, is_gone, is_left_out, is_moved}
use Rattle.closing.specs.Numbers.{number_of, preface_of}
use Rattle.closing.specs.Steps.{Id, Own, Step, Does, Starts, WaitsForAll, Progress, numbers_of, wait_for, waits_for, after_steps}
use Rattle.closing.specs.Endings.{is_unknown, is_unreported, message_at, needs_number, number_at, why_at}
use Rattle.closing.specs.Entry.{Choice, Here, here_at, send, start_send, receive, start_receive, exchange, probe, start_collective, kind_of, does, starts, ids_of, id_of, matched_message, on_comm, is_past, steps_by, steps_of}
use Rattle.closing.specs.Recording.{Listed, is_end, calls_of, cut, list_from, most_records, progress_first, whole_list, without_journal}
use Rattle.closing.specs.declared.choice.Calls.{Calls}
use Rattle.closing.specs.declared.choice.Calls.TheVariants.{Strict}
use Rattle.lawful.specs.Plain.{is_plain, is_said_once, same_call, same_call_at, started_by, waited_by, but, are_used_once, EachPlainJournalStaysTheSame}
use Rattle.lawful.proofs.StepLemmas.{calls_in, plain_calls, added_plain}
use Rattle.lawful.proofs.NoSinks.{Clear, NoSinks, clear, steps_none, steps_not}
use Rattle.lawful.proofs.EndLemmas.{goes_on, end_list, none_of, next_of, ends_through, first_none, cut_by}
use Rattle.lawful.proofs.PlainLemmas.{Stands, Adds, does_adds, starts_adds, waits_adds}

abbrev AddsSteps : (ℕ → ℕ) → List ℕ → List ℕ → Progress → ℕ → ((ℕ → ℕ) → List Call) → List ℕ → List ℕ → List Step → Type 0
AddsSteps old known used progress line calls started waited steps =
    Adds old known used progress (after_steps progress line steps) calls started waited

-- ---- Steps ----

pub does_is : (here : Here) (call : Call) (start : ℕ → Call) → here.is_past ≡ false → does here call start ≡ Does call ∷ []
does_is here call start past = rw past refl

pub starts_is : (here : Here) (request : ℕ) (start : ℕ → Call) → is_gone here.lines request ≡ false → starts here request start ≡ Starts (Own request) start ∷ []
starts_is here request start stays = rw stays refl

-- what isn't left out isn't gone
pub gone_of : (lines : List Line) (request : ℕ) → is_left_out lines request ≡ false → is_gone lines request ≡ false
gone_of lines request h = by (is_gone lines request) h
  where
    by : (b : Bool) → (b || is_moved lines request) ≡ false → b ≡ false
    by true h = absurd (false≢true (sym h))
    by false h = refl

pub ids_are : (lines : List Line) (requests : List ℕ) → ((request : ℕ) → is_left_out lines request ≡ false) → ((request : ℕ) → matched_message lines request ≡ None) → ids_of lines requests ≡ map Own requests
ids_are lines [] none_out none_matched = refl
ids_are lines (request ∷ requests) none_out none_matched =
    let own : id_of lines request ≡ Own request = ap (λ (o : Option ℕ). Own (option_map_or (λ message. message) o request)) (none_matched request) in
    rw (none_out request, own, ids_are lines requests none_out none_matched) refl

known_message : (o : Option Message) → is_none o ≡ false → (it : Message) × (o ≡ Some it)
known_message None h = absurd (false≢true (sym h))
known_message (Some it) h = (it, refl)

reported_message : (o : Option Message) (gone : Bool) → gone ≡ false → (is_none o && not gone) ≡ false → (it : Message) × (o ≡ Some it)
reported_message None gone is h = absurd (false≢true (sym h ∙ ap (λ (b : Bool). not b) is))
reported_message (Some it) gone is h = (it, refl)

new_request : (request : ℕ) (known : List ℕ) → list_all (λ (one : ℕ). not (is_among one known)) (request ∷ []) ≡ true → is_among request known ≡ false
new_request request known h = not_true (is_among request known) (and_parts (not (is_among request known)) true h).0
  where
    not_true : (b : Bool) → not b ≡ true → b ≡ false
    not_true true h = absurd (false≢true h)
    not_true false h = refl

-- ---- Entries ----

-- what the journal has, and what the requests of a call are
record Fits (choice : Choice) (placed : Placed) (known used : List ℕ) (it : Called) : Type 0 where
  strict : is_past choice.calls placed ≡ false
  none_gone : (request : ℕ) → is_gone placed.journal.lines request ≡ false
  none_out : (request : ℕ) → is_left_out placed.journal.lines request ≡ false
  none_matched : (request : ℕ) → matched_message placed.journal.lines request ≡ None
  starts_new : list_all (λ (request : ℕ). not (is_among request known)) (started_by it) ≡ true
  waits_used : list_all (λ (request : ℕ). is_among request used) (waited_by it) ≡ true
  distinct : are_distinct (waited_by it) ≡ true
  few : length (waited_by it) ≤ MOST_REQUESTS

on_comm_adds : (run : Run) (choice : Choice) (placed : Placed) (comm : ℕ) (old : ℕ → ℕ) (known used : List ℕ) (progress : Progress) (it : Called) → is_plain it ≡ true → needs_number it ≡ true → is_unreported placed it ≡ false → is_unknown placed it ≡ false → Fits choice placed known used it → Stands old known used progress → AddsSteps old known used progress placed.line (λ number. same_call number (Some comm) (message_at placed) it) (started_by it) (waited_by it) (on_comm (here_at run choice placed comm) it)
on_comm_adds run choice placed comm old known used progress (Sends mode sent) plain needs told clear fits stands =
    let here = here_at run choice placed comm in
    let call = send mode comm sent in
    subst (λ (steps : List Step). AddsSteps old known used progress placed.line (λ number. call ∷ []) [] [] steps)
    (sym (does_is here call (start_send mode comm sent) fits.strict)) (does_adds old known used progress placed.line call stands)
on_comm_adds run choice placed comm old known used progress (StartsSend request mode sent) plain needs told clear fits stands =
    let here = here_at run choice placed comm in
    let start = start_send mode comm sent in
    subst (λ (steps : List Step). AddsSteps old known used progress placed.line (λ number. start (number request) ∷ []) (request ∷ []) [] steps)
    (sym (starts_is here request start (fits.none_gone request)))
    (starts_adds old known used progress placed.line request start (new_request request known fits.starts_new) stands)
on_comm_adds run choice placed comm old known used progress (Receives awaited) plain needs told clear fits stands =
    let here = here_at run choice placed comm in
    let message = known_message (message_at placed) clear in
    let call = receive comm message.0 in
    subst (λ (o : Option Message). AddsSteps old known used progress placed.line (λ number. same_call number (Some comm) o (Receives awaited)) [] []
    (option_map_or (λ (it : Message). does here (receive comm it) (start_receive comm it)) o []))
    (sym message.1)
    (subst (λ (steps : List Step). AddsSteps old known used progress placed.line (λ number. call ∷ []) [] [] steps)
    (sym (does_is here call (start_receive comm message.0) fits.strict)) (does_adds old known used progress placed.line call stands))
on_comm_adds run choice placed comm old known used progress (StartsReceive request awaited) plain needs told clear fits stands =
    let here = here_at run choice placed comm in
    let message = reported_message (message_at placed) (is_gone placed.journal.lines request) (fits.none_gone request) told in
    let start = start_receive comm message.0 in
    subst (λ (o : Option Message). AddsSteps old known used progress placed.line (λ number. same_call number (Some comm) o (StartsReceive request awaited)) (request ∷ []) []
    (option_map_or (λ (it : Message). starts here request (start_receive comm it)) o []))
    (sym message.1)
    (subst (λ (steps : List Step). AddsSteps old known used progress placed.line (λ number. start (number request) ∷ []) (request ∷ []) [] steps)
    (sym (starts_is here request start (fits.none_gone request)))
    (starts_adds old known used progress placed.line request start (new_request request known fits.starts_new) stands))
on_comm_adds run choice placed comm old known used progress (Exchanges sent awaited) plain needs told clear fits stands =
    let message = known_message (message_at placed) clear in
    rw (message.1, fits.strict) (does_adds old known used progress placed.line (exchange comm sent message.0) stands)
on_comm_adds run choice placed comm old known used progress (Probes awaited) plain needs told clear fits stands =
    let message = known_message (message_at placed) clear in
    rw (message.1, fits.strict) (does_adds old known used progress placed.line (probe comm message.0) stands)
on_comm_adds run choice placed comm old known used progress (Collects collective own root) plain needs told clear fits stands =
    let here = here_at run choice placed comm in
    let call = Coll comm (kind_of collective root) in
    subst (λ (steps : List Step). AddsSteps old known used progress placed.line (λ number. call ∷ []) [] [] steps)
    (sym (does_is here call (start_collective comm (kind_of collective root)) fits.strict)) (does_adds old known used progress placed.line call stands)
on_comm_adds run choice placed comm old known used progress (StartsCollective request collective own root) plain needs told clear fits stands =
    let here = here_at run choice placed comm in
    let start = start_collective comm (kind_of collective root) in
    subst (λ (steps : List Step). AddsSteps old known used progress placed.line (λ number. start (number request) ∷ []) (request ∷ []) [] steps)
    (sym (starts_is here request start (fits.none_gone request)))
    (starts_adds old known used progress placed.line request start (new_request request known fits.starts_new) stands)
on_comm_adds run choice placed comm old known used progress (Waits requests) plain needs told clear fits stands = absurd (false≢true needs)
on_comm_adds run choice placed comm old known used progress _ plain needs told clear fits stands = absurd (false≢true plain)

pub no_number : (run : Run) (placed : Placed) (requests : List ℕ) → placed.called ≡ Waits requests → number_at run placed ≡ None
no_number run placed requests is =
    ap (λ (c : Called). option_and_then (number_of run) (or_else (key_next placed.comms c) (option_and_then (key_under placed.comms) (comm_of c)))) is

wait_adds : (run : Run) (choice : Choice) (placed : Placed) (old : ℕ → ℕ) (known used : List ℕ) (progress : Progress) (requests : List ℕ) → placed.called ≡ Waits requests → Fits choice placed known used (Waits requests) → Stands old known used progress → AddsSteps old known used progress placed.line (λ number. same_call number None (message_at placed) (Waits requests)) [] requests (steps_by run choice placed None)
wait_adds run choice placed old known used progress requests is fits stands =
    rw (fits.strict, is)
    (subst (λ (ids : List Id). AddsSteps old known used progress placed.line (λ number. same_call number None (message_at placed) (Waits requests)) [] requests (WaitsForAll ids ∷ []))
    (sym (ids_are placed.journal.lines requests fits.none_out fits.none_matched))
    (waits_adds old known used progress placed.line requests fits.waits_used fits.distinct fits.few stands))

pub needs_or_waits : (it : Called) → is_plain it ≡ true → needs_number it ≡ false → (requests : List ℕ) × (it ≡ Waits requests)
needs_or_waits (Waits requests) plain none = (requests, refl)
needs_or_waits (Sends mode sent) plain none = absurd (false≢true (sym none))
needs_or_waits (StartsSend request mode sent) plain none = absurd (false≢true (sym none))
needs_or_waits (Receives awaited) plain none = absurd (false≢true (sym none))
needs_or_waits (StartsReceive request awaited) plain none = absurd (false≢true (sym none))
needs_or_waits (Exchanges sent awaited) plain none = absurd (false≢true (sym none))
needs_or_waits (Probes awaited) plain none = absurd (false≢true (sym none))
needs_or_waits (Collects collective own root) plain none = absurd (false≢true (sym none))
needs_or_waits (StartsCollective request collective own root) plain none = absurd (false≢true (sym none))
needs_or_waits _ plain none = absurd (false≢true plain)

-- the entry's number, or its requests
entry_by : (run : Run) (choice : Choice) (placed : Placed) (old : ℕ → ℕ) (known used : List ℕ) (progress : Progress) (needs : Bool) (o : Option ℕ) → needs_number placed.called ≡ needs → number_at run placed ≡ o → (needs && is_none o) ≡ false → is_plain placed.called ≡ true → Clear run placed → Fits choice placed known used placed.called → Stands old known used progress → AddsSteps old known used progress placed.line (λ number. same_call number o (message_at placed) placed.called) (started_by placed.called) (waited_by placed.called) (steps_by run choice placed o)
entry_by run choice placed old known used progress true None needs is lacks plain clear fits stands = absurd (false≢true (sym lacks))
entry_by run choice placed old known used progress true (Some comm) needs is lacks plain clear fits stands =
    on_comm_adds run choice placed comm old known used progress placed.called plain needs clear.told clear.known fits stands
entry_by run choice placed old known used progress false (Some comm) needs is lacks plain clear fits stands =
    let wait = needs_or_waits placed.called plain needs in
    absurd (none-some comm (sym (no_number run placed wait.0 wait.1) ∙ is))
entry_by run choice placed old known used progress false None needs is lacks plain clear fits stands =
    let wait = needs_or_waits placed.called plain needs in
    subst (λ (it : Called). AddsSteps old known used progress placed.line (λ number. same_call number None (message_at placed) it) (started_by it) (waited_by it) (steps_by run choice placed None))
    (sym wait.1)
    (wait_adds run choice placed old known used progress wait.0 wait.1 (subst (λ (it : Called). Fits choice placed known used it) wait.1 fits) stands)

entry_adds : (run : Run) (choice : Choice) (placed : Placed) (old : ℕ → ℕ) (known used : List ℕ) (progress : Progress) → why_at run placed ≡ None → is_plain placed.called ≡ true → Fits choice placed known used placed.called → Stands old known used progress → Adds old known used progress (after_steps progress placed.line (steps_of run choice placed)) (λ number. same_call_at run number placed) (started_by placed.called) (waited_by placed.called)
entry_adds run choice placed old known used progress why plain fits stands =
    let it = clear run placed why in
    entry_by run choice placed old known used progress (needs_number placed.called) (number_at run placed) refl refl it.numbered plain it fits stands

-- ---- Lists ----

abbrev pub AreOf : List Line → List Placed → Type 0
AreOf lines [] = ⊤
AreOf lines (placed ∷ others) = (placed.journal.lines ≡ lines) × AreOf lines others

record Went (run : Run) (entries : List Placed) (old : ℕ → ℕ) (known : List ℕ) (progress : Progress) (calls : List Call) : Type 0 where
  number : ℕ → ℕ
  goes_on : (request : ℕ) → is_among request known ≡ true → number request ≡ old request
  are : calls ≡ calls_in progress ++ flat_map (same_call_at run number) entries

abbrev calls_before : Listed → List Call
calls_before it = map (λ one. one.call) it.records

among_append : (request : ℕ) (new known : List ℕ) → is_among request known ≡ true → is_among request (new ++ known) ≡ true
among_append request [] known has = has
among_append request (one ∷ new) known has = ap (λ (b : Bool). (one == request) || b) (among_append request new known has) ∙ or_true (one == request)
  where
    or_true : (b : Bool) → (b || true) ≡ true
    or_true true = refl
    or_true false = refl

pub plain_no_end : (it : Called) → is_plain it ≡ true → is_end it ≡ false
plain_no_end (Sends mode sent) plain = refl
plain_no_end (StartsSend request mode sent) plain = refl
plain_no_end (Receives awaited) plain = refl
plain_no_end (StartsReceive request awaited) plain = refl
plain_no_end (Exchanges sent awaited) plain = refl
plain_no_end (Probes awaited) plain = refl
plain_no_end (Waits requests) plain = refl
plain_no_end (Collects collective own root) plain = refl
plain_no_end (StartsCollective request collective own root) plain = refl
plain_no_end _ plain = absurd (false≢true plain)

-- the list as it is where no entry up to the end breaks it off
last_went : (run : Run) (choice : Choice) (last : Placed) (after : List Placed) (old : ℕ → ℕ) (known used : List ℕ) (progress : Progress) → NoSinks progress.records → why_at run last ≡ None → is_end last.called ≡ true → Stands old known used progress → Went run [] old known progress (calls_before (list_from run choice progress (last ∷ after)))
last_went run choice last after old known used progress none why ends stands =
    subst (λ (list : Listed). Went run [] old known progress (calls_before list)) (sym (next_of run choice last after progress none why))
    (subst (λ (b : Bool). Went run [] old known progress (calls_before (end_list run choice last after progress b))) (sym ends)
    (record {
      number = old;
      goes_on = λ request has. refl;
      are = added_plain progress last.line (waits_for (length (numbers_of progress.active progress.late)) (numbers_of progress.active progress.late))
          ∙ ap (λ (ids : List Id). calls_in progress ++ waits_for (length (numbers_of progress.active ids)) (numbers_of progress.active ids)) stands.none_late;
    }))

next_went : (run : Run) (choice : Choice) (placed : Placed) (others : List Placed) (entries : List Placed) (old : ℕ → ℕ) (known : List ℕ) (progress : Progress) → NoSinks progress.records → why_at run placed ≡ None → is_end placed.called ≡ false → Went run entries old known progress (calls_before (list_from run choice (after_steps progress placed.line (steps_of run choice placed)) others)) → Went run entries old known progress (calls_before (list_from run choice progress (placed ∷ others)))
next_went run choice placed others entries old known progress none why goes went =
    subst (λ (list : Listed). Went run entries old known progress (calls_before list)) (sym (next_of run choice placed others progress none why))
    (subst (λ (b : Bool). Went run entries old known progress (calls_before (end_list run choice placed others progress b))) (sym goes) went)

-- what one entry adds, and the others
both_went : (run : Run) (placed : Placed) (others : List Placed) (old : ℕ → ℕ) (known used started waited : List ℕ) (progress new : Progress) (calls : List Call) → (adds : Adds old known used progress new (λ number. same_call_at run number placed) started waited) → Went run others adds.next (started ++ known) new calls → Went run (placed ∷ others) old known progress calls
both_went run placed others old known used started waited progress new calls adds went = record {
  number = went.number;
  goes_on = λ request has. went.goes_on request (among_append request started known has) ∙ adds.goes_on request has;
  are = went.are
      ∙ ap (λ (first : List Call). first ++ flat_map (same_call_at run went.number) others) (adds.are went.number went.goes_on)
      ∙ append_assoc (calls_in progress) (same_call_at run went.number placed) (flat_map (same_call_at run went.number) others);
}

pub strict_past : (choice : Choice) (placed : Placed) → choice.calls ≡ Strict → is_past choice.calls placed ≡ false
strict_past choice placed strict = ap (λ (calls : Calls). is_past calls placed) strict

list_went : (run : Run) (choice : Choice) (lines : List Line) → choice.calls ≡ Strict → ((request : ℕ) → is_left_out lines request ≡ false) → ((request : ℕ) → matched_message lines request ≡ None) → (before : List Placed) (last : Placed) (after : List Placed) (old : ℕ → ℕ) (known used : List ℕ) (progress : Progress) → NoSinks progress.records → AreOf lines before → list_all (goes_on run) (before ++ last ∷ []) ≡ true → is_end last.called ≡ true → list_all (λ (placed : Placed). is_plain placed.called) before ≡ true → are_used_once known used (map (λ (placed : Placed). placed.called) before) ≡ true → Stands old known used progress → Went run before old known progress (calls_before (list_from run choice progress (before ++ last ∷ after)))
list_went run choice lines strict gone matched [] last after old known used progress none own goes ends plain once stands =
    last_went run choice last after old known used progress none (none_of (why_at run last) (and_parts (goes_on run last) true goes).0) ends stands
list_went run choice lines strict gone matched (placed ∷ before) last after old known used progress none own goes ends plain once stands =
    let it = placed.called in
    let here = and_parts (goes_on run placed) (list_all (goes_on run) (before ++ last ∷ [])) goes in
    let why = none_of (why_at run placed) here.0 in
    let plains = and_parts (is_plain it) (list_all (λ (one : Placed). is_plain one.called) before) plain in
    let rest = are_used_once (started_by it ++ known) (started_by it ++ but (waited_by it) used) (map (λ (one : Placed). one.called) before) in
    let few = nat_le (length (waited_by it)) MOST_REQUESTS in
    let first = and_parts (list_all (λ (request : ℕ). not (is_among request known)) (started_by it)) (list_all (λ (request : ℕ). is_among request used) (waited_by it) && (are_distinct (waited_by it) && (few && rest))) once in
    let second = and_parts (list_all (λ (request : ℕ). is_among request used) (waited_by it)) (are_distinct (waited_by it) && (few && rest)) first.1 in
    let third = and_parts (are_distinct (waited_by it)) (few && rest) second.1 in
    let fourth = and_parts few rest third.1 in
    let fits : Fits choice placed known used it = record {
      strict = strict_past choice placed strict;
      none_gone = λ request. subst (λ (ls : List Line). is_gone ls request ≡ false) (sym own.0) (gone_of lines request (gone request));
      none_out = λ request. subst (λ (ls : List Line). is_left_out ls request ≡ false) (sym own.0) (gone request);
      none_matched = λ request. subst (λ (ls : List Line). matched_message ls request ≡ None) (sym own.0) (matched request);
      starts_new = first.0;
      waits_used = second.0;
      distinct = third.0;
      few = leb-true (length (waited_by it)) MOST_REQUESTS fourth.0;
    } in
    let new = after_steps progress placed.line (steps_of run choice placed) in
    let adds = entry_adds run choice placed old known used progress why plains.0 fits stands in
    let went = list_went run choice lines strict gone matched before last after adds.next (started_by it ++ known) (started_by it ++ but (waited_by it) used) new (steps_none progress placed.line (steps_of run choice placed) (steps_not run choice placed) none) own.1 here.1 ends plains.1 fourth.1 adds.stands in
    next_went run choice placed (before ++ last ∷ after) (placed ∷ before) old known progress none why (plain_no_end it plains.0)
    (both_went run placed before old known used (started_by it) (waited_by it) progress new (calls_before (list_from run choice new (before ++ last ∷ after))) adds went)

-- ---- One call for each ----

one_wait : (number : ℕ → ℕ) (requests : List ℕ) (calls : List Call) → calls ≡ wait_for (map number requests) → is_said_once (Waits requests) calls ≡ true
one_wait number [] calls is = refl
one_wait number (one ∷ []) calls is = rw is refl
one_wait number (one ∷ two ∷ requests) calls is = rw is refl

one_on_comm : (run : Run) (placed : Placed) (number : ℕ → ℕ) (comm : ℕ) (it : Called) → is_plain it ≡ true → needs_number it ≡ true → is_unreported placed it ≡ false → is_unknown placed it ≡ false → ((request : ℕ) → is_gone placed.journal.lines request ≡ false) → is_said_once it (same_call number (Some comm) (message_at placed) it) ≡ true
one_on_comm run placed number comm (Sends mode sent) plain needs told clear gone = refl
one_on_comm run placed number comm (StartsSend request mode sent) plain needs told clear gone = refl
one_on_comm run placed number comm (Receives awaited) plain needs told clear gone =
    let message = known_message (message_at placed) clear in
    subst (λ (o : Option Message). is_said_once (Receives awaited) (same_call number (Some comm) o (Receives awaited)) ≡ true) (sym message.1) refl
one_on_comm run placed number comm (StartsReceive request awaited) plain needs told clear gone =
    let message = reported_message (message_at placed) (is_gone placed.journal.lines request) (gone request) told in
    subst (λ (o : Option Message). is_said_once (StartsReceive request awaited) (same_call number (Some comm) o (StartsReceive request awaited)) ≡ true) (sym message.1) refl
one_on_comm run placed number comm (Exchanges sent awaited) plain needs told clear gone =
    let message = known_message (message_at placed) clear in
    subst (λ (o : Option Message). is_said_once (Exchanges sent awaited) (same_call number (Some comm) o (Exchanges sent awaited)) ≡ true) (sym message.1) refl
one_on_comm run placed number comm (Probes awaited) plain needs told clear gone =
    let message = known_message (message_at placed) clear in
    subst (λ (o : Option Message). is_said_once (Probes awaited) (same_call number (Some comm) o (Probes awaited)) ≡ true) (sym message.1) refl
one_on_comm run placed number comm (Collects collective own root) plain needs told clear gone = refl
one_on_comm run placed number comm (StartsCollective request collective own root) plain needs told clear gone = refl
one_on_comm run placed number comm (Waits requests) plain needs told clear gone = absurd (false≢true needs)
one_on_comm run placed number comm _ plain needs told clear gone = absurd (false≢true plain)

one_by : (run : Run) (placed : Placed) (number : ℕ → ℕ) (needs : Bool) (o : Option ℕ) → needs_number placed.called ≡ needs → number_at run placed ≡ o → (needs && is_none o) ≡ false → is_plain placed.called ≡ true → Clear run placed → ((request : ℕ) → is_gone placed.journal.lines request ≡ false) → is_said_once placed.called (same_call number o (message_at placed) placed.called) ≡ true
one_by run placed number true None needs is lacks plain clear gone = absurd (false≢true (sym lacks))
one_by run placed number true (Some comm) needs is lacks plain clear gone =
    one_on_comm run placed number comm placed.called plain needs clear.told clear.known gone
one_by run placed number false (Some comm) needs is lacks plain clear gone =
    let wait = needs_or_waits placed.called plain needs in
    absurd (none-some comm (sym (no_number run placed wait.0 wait.1) ∙ is))
one_by run placed number false None needs is lacks plain clear gone =
    let wait = needs_or_waits placed.called plain needs in
    subst (λ (it : Called). is_said_once it (same_call number None (message_at placed) it) ≡ true) (sym wait.1)
    (one_wait number wait.0 (wait_for (map number wait.0)) refl)

each_once : (run : Run) (lines : List Line) (number : ℕ → ℕ) (before : List Placed) (last : Placed) → ((request : ℕ) → is_gone lines request ≡ false) → AreOf lines before → list_all (goes_on run) (before ++ last ∷ []) ≡ true → list_all (λ (placed : Placed). is_plain placed.called) before ≡ true → list_all (λ (placed : Placed). is_said_once placed.called (same_call_at run number placed)) before ≡ true
each_once run lines number [] last gone own goes plain = refl
each_once run lines number (placed ∷ before) last gone own goes plain =
    let here = and_parts (goes_on run placed) (list_all (goes_on run) (before ++ last ∷ [])) goes in
    let plains = and_parts (is_plain placed.called) (list_all (λ (one : Placed). is_plain one.called) before) plain in
    let it = clear run placed (none_of (why_at run placed) here.0) in
    let first = one_by run placed number (needs_number placed.called) (number_at run placed) refl refl it.numbered plains.0 it
    (λ request. subst (λ (ls : List Line). is_gone ls request ≡ false) (sym own.0) (gone request)) in
    and_from (is_said_once placed.called (same_call_at run number placed))
    (list_all (λ (one : Placed). is_said_once one.called (same_call_at run number one)) before) first
    (each_once run lines number before last gone own.1 here.1 plains.1)

-- ---- The journal of entries ----

entries_of_line : (rank : ℕ) (journal : Journal) (number : ℕ) (comms : RankComms) (word : Word) (fields : List Field) (lines : List Line) → ((n : ℕ) (c : RankComms) → AreOf journal.lines (entries_from rank journal n c lines)) → AreOf journal.lines (entries_from rank journal number comms (record { word = word; fields = fields } ∷ lines))
entries_of_line rank journal number comms (CallLine word) fields lines rest = (refl, rest (number + 1) (after_line comms (record { word = CallLine word; fields = fields })))
entries_of_line rank journal number comms (Report word) fields lines rest = rest (number + 1) (after_line comms (record { word = Report word; fields = fields }))

entries_are : (rank : ℕ) (journal : Journal) (lines : List Line) (number : ℕ) (comms : RankComms) → AreOf journal.lines (entries_from rank journal number comms lines)
entries_are rank journal [] number comms = tt
entries_are rank journal (line ∷ lines) number comms =
    entries_of_line rank journal number comms line.word line.fields lines (λ n c. entries_are rank journal lines n c)

pub all_of : (rank : ℕ) (o : Option Journal) → AreOf (lines_in o) (entries_in rank o)
all_of rank None = tt
all_of rank (Some journal) = entries_are rank journal journal.lines 2 (comms_first rank)

of_before : (lines : List Line) (before others : List Placed) → AreOf lines (before ++ others) → AreOf lines before
of_before lines [] others own = tt
of_before lines (placed ∷ before) others own = (own.0, of_before lines before others own.1)

-- ---- The list of a rank ----

short_calls : (it : Listed) → length it.records < most_records → calls_of (cut it) ≡ calls_of it
short_calls it few = ap (λ (b : Bool). calls_of (cut_by it b)) (lt-ltb (length it.records) most_records few)

bare_calls : (b : Bool) (it : Listed) → calls_of (without_journal b it) ≡ calls_of it
bare_calls true it = refl
bare_calls false it = refl

pub each_plain_journal_stays_the_same : EachPlainJournalStaysTheSame
each_plain_journal_stays_the_same run choice rank strict gone plain few =
    let first = progress_first run rank in
    let all = gone.before ++ gone.last ∷ gone.after in
    let stands : Stands (λ request. 0) [] [] first = record {
      none_late = refl;
      found = λ request has. absurd (false≢true has);
      apart = λ one other has also same. absurd (false≢true has);
      are_known = λ request has. absurd (false≢true has);
    } in
    let own = of_before (lines_at run rank) gone.before (gone.last ∷ gone.after)
    (subst (λ (entries : List Placed). AreOf (lines_at run rank) entries) gone.are (all_of rank (journal_at run rank))) in
    let went = list_went run choice (lines_at run rank) strict plain.none_out plain.none_matched gone.before gone.last gone.after (λ request. 0) [] [] first (first_none run rank) own gone.none_breaks gone.ends plain.plain plain.once stands in
    let end = ends_through run choice gone.before gone.last gone.after first (first_none run rank) gone.ends gone.none_breaks in
    let said = flat_map (same_call_at run went.number) gone.before in
    record {
      number = went.number;
      once = each_once run (lines_at run rank) went.number gone.before gone.last (λ request. gone_of (lines_at run rank) request (plain.none_out request)) own gone.none_breaks plain.plain;
      same = bare_calls (is_none (journal_at run rank)) (cut (whole_list run choice rank))
          ∙ short_calls (whole_list run choice rank) few
          ∙ ap (λ (entries : List Placed). calls_of (list_from run choice first entries)) gone.are
          ∙ ap (λ (end : Call). calls_before (list_from run choice first all) ++ end ∷ []) end
          ∙ ap (λ (calls : List Call). calls ++ Finalize ∷ []) went.are
          ∙ ap (λ (calls : List Call). calls ++ said ++ Finalize ∷ []) (plain_calls 0 (preface_of run rank));
    }
