-- What a test of a journal that was read names is what the list has of it: an active send, or no send.
use Rattle.std.proofs.Common.{◌≡◌, ℕ, zero, suc, ◌+◌, ◌-◌, ◌≤◌, ◌==◌, ◌||◌, ◌&&◌, max, Bool, true, false, Option, Some, None, is_some, is_none, if◌then◌else◌, List, [], ◌∷◌, ◌++◌, length, refl, sym, ap, subst, ◌∙◌, arith, inl, inr, eq-eqb, eqb-true, append_assoc, append-nil}
use Rattle.std.specs.Prelude.{⊤, option_map, slice_get}
use Rattle.std.specs.Option.{option_map_or}
use Rattle.std.proofs.lemmas.Bool.{cases_Bool, false≢true, or_parts}
use Rattle.std.proofs.lemmas.Option.{none-some}
use Rattle.mpicall.specs.declared.call.Call.{Call}
use Rattle.mpicall.specs.declared.call.Mode.TheVariants.{Standard}
use Rattle.journals.specs.Lines.{Line}
use Rattle.journals.specs.Journal.{Journal}
use Rattle.journals.specs.Entries.{Entry, listing_of, last_entry, numbers_by, is_request}
use Rattle.journals.specs.Known.{is_among, has_report, report_of, requests_in, chosen_of, completes, is_completed}
use Rattle.journals.specs.Faults.{is_free, completed_last}
use Rattle.journals.specs.inner.Knows.{completed_earlier}
use Rattle.journals.proofs.EntryLemmas.{last_after_call, last_after_report, earlier_after_call, earlier_after_report, completed_is, add_report}
use Rattle.journals.proofs.LineForms.{same_numbers}
use Rattle.journals.specs.declared.form.Form.TheVariants.{Request}
use Rattle.journals.specs.declared.field.Field.{Field}
use Rattle.journals.specs.declared.field.Field.TheVariants.{Natural}
use Rattle.journals.specs.declared.word.Word.{Word}
use Rattle.journals.specs.declared.word.Word.TheVariants.{Call as CallLine, Report}
use Rattle.journals.specs.declared.word.CallWord.{CallWord}
use Rattle.journals.specs.declared.word.CallWord.TheVariants as call
use Rattle.journals.specs.declared.word.ReportWord.{ReportWord}
use Rattle.journals.specs.declared.word.ReportWord.TheVariants as report
use Rattle.closing.specs.Called.{Called, Sent, Awaited, StartsSend, Receives, StartsReceive, Probes, StartsExchange, ProbesMatching, StartsCollective, StartsDuplicate, ReceivesMatched, Waits, Tests, WaitsAny, WaitsSome, called, naturals_in}
use Rattle.closing.specs.RankComms.{RankComms, comms_first, after_line}
use Rattle.closing.specs.Entries.{Run, Placed, journal_at, placed_at, entries_from, entries_in, entries_at}
use Rattle.closing.specs.Reported.{is_gone}
use Rattle.closing.specs.Numbers.{preface_of}
use Rattle.closing.specs.declared.pending.Wanted.{Wanted}
use Rattle.closing.specs.Steps.{Id, Own, Whole, ReceiveHalf, Sink, Written, Progress, Step, Does, Starts, WaitsForAll, WaitsForOne, PutsOff, WaitsForLate, number_in, numbers_of, least_free, wait_for_one, waits_for, wait_one, plain, after_step, after_steps}
use Rattle.closing.specs.Endings.{needs_number, number_at, why_at}
use Rattle.closing.specs.Entry.{Choice, Here, here_at, start_send, start_receive, knowing, starts, on_comm, on_none, is_past, steps_by, steps_of, matched_message, starts_send_with, is_of_send, passes_tests, chosen}
use Rattle.closing.specs.Recording.{is_end, outcome_by, outcome_in, progress_first}
use Rattle.closing.specs.Sinks.{GoesOn, Ends, sinks, starts_half}
use Rattle.closing.specs.declared.choice.Calls.{Calls}
use Rattle.closing.specs.declared.choice.Calls.TheVariants as calls
use Rattle.closing.specs.declared.choice.Tests.{Tests as TestsChoice}
use Rattle.closing.specs.declared.choice.Tests.TheVariants as tests
use Rattle.closing.specs.declared.why.Why.{Why}
use Rattle.lawful.proofs.NameLemmas.{none_names}
use Rattle.lawful.proofs.NoSinks.{clear}
use Rattle.lawful.proofs.SinkCases.{IsUnsure, PassSinks, awaits_alone, both_halves, in_passes, sound_is, started_halves}
use Rattle.lawful.proofs.RightLines.{IsRight, AreRight}
use Rattle.lawful.proofs.NewNumbers.{IsKnown, IsKnownMessage, New, AllOf, Numbers, all_of, called_numbers}
use Rattle.lawful.proofs.CalledCases.{is_wait, WaitCase, called_case}
use Rattle.lawful.proofs.KnownLines.{still_taken, same_matched, same_send}
use Rattle.lawful.proofs.SentRequests.{Sound, sound_first, sound_push, sound_all, send_push, new_taken, free_not_sent, both_false, either_true}
use Rattle.lawful.proofs.ActiveSends.{Distinct, IsActive, AllSteps, Keeps, steps_distinct, steps_active, started_active}
use Rattle.lawful.proofs.OwnSteps.{PassOwn, done_by, stands_for, NoneStands, on_comm_all, received_all, all_append, all_if, all_unless, waits_all, steps_by_keep}
use Rattle.lawful.proofs.PlainSteps.{gone_of}
use Rattle.lawful.proofs.RunFacts.{right_of_rank}
use Rattle.closing.specs.Fit.{starts_send, StartsKind, HasKind, AllHaveKind, TestFits, TestsFit, FitsOn}
use Rattle.lawful.specs.Laws.{IsRead}

-- ---- Records that start requests ----

-- the request was started, by a send or not as the lines say
abbrev KindAt : List Line → ℕ → Bool → Type 0
KindAt lines request is_send = (is_free lines request ≡ false) × (is_send ≡ is_of_send lines request)

abbrev IsWritten : (ℕ → Bool → Type 0) → Written → Type 0
IsWritten P it = (request : ℕ) → it.starts ≡ Some (Own request) → P request (starts_send it.call)

abbrev AllWritten : (ℕ → Bool → Type 0) → List Written → Type 0
AllWritten P [] = ⊤
AllWritten P (it ∷ records) = IsWritten P it × AllWritten P records

abbrev StepKind : (ℕ → Bool → Type 0) → Step → Type 0
StepKind P (Starts (Own request) call) = (number : ℕ) → P request (starts_send (call number))
StepKind P step = ⊤

written_append : (P : ℕ → Bool → Type 0) (xs ys : List Written) → AllWritten P xs → AllWritten P ys → AllWritten P (xs ++ ys)
written_append P [] ys first others = others
written_append P (x ∷ xs) ys first others = (first.0, written_append P xs ys first.1 others)

written_plain : (P : ℕ → Bool → Type 0) (line : ℕ) (calls : List Call) → AllWritten P (plain line calls)
written_plain P line [] = tt
written_plain P line (call ∷ calls) = ((λ request h. absurd (none-some (Own request) h)), written_plain P line calls)

own_same : (one two : ℕ) → ◌≡◌ {A = Option Id} (Some (Own one)) (Some (Own two)) → one ≡ two
own_same one two h = cc

whole_not : (line request : ℕ) → ◌≡◌ {A = Option Id} (Some (Whole line)) (Some (Own request)) → ⊥
whole_not line request h = cc

half_not : (line request : ℕ) → ◌≡◌ {A = Option Id} (Some (ReceiveHalf line)) (Some (Own request)) → ⊥
half_not line request h = cc

sink_not : (own : Option ℕ) (wanted : Wanted) (is_known : Bool) (request : ℕ) → ◌≡◌ {A = Option Id} (Some (Sink own wanted is_known)) (Some (Own request)) → ⊥
sink_not own wanted is_known request h = cc

one_written : (P : ℕ → Bool → Type 0) (progress : Progress) (line : ℕ) (o : Option ℕ) (numbers : List ℕ) → AllWritten P progress.records → AllWritten P (wait_one progress line o numbers).records
one_written P progress line None numbers all = all
one_written P progress line (Some number) numbers all =
    written_append P progress.records (plain line (wait_for_one number numbers ∷ [])) all (written_plain P line (wait_for_one number numbers ∷ []))

step_written : (P : ℕ → Bool → Type 0) (progress : Progress) (line : ℕ) (step : Step) → StepKind P step → AllWritten P progress.records → AllWritten P (after_step progress line step).records
step_written P progress line (Does call) kind all = written_append P progress.records (plain line (call ∷ [])) all (written_plain P line (call ∷ []))
step_written P progress line (Starts (Own request) call) kind all =
    written_append P progress.records _ all
    ((λ other h. subst (λ (n : ℕ). P n (starts_send (call (least_free progress.active)))) (own_same request other h) (kind (least_free progress.active))), tt)
step_written P progress line (Starts (Whole own) call) kind all =
    written_append P progress.records _ all ((λ other h. absurd (whole_not own other h)), tt)
step_written P progress line (Starts (ReceiveHalf own) call) kind all =
    written_append P progress.records _ all ((λ other h. absurd (half_not own other h)), tt)
step_written P progress line (Starts (Sink own wanted is_known) call) kind all =
    written_append P progress.records _ all ((λ other h. absurd (sink_not own wanted is_known other h)), tt)
step_written P progress line (WaitsForAll ids) kind all =
    let numbers = numbers_of progress.active ids in
    written_append P progress.records (plain line (waits_for (length numbers) numbers)) all (written_plain P line (waits_for (length numbers) numbers))
step_written P progress line (WaitsForOne id ids) kind all = one_written P progress line (number_in progress.active id) _ all
step_written P progress line (PutsOff ids) kind all = all
step_written P progress line WaitsForLate kind all =
    let numbers = numbers_of progress.active progress.late in
    written_append P progress.records (plain line (waits_for (length numbers) numbers)) all (written_plain P line (waits_for (length numbers) numbers))

steps_written : (P : ℕ → Bool → Type 0) (progress : Progress) (line : ℕ) (steps : List Step) → AllSteps (StepKind P) steps → AllWritten P progress.records → AllWritten P (after_steps progress line steps).records
steps_written P progress line [] kinds all = all
steps_written P progress line (step ∷ steps) kinds all =
    steps_written P (after_step progress line step) line steps kinds.1 (step_written P progress line step kinds.0 all)

later_written : (before : List Line) (line : Line) (records : List Written) → IsRight before line → AllWritten (KindAt before) records → AllWritten (KindAt (before ++ line ∷ [])) records
later_written before line [] is all = tt
later_written before line (it ∷ records) is all = (
  (λ request h. (
    still_taken before line request (all.0 request h).0,
    (all.0 request h).1 ∙ sym (same_send before (line ∷ []) request (is, tt) (all.0 request h).0),
  )),
  later_written before line records is all.1,
)

-- ---- Steps of an entry ----

send_kind : (before : List Line) (word : CallWord) (fields : List Field) (request : ℕ) → New before word fields request → starts_send_with request (called word fields) ≡ true → KindAt (before ++ record { word = CallLine word; fields = fields } ∷ []) request true
send_kind before word fields request new h = (
  new_taken before word fields request new,
  sym (send_push before (record { word = CallLine word; fields = fields }) request ∙ or_true (is_of_send before request) (starts_send_with request (called word fields)) h),
)
  where
    or_true : (a b : Bool) → b ≡ true → (a || b) ≡ true
    or_true true b h = refl
    or_true false b h = h

other_kind : (before : List Line) (word : CallWord) (fields : List Field) (request : ℕ) → Sound before → New before word fields request → starts_send_with request (called word fields) ≡ false → KindAt (before ++ record { word = CallLine word; fields = fields } ∷ []) request false
other_kind before word fields request sound new h = (
  new_taken before word fields request new,
  sym (send_push before (record { word = CallLine word; fields = fields }) request
      ∙ both_false (is_of_send before request) (starts_send_with request (called word fields)) (free_not_sent before request sound new.free) h),
)

own_kinds : (before : List Line) (word : CallWord) (fields : List Field) (it : Called) → called word fields ≡ it → Sound before → Numbers (New before word fields) (IsKnown before) (IsKnownMessage before) it → PassOwn (StepKind (KindAt (before ++ record { word = CallLine word; fields = fields } ∷ []))) it
own_kinds before word fields (StartsSend request mode sent) e sound all =
    λ comm number. send_kind before word fields request all (ap (starts_send_with request) e ∙ eq-eqb request request refl)
own_kinds before word fields (StartsReceive request awaited) e sound all =
    λ comm it number. other_kind before word fields request sound all (ap (starts_send_with request) e)
own_kinds before word fields (StartsExchange request received sent awaited) e sound all = (
  λ comm number. send_kind before word fields request all.0 (ap (starts_send_with request) e ∙ eq-eqb request request refl),
  λ comm it number. other_kind before word fields received sound all.1 (ap (starts_send_with received) e ∙ all.2),
)
own_kinds before word fields (ProbesMatching message awaited) e sound all =
    λ comm it number. other_kind before word fields message sound all (ap (starts_send_with message) e)
own_kinds before word fields (StartsCollective request collective own root) e sound all =
    λ comm number. other_kind before word fields request sound all (ap (starts_send_with request) e)
own_kinds before word fields (StartsDuplicate request own) e sound all =
    λ comm number. other_kind before word fields request sound all (ap (starts_send_with request) e)
own_kinds before word fields _ e sound all = tt

steps_kinds : (P : ℕ → Bool → Type 0) (run : Run) (choice : Choice) (placed : Placed) (o : Option ℕ) → PassOwn (StepKind P) placed.called → AllSteps (StepKind P) (steps_by run choice placed o)
steps_kinds P run choice placed (Some comm) own =
    on_comm_all (StepKind P) (here_at run choice placed comm) placed.called
    (record { does = λ call. tt; whole = λ line call. tt; half = λ line call. tt }) own
steps_kinds P run choice placed None own =
    all_unless (StepKind P) (is_past choice.calls placed) (on_none choice placed placed.journal.lines placed.called)
    (waits_all (StepKind P) (on_none choice placed placed.journal.lines placed.called) (λ ids. tt) (λ id ids. tt) (λ ids. tt) tt
    (none_names (λ (call : Call). ⊥) choice placed placed.journal.lines placed.called))

-- ---- Sends that an entry starts ----

first_started : (here : Here) (request : ℕ) (start : ℕ → Call) (progress : Progress) (line : ℕ) (steps : List Step) → is_gone here.lines request ≡ false → Distinct progress.active → AllSteps (Keeps request) steps → IsActive request (after_steps progress line (starts here request start ++ steps))
first_started here request start progress line steps stays distinct keep = rw stays (started_active request progress line start steps distinct keep)

alone_started : (here : Here) (request : ℕ) (start : ℕ → Call) (progress : Progress) (line : ℕ) → is_gone here.lines request ≡ false → Distinct progress.active → IsActive request (after_steps progress line (starts here request start))
alone_started here request start progress line stays distinct = rw stays (started_active request progress line start [] distinct tt)

on_comm_started : (here : Here) (it : Called) (request : ℕ) (progress : Progress) (line : ℕ) → starts_send_with request it ≡ true → is_gone here.lines request ≡ false → Distinct progress.active → IsActive request (after_steps progress line (on_comm here it))
on_comm_started here (StartsSend own mode sent) request progress line h stays distinct =
    subst (λ (n : ℕ). IsActive request (after_steps progress line (starts here n (start_send mode here.comm sent)))) (sym (eqb-true own request h))
    (alone_started here request (start_send mode here.comm sent) progress line stays distinct)
on_comm_started here (StartsExchange own received sent awaited) request progress line h stays distinct =
    subst (λ (n : ℕ). IsActive request (after_steps progress line (starts here n (start_send Standard here.comm sent) ++ knowing here (λ it. starts here received (start_receive here.comm it))))) (sym (eqb-true own request h))
    (first_started here request (start_send Standard here.comm sent) progress line (knowing here (λ it. starts here received (start_receive here.comm it))) stays distinct
    (received_all (Keeps request) here received (λ comm it. tt)))
on_comm_started here _ request progress line h stays distinct = absurd (false≢true h)

send_needs : (request : ℕ) (it : Called) → starts_send_with request it ≡ true → needs_number it ≡ true
send_needs request (StartsSend own mode sent) h = refl
send_needs request (StartsExchange own received sent awaited) h = refl
send_needs request _ h = absurd (false≢true h)

by_started : (run : Run) (choice : Choice) (placed : Placed) (o : Option ℕ) (request : ℕ) (progress : Progress) (line : ℕ) → (needs_number placed.called && is_none o) ≡ false → starts_send_with request placed.called ≡ true → is_gone placed.journal.lines request ≡ false → Distinct progress.active → IsActive request (after_steps progress line (steps_by run choice placed o))
by_started run choice placed (Some comm) request progress line lacks h stays distinct =
    on_comm_started (here_at run choice placed comm) placed.called request progress line h stays distinct
by_started run choice placed None request progress line lacks h stays distinct =
    absurd (false≢true (sym lacks ∙ needs (needs_number placed.called) (send_needs request placed.called h)))
  where
    needs : (a : Bool) → a ≡ true → (a && true) ≡ true
    needs a holds = rw holds refl

-- ---- What an entry completes ----

abbrev entry_of : CallWord → List Field → List Line → Entry
entry_of word fields reports = record { word = word; fields = fields; reports = reports }

-- what a call completes as its line says it completes as the journal has it
abbrev Completes : Placed → List Field → List Line → CallWord → Called → Type 0
Completes placed fields reports word it = AllOf (λ request. is_among request (completes word (entry_of word fields reports)) ≡ true) (done_by placed it)

other_done : (placed : Placed) (fields : List Field) (reports : List Line) (word : CallWord) (it : Called) → is_wait it ≡ false → Completes placed fields reports word it
other_done placed fields reports word (ReceivesMatched message) h = absurd (false≢true (sym h))
other_done placed fields reports word (Waits requests) h = absurd (false≢true (sym h))
other_done placed fields reports word (Tests requests) h = absurd (false≢true (sym h))
other_done placed fields reports word (WaitsAny requests) h = absurd (false≢true (sym h))
other_done placed fields reports word (WaitsSome requests) h = absurd (false≢true (sym h))
other_done placed fields reports word _ h = tt

all_among : (numbers others : List ℕ) → others ≡ numbers → AllOf (λ request. is_among request others ≡ true) numbers
all_among numbers others same = all_of (λ request. is_among request others ≡ true) numbers (λ request among. subst (λ (all : List ℕ). is_among request all ≡ true) (sym same) among)

at_most : (n : ℕ) → n ≤ max 1 (n - 0)
at_most n = omega arith

matched_done : (placed : Placed) (fields : List Field) (reports : List Line) → Completes placed fields reports call.Mrecv (called call.Mrecv fields)
matched_done placed (Natural message ∷ []) reports = (rw (eq-eqb message message refl) refl, tt)
matched_done placed _ reports = tt

any_done : (placed : Placed) (fields : List Field) (named : List ℕ) (reports : List Line) (word : CallWord) → placed.entry.reports ≡ reports → named ≡ naturals_in fields → AllOf (λ request. is_among request (chosen_of named (requests_in (report_of report.Chose (entry_of word fields reports)))) ≡ true) (chosen placed (naturals_in fields))
any_done placed fields named reports word same named_is =
    all_among (chosen placed (naturals_in fields)) (chosen_of named (requests_in (report_of report.Chose (entry_of word fields reports))))
    (ap (λ (numbers : List ℕ). chosen_of numbers (requests_in (report_of report.Chose (entry_of word fields reports)))) named_is
    ∙ ap (λ (lines : List Line). chosen_of (naturals_in fields) (requests_in (report_of report.Chose (entry_of word fields lines)))) (sym same))

wait_done : (placed : Placed) (fields : List Field) (reports : List Line) (word : CallWord) → placed.entry.reports ≡ reports → WaitCase (Completes placed fields reports) word fields
wait_done placed fields reports call.Wait same =
    all_among (naturals_in fields) (numbers_by is_request (record { word = CallLine call.Wait; fields = fields }))
    (same_numbers is_request Request (max 1 (length fields - 0)) fields refl (at_most (length fields)))
wait_done placed fields reports call.Test same =
    all_among (naturals_in fields) (numbers_by is_request (record { word = CallLine call.Test; fields = fields }))
    (same_numbers is_request Request (max 1 (length fields - 0)) fields refl (at_most (length fields)))
wait_done placed fields reports call.Waitany same =
    any_done placed fields (numbers_by is_request (record { word = CallLine call.Waitany; fields = fields })) reports call.Waitany same
    (same_numbers is_request Request (max 1 (length fields - 0)) fields refl (at_most (length fields)))
wait_done placed fields reports call.Waitsome same =
    any_done placed fields (numbers_by is_request (record { word = CallLine call.Waitsome; fields = fields })) reports call.Waitsome same
    (same_numbers is_request Request (max 1 (length fields - 0)) fields refl (at_most (length fields)))
wait_done placed fields reports call.Mrecv same = matched_done placed fields reports
wait_done placed fields reports _ same = tt

all_done : (placed : Placed) (word : CallWord) (fields : List Field) (reports : List Line) → placed.entry.reports ≡ reports → Completes placed fields reports word (called word fields)
all_done placed word fields reports same =
    called_case (Completes placed fields reports) word fields (other_done placed fields reports word) (wait_done placed fields reports word same)

-- so none of what it completes stands for a send that it doesn't complete
stands_apart : (lines : List Line) (request other : ℕ) (o : Option ℕ) (done : List ℕ) → matched_message lines other ≡ o → Sound lines → is_of_send lines request ≡ true → is_among request done ≡ false → is_among other done ≡ true → (option_map_or (λ message. message) o other == request) ≡ false
stands_apart lines request other (Some message) done is sound sent none among =
    elim (cases_Bool (message == request)) [
      | inl same ↦ absurd (false≢true (sym (sound.matched other message is).0 ∙ subst (λ (n : ℕ). is_of_send lines n ≡ true) (sym (eqb-true message request same)) sent))
      | inr apart ↦ apart
    ]
stands_apart lines request other None done is sound sent none among =
    elim (cases_Bool (other == request)) [
      | inl same ↦ absurd (false≢true (sym none ∙ subst (λ (n : ℕ). is_among n done ≡ true) (eqb-true other request same) among))
      | inr apart ↦ apart
    ]

none_stands : (lines : List Line) (request : ℕ) (done others : List ℕ) → Sound lines → is_of_send lines request ≡ true → is_among request done ≡ false → AllOf (λ other. is_among other done ≡ true) others → NoneStands lines request others
none_stands lines request done [] sound sent none all = tt
none_stands lines request done (other ∷ others) sound sent none all =
    (stands_apart lines request other (matched_message lines other) done refl sound sent none all.0, none_stands lines request done others sound sent none all.1)

-- ---- The last entry ----

-- the last call so far is that of the entry, which has these reports with those to come
abbrev IsPending : List Line → List Line → Option Entry → Type 0
IsPending cur later None = last_entry cur ≡ None
IsPending cur later (Some entry) =
    (last : Entry) × (last_entry cur ≡ Some last) × (entry ≡ record { word = last.word; fields = last.fields; reports = last.reports ++ (listing_of later).early })

same_entry : (last : Entry) → record { word = last.word; fields = last.fields; reports = last.reports ++ [] } ≡ last
same_entry last = ap (λ (reports : List Line). entry_of last.word last.fields reports) (append-nil last.reports)

pending_done : (cur : List Line) (word : CallWord) (fields : List Field) (lines : List Line) (o : Option Entry) → IsPending cur (record { word = CallLine word; fields = fields } ∷ lines) o → last_entry cur ≡ o
pending_done cur word fields lines None pending = pending
pending_done cur word fields lines (Some entry) pending = pending.1 ∙ ap (λ (e : Entry). Some e) (sym (pending.2 ∙ same_entry pending.0))

pending_report : (cur : List Line) (word : ReportWord) (fields : List Field) (lines : List Line) (o : Option Entry) → IsPending cur (record { word = Report word; fields = fields } ∷ lines) o → IsPending (cur ++ record { word = Report word; fields = fields } ∷ []) lines o
pending_report cur word fields lines None pending =
    last_after_report cur word fields ∙ ap (option_map (add_report (record { word = Report word; fields = fields }))) pending
pending_report cur word fields lines (Some entry) pending =
    let it : Line = record { word = Report word; fields = fields } in (
      add_report it pending.0,
      last_after_report cur word fields ∙ ap (option_map (add_report it)) pending.1,
      pending.2 ∙ ap (λ (reports : List Line). entry_of pending.0.word pending.0.fields reports) (sym (append_assoc pending.0.reports (it ∷ []) (listing_of lines).early)),
    )

pending_call : (cur : List Line) (word : CallWord) (fields : List Field) (lines : List Line) → IsPending (cur ++ record { word = CallLine word; fields = fields } ∷ []) lines (Some (entry_of word fields (listing_of lines).early))
pending_call cur word fields lines = (entry_of word fields [], last_after_call cur word fields, refl)

-- ---- What a list has so far ----

record Holds (lines cur : List Line) (pending : Option Entry) (progress : Progress) : Type 0 where
  kinds : AllWritten (KindAt cur) progress.records
  distinct : Distinct progress.active
  active : (request : ℕ) → is_of_send cur request ≡ true → is_gone lines request ≡ false → completed_earlier cur request ≡ false → completed_last pending request ≡ false → IsActive request progress

or_false : (b : Bool) → (b || false) ≡ true → b ≡ true
or_false true h = refl
or_false false h = h

report_holds : (lines cur : List Line) (word : ReportWord) (fields : List Field) (pending : Option Entry) (progress : Progress) → IsRight cur (record { word = Report word; fields = fields }) → Holds lines cur pending progress → Holds lines (cur ++ record { word = Report word; fields = fields } ∷ []) pending progress
report_holds lines cur word fields pending progress is holds = record {
  kinds = later_written cur (record { word = Report word; fields = fields }) progress.records is holds.kinds;
  distinct = holds.distinct;
  active = λ request sent stays earlier last.
      holds.active request (or_false (is_of_send cur request) (sym (send_push cur (record { word = Report word; fields = fields }) request) ∙ sent)) stays
      (sym (earlier_after_report cur word fields request) ∙ earlier) last;
}

-- before a next call
still_active : (lines cur : List Line) (pending : Option Entry) (progress : Progress) (request : ℕ) → last_entry cur ≡ pending → Holds lines cur pending progress → is_of_send cur request ≡ true → is_gone lines request ≡ false → is_completed cur request ≡ false → IsActive request progress
still_active lines cur pending progress request last holds sent stays left =
    let parts = or_parts (completed_earlier cur request) (completed_last (last_entry cur) request) (sym (completed_is cur request) ∙ left) in
    holds.active request sent stays parts.0 (subst (λ (o : Option Entry). completed_last o request ≡ false) last parts.1)

-- ---- A test ----

-- what is known where a call line comes, in a journal with these lines
record IsCall (lines cur : List Line) (word : CallWord) (fields : List Field) (later : List Line) : Type 0 where
  are : lines ≡ cur ++ record { word = CallLine word; fields = fields } ∷ later
  right : AreRight cur (record { word = CallLine word; fields = fields } ∷ later)
  sound : Sound cur
  all_sound : Sound lines

abbrev id_by : (request : ℕ) (o : Option ℕ) → Id
id_by request o = Own (option_map_or (λ message. message) o request)

active_kind : (lines cur : List Line) (word : CallWord) (fields : List Field) (later : List Line) (pending : Option Entry) (progress : Progress) (request : ℕ) (o : Option ℕ) → matched_message lines request ≡ o → IsCall lines cur word fields later → last_entry cur ≡ pending → Holds lines cur pending progress → IsKnown cur request → is_gone lines request ≡ false → is_of_send lines request ≡ true → is_some (number_in progress.active (id_by request o)) ≡ true
active_kind lines cur word fields later pending progress request (Some message) is here last holds known stays sent =
    absurd (false≢true (sym (here.all_sound.receives request message is).0 ∙ sent))
active_kind lines cur word fields later pending progress request None is here last holds known stays sent =
    still_active lines cur pending progress request last holds
    (sym (ap (λ (ls : List Line). is_of_send ls request) here.are ∙ same_send cur _ request here.right known.taken) ∙ sent) stays known.left

kind_of_id : (lines cur : List Line) (word : CallWord) (fields : List Field) (later : List Line) (request : ℕ) (o : Option ℕ) (is_send : Bool) → matched_message lines request ≡ o → IsCall lines cur word fields later → IsKnown cur request → is_send ≡ is_of_send cur (option_map_or (λ message. message) o request) → is_send ≡ is_of_send lines request
kind_of_id lines cur word fields later request None is_send is here known h =
    h ∙ sym (ap (λ (ls : List Line). is_of_send ls request) here.are ∙ same_send cur _ request here.right known.taken)
kind_of_id lines cur word fields later request (Some message) is_send is here known h =
    let before : matched_message cur request ≡ Some message =
    sym (ap (λ (ls : List Line). matched_message ls request) here.are ∙ same_matched cur _ request here.right known.taken) ∙ is in
    h ∙ (here.sound.matched request message before).0 ∙ sym (here.all_sound.receives request message is).0

written_at : (P : ℕ → Bool → Type 0) (records : List Written) (place request : ℕ) (is_send : Bool) → AllWritten P records → ((b : Bool) → P request b → b ≡ is_send) → StartsKind is_send (Own request) (slice_get records place)
written_at P [] place request is_send all h = tt
written_at P (it ∷ records) zero request is_send all h = λ starts. h (starts_send it.call) (all.0 request starts)
written_at P (it ∷ records) (suc place) request is_send all h = written_at P records place request is_send all.1 h

has_kind : (lines cur : List Line) (word : CallWord) (fields : List Field) (later : List Line) (pending : Option Entry) (progress : Progress) (request : ℕ) → IsCall lines cur word fields later → last_entry cur ≡ pending → Holds lines cur pending progress → IsKnown cur request → is_gone lines request ≡ false → HasKind lines progress request
has_kind lines cur word fields later pending progress request here last holds known stays = record {
  active = λ sent. active_kind lines cur word fields later pending progress request (matched_message lines request) refl here last holds known stays sent;
  starts = λ place. written_at (KindAt cur) progress.records place (stands_for lines request) (is_of_send lines request) holds.kinds
      (λ b kind. kind_of_id lines cur word fields later request (matched_message lines request) b refl here known kind.1);
}

all_kinds : (lines cur : List Line) (word : CallWord) (fields : List Field) (later : List Line) (pending : Option Entry) (progress : Progress) (requests : List ℕ) → IsCall lines cur word fields later → last_entry cur ≡ pending → Holds lines cur pending progress → AllOf (IsKnown cur) requests → AllHaveKind lines progress requests
all_kinds lines cur word fields later pending progress [] here last holds known = tt
all_kinds lines cur word fields later pending progress (request ∷ requests) here last holds known =
    (λ stays. has_kind lines cur word fields later pending progress request here last holds known.0 (gone_of lines request stays), all_kinds lines cur word fields later pending progress requests here last holds known.1)

strict_past : (one : TestsChoice) (other : Calls) (placed : Placed) → passes_tests one other ≡ true → is_past other placed ≡ false
strict_past tests.Pass calls.Strict placed h = refl
strict_past tests.Pass calls.Went placed h = absurd (false≢true h)
strict_past _ calls.Strict placed h = refl
strict_past _ calls.Went placed h = absurd (false≢true h)

test_fits : (choice : Choice) (placed : Placed) (cur : List Line) (word : CallWord) (fields : List Field) (later : List Line) (pending : Option Entry) (progress : Progress) (it : Called) → IsCall placed.journal.lines cur word fields later → last_entry cur ≡ pending → Holds placed.journal.lines cur pending progress → Numbers (New cur word fields) (IsKnown cur) (IsKnownMessage cur) it → TestFits choice placed it progress
test_fits choice placed cur word fields later pending progress (Tests requests) here last holds all =
    λ passes. (strict_past choice.tests choice.calls placed passes, all_kinds placed.journal.lines cur word fields later pending progress requests here last holds all)
test_fits choice placed cur word fields later pending progress _ here last holds all = tt

-- ---- After a call ----

none_completed : (word : CallWord) (fields : List Field) (reports : List Line) (request : ℕ) → has_report report.Failed (entry_of word fields reports) ≡ false → completed_last (Some (entry_of word fields reports)) request ≡ false → is_among request (completes word (entry_of word fields reports)) ≡ false
none_completed word fields reports request well h =
    by_fail (has_report report.Failed (entry_of word fields reports)) well h
  where
    by_fail : (b : Bool) → b ≡ false → is_among request (if b then [] else completes word (entry_of word fields reports)) ≡ false → is_among request (completes word (entry_of word fields reports)) ≡ false
    by_fail true is h = absurd (false≢true (sym is))
    by_fail false is h = h

-- an entry, where its call line comes
record GoesSo (placed : Placed) (cur : List Line) (word : CallWord) (fields : List Field) (later : List Line) : Type 0 where
  here : IsCall placed.journal.lines cur word fields later
  called_is : placed.called ≡ called word fields
  entry_is : placed.entry ≡ entry_of word fields (listing_of later).early

-- the steps of one at which the list goes on: what they start is of its kind, they wait for no request that the call
-- doesn't complete, and its send is active after them
record HasSteps (P : ℕ → Bool → Type 0) (placed : Placed) (progress : Progress) (steps : List Step) : Type 0 where
  well : has_report report.Failed placed.entry ≡ false
  kinds : AllSteps (StepKind P) steps
  keeps : (request : ℕ) → NoneStands placed.journal.lines request (done_by placed placed.called) → AllSteps (Keeps request) steps
  starts : (request : ℕ) → starts_send_with request placed.called ≡ true → is_gone placed.journal.lines request ≡ false → Distinct progress.active → IsActive request (after_steps progress placed.line steps)

has_steps : (P : ℕ → Bool → Type 0) (run : Run) (choice : Choice) (placed : Placed) (progress : Progress) → PassOwn (StepKind P) placed.called → why_at run placed ≡ None → HasSteps P placed progress (steps_of run choice placed)
has_steps P run choice placed progress own goes =
    let it = clear run placed goes in
    record {
      well = it.well;
      kinds = steps_kinds P run choice placed (number_at run placed) own;
      keeps = λ request apart. steps_by_keep run choice placed request (number_at run placed) apart;
      starts = λ request h stays distinct. by_started run choice placed (number_at run placed) request progress placed.line it.numbered h stays distinct;
    }

send_active : (placed : Placed) (cur : List Line) (word : CallWord) (fields : List Field) (later : List Line) (pending : Option Entry) (progress : Progress) (steps : List Step) (request : ℕ) → GoesSo placed cur word fields later → last_entry cur ≡ pending → Holds placed.journal.lines cur pending progress → HasSteps (KindAt (cur ++ record { word = CallLine word; fields = fields } ∷ [])) placed progress steps → is_of_send cur request ≡ true → is_gone placed.journal.lines request ≡ false → is_completed cur request ≡ false → completed_last (Some (entry_of word fields (listing_of later).early)) request ≡ false → IsActive request (after_steps progress placed.line steps)
send_active placed cur word fields later pending progress steps request so last holds has sent stays left mine =
    let lines = placed.journal.lines in
    let reports = (listing_of later).early in
    let done = completes word (entry_of word fields reports) in
    let well : has_report report.Failed (entry_of word fields reports) ≡ false = subst (λ (e : Entry). has_report report.Failed e ≡ false) so.entry_is has.well in
    let all_sent : is_of_send lines request ≡ true =
    ap (λ (ls : List Line). is_of_send ls request) so.here.are ∙ same_send cur _ request so.here.right (so.here.sound.sends request sent) ∙ sent in
    let apart : NoneStands lines request (done_by placed placed.called) =
    none_stands lines request done (done_by placed placed.called) so.here.all_sound all_sent (none_completed word fields reports request well mine)
    (subst (λ (it : Called). Completes placed fields reports word it) (sym so.called_is)
    (all_done placed word fields reports (ap (λ (e : Entry). e.reports) so.entry_is))) in
    steps_active request progress placed.line steps holds.distinct (has.keeps request apart)
    (still_active lines cur pending progress request last holds sent stays left)

call_holds : (placed : Placed) (cur : List Line) (word : CallWord) (fields : List Field) (later : List Line) (pending : Option Entry) (progress : Progress) (steps : List Step) → GoesSo placed cur word fields later → last_entry cur ≡ pending → Holds placed.journal.lines cur pending progress → HasSteps (KindAt (cur ++ record { word = CallLine word; fields = fields } ∷ [])) placed progress steps → Holds placed.journal.lines (cur ++ record { word = CallLine word; fields = fields } ∷ []) (Some (entry_of word fields (listing_of later).early)) (after_steps progress placed.line steps)
call_holds placed cur word fields later pending progress steps so last holds has =
    let line : Line = record { word = CallLine word; fields = fields } in
    record {
      kinds = steps_written (KindAt (cur ++ line ∷ [])) progress placed.line steps has.kinds (later_written cur line progress.records so.here.right.0 holds.kinds);
      distinct = steps_distinct progress placed.line steps holds.distinct;
      active = λ request sent stays earlier mine. either request sent stays (sym (earlier_after_call cur word fields request) ∙ earlier) mine;
    }
  where
    either : (request : ℕ) → is_of_send (cur ++ record { word = CallLine word; fields = fields } ∷ []) request ≡ true → is_gone placed.journal.lines request ≡ false → is_completed cur request ≡ false → completed_last (Some (entry_of word fields (listing_of later).early)) request ≡ false → IsActive request (after_steps progress placed.line steps)
    either request sent stays left mine =
        elim (cases_Bool (is_of_send cur request)) [
          | inl before ↦ send_active placed cur word fields later pending progress steps request so last holds has before stays left mine
          | inr not_before ↦
              let starts = either_true (is_of_send cur request) (starts_send_with request (called word fields))
              (sym (send_push cur (record { word = CallLine word; fields = fields }) request) ∙ sent) not_before in
              has.starts request (ap (starts_send_with request) so.called_is ∙ starts) stays holds.distinct
        ]

-- ---- Sinks ----

alone_sends_none : (request : ℕ) (it : Called) → awaits_alone it ≡ true → starts_send_with request it ≡ false
alone_sends_none request (Receives awaited) h = refl
alone_sends_none request (StartsReceive own awaited) h = refl
alone_sends_none request (Probes awaited) h = refl
alone_sends_none request (ProbesMatching message awaited) h = refl
alone_sends_none request _ h = absurd (false≢true h)

sink_steps : (P : ℕ → Bool → Type 0) (run : Run) (placed : Placed) (progress : Progress) (wanted : Wanted) (steps : List Step) → IsUnsure run placed wanted → ((request : ℕ) → starts_send_with request placed.called ≡ false) → AllSteps (StepKind P) steps → ((request : ℕ) → AllSteps (Keeps request) steps) → HasSteps P placed progress steps
sink_steps P run placed progress wanted steps is none kinds keeps = record {
  well = (sound_is run placed is.sound).well;
  kinds = kinds;
  keeps = λ request apart. keeps request;
  starts = λ request h stays distinct. absurd (false≢true (sym (none request) ∙ h));
}

halves_active : (placed : Placed) (wanted : Wanted) (request received : ℕ) (sent : Sent) (progress : Progress) → is_gone placed.journal.lines request ≡ false → Distinct progress.active → IsActive request (after_steps progress placed.line (started_halves placed wanted request received sent))
halves_active placed wanted request received sent progress stays distinct =
    rw stays (started_active request progress placed.line (start_send Standard wanted.comm sent) (sinks placed wanted (Some received) ∷ []) distinct (tt, tt))

halves_start : (placed : Placed) (wanted : Wanted) (request received other : ℕ) (sent : Sent) (progress : Progress) → (request == other) ≡ true → is_gone placed.journal.lines other ≡ false → Distinct progress.active → IsActive other (after_steps progress placed.line (started_halves placed wanted request received sent))
halves_start placed wanted request received other sent progress same stays distinct =
    subst (λ (n : ℕ). IsActive n (after_steps progress placed.line (started_halves placed wanted request received sent))) (eqb-true request other same)
    (halves_active placed wanted request received sent progress
    (subst (λ (n : ℕ). is_gone placed.journal.lines n ≡ false) (sym (eqb-true request other same)) stays) distinct)

halves_all : (S : Step → Type 0) (placed : Placed) (wanted : Wanted) (request received : ℕ) (sent : Sent) → S (starts_half wanted (Own request) sent) → S (sinks placed wanted (Some received)) → AllSteps S (started_halves placed wanted request received sent)
halves_all S placed wanted request received sent first other =
    all_append S (if is_gone placed.journal.lines request then [] else starts_half wanted (Own request) sent ∷ []) (sinks placed wanted (Some received) ∷ [])
    (all_if S (is_gone placed.journal.lines request) [] (starts_half wanted (Own request) sent ∷ []) tt (first, tt)) (other, tt)

halves_steps : (P : ℕ → Bool → Type 0) (run : Run) (placed : Placed) (progress : Progress) (wanted : Wanted) (request received : ℕ) (sent : Sent) (awaited : Awaited) → placed.called ≡ StartsExchange request received sent awaited → IsUnsure run placed wanted → PassOwn (StepKind P) placed.called → HasSteps P placed progress (started_halves placed wanted request received sent)
halves_steps P run placed progress wanted request received sent awaited called is own = record {
  well = (sound_is run placed is.sound).well;
  kinds = halves_all (StepKind P) placed wanted request received sent ((subst (λ (it : Called). PassOwn (StepKind P) it) called own).0 wanted.comm) tt;
  keeps = λ other apart. halves_all (Keeps other) placed wanted request received sent tt tt;
  starts = λ other h stays distinct.
      halves_start placed wanted request received other sent progress (sym (ap (starts_send_with other) called) ∙ h) stays distinct;
}

-- ---- Entries ----

on_end : (b : Bool) (progress : Progress) (line : ℕ) (ends : List Step) (end : Call) (why : Option Why) (steps : List Step) (others : Progress → Type 0) → others (after_steps progress line steps) → FitsOn progress line (if b then Ends ends end why else GoesOn steps) others
on_end true progress line ends end why steps others rest = tt
on_end false progress line ends end why steps others rest = rest

on_outcome : (run : Run) (choice : Choice) (placed : Placed) (progress : Progress) (o : Option Why) (others : Progress → Type 0) → why_at run placed ≡ o → (why_at run placed ≡ None → others (after_steps progress placed.line (steps_of run choice placed))) → FitsOn progress placed.line (outcome_by run choice placed o) others
on_outcome run choice placed progress (Some why) others is rest = tt
on_outcome run choice placed progress None others is rest =
    on_end (is_end placed.called) progress placed.line (WaitsForLate ∷ []) _ None (steps_of run choice placed) others (rest is)

-- what comes after the entry is so, if it is so after each list of such steps
abbrev RestFits : (ℕ → Bool → Type 0) → Placed → Progress → (Progress → Type 0) → Type 0
RestFits P placed progress others = (steps : List Step) → HasSteps P placed progress steps → others (after_steps progress placed.line steps)

on_sinks : (P : ℕ → Bool → Type 0) (run : Run) (placed : Placed) (progress : Progress) (others : Progress → Type 0) → PassOwn (StepKind P) placed.called → RestFits P placed progress others → PassSinks run placed (λ outcome. FitsOn progress placed.line outcome others)
on_sinks P run placed progress others own rest = record {
  ended = λ why. tt;
  ended_by_both = λ wanted is sent awaited called. tt;
  nothing = λ wanted is alone.
      rest [] (sink_steps P run placed progress wanted [] is (λ request. alone_sends_none request placed.called alone) tt (λ request. tt));
  alone = λ wanted is alone one.
      rest (sinks placed wanted one ∷ [])
      (sink_steps P run placed progress wanted (sinks placed wanted one ∷ []) is (λ request. alone_sends_none request placed.called alone) (tt, tt) (λ request. (tt, tt)));
  both = λ wanted is sent awaited called.
      rest (both_halves placed wanted sent)
      (sink_steps P run placed progress wanted (both_halves placed wanted sent) is (λ request. ap (starts_send_with request) called) (tt, (tt, tt)) (λ request. (tt, (tt, tt))));
  halves = λ wanted is request received sent awaited called.
      rest (started_halves placed wanted request received sent) (halves_steps P run placed progress wanted request received sent awaited called is own);
}

entry_tests : (P : ℕ → Bool → Type 0) (run : Run) (choice : Choice) (placed : Placed) (progress : Progress) (others : Progress → Type 0) → PassOwn (StepKind P) placed.called → RestFits P placed progress others → FitsOn progress placed.line (outcome_in run choice progress.records placed) others
entry_tests P run choice placed progress others own rest =
    in_passes run choice progress.records placed (λ outcome. FitsOn progress placed.line outcome others)
    (on_outcome run choice placed progress (why_at run placed) others refl (λ goes. rest (steps_of run choice placed) (has_steps P run choice placed progress own goes)))
    (on_sinks P run placed progress others own rest)

-- where some lines of a rank's journal were gone through
record IsThere (run : Run) (journal : Journal) (cur lines : List Line) (pending : Option Entry) (progress : Progress) : Type 0 where
  are : journal.lines ≡ cur ++ lines
  right : AreRight cur lines
  sound : Sound cur
  all_sound : Sound journal.lines
  last : IsPending cur lines pending
  holds : Holds journal.lines cur pending progress

put_tests : (run : Run) (choice : Choice) (rank : ℕ) (journal : Journal) (number : ℕ) (comms : RankComms) (cur : List Line) (word : Word) (fields : List Field) (lines : List Line) (pending : Option Entry) (progress : Progress) → IsThere run journal cur (record { word = word; fields = fields } ∷ lines) pending progress → ((next : Option Entry) (after : Progress) → IsThere run journal (cur ++ record { word = word; fields = fields } ∷ []) lines next after → TestsFit run choice after (entries_from rank journal (number + 1) (after_line comms (record { word = word; fields = fields })) lines)) → TestsFit run choice progress (entries_from rank journal number comms (record { word = word; fields = fields } ∷ lines))
put_tests run choice rank journal number comms cur (CallLine word) fields lines pending progress there rest =
    let line : Line = record { word = CallLine word; fields = fields } in
    let placed = placed_at rank journal number comms (entry_of word fields (listing_of lines).early) lines in
    let here : IsCall journal.lines cur word fields lines = record { are = there.are; right = there.right; sound = there.sound; all_sound = there.all_sound } in
    let last = pending_done cur word fields lines pending there.last in (
      test_fits choice placed cur word fields lines pending progress (called word fields) here last there.holds (called_numbers cur word fields there.right.0),
      entry_tests (KindAt (cur ++ line ∷ [])) run choice placed progress
          (λ after. TestsFit run choice after (entries_from rank journal (number + 1) (after_line comms line) lines))
          (own_kinds cur word fields (called word fields) refl there.sound (called_numbers cur word fields there.right.0))
          (λ steps has. rest (Some (entry_of word fields (listing_of lines).early)) (after_steps progress placed.line steps)
          (record {
            are = there.are ∙ sym (append_assoc cur (line ∷ []) lines);
            right = there.right.1;
            sound = sound_push cur line there.right.0 there.sound;
            all_sound = there.all_sound;
            last = pending_call cur word fields lines;
            holds = call_holds placed cur word fields lines pending progress steps (record { here = here; called_is = refl; entry_is = refl }) last there.holds has;
          })),
    )
put_tests run choice rank journal number comms cur (Report word) fields lines pending progress there rest =
    let line : Line = record { word = Report word; fields = fields } in
    rest pending progress (record {
      are = there.are ∙ sym (append_assoc cur (line ∷ []) lines);
      right = there.right.1;
      sound = sound_push cur line there.right.0 there.sound;
      all_sound = there.all_sound;
      last = pending_report cur word fields lines pending there.last;
      holds = report_holds journal.lines cur word fields pending progress there.right.0 there.holds;
    })

from_tests : (run : Run) (choice : Choice) (rank : ℕ) (journal : Journal) (number : ℕ) (comms : RankComms) (cur lines : List Line) (pending : Option Entry) (progress : Progress) → IsThere run journal cur lines pending progress → TestsFit run choice progress (entries_from rank journal number comms lines)
from_tests run choice rank journal number comms cur [] pending progress there = tt
from_tests run choice rank journal number comms cur (line ∷ lines) pending progress there =
    put_tests run choice rank journal number comms cur line.word line.fields lines pending progress there
    (λ next after reached. from_tests run choice rank journal (number + 1) (after_line comms line) (cur ++ line ∷ []) lines next after reached)

in_tests : (run : Run) (choice : Choice) (rank : ℕ) (o : Option Journal) → ((journal : Journal) → o ≡ Some journal → AreRight [] journal.lines) → TestsFit run choice (progress_first run rank) (entries_in rank o)
in_tests run choice rank None right = tt
in_tests run choice rank (Some journal) right =
    from_tests run choice rank journal 2 (comms_first rank) [] journal.lines None (progress_first run rank) (record {
      are = refl;
      right = right journal refl;
      sound = sound_first;
      all_sound = sound_all [] journal.lines (right journal refl) sound_first;
      last = refl;
      holds = record {
        kinds = written_plain (KindAt []) 0 (preface_of run rank);
        distinct = tt;
        active = λ request sent stays earlier last. absurd (false≢true sent);
      };
    })

-- what tests of a run that was read name is what the lists have of it
pub tests_fit : (run : Run) (choice : Choice) (rank : ℕ) → IsRead run → TestsFit run choice (progress_first run rank) (entries_at run rank)
tests_fit run choice rank read =
    in_tests run choice rank (journal_at run rank) (λ journal h. right_of_rank read.first read.texts run read.is_read rank journal h)
