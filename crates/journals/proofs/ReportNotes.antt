-- What is noted of a number after a report.
use Rattle.std.proofs.Common.{◌≡◌, ℕ, ◌+◌, ◌-◌, ◌≤◌, max, Bool, true, false, ◌&&◌, ◌||◌, not, ◌==◌, if◌then◌else◌, List, [], ◌∷◌, ◌++◌, length, replicate, Option, Some, None, is_some, option_map, option_and_then, sym, ap, ◌∙◌, refl, subst, arith, inl, inr, length-append}
use Rattle.std.proofs.lemmas.List.{length-replicate}
use Rattle.std.specs.List.{list_any, filter_map, find, zip}
use Rattle.std.proofs.lemmas.Bool.{cases_Bool, and_parts, false≢true, eq-eqb, eqb-true, not-true, false_from_ne_true}
use Rattle.mpicall.specs.Word.{or_else}
use Rattle.journals.specs.Words.{forms_of}
use Rattle.journals.specs.Lines.{Line}
use Rattle.journals.specs.Entries.{Entry, call_of, numbers_by, number_if, is_of_request, is_new_request, is_new_message, is_request, last_entry}
use Rattle.journals.specs.Known.{is_among, are_distinct, is_outcome, is_report, has_report, report_of, requests_in, chosen_of, completes, completed_by}
use Rattle.journals.specs.Faults.{completed_last, may_choose}
use Rattle.journals.specs.inner.Naturals.{naturals}
use Rattle.journals.specs.inner.Numbered.{numbered, numbers_with}
use Rattle.journals.specs.Taking.{fields_at}
use Rattle.journals.specs.inner.Last.{with_report}
use Rattle.journals.specs.inner.Notes.{reported_note, by_report, may_report, or_before, is_now, without, undone_note, undone_at}
use Rattle.journals.specs.inner.Knows.{IsRead, LastIs, NoteIs, NoteBelow, IsBelow, by_note, is_last, is_earlier, called_last, chosen_by, may_be_by, noted_last, may_follow_last, IsLast, is_unfit}
use Rattle.journals.specs.declared.field.Field.{Field}
use Rattle.journals.specs.declared.field.Field.TheVariants.{Natural, Signed, Null, Any, Undefined}
use Rattle.journals.specs.declared.form.Form.{Form}
use Rattle.journals.specs.declared.form.Form.TheVariants.{NewRequest, Request}
use Rattle.journals.specs.declared.last.LastCall.{LastCall}
use Rattle.journals.specs.declared.note.Note.{Note}
use Rattle.journals.specs.declared.word.CallWord.{CallWord}
use Rattle.journals.specs.declared.word.CallWord.TheVariants as call
use Rattle.journals.specs.declared.word.ReportWord.{ReportWord}
use Rattle.journals.specs.declared.word.ReportWord.TheVariants as report
use Rattle.journals.specs.declared.word.Word.TheVariants.{Call, Report}
use Rattle.journals.proofs.Tests.{and_false, and_true, or_false, or_true}
use Rattle.journals.proofs.EntryLemmas.{add_report, last_after_report, earlier_after_report, any_push, parent_push}
use Rattle.journals.proofs.UseLemmas.{numbers_are, use_of, is_use, among_use, after_use, IsPart, new_request_part, new_message_part, request_part}
use Rattle.journals.proofs.LineForms.{same_numbers}
use Rattle.journals.proofs.CallNotes.{note_below_more, below_more}

abbrev report_line : ReportWord → List Field → Line
report_line word fields = record { word = Report word; fields = fields }

-- ---- The reports of an entry with one more ----

has_push : (kind : ReportWord) (line : Line) (entry : Entry) → has_report kind (add_report line entry) ≡ (has_report kind entry || is_report kind line.word)
has_push kind line entry = any_push (λ it. is_report kind it.word) entry.reports line

pub has_more : (kind word : ReportWord) (fields : List Field) (entry : Entry) → has_report kind (add_report (report_line word fields) entry) ≡ (has_report kind entry || is_report kind (Report word))
has_more kind word fields entry = has_push kind (report_line word fields) entry

-- a report that is no choice leaves the one that was reported
find_push : (test : Line → Bool) (lines : List Line) (line : Line) → test line ≡ false → find test (lines ++ line ∷ []) ≡ find test lines
find_push test [] line fails = rw fails refl
find_push test (first ∷ lines) line fails =
    elim (cases_Bool (test first)) [
      | inl passes ↦ rw passes refl
      | inr other ↦ rw other (find_push test lines line fails)
    ]

find_first : (test : Line → Bool) (lines : List Line) (line : Line) → list_any test lines ≡ false → test line ≡ true → find test (lines ++ line ∷ []) ≡ Some line
find_first test [] line none passes = rw passes refl
find_first test (first ∷ lines) line none passes =
    elim (cases_Bool (test first)) [
      | inl is ↦ absurd (false≢true (sym none ∙ rw is refl))
      | inr fails ↦ rw fails (find_first test lines line (rw fails at none) passes)
    ]

-- what a call completes, by the report of its choice
completes_by : CallWord → Entry → Option Line → List ℕ
completes_by call.Waitany entry chosen = chosen_of (numbers_by is_request (call_of entry)) (requests_in chosen)
completes_by call.Waitsome entry chosen = chosen_of (numbers_by is_request (call_of entry)) (requests_in chosen)
completes_by word entry chosen = completes word entry

completes_chosen : (word : CallWord) (entry : Entry) → completes word entry ≡ completes_by word entry (report_of report.Chose entry)
unfolding completes_by
completes_chosen call.Waitany entry = refl
completes_chosen call.Waitsome entry = refl
completes_chosen _ entry = refl

completes_more : (word : CallWord) (line : Line) (entry : Entry) (chosen : Option Line) → completes_by word (add_report line entry) chosen ≡ completes_by word entry chosen
unfolding completes_by
completes_more call.Waitany line entry chosen = refl
completes_more call.Waitsome line entry chosen = refl
completes_more _ line entry chosen = refl

-- a report that is no choice, of a call that didn't fail by it, completes nothing more
same_completed : (word : ReportWord) (fields : List Field) (entry : Entry) → is_report report.Chose (Report word) ≡ false → is_report report.Failed (Report word) ≡ false → completed_by (add_report (report_line word fields) entry) ≡ completed_by entry
same_completed word fields entry not_chose not_failed =
    let failed : has_report report.Failed (add_report (report_line word fields) entry) ≡ has_report report.Failed entry = has_more report.Failed word fields entry ∙ ap (λ (b : Bool). has_report report.Failed entry || b) not_failed ∙ or_false _ in
    let same : completes entry.word (add_report (report_line word fields) entry) ≡ completes entry.word entry =
    completes_chosen entry.word (add_report (report_line word fields) entry)
    ∙ ap (completes_by entry.word (add_report (report_line word fields) entry)) (find_push (λ it. is_report report.Chose it.word) entry.reports (report_line word fields) not_chose)
    ∙ completes_more entry.word (report_line word fields) entry (report_of report.Chose entry)
    ∙ sym (completes_chosen entry.word entry) in
    ap (λ (b : Bool). if b then [] else completes entry.word (add_report (report_line word fields) entry)) failed
    ∙ ap (λ (ns : List ℕ). if has_report report.Failed entry then [] else ns) same

-- ---- A choice ----

chosen_or : (named reported : List ℕ) (number : ℕ) → (is_among number reported ≡ true → is_among number named ≡ true) → is_among number (chosen_of named reported) ≡ (is_among number (chosen_of named []) || is_among number reported)
chosen_or [] reported number within = refl
chosen_or (only ∷ []) reported number within =
    elim (cases_Bool (is_among number (only ∷ []))) [
      | inl is ↦ is ∙ sym (ap (λ (b : Bool). b || is_among number reported) is)
      | inr not_is ↦ (
          let none : is_among number reported ≡ false = false_from_ne_true _ (λ is. false≢true (sym not_is ∙ within is)) in
          not_is ∙ sym (ap (λ (b : Bool). b || is_among number reported) not_is ∙ none))
    ]
chosen_or (only ∷ other ∷ named) reported number within = refl

choice : (word : CallWord) (count : ℕ) (entry : Entry) (line : Line) (number : ℕ) → may_choose word count ≡ true → (is_among number (numbers_by is_request line) ≡ true → is_among number (numbers_by is_request (call_of entry)) ≡ true) → is_among number (completes_by word entry (Some line)) ≡ (is_among number (completes_by word entry None) || is_among number (numbers_by is_request line))
unfolding completes_by
choice call.Waitany count entry line number may within = chosen_or _ _ number within
choice call.Waitsome count entry line number may within = chosen_or _ _ number within
choice _ count entry line number may within = absurd (false≢true may)

find_none : (test : Line → Bool) (lines : List Line) → list_any test lines ≡ false → find test lines ≡ None
find_none test [] none = refl
find_none test (first ∷ lines) none =
    elim (cases_Bool (test first)) [
      | inl is ↦ absurd (false≢true (sym none ∙ rw is refl))
      | inr fails ↦ rw fails (find_none test lines (rw fails at none))
    ]

pub chosen_completed : (fields : List Field) (count : ℕ) (entry : Entry) (number : ℕ) → may_choose entry.word count ≡ true → has_report report.Chose entry ≡ false → (is_among number (numbers_by is_request (report_line report.Chose fields)) ≡ true → is_among number (numbers_by is_request (call_of entry)) ≡ true) → is_among number (completed_by (add_report (report_line report.Chose fields) entry)) ≡ (is_among number (completed_by entry) || (not (has_report report.Failed entry) && is_among number (numbers_by is_request (report_line report.Chose fields))))
chosen_completed fields count entry number may not_chosen within =
    let line = report_line report.Chose fields in
    let failed : has_report report.Failed (add_report line entry) ≡ has_report report.Failed entry = has_more report.Failed report.Chose fields entry ∙ or_false _ in
    let after : completes entry.word (add_report line entry) ≡ completes_by entry.word entry (Some line) =
    completes_chosen entry.word (add_report line entry)
    ∙ ap (completes_by entry.word (add_report line entry)) (find_first (λ it. is_report report.Chose it.word) entry.reports line not_chosen refl)
    ∙ completes_more entry.word line entry (Some line) in
    let before : completes entry.word entry ≡ completes_by entry.word entry None =
    completes_chosen entry.word entry ∙ ap (completes_by entry.word entry) (find_none (λ it. is_report report.Chose it.word) entry.reports not_chosen) in
    elim (cases_Bool (has_report report.Failed entry)) [
      | inl is ↦ rw (failed, is) refl
      | inr is ↦ rw (failed, is, after, before) (choice entry.word count entry line number may within)
    ]

-- ---- What a failed call completed ----

pub failed_completed : (fields : List Field) (entry : Entry) → completed_by (add_report (report_line report.Failed fields) entry) ≡ []
failed_completed fields entry =
    let failed : has_report report.Failed (add_report (report_line report.Failed fields) entry) ≡ true = has_more report.Failed report.Failed fields entry ∙ or_true _ in
    rw failed refl

-- the numbers of a line are among its fields
pub among_fields : (test : Form → Bool) (forms : List Form) (fields : List Field) (number : ℕ) → is_among number (filter_map (number_if test) (zip forms fields)) ≡ true → is_among number (naturals fields) ≡ true
among_fields test [] fields number is = cc
among_fields test (form ∷ forms) [] number is = cc
among_fields test (form ∷ forms) (Natural one ∷ fields) number is =
    elim (cases_Bool (test form)) [
      | inl passes ↦ elim (cases_Bool (one == number)) [
        | inl here ↦ rw here refl
        | inr apart ↦ rw apart (among_fields test forms fields number (rw (passes, apart) at is))
      ]
      | inr fails ↦ rw (among_fields test forms fields number (rw fails at is)) (or_true (one == number))
    ]
among_fields test (form ∷ forms) (Signed one ∷ fields) number is = among_fields test forms fields number is
among_fields test (form ∷ forms) (Null ∷ fields) number is = among_fields test forms fields number is
among_fields test (form ∷ forms) (Any ∷ fields) number is = among_fields test forms fields number is
among_fields test (form ∷ forms) (Undefined ∷ fields) number is = among_fields test forms fields number is

-- a wait for any or some of several names requests alone
pub wait_called : (ranks count : ℕ) (entry : Entry) → may_choose entry.word count ≡ true → IsRead ranks (call_of entry) → numbers_by is_of_request (call_of entry) ≡ numbers_by is_request (call_of entry)
wait_called ranks count entry may read = by_word entry.word entry.fields may read
  where
    named : (n : ℕ) (fields : List Field) → length (replicate n Request) ≡ length fields → filter_map (number_if is_of_request) (zip ([] ++ replicate n Request) fields) ≡ filter_map (number_if is_request) (zip ([] ++ replicate n Request) fields)
    named n fields fits =
        let within : length fields ≤ n = omega (arith, fits, length-replicate n Request) in
        same_numbers is_of_request Request n fields refl within ∙ sym (same_numbers is_request Request n fields refl within)

    by_word : (word : CallWord) (fields : List Field) → may_choose word count ≡ true → IsRead ranks (record { word = Call word; fields = fields }) → numbers_by is_of_request (record { word = Call word; fields = fields }) ≡ numbers_by is_request (record { word = Call word; fields = fields })
    by_word call.Waitany fields may read = named (max 1 (length fields - 0)) fields read.fits
    by_word call.Waitsome fields may read = named (max 1 (length fields - 0)) fields read.fits
    by_word _ fields may read = absurd (false≢true may)

-- ---- The last call with a report ----

pub line_with : (word : ReportWord) (last : LastCall) → (with_report word last).line ≡ last.line
line_with report.Got last = refl
line_with report.Chose last = refl
line_with report.Comm last = refl
line_with report.NoComm last = refl
line_with report.Failed last = refl
line_with _ last = refl

pub is_last_with : (word : ReportWord) (last : Option LastCall) (line : Option ℕ) → is_last (option_map (with_report word) last) line ≡ is_last last line
is_last_with word None line = refl
is_last_with word (Some last) None = refl
is_last_with word (Some last) (Some line) = ap (λ n. n == line) (line_with word last)

pub is_earlier_with : (word : ReportWord) (last : Option LastCall) (line : Option ℕ) → is_earlier (option_map (with_report word) last) line ≡ is_earlier last line
is_earlier_with word last line = ap (λ (b : Bool). is_some line && not b) (is_last_with word last line)

called_more : (line : Line) (entry : Option Entry) (number : ℕ) → called_last (option_map (add_report line) entry) number ≡ called_last entry number
called_more line None number = refl
called_more line (Some entry) number = refl

-- ---- Notes ----

last_as : (word : ReportWord) (last : Option LastCall) (of : Note → Option ℕ) (note : Option Note) → by_note (λ it. is_last (option_map (with_report word) last) (of it)) note ≡ by_note (λ it. is_last last (of it)) note
last_as word last of None = refl
last_as word last of (Some note) = is_last_with word last (of note)

earlier_as : (word : ReportWord) (last : Option LastCall) (note : Option Note) → by_note (λ it. is_earlier (option_map (with_report word) last) it.completed) note ≡ by_note (λ it. is_earlier last it.completed) note
earlier_as word last None = refl
earlier_as word last (Some note) = is_earlier_with word last note.completed

pub noted_not : (last : Option LastCall) (lines : List Line) (word : ReportWord) (number : ℕ) (held : Option Note) → is_report report.Failed (Report word) ≡ false → noted_last last lines word number held ≡ held
noted_not None lines word number held not_failed = refl
noted_not (Some last) lines report.Failed number held not_failed = cc
noted_not (Some last) lines _ number held not_failed = refl

-- what the last call completed after a report that isn't of its failing
completed_more : (ranks : ℕ) (lines : List Line) (last : Option LastCall) (word : ReportWord) (fields : List Field) (number : ℕ) → IsLast ranks lines last → is_report report.Failed (Report word) ≡ false → may_follow_last last lines word (length fields) ≡ true → (is_among number (numbers_by is_request (report_line word fields)) ≡ true → word ≡ report.Chose → called_last (last_entry lines) number ≡ true) → completed_last (option_map (add_report (report_line word fields)) (last_entry lines)) number ≡ (completed_last (last_entry lines) number || (is_some (chosen_by last word) && is_among number (numbers_by is_request (report_line word fields))))
completed_more ranks lines None word fields number is not_failed follows within = rw is refl
completed_more ranks lines (Some last) word fields number is not_failed follows within =
    rw is.is (by_word word not_failed follows within)
  where
    plain : (kind : ReportWord) → is_report report.Chose (Report kind) ≡ false → is_report report.Failed (Report kind) ≡ false → is_some (chosen_by (Some last) kind) ≡ false → is_among number (completed_by (add_report (report_line kind fields) is.entry)) ≡ (is_among number (completed_by is.entry) || (is_some (chosen_by (Some last) kind) && is_among number (numbers_by is_request (report_line kind fields))))
    plain kind not_chose not_fail none =
        ap (is_among number) (same_completed kind fields is.entry not_chose not_fail) ∙ rw none (sym (or_false _))

    by_word : (kind : ReportWord) → is_report report.Failed (Report kind) ≡ false → may_follow_last (Some last) lines kind (length fields) ≡ true → (is_among number (numbers_by is_request (report_line kind fields)) ≡ true → kind ≡ report.Chose → called_last (last_entry lines) number ≡ true) → is_among number (completed_by (add_report (report_line kind fields) is.entry)) ≡ (is_among number (completed_by is.entry) || (is_some (chosen_by (Some last) kind) && is_among number (numbers_by is_request (report_line kind fields))))
    by_word report.Chose fail may named =
        let parts = and_parts (may_choose last.word (length fields)) (not last.has_chosen) may in
        let chooses : may_choose is.entry.word (length fields) ≡ true = ap (λ w. may_choose w (length fields)) (sym is.word) ∙ parts.0 in
        let not_chosen : has_report report.Chose is.entry ≡ false = sym is.chosen ∙ not-true last.has_chosen parts.1 in
        chosen_completed fields (length fields) is.entry number chooses not_chosen
        (λ among. sym (ap (is_among number) (wait_called ranks (length fields) is.entry chooses is.read)) ∙ sym (ap (λ it. called_last it number) is.is) ∙ named among refl)
        ∙ ap (λ (b : Bool). is_among number (completed_by is.entry) || (b && is_among number (numbers_by is_request (report_line report.Chose fields)))) (ap not (sym is.failed) ∙ chooses_if last.has_failed)
      where
        chooses_if : (b : Bool) → not b ≡ is_some (if b then None else Some last.line)
        chooses_if true = refl
        chooses_if false = refl
    by_word report.Failed fail may named = cc
    by_word report.Got fail may named = plain report.Got refl refl refl
    by_word report.Done fail may named = plain report.Done refl refl refl
    by_word report.Gone fail may named = plain report.Gone refl refl refl
    by_word report.Kept fail may named = plain report.Kept refl refl refl
    by_word report.Moved fail may named = plain report.Moved refl refl refl
    by_word report.Comm fail may named = plain report.Comm refl refl refl
    by_word report.Idup fail may named = plain report.Idup refl refl refl
    by_word report.NoComm fail may named = plain report.NoComm refl refl refl
    by_word report.Apart fail may named = plain report.Apart refl refl refl

module _ (lines : List Line) (last : Option LastCall) (word : ReportWord) (fields : List Field) (number : ℕ) where
  report_grows : (before after : Option Note) → NoteIs lines last number before
      → is_among number (numbers_by is_new_request (report_line word fields)) ≡ false
      → is_among number (numbers_by is_new_message (report_line word fields)) ≡ false
      → by_note (λ it. not it.is_message) before ≡ by_note (λ it. not it.is_message) after
      → by_note (λ it. it.is_message) before ≡ by_note (λ it. it.is_message) after
      → by_note (λ it. it.is_receive) before ≡ by_note (λ it. it.is_receive) after
      → by_note (λ it. it.awaits_any) before ≡ by_note (λ it. it.awaits_any) after
      → by_note (λ it. it.is_cancelled) before ≡ by_note (λ it. it.is_cancelled) after
      → (by_note (λ it. it.has_outcome) before || (is_outcome (Report word) && is_among number (numbers_by is_request (report_line word fields)))) ≡ by_note (λ it. it.has_outcome) after
      → (by_note (λ it. it.is_brought) before || (is_report report.Idup (Report word) && is_among number (numbers_by is_request (report_line word fields)))) ≡ by_note (λ it. it.is_brought) after
      → option_and_then (λ it. it.parent) before ≡ option_and_then (λ it. it.parent) after
      → by_note (λ it. is_earlier last it.completed) before ≡ by_note (λ it. is_earlier last it.completed) after
      → completed_last (option_map (add_report (report_line word fields)) (last_entry lines)) number ≡ by_note (λ it. is_last last it.completed) after
      → by_note (λ it. is_last last (Some it.called)) before ≡ by_note (λ it. is_last last (Some it.called)) after
      → (by_note (λ it. is_last last it.completed) after ≡ true → by_note (λ it. is_last last (Some it.called)) after ≡ true)
      → (by_note (λ it. is_last last (Some it.called)) after ≡ true → by_note (λ it. is_earlier last it.completed) after ≡ false)
      → NoteBelow (length lines + 1) after
      → NoteIs (lines ++ report_line word fields ∷ []) (option_map (with_report word) last) number after
  report_grows before after was no_request no_message request message receive awaits cancelled outcome brought parent earlier completed called by_call not_before below = record {
    request = any_push _ lines (report_line word fields) ∙ rw (was.request, no_request) (or_false _ ∙ request);
    message = any_push _ lines (report_line word fields) ∙ rw (was.message, no_message) (or_false _ ∙ message);
    receive = any_push _ lines (report_line word fields) ∙ rw was.receive (or_false _ ∙ receive);
    awaits = any_push _ lines (report_line word fields) ∙ rw was.awaits (or_false _ ∙ awaits);
    cancelled = any_push _ lines (report_line word fields) ∙ rw was.cancelled (or_false _ ∙ cancelled);
    outcome = any_push _ lines (report_line word fields) ∙ rw was.outcome outcome;
    brought = any_push _ lines (report_line word fields) ∙ rw was.brought brought;
    parent = parent_push lines (report_line word fields) number ∙ rw was.parent (or_none _ ∙ parent);
    earlier = earlier_after_report lines word fields number ∙ was.earlier ∙ earlier ∙ sym (earlier_as word last after);
    completed = ap (λ it. completed_last it number) (last_after_report lines word fields) ∙ completed ∙ sym (last_as word last (λ it. it.completed) after);
    called = ap (λ it. called_last it number) (last_after_report lines word fields) ∙ called_more (report_line word fields) (last_entry lines) number ∙ was.called ∙ called ∙ sym (last_as word last (λ it. Some it.called) after);
    by_call = λ is. last_as word last (λ it. Some it.called) after ∙ by_call (sym (last_as word last (λ it. it.completed) after) ∙ is);
    not_before = λ is. earlier_as word last after ∙ not_before (sym (last_as word last (λ it. Some it.called) after) ∙ is);
    below = rw (length-append lines (report_line word fields ∷ [])) below;
  }
    where
      or_none : (it : Option ℕ) → or_else it None ≡ it
      or_none None = refl
      or_none (Some x) = refl

  -- a number that the report doesn't name
  report_unused : (before : Option Note) → NoteIs lines last number before → is_among number (numbers_by is_new_request (report_line word fields)) ≡ false → is_among number (numbers_by is_new_message (report_line word fields)) ≡ false → is_among number (numbers_by is_request (report_line word fields)) ≡ false → completed_last (option_map (add_report (report_line word fields)) (last_entry lines)) number ≡ completed_last (last_entry lines) number → NoteIs (lines ++ report_line word fields ∷ []) (option_map (with_report word) last) number before
  report_unused before was no_request no_message none same =
      report_grows before before was no_request no_message refl refl refl refl refl
      (rw none (ap (λ (b : Bool). by_note (λ it. it.has_outcome) before || b) (and_false _) ∙ or_false _))
      (rw none (ap (λ (b : Bool). by_note (λ it. it.is_brought) before || b) (and_false _) ∙ or_false _))
      refl refl (same ∙ was.completed) refl was.by_call was.not_before (note_below_more (length lines) before was.below)

  -- one that it names
  report_used : (note : Note) (completed : Option ℕ) → NoteIs lines last number (Some note) → is_among number (numbers_by is_new_request (report_line word fields)) ≡ false → is_among number (numbers_by is_new_message (report_line word fields)) ≡ false → is_among number (numbers_by is_request (report_line word fields)) ≡ true
      → completed_last (option_map (add_report (report_line word fields)) (last_entry lines)) number ≡ is_last last (or_before completed note.completed)
      → is_earlier last note.completed ≡ is_earlier last (or_before completed note.completed)
      → (is_last last (or_before completed note.completed) ≡ true → is_last last (Some note.called) ≡ true)
      → IsBelow (length lines + 1) (or_before completed note.completed)
      → NoteIs (lines ++ report_line word fields ∷ []) (option_map (with_report word) last) number (Some (reported_note word (length lines) completed note))
  report_used note completed was no_request no_message among now earlier by_call below =
      report_grows (Some note) (Some (reported_note word (length lines) completed note)) was no_request no_message refl refl refl refl refl
      (rw among (ap (λ (b : Bool). note.has_outcome || b) (and_true _)))
      (rw among (ap (λ (b : Bool). note.is_brought || b) (and_true _)))
      refl earlier now refl by_call (λ is. sym earlier ∙ was.not_before is)
      (below, omega (arith, was.below.1), omega arith)

-- a number that the report names, which may be of it
after_used : (ranks : ℕ) (lines : List Line) (last : Option LastCall) (word : ReportWord) (fields : List Field) (number : ℕ) (note : Note) → IsLast ranks lines last → NoteIs lines last number (Some note) → is_among number (numbers_by is_new_request (report_line word fields)) ≡ false → is_among number (numbers_by is_new_message (report_line word fields)) ≡ false → is_among number (numbers_by is_request (report_line word fields)) ≡ true → may_be_by last word note ≡ true → completed_last (option_map (add_report (report_line word fields)) (last_entry lines)) number ≡ (is_last last note.completed || (is_some (chosen_by last word) && true)) → NoteIs (lines ++ report_line word fields ∷ []) (option_map (with_report word) last) number (Some (reported_note word (length lines) (chosen_by last word) note))
after_used ranks lines None word fields number note held was no_request no_message among may more =
    report_used lines None word fields number note None was no_request no_message among (more ∙ or_false _) refl was.by_call (below_more (length lines) note.completed was.below.0)
after_used ranks lines (Some call) report.Chose fields number note held was no_request no_message among may more =
    elim (cases_Bool call.has_failed) [
      | inl failed ↦ (
          let none : (if call.has_failed then None else Some call.line) ≡ None = ap (λ (b : Bool). if b then None else Some call.line) failed in
          subst (λ (it : Option ℕ). NoteIs (lines ++ report_line report.Chose fields ∷ []) (option_map (with_report report.Chose) (Some call)) number (Some (reported_note report.Chose (length lines) it note))) (sym none) (
          report_used lines (Some call) report.Chose fields number note None was no_request no_message among
          (more ∙ ap (λ (it : Option ℕ). is_last (Some call) note.completed || (is_some it && true)) none ∙ or_false _) refl was.by_call (below_more (length lines) note.completed was.below.0)))
      | inr went ↦ (
          let now : (if call.has_failed then None else Some call.line) ≡ Some call.line = ap (λ (b : Bool). if b then None else Some call.line) went in
          subst (λ (it : Option ℕ). NoteIs (lines ++ report_line report.Chose fields ∷ []) (option_map (with_report report.Chose) (Some call)) number (Some (reported_note report.Chose (length lines) it note))) (sym now) (
          report_used lines (Some call) report.Chose fields number note (Some call.line) was no_request no_message among
          (more ∙ ap (λ (it : Option ℕ). is_last (Some call) note.completed || (is_some it && true)) now ∙ or_true _ ∙ sym (eq-eqb call.line call.line refl))
          (was.not_before may ∙ sym (ap not (eq-eqb call.line call.line refl)))
          (λ is. may) (omega (arith, held.place))))
    ]
after_used ranks lines (Some call) word fields number note held was no_request no_message among may more =
    report_used lines (Some call) word fields number note None was no_request no_message among (more ∙ or_false _) refl was.by_call (below_more (length lines) note.completed was.below.0)

module _ (ranks : ℕ) (lines : List Line) (last : Option LastCall) (word : ReportWord) (fields : List Field) (number : ℕ) (is_held : IsLast ranks lines last) where
  -- a call that failed completed nothing
  failed_last : (entry : Option Entry) → completed_last (option_map (add_report (report_line report.Failed fields)) entry) number ≡ false
  failed_last None = refl
  failed_last (Some entry) = ap (is_among number) (failed_completed fields entry)

  without_last : (call : LastCall) (completed : Option ℕ) → is_last (Some call) (without call.line completed) ≡ false
  without_last call None = refl
  without_last call (Some other) =
      elim (cases_Bool (other == call.line)) [
        | inl here ↦ rw here refl
        | inr apart ↦ rw apart (false_from_ne_true (call.line == other) (λ is. false≢true (sym apart ∙ eq-eqb other call.line (sym (eqb-true call.line other is)))))
      ]

  without_earlier : (call : LastCall) (completed : Option ℕ) → is_earlier (Some call) completed ≡ is_earlier (Some call) (without call.line completed)
  without_earlier call None = refl
  without_earlier call (Some other) =
      elim (cases_Bool (other == call.line)) [
        | inl here ↦ rw here (ap not (eq-eqb call.line other (sym (eqb-true other call.line here))))
        | inr apart ↦ rw apart refl
      ]

  without_below : (call : LastCall) (count : ℕ) (completed : Option ℕ) → IsBelow count completed → IsBelow count (without call.line completed)
  without_below call count None below = tt
  without_below call count (Some other) below =
      elim (cases_Bool (other == call.line)) [
        | inl here ↦ rw here tt
        | inr apart ↦ rw apart below
      ]

  -- after the report of a failure
  undone : (call : LastCall) (before : Option Note) → NoteIs lines (Some call) number before → NoteIs (lines ++ report_line report.Failed fields ∷ []) (option_map (with_report report.Failed) (Some call)) number (undone_at call.line before)
  undone call None was =
      report_unused lines (Some call) report.Failed fields number None was refl refl refl (failed_last (last_entry lines) ∙ sym was.completed)
  undone call (Some note) was =
      report_grows lines (Some call) report.Failed fields number (Some note) (Some (undone_note call.line note)) was refl refl refl refl refl refl refl
      (or_false _) (or_false _) refl (without_earlier call note.completed)
      (failed_last (last_entry lines) ∙ sym (without_last call note.completed)) refl
      (λ done. absurd (false≢true (sym (without_last call note.completed) ∙ done)))
      (λ named. sym (without_earlier call note.completed) ∙ was.not_before named)
      (note_below_more (length lines) (Some (undone_note call.line note)) (without_below call (length lines) note.completed was.below.0, was.below.1, was.below.2))

  -- the same where nothing was to be taken back
  kept : (call : LastCall) (before : Option Note) → NoteIs lines (Some call) number before → completed_last (last_entry lines) number ≡ false → NoteIs (lines ++ report_line report.Failed fields ∷ []) (option_map (with_report report.Failed) (Some call)) number before
  kept call before was none =
      report_unused lines (Some call) report.Failed fields number before was refl refl refl (failed_last (last_entry lines) ∙ sym none)

  -- a number that isn't among the last call's fields wasn't completed by it
  not_completed : (call : LastCall) (before : Option Note) → LastIs ranks lines call → NoteIs lines (Some call) number before → is_among number (naturals (fields_at lines call.line)) ≡ false → completed_last (last_entry lines) number ≡ false
  not_completed call before held was apart =
      false_from_ne_true _ (λ done.
      let named = was.called ∙ was.by_call (sym was.completed ∙ done) in
      let called : is_among number (numbers_by is_of_request (call_of held.entry)) ≡ true = sym (ap (λ it. called_last it number) held.is) ∙ named in
      let among = among_fields is_of_request (forms_of (Call held.entry.word) (length held.entry.fields)) held.entry.fields number called in
      false≢true (sym apart ∙ ap (λ fs. is_among number (naturals fs)) held.fields ∙ among))

  pub after_failed : (before : Option Note) → NoteIs lines last number before → (later : List Line) → ((call : LastCall) → last ≡ Some call → fields_at later call.line ≡ fields_at lines call.line) → NoteIs (lines ++ report_line report.Failed fields ∷ []) (option_map (with_report report.Failed) last) number (noted_last last later report.Failed number before)
  after_failed before was later same = by_last last is_held was same
    where
      by_last : (held : Option LastCall) → IsLast ranks lines held → NoteIs lines held number before → ((call : LastCall) → held ≡ Some call → fields_at later call.line ≡ fields_at lines call.line) → NoteIs (lines ++ report_line report.Failed fields ∷ []) (option_map (with_report report.Failed) held) number (noted_last held later report.Failed number before)
      by_last None held_is was same =
          report_unused lines None report.Failed fields number before was refl refl refl (failed_last (last_entry lines) ∙ sym (ap (λ it. completed_last it number) held_is))
      by_last (Some call) held_is was same =
          elim (cases_Bool (is_among number (naturals (fields_at later call.line)))) [
            | inl among ↦ rw among (undone call before was)
            | inr apart ↦ rw apart (kept call before was (not_completed call before held_is was (ap (λ fs. is_among number (naturals fs)) (sym (same call refl)) ∙ apart)))
          ]

  -- what the report says of numbers, by the form in which it has this one
  record Says (how : Option Form) : Type 0 where
    request : is_among number (numbers_by is_new_request (report_line word fields)) ≡ is_use is_new_request how
    message : is_among number (numbers_by is_new_message (report_line word fields)) ≡ is_use is_new_message how
    named : is_among number (numbers_by is_request (report_line word fields)) ≡ is_use is_request how

  says : are_distinct (numbers_with is_of_request (numbered (Report word) fields)) ≡ true → Says (use_of number (numbered (Report word) fields))
  says distinct =
      let by = λ (test : Form → Bool) (part : IsPart test). ap (is_among number) (numbers_are test (Report word) fields) ∙ among_use test part number (numbered (Report word) fields) distinct in
      record { request = by is_new_request new_request_part; message = by is_new_message new_message_part; named = by is_request request_part }

  -- after a report that isn't of a failure
  after_plain : (before : Option Note) (how : Option Form) → is_report report.Failed (Report word) ≡ false → may_follow_last last lines word (length fields) ≡ true → Says how → ((form : Form) → how ≡ Some form → may_report (length lines) form before ≡ true) → (how ≡ Some Request → is_unfit last word before ≡ false) → NoteIs lines last number before → NoteIs (lines ++ report_line word fields ∷ []) (option_map (with_report word) last) number (after_use (by_report word (length lines) (chosen_by last word)) number before how)
  after_plain before None not_failed follows say may fit was =
      report_unused lines last word fields number before was say.request say.message say.named
      (completed_more ranks lines last word fields number is_held not_failed follows (λ among. absurd (false≢true (sym say.named ∙ among)))
      ∙ rw say.named (ap (λ (b : Bool). completed_last (last_entry lines) number || b) (and_false _) ∙ or_false _))
  after_plain None (Some form) not_failed follows say may fit was = absurd (false≢true (sym (never form) ∙ may form refl))
    where
      never : (f : Form) → may_report (length lines) f None ≡ false
      never NewRequest = refl
      never _ = refl
  after_plain (Some note) (Some Request) not_failed follows say may fit was =
      let parts = and_parts (not note.is_message) (not (is_now (length lines) note.reported)) (may Request refl) in
      let fits : not (may_be_by last word note) ≡ false = sym (ap (λ (b : Bool). b && not (may_be_by last word note)) parts.0) ∙ fit refl in
      let may_be : may_be_by last word note ≡ true = not_false_true (may_be_by last word note) fits in
      let more = completed_more ranks lines last word fields number is_held not_failed follows (λ among is. was.called ∙ ap (λ w. may_be_by last w note) (sym is) ∙ may_be) in
      after_used ranks lines last word fields number note is_held was say.request say.message say.named may_be
      (more ∙ rw (say.named, was.completed) refl)
    where
      not_false_true : (b : Bool) → not b ≡ false → b ≡ true
      not_false_true true is = refl
      not_false_true false is = cc
  after_plain (Some note) (Some form) not_failed follows say may fit was = absurd (false≢true (may form refl))

  -- after a report, what is noted of a number is what the lines then say of it
  pub after_report : (before : Option Note) → are_distinct (numbers_with is_of_request (numbered (Report word) fields)) ≡ true → may_follow_last last lines word (length fields) ≡ true → ((form : Form) → use_of number (numbered (Report word) fields) ≡ Some form → may_report (length lines) form before ≡ true) → (use_of number (numbered (Report word) fields) ≡ Some Request → is_unfit last word before ≡ false) → is_report report.Failed (Report word) ≡ false → NoteIs lines last number before → NoteIs (lines ++ report_line word fields ∷ []) (option_map (with_report word) last) number (after_use (by_report word (length lines) (chosen_by last word)) number before (use_of number (numbered (Report word) fields)))
  after_report before distinct follows may fit not_failed was =
      after_plain before (use_of number (numbered (Report word) fields)) not_failed follows (says distinct) may fit was
