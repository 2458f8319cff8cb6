-- What is noted of requests and messages, and how the fields of a line change it.
use Rattle.std.specs.Prelude.{◌≡◌, ℕ, Bool, true, false, ◌&&◌, ◌||◌, not, ◌==◌, nat_eq, Option, Some, None, is_none, is_some, option_map, ⊤, if◌then◌else◌, List, [], ◌∷◌, slice_get}
use Rattle.std.specs.HashMap.{get}
use Rattle.journals.specs.Entries.{is_of_request}
use Rattle.journals.specs.Known.{is_cancel, is_outcome, is_report, receive_in, is_wildcard, duplicated_in}
use Rattle.journals.specs.inner.Last.{completes_all}
use Rattle.journals.specs.declared.field.Field.{Field}
use Rattle.journals.specs.declared.form.Form.{Form}
use Rattle.journals.specs.declared.form.Form.TheVariants.{NewRequest, NewMessage, Request, Message}
use Rattle.journals.specs.declared.note.Note.{Note}
use Rattle.journals.specs.declared.note_table.Notes.{Notes}
use Rattle.journals.specs.declared.fault.JournalFaultKind.{JournalFaultKind}
use Rattle.journals.specs.declared.line.LineFault.{LineFault}
use Rattle.journals.specs.declared.line.LineFault.TheVariants.{Journal, Memory}
use Rattle.journals.specs.declared.word.CallWord.{CallWord}
use Rattle.journals.specs.declared.word.ReportWord.{ReportWord}
use Rattle.journals.specs.declared.word.ReportWord.TheVariants as report
use Rattle.journals.specs.declared.word.Word.TheVariants.{Call, Report}

-- a note in the list, or else in the map
abbrev pub near_or_far : Option (Option Note) → Option Note → Option Note
near_or_far (Some (Some note)) far = Some note
near_or_far _ far = far

abbrev pub note_at : Notes → ℕ → Option Note
note_at notes number = near_or_far (slice_get notes.near.items number) (get nat_eq notes.far number)

-- ---- How the numbers of a line use notes, in their order ----

-- each number of a request or a message may be used so, by what is noted of it when its turn comes
abbrev pub may_use : {X : Type 0} → (Form → X → Bool) → (ℕ → Form → X → X) → (ℕ → X) → List (Form × ℕ) → Bool
may_use may by notes [] = true
may_use may by notes (item ∷ items) =
    if is_of_request item.0
    then may item.0 (notes item.1)
    && may_use may by (λ other. if item.1 == other then by item.1 item.0 (notes item.1)
    else notes other) items
    else may_use may by notes items

-- what is noted of a number after that
abbrev pub noted : {X : Type 0} → (ℕ → Form → X → X) → ℕ → X → List (Form × ℕ) → X
noted by number note [] = note
noted by number note (item ∷ items) =
    noted by number (if is_of_request item.0 && (item.1 == number) then by item.1 item.0 note else note) items

-- ---- Call lines ----

-- the request that a call line numbers
abbrev pub request_note : CallWord → List Field → ℕ → ℕ → Note
request_note word fields line number = record {
  is_message = false;
  is_receive = is_some (receive_in number (Call word) fields);
  awaits_any = is_wildcard (receive_in number (Call word) fields);
  is_cancelled = false;
  has_outcome = false;
  is_brought = false;
  parent = duplicated_in number (Call word) fields;
  completed = None;
  called = line;
  reported = None;
}

abbrev pub message_note : ℕ → Note
message_note line = record {
  is_message = true;
  is_receive = false;
  awaits_any = false;
  is_cancelled = false;
  has_outcome = false;
  is_brought = false;
  parent = None;
  completed = None;
  called = line;
  reported = None;
}

abbrev pub completed_at : Bool → ℕ → Option ℕ → Option ℕ
completed_at true line before = Some line
completed_at false line before = before

-- a request or message that a call line names
abbrev pub called_note : CallWord → List Field → ℕ → Note → Note
called_note word fields line note = record note {
  called = line;
  is_cancelled = note.is_cancelled || is_cancel (Call word);
  completed = completed_at (completes_all word fields) line note.completed;
}

-- a call line may name it: it isn't completed, and the line named it nowhere before
abbrev pub is_callable : ℕ → Note → Bool
is_callable line note = is_none note.completed && not (note.called == line)

abbrev pub may_call : ℕ → Form → Option Note → Bool
may_call line NewRequest None = true
may_call line NewMessage None = true
may_call line Request (Some note) = not note.is_message && is_callable line note
may_call line Message (Some note) = note.is_message && is_callable line note
may_call line _ _ = false

abbrev pub by_call : CallWord → List Field → ℕ → ℕ → Form → Option Note → Option Note
by_call word fields line number NewRequest held = Some (request_note word fields line number)
by_call word fields line number NewMessage held = Some (message_note line)
by_call word fields line number _ held = option_map (called_note word fields line) held

-- ---- Reports ----

abbrev pub is_now : ℕ → Option ℕ → Bool
is_now line None = false
is_now line (Some other) = other == line

abbrev pub may_report : ℕ → Form → Option Note → Bool
may_report line Request (Some note) = not note.is_message && not (is_now line note.reported)
may_report line _ _ = false

abbrev pub or_before : Option ℕ → Option ℕ → Option ℕ
or_before None before = before
or_before (Some line) before = Some line

-- a request that a report names; `completed` is the call line that completed it by this report
abbrev pub reported_note : ReportWord → ℕ → Option ℕ → Note → Note
reported_note word line completed note = record note {
  reported = Some line;
  has_outcome = note.has_outcome || is_outcome (Report word);
  is_brought = note.is_brought || is_report report.Idup (Report word);
  completed = or_before completed note.completed;
}

abbrev pub by_report : ReportWord → ℕ → Option ℕ → ℕ → Form → Option Note → Option Note
by_report word line completed number form note = option_map (reported_note word line completed) note

-- ---- A call that failed ----

abbrev pub without : ℕ → Option ℕ → Option ℕ
without line None = None
without line (Some other) = if other == line then None else Some other

-- what a failed call line completed is not
abbrev pub undone_note : ℕ → Note → Note
undone_note line note = record note { completed = without line note.completed }

abbrev pub undone_at : ℕ → Option Note → Option Note
undone_at line note = option_map (undone_note line) note

-- ---- Faults ----

-- a fault is of this kind, and this holds; out of memory says nothing
abbrev pub IsFault : JournalFaultKind → Type 0 → LineFault → Type 0
IsFault kind holds (Journal other) = (other ≡ kind) × holds
IsFault kind holds Memory = ⊤
