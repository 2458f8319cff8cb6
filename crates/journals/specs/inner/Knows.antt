-- What is held after some lines is what they say, as far as the faults of later lines need it.
use Rattle.std.specs.Prelude.{◌≡◌, ℕ, ◌<◌, Bool, true, false, ◌&&◌, ◌||◌, not, ◌==◌, nat_lt, nat_eq, Option, Some, None, is_some, option_map, option_and_then, if◌then◌else◌, Result, Ok, Err, List, [], ◌∷◌, ◌++◌, length, take, slice_get, ⊤}
use Rattle.std.specs.List.{flat_map, range_with_len}
use Rattle.std.specs.Str.{bytes_eq}
use Rattle.std.specs.HashMap.{get, HashMap}
use Rattle.std.specs.declared.hash.FoldHasher.{FoldHasher}
use Rattle.std.specs.declared.hash.BuildHasherDefault.{BuildHasherDefault}
use Rattle.journals.specs.Words.{forms_of}
use Rattle.journals.specs.Lines.{Line, fields_of}
use Rattle.journals.specs.Entries.{Entry, call_of, entries_of, last_entry, numbers_by, is_of_request, is_request, is_comm, is_new_comm}
use Rattle.journals.specs.Known.{is_among, are_distinct, knows_request, knows_message, is_of_receive, awaits_any, is_cancelled, has_outcome, is_brought, parent_of, has_report, completed_by, reported_group}
use Rattle.journals.specs.Faults.{Owner, is_after_end, brought_or_not, completed_last, fault_of_line, is_within, may_be_anywhere}
use Rattle.journals.specs.Taking.{fields_at}
use Rattle.journals.specs.inner.Naturals.{naturals}
use Rattle.journals.specs.inner.Marks.{ranks_in}
use Rattle.journals.specs.inner.Last.{last_may_have}
use Rattle.journals.specs.inner.Notes.{note_at, undone_at}
use Rattle.journals.specs.declared.field.Field.{Field}
use Rattle.journals.specs.declared.field.Field.TheVariants.{Natural}
use Rattle.journals.specs.declared.form.Form.{Form}
use Rattle.journals.specs.declared.known.Known.{Known}
use Rattle.journals.specs.declared.last.LastCall.{LastCall}
use Rattle.journals.specs.declared.line.LineFault.{LineFault}
use Rattle.journals.specs.declared.line.LineFault.TheVariants.{Journal, Memory}
use Rattle.journals.specs.declared.note.Note.{Note}
use Rattle.journals.specs.declared.word.Word.{Word}
use Rattle.journals.specs.declared.word.Word.TheVariants.{Call, Report}
use Rattle.journals.specs.declared.word.CallWord.{CallWord}
use Rattle.journals.specs.declared.word.CallWord.TheVariants as call
use Rattle.journals.specs.declared.word.ReportWord.{ReportWord}
use Rattle.journals.specs.declared.word.ReportWord.TheVariants as report

-- ---- Lines that were read ----

-- the line's fields are those that some texts spell by the forms of its word
pub record IsRead (ranks : ℕ) (line : Line) : Type 0 where
  pub texts : List (List ℕ)
  pub spell : fields_of ranks (forms_of line.word (length line.fields)) texts ≡ Some line.fields
  pub fits : length (forms_of line.word (length line.fields)) ≡ length line.fields

-- the line is the last, at this place
pub record IsNext (ranks : ℕ) (lines : List Line) (place : ℕ) (line : Line) : Type 0 where
  pub split : lines ≡ take place lines ++ line ∷ []
  pub place_is : length (take place lines) ≡ place
  pub read : IsRead ranks line

-- ---- The last call ----

pub record LastIs (ranks : ℕ) (lines : List Line) (last : LastCall) : Type 0 where
  pub entry : Entry
  pub is : last_entry lines ≡ Some entry
  pub word : last.word ≡ entry.word
  pub place : last.line < length lines
  pub fields : fields_at lines last.line ≡ entry.fields
  pub read : IsRead ranks (call_of entry)
  pub got : last.has_got ≡ has_report report.Got entry
  pub chosen : last.has_chosen ≡ has_report report.Chose entry
  pub brought : last.has_brought ≡ brought_or_not entry
  pub failed : last.has_failed ≡ has_report report.Failed entry

abbrev pub IsLast : ℕ → List Line → Option LastCall → Type 0
IsLast ranks lines None = last_entry lines ≡ None
IsLast ranks lines (Some last) = LastIs ranks lines last

-- ---- Notes ----

abbrev pub by_note : (Note → Bool) → Option Note → Bool
by_note test None = false
by_note test (Some note) = test note

-- the line is that of the last call
abbrev pub is_last : Option LastCall → Option ℕ → Bool
is_last (Some last) (Some line) = last.line == line
is_last _ _ = false

-- completed by a call before the last one
abbrev pub is_earlier : Option LastCall → Option ℕ → Bool
is_earlier last line = is_some line && not (is_last last line)

-- all entries but the last
abbrev pub all_but_last : List Entry → List Entry
all_but_last [] = []
all_but_last (entry ∷ []) = []
all_but_last (entry ∷ other ∷ entries) = entry ∷ all_but_last (other ∷ entries)

abbrev pub completed_earlier : List Line → ℕ → Bool
completed_earlier lines number = is_among number (flat_map completed_by (all_but_last (entries_of lines)))

-- the last call numbers it or names it
abbrev pub called_last : Option Entry → ℕ → Bool
called_last None number = false
called_last (Some entry) number = is_among number (numbers_by is_of_request (call_of entry))

abbrev pub IsBelow : ℕ → Option ℕ → Type 0
IsBelow count None = ⊤
IsBelow count (Some line) = line < count

abbrev pub NoteBelow : ℕ → Option Note → Type 0
NoteBelow count None = ⊤
NoteBelow count (Some note) =
    IsBelow count note.completed × (note.called < count) × IsBelow count note.reported

-- what is noted of a number is what the lines say of it
pub record NoteIs (lines : List Line) (last : Option LastCall) (number : ℕ) (note : Option Note) : Type 0 where
  pub request : knows_request lines number ≡ by_note (λ it. not it.is_message) note
  pub message : knows_message lines number ≡ by_note (λ it. it.is_message) note
  pub receive : is_of_receive lines number ≡ by_note (λ it. it.is_receive) note
  pub awaits : awaits_any lines number ≡ by_note (λ it. it.awaits_any) note
  pub cancelled : is_cancelled lines number ≡ by_note (λ it. it.is_cancelled) note
  pub outcome : has_outcome lines number ≡ by_note (λ it. it.has_outcome) note
  pub brought : is_brought lines number ≡ by_note (λ it. it.is_brought) note
  pub parent : parent_of lines number ≡ option_and_then (λ it. it.parent) note
  pub earlier : completed_earlier lines number ≡ by_note (λ it. is_earlier last it.completed) note
  pub completed : completed_last (last_entry lines) number ≡ by_note (λ it. is_last last it.completed) note
  pub called : called_last (last_entry lines) number ≡ by_note (λ it. is_last last (Some it.called)) note
  -- what the last call completed it named, and what it named wasn't completed before
  pub by_call : by_note (λ it. is_last last it.completed) note ≡ true
      → by_note (λ it. is_last last (Some it.called)) note ≡ true
  pub not_before : by_note (λ it. is_last last (Some it.called)) note ≡ true
      → by_note (λ it. is_earlier last it.completed) note ≡ false
  pub below : NoteBelow (length lines) note

-- ---- Communicators ----

abbrev pub Comms : Type 0
Comms = HashMap ℕ ℕ (BuildHasherDefault FoldHasher)

-- the rank has the communicator
abbrev pub is_known : Comms → ℕ → Bool
is_known comms comm = nat_lt comm 2 || is_some (get nat_eq comms comm)

abbrev pub rest_of : List Field → List Field
rest_of [] = []
rest_of (field ∷ fields) = fields

-- the fields of the group that a line has
abbrev pub group_fields : Word → List Field → List Field
group_fields (Report report.Comm) fields = rest_of fields
group_fields (Report report.Apart) fields = rest_of fields
group_fields (Report report.Idup) fields = rest_of (rest_of fields)
group_fields (Call call.CommCreateGroup) fields = fields
group_fields _ fields = []

-- that of the line at a place
abbrev pub group_at : List Line → Option ℕ → Option (List ℕ)
group_at lines None = None
group_at lines (Some place) =
    option_map (λ line. naturals (group_fields line.word line.fields)) (slice_get lines place)

-- the line of a communicator is one that reports it
pub record CommIs (lines : List Line) (comm : ℕ) (line : Option ℕ) : Type 0 where
  pub group : reported_group lines comm ≡ group_at lines line
  pub known : is_some (reported_group lines comm) ≡ is_some line
  pub below : IsBelow (length lines) line

-- ---- All that is held ----

abbrev pub owner_of : Known → Owner
owner_of known = record { ranks = ranks_in known.marks; rank = known.rank }

pub record Knows (lines : List Line) (known : Known) : Type 0 where
  pub over : known.is_over ≡ is_after_end lines
  pub last : IsLast (ranks_in known.marks) lines known.last
  pub notes : (number : ℕ) → NoteIs lines known.last number (note_at known.notes number)
  pub comms : (comm : ℕ) → CommIs lines comm (get nat_eq known.comms comm)

-- the answer to a line is its first fault, or that it has none; out of memory says nothing
abbrev pub Answers : Owner → List Line → Line → Result Unit LineFault → Type 0
Answers owner before line (Ok done) = fault_of_line owner before line ≡ None
Answers owner before line (Err (Journal kind)) = fault_of_line owner before line ≡ Some kind
Answers owner before line (Err Memory) = ⊤

-- ---- Tests as the code asks them ----

-- a communicator that the line names isn't known, or one that it brings is
abbrev pub wrong_comm : (ℕ → Bool) → List (Form × ℕ) → Bool
wrong_comm knows [] = false
wrong_comm knows (item ∷ items) =
    (is_comm item.0 && not (knows item.1)) || (is_new_comm item.0 && knows item.1) || wrong_comm knows items

-- the group is that of a new communicator of this rank, by the group of its parent
abbrev pub is_right_group : ℕ → Option (List ℕ) → List ℕ → Bool
is_right_group rank parent group = are_distinct group && is_among rank group && is_within group parent

abbrev pub world_of : ℕ → Option (List ℕ)
world_of ranks = Some (range_with_len 0 ranks)

-- the group of a communicator that the rank has
abbrev pub held_group : Known → List Line → ℕ → Option (List ℕ)
held_group known lines comm =
    if comm == 0 then world_of (ranks_in known.marks)
    else (if comm == 1 then Some (known.rank ∷ []) else group_at lines (get nat_eq known.comms comm))

-- that of one that may not be known
abbrev pub group_by : Known → List Line → Option ℕ → Option (List ℕ)
group_by known lines None = None
group_by known lines (Some comm) = held_group known lines comm

-- the group that a call line names
abbrev pub is_right_call : ℕ → ℕ → CallWord → List Field → Bool
is_right_call ranks rank call.CommCreateGroup fields = is_right_group rank (world_of ranks) (naturals fields)
is_right_call ranks rank _ fields = true

-- a report may follow the last call
abbrev pub may_follow_last : Option LastCall → List Line → ReportWord → ℕ → Bool
may_follow_last None lines word count = may_be_anywhere word
may_follow_last (Some last) lines word count = last_may_have last (fields_at lines last.line) word count

-- a report may be of the request that this is noted of
abbrev pub may_be_by : Option LastCall → ReportWord → Note → Bool
may_be_by last report.Chose note = is_last last (Some note.called)
may_be_by last report.Done note = note.awaits_any && not note.has_outcome
may_be_by last report.Gone note = note.is_cancelled && not note.has_outcome
may_be_by last report.Kept note = note.is_cancelled && not note.has_outcome
may_be_by last report.Moved note = note.is_receive && not note.has_outcome
may_be_by last report.Idup note = is_some note.parent && is_last last note.completed && not note.is_brought
may_be_by last _ note = true

abbrev pub is_unfit : Option LastCall → ReportWord → Option Note → Bool
is_unfit last word None = false
is_unfit last word (Some note) = not note.is_message && not (may_be_by last word note)

-- a report names a request that can't have it
abbrev pub names_unfit_by : (Option Note → Bool) → (ℕ → Option Note) → List (Form × ℕ) → Bool
names_unfit_by unfit notes [] = false
names_unfit_by unfit notes (item ∷ items) =
    (is_request item.0 && unfit (notes item.1)) || names_unfit_by unfit notes items

-- the first request that a report names is completed
abbrev pub names_completed_by : (ℕ → Option Note) → List Field → Bool
names_completed_by notes (Natural number ∷ fields) = by_note (λ it. is_some it.completed) (notes number)
names_completed_by notes _ = false

-- the call line that completed the requests of a report by this report
abbrev pub chosen_by : Option LastCall → ReportWord → Option ℕ
chosen_by (Some last) report.Chose = if last.has_failed then None else Some last.line
chosen_by _ _ = None

abbrev pub first_natural : List Field → Option ℕ
first_natural (Natural number ∷ fields) = Some number
first_natural _ = None

abbrev pub second_natural : List Field → Option ℕ
second_natural (field ∷ Natural number ∷ fields) = Some number
second_natural _ = None

-- the group of a communicator that the last call made
abbrev pub is_made_last : Known → List Line → CallWord → List Field → List Field → Bool
is_made_last known lines call.CommCreateGroup fields group = bytes_eq (naturals group) (naturals fields)
is_made_last known lines _ fields group =
    is_right_group known.rank (group_by known lines (first_natural fields)) (naturals group)

abbrev pub is_made_by_last : Known → List Line → Option LastCall → List Field → Bool
is_made_by_last known lines None group = false
is_made_by_last known lines (Some last) group =
    is_made_last known lines last.word (fields_at lines last.line) group

-- the communicator that the request of a report duplicates
abbrev pub duplicated_by : Known → Option ℕ → Option ℕ
duplicated_by known None = None
duplicated_by known (Some request) = option_and_then (λ note. note.parent) (note_at known.notes request)

-- the group of the communicator that a report brings
abbrev pub is_right_report : Known → List Line → ReportWord → List Field → Bool
is_right_report known lines report.Comm fields =
    is_made_by_last known lines known.last (group_fields (Report report.Comm) fields)
is_right_report known lines report.Idup fields =
    is_right_group known.rank (group_by known lines (duplicated_by known (second_natural fields)))
    (naturals (group_fields (Report report.Idup) fields))
is_right_report known lines report.Apart fields =
    is_right_group known.rank (world_of (ranks_in known.marks))
    (naturals (group_fields (Report report.Apart) fields))
is_right_report known lines _ fields = true

-- what is held of communicators after a report at a place
abbrev pub brings : ReportWord → Bool
brings report.Comm = true
brings report.Idup = true
brings report.Apart = true
brings _ = false

-- the number of the communicator that a report brings
abbrev pub brought_in : ReportWord → List Field → Option ℕ
brought_in word fields = if brings word then first_natural fields else None

abbrev pub comms_with : Option ℕ → ℕ → ℕ → Option ℕ → Option ℕ
comms_with None place other line = line
comms_with (Some comm) place other line = if comm == other then Some place else line

-- what is noted of a number once the last call has a report
abbrev pub noted_last : Option LastCall → List Line → ReportWord → ℕ → Option Note → Option Note
noted_last (Some last) lines report.Failed number note =
    if is_among number (naturals (fields_at lines last.line)) then undone_at last.line note else note
noted_last _ lines word number note = note
