-- What the lines of a journal say of its requests, messages and communicators.
use Rattle.std.specs.Prelude.{ℕ, Bool, true, false, ◌&&◌, ◌||◌, not, ◌==◌, Option, Some, None, is_some, if◌then◌else◌, List, [], ◌∷◌}
use Rattle.std.specs.List.{list_any, find, flat_map, range_with_len}
use Rattle.mpicall.specs.Word.{or_else}
use Rattle.journals.specs.Lines.{Line}
use Rattle.journals.specs.Entries.{Entry, call_of, entries_of, numbers_by, is_new_request, is_new_message, is_request, is_message, is_new_comm, group_in}
use Rattle.journals.specs.declared.field.Field.{Field}
use Rattle.journals.specs.declared.field.Field.TheVariants.{Natural, Null, Any}
use Rattle.journals.specs.declared.word.Word.{Word}
use Rattle.journals.specs.declared.word.Word.TheVariants.{Call, Report}
use Rattle.journals.specs.declared.word.CallWord.{CallWord}
use Rattle.journals.specs.declared.word.CallWord.TheVariants as call
use Rattle.journals.specs.declared.word.ReportWord.{ReportWord}
use Rattle.journals.specs.declared.word.ReportWord.TheVariants as report

abbrev pub is_among : ℕ → List ℕ → Bool
is_among number numbers = list_any (λ other. other == number) numbers

-- no number is there twice
abbrev pub are_distinct : List ℕ → Bool
are_distinct [] = true
are_distinct (number ∷ numbers) = not (is_among number numbers) && are_distinct numbers

-- ---- Requests and messages ----

-- the lines number this request
abbrev pub knows_request : List Line → ℕ → Bool
knows_request lines number = list_any (λ line. is_among number (numbers_by is_new_request line)) lines

-- the lines number this message
abbrev pub knows_message : List Line → ℕ → Bool
knows_message lines number = list_any (λ line. is_among number (numbers_by is_new_message line)) lines

-- the report is of this word
abbrev pub is_report : ReportWord → Word → Bool
is_report report.Got (Report report.Got) = true
is_report report.Chose (Report report.Chose) = true
is_report report.Done (Report report.Done) = true
is_report report.Gone (Report report.Gone) = true
is_report report.Kept (Report report.Kept) = true
is_report report.Moved (Report report.Moved) = true
is_report report.Comm (Report report.Comm) = true
is_report report.Idup (Report report.Idup) = true
is_report report.NoComm (Report report.NoComm) = true
is_report report.Apart (Report report.Apart) = true
is_report report.Failed (Report report.Failed) = true
is_report _ _ = false

-- the entry has such a report
abbrev pub has_report : ReportWord → Entry → Bool
has_report word entry = list_any (λ line. is_report word line.word) entry.reports

abbrev pub report_of : ReportWord → Entry → Option Line
report_of word entry = find (λ line. is_report word line.word) entry.reports

abbrev pub requests_in : Option Line → List ℕ
requests_in None = []
requests_in (Some line) = numbers_by is_request line

-- of several requests those that were reported, and one request that is named alone
abbrev pub chosen_of : List ℕ → List ℕ → List ℕ
chosen_of (only ∷ []) reported = only ∷ []
chosen_of named reported = reported

-- the requests and messages that a call completes which didn't fail
abbrev pub completes : CallWord → Entry → List ℕ
completes call.Wait entry = numbers_by is_request (call_of entry)
completes call.Test entry = numbers_by is_request (call_of entry)
completes call.Waitany entry =
    chosen_of (numbers_by is_request (call_of entry)) (requests_in (report_of report.Chose entry))
completes call.Waitsome entry =
    chosen_of (numbers_by is_request (call_of entry)) (requests_in (report_of report.Chose entry))
completes call.Mrecv entry = numbers_by is_message (call_of entry)
completes call.Imrecv entry = numbers_by is_message (call_of entry)
completes call.RequestFree entry = numbers_by is_request (call_of entry)
completes word entry = []

-- what an entry completes; a call that failed completes nothing
abbrev pub completed_by : Entry → List ℕ
completed_by entry = if has_report report.Failed entry then [] else completes entry.word entry

-- the request or message was completed by the entries of these lines
abbrev pub is_completed : List Line → ℕ → Bool
is_completed lines number = is_among number (flat_map completed_by (entries_of lines))

-- the source and the tag of the receive that a line starts with this request
abbrev pub receive_in : ℕ → Word → List Field → Option (Field × Field)
receive_in number (Call call.Irecv) (Natural request ∷ comm ∷ source ∷ tag ∷ []) =
    if request == number then Some (source, tag) else None
receive_in number (Call call.Isendrecv) (sent ∷ Natural received ∷ comm ∷ to ∷ tag ∷ source ∷ other ∷ rest) =
    if received == number then Some (source, other) else None
receive_in number _ _ = None

abbrev pub is_any : Field → Bool
is_any Any = true
is_any _ = false

-- the source or the tag is a wildcard; a receive from nobody has none
abbrev pub has_wildcard : Field × Field → Bool
has_wildcard (Null, tag) = false
has_wildcard (source, tag) = is_any source || is_any tag

abbrev pub is_wildcard : Option (Field × Field) → Bool
is_wildcard None = false
is_wildcard (Some message) = has_wildcard message

-- the request is that of a started receive
abbrev pub is_of_receive : List Line → ℕ → Bool
is_of_receive lines number = list_any (λ line. is_some (receive_in number line.word line.fields)) lines

-- the request is that of a receive with a wildcard
abbrev pub awaits_any : List Line → ℕ → Bool
awaits_any lines number = list_any (λ line. is_wildcard (receive_in number line.word line.fields)) lines

abbrev pub is_cancel : Word → Bool
is_cancel (Call call.Cancel) = true
is_cancel _ = false

-- a cancel names the request
abbrev pub is_cancelled : List Line → ℕ → Bool
is_cancelled lines number =
    list_any (λ line. is_cancel line.word && is_among number (numbers_by is_request line)) lines

abbrev pub is_outcome : Word → Bool
is_outcome word =
    is_report report.Done word || is_report report.Gone word || is_report report.Kept word || is_report report.Moved word

-- its message, what came of its cancel, or that it is moved was reported
abbrev pub has_outcome : List Line → ℕ → Bool
has_outcome lines number =
    list_any (λ line. is_outcome line.word && is_among number (numbers_by is_request line)) lines

-- the communicator that its nonblocking duplicate made was reported
abbrev pub is_brought : List Line → ℕ → Bool
is_brought lines number =
    list_any (λ line. is_report report.Idup line.word && is_among number (numbers_by is_request line)) lines

-- the communicator that a line duplicates with this request
abbrev pub duplicated_in : ℕ → Word → List Field → Option ℕ
duplicated_in number (Call call.CommIdup) (Natural request ∷ Natural comm ∷ []) =
    if request == number then Some comm else None
duplicated_in number _ _ = None

-- that of the nonblocking duplicate that started the request
abbrev pub parent_of : List Line → ℕ → Option ℕ
parent_of [] number = None
parent_of (line ∷ lines) number =
    or_else (duplicated_in number line.word line.fields) (parent_of lines number)

-- ---- Communicators ----

-- the group of this communicator, if the line reports it
abbrev pub group_if : ℕ → Line → Option (List ℕ)
group_if comm line = if is_among comm (numbers_by is_new_comm line) then Some (group_in line) else None

abbrev pub reported_group : List Line → ℕ → Option (List ℕ)
reported_group [] comm = None
reported_group (line ∷ lines) comm = or_else (group_if comm line) (reported_group lines comm)

-- the group of a communicator that the rank has: 0 is the world, 1 the rank alone, others were reported
abbrev pub group_of : ℕ → ℕ → List Line → ℕ → Option (List ℕ)
group_of ranks rank lines comm =
    if comm == 0 then Some (range_with_len 0 ranks)
    else (if comm == 1 then Some (rank ∷ []) else reported_group lines comm)

abbrev pub knows_comm : ℕ → ℕ → List Line → ℕ → Bool
knows_comm ranks rank lines comm = is_some (group_of ranks rank lines comm)
