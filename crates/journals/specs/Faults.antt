-- The first fault of a line that has its form, by the lines before it.
use Rattle.std.specs.Prelude.{ℕ, Bool, true, false, ◌&&◌, ◌||◌, not, ◌==◌, Option, Some, None, is_some, List, [], ◌∷◌, length}
use Rattle.std.specs.List.{list_any, list_all}
use Rattle.std.specs.Str.{bytes_eq}
use Rattle.journals.specs.Lines.{Line}
use Rattle.journals.specs.Entries.{Entry, call_of, last_entry, numbers_by, is_new_request, is_new_message, is_request, is_message, is_of_request, is_comm, is_new_comm, group_in}
use Rattle.journals.specs.Known.{is_among, are_distinct, knows_request, knows_message, has_report, completed_by, is_completed, is_report, is_of_receive, awaits_any, is_cancelled, has_outcome, is_brought, parent_of, group_of, knows_comm}
use Rattle.journals.specs.declared.field.Field.{Field}
use Rattle.journals.specs.declared.field.Field.TheVariants.{Undefined}
use Rattle.journals.specs.declared.word.Word.{Word}
use Rattle.journals.specs.declared.word.Word.TheVariants.{Call, Report}
use Rattle.journals.specs.declared.word.CallWord.{CallWord}
use Rattle.journals.specs.declared.word.CallWord.TheVariants as call
use Rattle.journals.specs.declared.word.ReportWord.{ReportWord}
use Rattle.journals.specs.declared.word.ReportWord.TheVariants as report
use Rattle.journals.specs.declared.fault.JournalFaultKind.{JournalFaultKind}
use Rattle.journals.specs.declared.fault.JournalFaultKind.TheVariants.{AfterEnd, OutOfPlace, Request, Comm, Group}

-- ---- A line after the end ----

abbrev pub ends_journal : Word → Bool
ends_journal (Call call.Finalize) = true
ends_journal (Call call.Exit) = true
ends_journal (Call call.Cut) = true
ends_journal _ = false

abbrev pub is_after_end : List Line → Bool
is_after_end before = list_any (λ line. ends_journal line.word) before

-- ---- A report out of place ----

abbrev pub takes_message : CallWord → Bool
takes_message call.Recv = true
takes_message call.Sendrecv = true
takes_message call.Probe = true
takes_message call.Mprobe = true
takes_message _ = false

abbrev pub completes_requests : CallWord → Bool
completes_requests call.Wait = true
completes_requests call.Test = true
completes_requests call.Waitany = true
completes_requests call.Waitsome = true
completes_requests _ = false

-- a wait for any or some of several may choose so many
abbrev pub may_choose : CallWord → ℕ → Bool
may_choose call.Waitany count = count == 1
may_choose call.Waitsome count = true
may_choose _ count = false

abbrev pub makes_comm : CallWord → Bool
makes_comm call.CommDup = true
makes_comm call.CommSplit = true
makes_comm call.CommMake = true
makes_comm _ = false

abbrev pub is_undefined : List Field → Bool
is_undefined (comm ∷ Undefined ∷ fields) = true
is_undefined _ = false

-- the call may bring a communicator to this rank
abbrev pub may_bring_comm : CallWord → List Field → Bool
may_bring_comm call.CommSplit fields = not (is_undefined fields)
may_bring_comm call.CommCreateGroup fields = true
may_bring_comm word fields = makes_comm word

abbrev pub may_fail : CallWord → Bool
may_fail call.Finalize = false
may_fail call.Abort = false
may_fail call.Exit = false
may_fail call.Full = false
may_fail call.Stopped = false
may_fail call.Cut = false
may_fail _ = true

abbrev pub brought_or_not : Entry → Bool
brought_or_not entry = has_report report.Comm entry || has_report report.NoComm entry

-- the call of an entry can have one more such report, which has so many fields
abbrev pub may_have : ReportWord → ℕ → Entry → Bool
may_have report.Got count entry = takes_message entry.word && not (has_report report.Got entry)
may_have report.Chose count entry = may_choose entry.word count && not (has_report report.Chose entry)
may_have report.Comm count entry = may_bring_comm entry.word entry.fields && not (brought_or_not entry)
may_have report.NoComm count entry = makes_comm entry.word && not (brought_or_not entry)
may_have report.Idup count entry = completes_requests entry.word
may_have report.Failed count entry = may_fail entry.word && not (has_report report.Failed entry)
may_have _ count entry = true

-- the report is of an earlier request or of no call line, and so may be anywhere
abbrev pub may_be_anywhere : ReportWord → Bool
may_be_anywhere report.Done = true
may_be_anywhere report.Gone = true
may_be_anywhere report.Kept = true
may_be_anywhere report.Moved = true
may_be_anywhere report.Apart = true
may_be_anywhere _ = false

abbrev pub may_follow : ReportWord → ℕ → Option Entry → Bool
may_follow word count None = may_be_anywhere word
may_follow word count (Some entry) = may_have word count entry

-- the last call names the request; it completed the request
abbrev pub names_last : Option Entry → ℕ → Bool
names_last None request = false
names_last (Some entry) request = is_among request (numbers_by is_request (call_of entry))

abbrev pub completed_last : Option Entry → ℕ → Bool
completed_last None request = false
completed_last (Some entry) request = is_among request (completed_by entry)

-- the report can be of this request
abbrev pub may_be_of : ReportWord → List Line → ℕ → Bool
may_be_of report.Chose before request = names_last (last_entry before) request
may_be_of report.Done before request = awaits_any before request && not (has_outcome before request)
may_be_of report.Gone before request = is_cancelled before request && not (has_outcome before request)
may_be_of report.Kept before request = is_cancelled before request && not (has_outcome before request)
may_be_of report.Moved before request = is_of_receive before request && not (has_outcome before request)
may_be_of report.Idup before request =
    is_some (parent_of before request) && completed_last (last_entry before) request
    && not (is_brought before request)
may_be_of _ before request = true

-- a known request that the line names can't have this report
abbrev pub names_unfit : ReportWord → List Line → Line → Bool
names_unfit word before line =
    list_any (λ request. knows_request before request && not (may_be_of word before request))
    (numbers_by is_request line)

abbrev pub is_out_of_place : List Line → Line → Word → Bool
is_out_of_place before line (Call word) = false
is_out_of_place before line (Report word) =
    not (may_follow word (length line.fields) (last_entry before)) || names_unfit word before line

-- ---- Moved receives ----

abbrev pub is_cut : CallWord → Bool
is_cut call.Cut = true
is_cut word = false

abbrev pub is_entry_cut : Option Entry → Bool
is_entry_cut None = false
is_entry_cut (Some entry) = is_cut entry.word

-- the journal ends where nothing is under way, and the rank goes on in another
abbrev pub ends_with_cut : List Line → Bool
ends_with_cut lines = is_entry_cut (last_entry lines)

-- the line reports a receive to be moved, and the journal completes it, or doesn't end with a cut
abbrev pub is_moved_wrongly : List Line → Line → Bool
is_moved_wrongly lines line =
    is_report report.Moved line.word
    && (not (ends_with_cut lines) || list_any (is_completed lines) (numbers_by is_request line))

-- ---- Requests ----

-- neither a request nor a message has this number
abbrev pub is_free : List Line → ℕ → Bool
is_free before number = not (knows_request before number) && not (knows_message before number)

-- a call line names no request that was completed before; a report may
abbrev pub is_left : List Line → Word → ℕ → Bool
is_left before (Call word) number = not (is_completed before number)
is_left before (Report word) number = true

abbrev pub has_wrong_request : List Line → Line → Bool
has_wrong_request before line =
    not (list_all (is_free before) (numbers_by is_new_request line))
    || not (list_all (is_free before) (numbers_by is_new_message line))
    || not (list_all (λ number. knows_request before number && is_left before line.word number)
    (numbers_by is_request line))
    || not (list_all (λ number. knows_message before number && is_left before line.word number)
    (numbers_by is_message line))
    || not (are_distinct (numbers_by is_of_request line))

-- ---- Communicators and groups ----

-- the run and the rank of a journal
pub record Owner : Type 0 where
  pub ranks : ℕ
  pub rank : ℕ

abbrev pub has_wrong_comm : Owner → List Line → Line → Bool
has_wrong_comm owner before line =
    list_any (λ comm. not (knows_comm owner.ranks owner.rank before comm)) (numbers_by is_comm line)
    || list_any (knows_comm owner.ranks owner.rank before) (numbers_by is_new_comm line)

-- the group of a known communicator
abbrev pub is_within : List ℕ → Option (List ℕ) → Bool
is_within group None = false
is_within group (Some parent) = list_all (λ rank. is_among rank parent) group

-- the group names this rank and no rank twice, and only such that are in the group of the communicator
abbrev pub is_group : Owner → List Line → Option ℕ → List ℕ → Bool
is_group owner before None group = false
is_group owner before (Some comm) group =
    are_distinct group && is_among owner.rank group
    && is_within group (group_of owner.ranks owner.rank before comm)

abbrev pub first_number : List ℕ → Option ℕ
first_number [] = None
first_number (number ∷ numbers) = Some number

-- the group of a communicator that a call made: that of a call that names a group is this group
abbrev pub is_made_in : Owner → List Line → Entry → List ℕ → CallWord → Bool
is_made_in owner before entry group call.CommCreateGroup = bytes_eq group (group_in (call_of entry))
is_made_in owner before entry group word =
    is_group owner before (first_number (numbers_by is_comm (call_of entry))) group

abbrev pub is_made_by : Owner → List Line → Option Entry → List ℕ → Bool
is_made_by owner before None group = false
is_made_by owner before (Some entry) group = is_made_in owner before entry group entry.word

-- the communicator of the nonblocking duplicate that the line's request is of
abbrev pub parent_in : List Line → List ℕ → Option ℕ
parent_in before [] = None
parent_in before (request ∷ requests) = parent_of before request

abbrev pub has_right_group : Owner → List Line → Line → Word → Bool
has_right_group owner before line (Call call.CommCreateGroup) = is_group owner before (Some 0) (group_in line)
has_right_group owner before line (Report report.Comm) =
    is_made_by owner before (last_entry before) (group_in line)
has_right_group owner before line (Report report.Idup) =
    is_group owner before (parent_in before (numbers_by is_request line)) (group_in line)
has_right_group owner before line (Report report.Apart) = is_group owner before (Some 0) (group_in line)
has_right_group owner before line word = true

-- ---- The first fault ----

abbrev pub first_of : List (Bool × JournalFaultKind) → Option JournalFaultKind
first_of [] = None
first_of ((true, kind) ∷ others) = Some kind
first_of ((false, kind) ∷ others) = first_of others

-- the first fault of a line, by the lines before it
unfoldable pub fault_of_line : Owner → List Line → Line → Option JournalFaultKind
fault_of_line owner before line =
    first_of ((is_after_end before, AfterEnd) ∷ (is_out_of_place before line line.word, OutOfPlace)
    ∷ (has_wrong_request before line, Request) ∷ (has_wrong_comm owner before line, Comm)
    ∷ (not (has_right_group owner before line line.word), Group) ∷ [])
