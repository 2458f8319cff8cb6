-- What is true of the journals of each run that were read, as far as the making of its recording rests on it.
use Rattle.std.specs.Prelude.{◌≡◌, ℕ, ◌-◌, ◌<◌, ◌≤◌, Bool, true, false, ◌||◌, IsTrue, IfSome, Option, Some, None, is_some, List, [], ◌∷◌, length, take, slice_get, Contains}
use Rattle.std.specs.List.{count_by, list_all}
use Rattle.mpicall.specs.Limits.{in_ranges}
use Rattle.mpicall.specs.declared.call.Call.{Call}
use Rattle.mpicall.specs.declared.call.Call.TheVariants.{Isend}
use Rattle.journals.specs.Lines.{Line}
use Rattle.journals.specs.Known.{has_report, report_of, requests_in}
use Rattle.journals.specs.declared.field.Field.{Field}
use Rattle.journals.specs.declared.limits.TheConstants.{MOST_RANKS}
use Rattle.journals.specs.declared.word.CallWord.{CallWord}
use Rattle.journals.specs.declared.word.CallWord.TheVariants as call
use Rattle.journals.specs.declared.word.ReportWord.TheVariants as report
use Rattle.journals.specs.declared.word.Word.{Word}
use Rattle.journals.specs.declared.word.Word.TheVariants.{Report}
use Rattle.closing.specs.Called.{Called, ReceivesMatched, Waits, Tests, WaitsAny, WaitsSome, naturals_in}
use Rattle.closing.specs.Entries.{Run, Placed, lines_at, entries_at}
use Rattle.closing.specs.FitComms.{HasFitComms}
use Rattle.closing.specs.Numbers.{preface_of}
use Rattle.closing.specs.Reported.{done_in, is_left_out, says_gone, says_kept, says_moved}
use Rattle.closing.specs.Steps.{Id, Own, Whole, ReceiveHalf, Sink, Written, Progress, Step, Does, Starts, number_in, after_step, after_steps}
use Rattle.closing.specs.Endings.{size_at}
use Rattle.closing.specs.Entry.{Choice, id_of, is_of_send, is_past, passes_tests}
use Rattle.closing.specs.Recording.{is_end, outcome_in, progress_first}
use Rattle.closing.specs.Sinks.{Outcome, GoesOn, Ends}

-- ---- Steps ----

-- a record of the trace can be made of it, and no active request has the number of one that it starts
abbrev pub Fits : Progress → Step → Type 0
Fits progress (Does call) = IsTrue (in_ranges call)
Fits progress (Starts (Own request) call) = IsTrue (in_ranges (call 0)) × (number_in progress.active (Own request) ≡ None)
Fits progress (Starts (Whole line) call) = IsTrue (in_ranges (call 0))
Fits progress (Starts (ReceiveHalf line) call) = IsTrue (in_ranges (call 0))
Fits progress (Starts (Sink own wanted is_known) call) = IsTrue (in_ranges (call 0))
Fits progress step = Unit {0}

-- so it is with each of these, one after the other
abbrev pub AllFit : Progress → ℕ → List Step → Type 0
AllFit progress line [] = Unit {0}
AllFit progress line (step ∷ steps) = Fits progress step × AllFit (after_step progress line step) line steps

abbrev pub steps_in : Outcome → List Step
steps_in (GoesOn steps) = steps
steps_in (Ends steps end why) = steps

-- with an entry that ends the list no other is taken
abbrev pub FitsOn : Progress → ℕ → Outcome → (Progress → Type 0) → Type 0
FitsOn progress line (GoesOn steps) others = others (after_steps progress line steps)
FitsOn progress line (Ends steps end why) others = Unit {0}

-- so it is with the steps of these entries of a rank whose list came so far
abbrev pub EntriesFit : Run → Choice → Progress → List Placed → Type 0
EntriesFit run choice progress [] = Unit {0}
EntriesFit run choice progress (placed ∷ others) =
    AllFit progress placed.line (steps_in (outcome_in run choice progress.records placed))
    × FitsOn progress placed.line (outcome_in run choice progress.records placed) (λ after. EntriesFit run choice after others)

-- ---- What entries name ----

-- the requests that a wait or test names
abbrev pub waited : Called → List ℕ
waited (ReceivesMatched message) = message ∷ []
waited (Waits requests) = requests
waited (Tests requests) = requests
waited (WaitsAny requests) = requests
waited (WaitsSome requests) = requests
waited it = []

-- the lines of its journal before an entry
abbrev pub lines_before : Placed → List Line
lines_before placed = take (placed.line - 2) placed.journal.lines

-- what each of these requests stands for is known by some lines already
abbrev pub AllSame : List Line → List Line → List ℕ → Type 0
AllSame before lines [] = Unit {0}
AllSame before lines (request ∷ requests) = (id_of before request ≡ id_of lines request) × AllSame before lines requests

-- each field of a wait for any or some is a request
abbrev pub AreNumbers : CallWord → ℕ → ℕ → Type 0
AreNumbers call.Waitany numbers fields = numbers ≡ fields
AreNumbers call.Waitsome numbers fields = numbers ≡ fields
AreNumbers word numbers fields = Unit {0}

-- the requests that a line says were chosen
pub record AreChosen (placed : Placed) (line : Line) : Type 0 where
  pub same : AllSame (lines_before placed) placed.journal.lines (requests_in (Some line))
  pub are : naturals_in line.fields ≡ requests_in (Some line)

-- what an entry names was started before it
pub record NamesKnown (placed : Placed) : Type 0 where
  pub waited : AllSame (lines_before placed) placed.journal.lines (waited placed.called)
  pub chosen : IfSome (report_of report.Chose placed.entry) (AreChosen placed)
  pub fields : AreNumbers placed.entry.word (length (naturals_in placed.entry.fields)) (length placed.entry.fields)

-- ---- Tests that are passed ----

abbrev pub starts_send : Call → Bool
starts_send (Isend number mode comm dest tag bytes) = true
starts_send call = false

-- a record that starts the request starts a send, or another request
abbrev pub StartsKind : Bool → Id → Option Written → Type 0
StartsKind is_send id None = Unit {0}
StartsKind is_send id (Some it) = it.starts ≡ Some id → starts_send it.call ≡ is_send

-- what the list has of a request is what the journal says of it: that of a send, which is active, or another
pub record HasKind (lines : List Line) (progress : Progress) (request : ℕ) : Type 0 where
  pub active : is_of_send lines request ≡ true → is_some (number_in progress.active (id_of lines request)) ≡ true
  pub starts : (place : ℕ) → StartsKind (is_of_send lines request) (id_of lines request) (slice_get progress.records place)

-- so it is of each of these that waits don't leave out
abbrev pub AllHaveKind : List Line → Progress → List ℕ → Type 0
AllHaveKind lines progress [] = Unit {0}
AllHaveKind lines progress (request ∷ requests) =
    (is_left_out lines request ≡ false → HasKind lines progress request) × AllHaveKind lines progress requests

-- where tests are passed no call stands for what it started, and what is tested has its kind
abbrev pub TestFits : Choice → Placed → Called → Progress → Type 0
TestFits choice placed (Tests requests) progress =
    passes_tests choice.tests choice.calls ≡ true
    → (is_past choice.calls placed ≡ false) × AllHaveKind placed.journal.lines progress requests
TestFits choice placed it progress = Unit {0}

-- so it is with the tests of these entries of a rank whose list came so far
abbrev pub TestsFit : Run → Choice → Progress → List Placed → Type 0
TestsFit run choice progress [] = Unit {0}
TestsFit run choice progress (placed ∷ others) =
    TestFits choice placed placed.called progress
    × FitsOn progress placed.line (outcome_in run choice progress.records placed) (λ after. TestsFit run choice after others)

-- ---- Reports of requests ----

-- the line reports what came of the request, or that it is moved
abbrev pub reports_of : ℕ → Word → List Field → Bool
reports_of request word fields =
    is_some (done_in request word fields) || says_gone request word fields || says_kept request word fields || says_moved request word fields

-- how many lines do
abbrev pub report_count : List Line → ℕ → ℕ
report_count lines request = count_by (λ line. reports_of request line.word line.fields) lines

-- such a report has as many fields as its form
abbrev pub IsFormed : Word → List Field → Type 0
IsFormed (Report report.Done) fields = length fields ≡ 3
IsFormed (Report report.Gone) fields = length fields ≡ 1
IsFormed (Report report.Kept) fields = length fields ≡ 1
IsFormed (Report report.Moved) fields = length fields ≡ 1
IsFormed word fields = Unit {0}

abbrev pub AreFormed : List Line → Type 0
AreFormed [] = Unit {0}
AreFormed (line ∷ lines) = IsFormed line.word line.fields × AreFormed lines

-- ---- A run ----

pub record IsFit (run : Run) (choice : Choice) : Type 0 where
  -- there are no more ranks than a run may have, nor members of a communicator that a call is on
  pub ranks : length run ≤ MOST_RANKS
  pub sizes : (rank : ℕ) (placed : Placed) → Contains (entries_at run rank) placed → size_at run placed ≤ MOST_RANKS
  -- communicators are of ranks of the run, and a report of one gives its number
  pub comms : HasFitComms run
  -- the lines of each preface are records of the trace
  pub prefaces : (rank : ℕ) → rank < length run → IsTrue (list_all in_ranges (preface_of run rank))
  -- so are those of each entry, and each request that it starts is new
  pub entries : (rank : ℕ) → rank < length run → EntriesFit run choice (progress_first run rank) (entries_at run rank)
  -- what an entry names was started before it, and what is tested has its kind where tests are passed
  pub named : (rank : ℕ) (placed : Placed) → Contains (entries_at run rank) placed → NamesKnown placed
  pub tests : (rank : ℕ) → rank < length run → TestsFit run choice (progress_first run rank) (entries_at run rank)
  -- what came of a request is reported once at most, with the fields of such a report
  pub formed : (rank : ℕ) → AreFormed (lines_at run rank)
  pub once : (rank request : ℕ) → report_count (lines_at run rank) request ≤ 1
  -- the call that ends a rank's program didn't fail
  pub ends : (rank : ℕ) (placed : Placed) → Contains (entries_at run rank) placed → IsTrue (is_end placed.called)
      → has_report report.Failed placed.entry ≡ false
