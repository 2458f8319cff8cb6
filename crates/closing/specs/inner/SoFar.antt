-- The list of a rank so far, as it is kept, against the list of the definitions.
use Rattle.std.specs.Prelude.{◌≡◌, ℕ, ◌+◌, ◌<◌, ◌≤◌, Bool, true, false, None, Some, Option, option_map, Result, Ok, Err, List, [], ◌∷◌, ◌++◌, length, map, take, drop, slice_get}
use Rattle.mpicall.specs.declared.call.Call.{Call}
use Rattle.mpicall.specs.declared.call.Call.TheVariants.{Finalize}
use Rattle.journals.specs.Lines.{Line}
use Rattle.journals.specs.Known.{report_of, requests_in}
use Rattle.journals.specs.Taking.{fields_at, word_at}
use Rattle.journals.specs.Journal.{Journal}
use Rattle.journals.specs.declared.word.CallWord.{CallWord}
use Rattle.journals.specs.declared.word.ReportWord.TheVariants as report
use Rattle.journals.specs.declared.word.Word.TheVariants.{Call as CallLine}
use Rattle.closing.specs.Called.{naturals_in}
use Rattle.closing.specs.Endings.{size_at, number_at}
use Rattle.closing.specs.Made.{key_made, wave_at}
use Rattle.closing.specs.Numbers.{named_key}
use Rattle.closing.specs.RankComms.{RankComms, comms_first, after_lines}
use Rattle.closing.specs.Entries.{Run, Placed, placed_at, entries_from, journal_at, lines_at}
use Rattle.closing.specs.Entry.{Choice, matched_message}
use Rattle.closing.specs.Steps.{Id, Own, Written, Progress, Step, after_steps}
use Rattle.closing.specs.Recording.{Listed, calls_of, list_from, list_of, outcome_in, whole_list}
use Rattle.closing.specs.Sinks.{Outcome, GoesOn, Ends}
use Rattle.closing.specs.Fit.{EntriesFit, IsFit, TestsFit}
use Rattle.closing.specs.Freed.{is_freed}
use Rattle.closing.specs.Recordings.{left_in, line_at}
use Rattle.closing.specs.inner.Holds.{HasComms}
use Rattle.closing.specs.inner.Lists.{Handed, HasPlaces, Stands}
use Rattle.closing.specs.inner.Noted.{AreReports, IsLastCall, reports_in}
use Rattle.closing.specs.inner.Numbered.{IsNumberedRun}
use Rattle.closing.specs.inner.RequestReports.{Tells}
use Rattle.closing.specs.inner.Standings.{message_for}
use Rattle.closing.specs.inner.Taken.{IsKept, IsKnown, StopsKept}
use Rattle.closing.specs.Table.{Table}
use Rattle.closing.specs.inner.Table.{Grows, IsPlaceOf, IsWaveOf}
use Rattle.closing.specs.inner.Walked.{Follows, IsAt, number_of, size_of}
use Rattle.closing.specs.inner.Walks.{spot_of}
use Rattle.closing.specs.declared.list.List.{List as ListCode}
use Rattle.closing.specs.declared.stop.Stop.{Stop}
use Rattle.closing.specs.declared.stop.Stop.TheVariants.{Left, Memory}
use Rattle.closing.specs.declared.numbers.Communicators.{Communicators}
use Rattle.closing.specs.declared.numbers.Named.{Named}
use Rattle.closing.specs.declared.walk.At.{At}
use Rattle.closing.specs.declared.walk.Entry.{Entry as EntryCode}
use Rattle.closing.specs.declared.walk.Walk.{Walk}
use Rattle.closing.specs.declared.why.Why.{Why}

-- ---- By places of lines ----

-- what a rank has before the line at a place
abbrev pub comms_at : ℕ → List Line → ℕ → RankComms
comms_at rank lines place = after_lines (comms_first rank) (take place lines)

-- the entries from there on
abbrev pub entries_left : ℕ → Journal → ℕ → List Placed
entries_left rank journal place = entries_from rank journal (place + 2) (comms_at rank journal.lines place) (drop place journal.lines)

-- the entry whose call line is there
abbrev pub placed_here : ℕ → Journal → ℕ → CallWord → Placed
placed_here rank journal place word =
    placed_at rank journal (place + 2) (comms_at rank journal.lines place)
    (record { word = word; fields = fields_at journal.lines place; reports = reports_in (drop (place + 1) journal.lines) })
    (drop (place + 1) journal.lines)

-- ---- The list so far ----

-- from a place on all records are of a line
abbrev pub AreOfLine : ℕ → ℕ → List Written → Type 0
AreOfLine line before records =
    (place : ℕ) → before ≤ place → place < length records → option_map (λ it. it.line) (slice_get records place) ≡ Some line

-- each is of a line before this
abbrev pub AreEarlier : ℕ → List Written → Type 0
AreEarlier line [] = Unit {0}
AreEarlier line (one ∷ records) = (one.line < line) × AreEarlier line records

-- the list has these calls one after the others, and from a place on those that came so far are of a line
pub record HasCalls (listed : Listed) (handed items rest : List Call) (before line : ℕ) : Type 0 where
  pub calls : calls_of listed ≡ handed ++ (items ++ rest)
  pub lines : (place : ℕ) → before ≤ place → place < length (handed ++ items) → line_at listed place ≡ line

-- the list goes on: it came so far by the lines before the next, which is a call line, or there is none
pub record IsSoFar (run : Run) (choice : Choice) (journal : Journal) (table : Table) (walk : Walk) : Type 0 where
  pub handed : Handed
  pub progress : Progress
  pub count : length handed.calls ≡ walk.handed
  pub frees : handed.frees ≡ is_freed journal.lines
  pub stands : Stands handed progress walk.list
  pub late : map Own walk.late.items ≡ progress.late
  pub kept : IsKept progress.records walk
  pub earlier : AreEarlier (walk.next + 2) progress.records
  pub list : list_from run choice progress (entries_left walk.rank journal walk.next) ≡ whole_list run choice walk.rank
  pub fit : EntriesFit run choice progress (entries_left walk.rank journal walk.next)
  pub tests : TestsFit run choice progress (entries_left walk.rank journal walk.next)
  pub comms : HasComms table walk.comms (comms_at walk.rank journal.lines walk.next)
  pub last : IsLastCall journal.lines journal.heading.is_outside walk.last
  pub reported : Tells journal.lines walk.requests.outcomes
  pub requests : (request : ℕ) → message_for walk.requests request ≡ matched_message (take walk.next journal.lines) request
  pub at_call : reports_in (drop walk.next journal.lines) ≡ []
  pub left : walk.left ≡ None

-- before its first entry, after what is reported before it: no request takes a message
pub record IsBegun (table : Table) (journal : Journal) (walk : Walk) : Type 0 where
  pub comms : HasComms table walk.comms (comms_at walk.rank journal.lines walk.next)
  pub next : walk.next ≡ length (reports_in journal.lines)
  pub last : IsLastCall journal.lines journal.heading.is_outside walk.last
  pub reported : Tells journal.lines walk.requests.outcomes
  pub requests : (request : ℕ) → message_for walk.requests request ≡ None

-- so it is of a rank with a journal, and the records of its last entry are of its line
pub record IsOn (run : Run) (choice : Choice) (table : Table) (walk : Walk) : Type 0 where
  pub journal : Journal
  pub there : journal_at run walk.rank ≡ Some journal
  pub so_far : IsSoFar run choice journal table walk
  pub lines : AreOfLine walk.line walk.before so_far.progress.records

-- some calls of the list were handed on, some weren't, and others come; none where it has ended
pub record IsPart (listed : Listed) (walk : Walk) : Type 0 where
  pub handed : List Call
  pub rest : List Call
  pub has : HasCalls listed handed walk.list.records rest walk.before walk.line
  pub count : length handed ≡ walk.handed
  pub over : walk.is_over ≡ true → (rest ≡ []) × (walk.left ≡ left_in listed)

-- the list of a rank: a part of it is there, and it goes on or has ended, and then it is kept where it starts freed requests
pub record IsWalk (run : Run) (choice : Choice) (table : Table) (walk : Walk) : Type 0 where
  pub part : IsPart (list_of run choice walk.rank) walk
  pub on : walk.is_over ≡ false → IsOn run choice table walk
  pub freed : walk.is_over ≡ true → HasPlaces (is_freed (lines_at run walk.rank)) (list_of run choice walk.rank).records walk.list.freed
  pub known : walk.is_over ≡ true → IsKnown run choice walk

-- ---- An entry ----

-- an entry, by its place, and what is kept of its reports
pub record IsEntry (lines : List Line) (entry : EntryCode) : Type 0 where
  pub call : word_at lines entry.place ≡ Some (CallLine entry.word)
  pub reports : AreReports lines (entry.place + 1) (reports_in (drop (entry.place + 1) lines)) entry.reports

-- what is known of a rank before the call of an entry
pub record IsBefore (run : Run) (journal : Journal) (kept : Communicators) (walk : Walk) (entry : EntryCode) : Type 0 where
  pub there : journal_at run walk.rank ≡ Some journal
  pub few : length journal.lines ≤ 4294967292
  pub numbered : IsNumberedRun run kept
  pub is_entry : IsEntry journal.lines entry
  pub comms : HasComms kept.keys walk.comms (comms_at walk.rank journal.lines entry.place)
  pub last : IsLastCall journal.lines journal.heading.is_outside walk.last

-- no more members than a run may have ranks; each field of what it chose is a request
pub record IsFitEntry (run : Run) (placed : Placed) : Type 0 where
  pub small : size_at run placed ≤ 1024
  pub chose : (line : Line) → report_of report.Chose placed.entry ≡ Some line → naturals_in line.fields ≡ requests_in (Some line)

-- what is kept of the communicator that its call names
pub record HasNamed (run : Run) (table : Table) (placed : Placed) (named : Option Named) : Type 0 where
  pub size : size_of named ≡ size_at run placed
  pub number : number_of named ≡ number_at run placed
  pub place : IsPlaceOf table (option_map (λ one. one.key) named) (named_key placed)

-- what the code has of where its call stands is what the definitions have
pub record IsAtEntry (run : Run) (choice : Choice) (placed : Placed) (kept : Communicators) (it : At) : Type 0 where
  pub at : IsAt (spot_of run choice placed) it
  pub numbered : IsNumberedRun run kept
  pub came_back : placed.came_back ≡ it.came_back
  pub named : IsPlaceOf kept.keys (option_map (λ (one : Named). one.key) it.named) (named_key placed)
  pub wave : IsWaveOf kept.keys it.wave (wave_at placed)
  pub made : IsPlaceOf kept.keys it.made (key_made run placed)

-- the list after an entry that stands for this: it came so far, and goes on, or ends with the rank's calls, or is to be
-- ended there
abbrev pub Entered : Result Bool Stop → Outcome → Handed → Progress → ℕ → ListCode → Type 0
Entered (Ok true) (GoesOn steps) handed progress line it = ⊥
Entered (Ok true) (Ends steps end why) handed progress line it =
    (end ≡ Finalize) × ((why ≡ None) × Stands handed (after_steps progress line steps) it)
Entered (Ok false) outcome handed progress line it = Follows {A = Bool} outcome (Ok false) handed progress line it
Entered (Err stop) outcome handed progress line it = Follows {A = Bool} outcome (Err stop) handed progress line it

-- what else is known of a rank at an entry: how far its list came, and that the entry fits
pub record IsReady (run : Run) (choice : Choice) (journal : Journal) (handed : Handed) (progress : Progress) (walk : Walk) (entry : EntryCode) : Type 0 where
  pub fit : IsFit run choice
  pub line : walk.line ≡ entry.place + 2
  pub kept : IsKept progress.records walk
  pub stands : Stands handed progress walk.list
  pub late : map Own walk.late.items ≡ progress.late
  pub entries : EntriesFit run choice progress (entries_left walk.rank journal entry.place)
  pub tests : TestsFit run choice progress (entries_left walk.rank journal entry.place)
  pub reported : Tells journal.lines walk.requests.outcomes
  pub requests : (request : ℕ) → message_for walk.requests request ≡ matched_message (take entry.place journal.lines) request

-- what is kept after an entry with which the list goes on
pub record StaysOn (table : Table) (lines : List Line) (place : ℕ) (records : List Written) (late : List Id) (walk : Walk) : Type 0 where
  pub kept : IsKept records walk
  pub comms : HasComms table walk.comms (comms_at walk.rank lines place)
  pub late_is : map Own walk.late.items ≡ late
  pub requests : (request : ℕ) → message_for walk.requests request ≡ matched_message (take place lines) request

-- what is known after an entry: of its list, of what is kept where that goes on, and of the keys unless memory ran out
pub record IsEntered (run : Run) (choice : Choice) (placed : Placed) (result : Result Bool Stop) (handed : Handed) (progress : Progress) (old now : Table) (place : ℕ) (walk : Walk) : Type 0 where
  pub list : Entered result (outcome_in run choice progress.records placed) handed progress placed.line walk.list
  pub on : (steps : List Step) → result ≡ Ok false → outcome_in run choice progress.records placed ≡ GoesOn steps
      → StaysOn now placed.journal.lines place (after_steps progress placed.line steps).records (after_steps progress placed.line steps).late walk
  pub done : (steps : List Step) (end : Call) (why : Option Why) → result ≡ Ok true → outcome_in run choice progress.records placed ≡ Ends steps end why
      → IsKept (after_steps progress placed.line steps).records walk
  pub stopped : (why : Why) → result ≡ Err (Left why) → StopsKept run choice placed (outcome_in run choice progress.records placed) why progress walk
  pub grows : (result ≡ Err Memory → ⊥) → Grows old now
