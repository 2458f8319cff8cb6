-- What comes of an entry by the sinks before it, as it is kept; and what is known of a list that goes on or has ended.
use Rattle.std.specs.Prelude.{◌≡◌, ℕ, ◌-◌, ◌&&◌, Bool, true, false, Option, Some, None, if◌then◌else◌, Result, Ok, Err, List, [], flat_map, map, take}
use Rattle.mpicall.specs.declared.call.Call.{Call}
use Rattle.mpicall.specs.declared.call.Call.TheVariants.{Open}
use Rattle.journals.specs.Lines.{Line}
use Rattle.journals.specs.Known.{report_of}
use Rattle.journals.specs.declared.word.ReportWord.TheVariants as report
use Rattle.closing.specs.Called.{Called, WaitsAny, WaitsSome}
use Rattle.closing.specs.Endings.{chose_none}
use Rattle.closing.specs.Entries.{Run, Placed}
use Rattle.closing.specs.Entry.{Choice}
use Rattle.closing.specs.Fit.{steps_in}
use Rattle.closing.specs.Left.{Left as LeftSaid, left_said, left_by, left_if}
use Rattle.closing.specs.Pending.{PendingCall, pending_by, pending_of, pending_said, sinks_from, sinks_of, unknown}
use Rattle.closing.specs.Recording.{Listed, ended, list_of}
use Rattle.closing.specs.Steps.{Id, Progress, Sink, Step, Written, after_steps}
use Rattle.closing.specs.Sinks.{Outcome, GoesOn, Ends, outcome_by_sinks}
use Rattle.closing.specs.inner.Lists.{Handed, IsCut, Stands}
use Rattle.closing.specs.inner.Sinks.{HasSinks}
use Rattle.closing.specs.declared.list.TheConstants.{MOST_RECORDS}
use Rattle.closing.specs.declared.choice.Unreported.{Unreported}
use Rattle.closing.specs.declared.choice.Unreported.TheVariants as unreported
use Rattle.closing.specs.declared.stop.Stop.{Stop}
use Rattle.closing.specs.declared.stop.Stop.TheVariants as stop
use Rattle.closing.specs.declared.walk.Walk.{Walk}
use Rattle.closing.specs.declared.why.Why.{Why}
use Rattle.closing.specs.declared.why.Why.TheVariants.{NeverCameBack, NeverReported, NotJudged, TooLong}

-- ---- What is kept of sinks ----

-- the entry of a sink, which has no line of its own
abbrev pub left_of : ℕ → Written → List LeftSaid
left_of rank it = by_start it.starts
  where
    by_start : Option Id → List LeftSaid
    by_start (Some (Sink own wanted is_known)) = left_if rank it.line (Some (if is_known then NotJudged else NeverReported))
    by_start other = []

-- those of the sinks of these records
abbrev pub IsLeftOut : List Written → Walk → Type 0
IsLeftOut records walk = map (left_said walk.rank) walk.left_out.items ≡ flat_map (left_of walk.rank) records

-- so it is of a list that has these records and goes on
pub record IsKept (records : List Written) (walk : Walk) : Type 0 where
  pub sinks : HasSinks records walk.sinks
  pub pending : pending_said walk.pending ≡ unknown
  pub left_out : IsLeftOut records walk

-- ---- An entry that may be taken by the sinks before it ----

-- a wait of which it is reported what it chose came back
pub record IsBack (placed : Placed) : Type 0 where
  pub chose : (line : Line) → report_of report.Chose placed.entry ≡ Some line → placed.came_back ≡ true

-- the pending call of a list that ends at an entry, and why
abbrev pub pending_if : Run → Placed → Listed → Why → PendingCall
pending_if run placed list NeverCameBack = if placed.came_back then unknown else pending_by run list placed placed.called
pending_if run placed list why = unknown

-- a wait for any or some of several that chose none
abbrev pub chooses_none : Placed → Called → Bool
chooses_none placed (WaitsAny requests) = chose_none placed requests
chooses_none placed (WaitsSome requests) = chose_none placed requests
chooses_none placed it = false

abbrev pub sinks_stand : Unreported → Bool
sinks_stand unreported.Ends = false
sinks_stand unreported.Sinks = true

-- of one that stands for what it does without sinks: it is the pending call only if it chose none, which ends the list
abbrev pub pending_kept : Run → Choice → Progress → Placed → PendingCall
pending_kept run choice progress placed =
    if sinks_stand choice.unreported && chooses_none placed placed.called
    then pending_if run placed (ended progress Open placed.line (Some NeverCameBack)) NeverCameBack
    else unknown

-- nothing was put
pub record IsNotTaken (run : Run) (choice : Choice) (placed : Placed) (handed : Handed) (progress : Progress) (walk : Walk) : Type 0 where
  pub none : choice.unreported ≡ unreported.Sinks → outcome_by_sinks run choice progress.records placed ≡ None
  pub stands : Stands handed progress walk.list
  pub sinks : HasSinks progress.records walk.sinks
  pub pending : pending_said walk.pending ≡ pending_kept run choice progress placed
  pub left_out : IsLeftOut progress.records walk

-- its steps were, and the list goes on
pub record IsTakenOn (run : Run) (choice : Choice) (placed : Placed) (handed : Handed) (progress : Progress) (walk : Walk) : Type 0 where
  pub steps : List Step
  pub unreported : choice.unreported ≡ unreported.Sinks
  pub is : outcome_by_sinks run choice progress.records placed ≡ Some (GoesOn steps)
  pub stands : Stands handed (after_steps progress placed.line steps) walk.list
  pub kept : IsKept (after_steps progress placed.line steps).records walk

-- the list is to end at it
pub record EndsTaken (run : Run) (choice : Choice) (placed : Placed) (why : Why) (handed : Handed) (progress : Progress) (walk : Walk) : Type 0 where
  pub steps : List Step
  pub unreported : choice.unreported ≡ unreported.Sinks
  pub is : outcome_by_sinks run choice progress.records placed ≡ Some (Ends steps Open (Some why))
  pub stands : Stands handed (after_steps progress placed.line steps) walk.list
  pub sinks : walk.sinks.all.items ≡ sinks_from 0 (after_steps progress placed.line steps).records
  pub pending : pending_said walk.pending ≡ pending_if run placed (ended (after_steps progress placed.line steps) Open placed.line (Some why)) why
  pub left_out : IsLeftOut progress.records walk

-- the list is too long: it ends within its records, before its sink
pub record IsCutTaken (run : Run) (choice : Choice) (placed : Placed) (handed : Handed) (progress : Progress) (walk : Walk) : Type 0 where
  pub outcome : Outcome
  pub unreported : choice.unreported ≡ unreported.Sinks
  pub is : outcome_by_sinks run choice progress.records placed ≡ Some outcome
  pub cut : IsCut handed (after_steps progress placed.line (steps_in outcome)) placed.line walk.list
  pub same : sinks_from 0 (take (MOST_RECORDS - 1) (after_steps progress placed.line (steps_in outcome)).records) ≡ sinks_from 0 progress.records
  pub kept : IsKept progress.records walk

-- whether it was
abbrev pub IsTakenBy : Run → Choice → Placed → Result Bool Stop → Handed → Progress → Walk → Type 0
IsTakenBy run choice placed (Ok false) handed progress walk = IsNotTaken run choice placed handed progress walk
IsTakenBy run choice placed (Ok true) handed progress walk = IsTakenOn run choice placed handed progress walk
IsTakenBy run choice placed (Err (stop.Left TooLong)) handed progress walk = IsCutTaken run choice placed handed progress walk
IsTakenBy run choice placed (Err (stop.Left why)) handed progress walk = EndsTaken run choice placed why handed progress walk
IsTakenBy run choice placed (Err stop.Memory) handed progress walk = Unit {0}

-- ---- After an entry ----

-- the pending call of a list that ends at an entry; without sinks none is known
abbrev pub pending_at : Run → Choice → Placed → Listed → Why → PendingCall
pending_at run choice placed list why = if sinks_stand choice.unreported then pending_if run placed list why else unknown

-- what is kept where the list ends at an entry that stands for this
pub record EndsKept (run : Run) (choice : Choice) (placed : Placed) (outcome : Outcome) (why : Why) (progress : Progress) (walk : Walk) : Type 0 where
  pub sinks : (steps : List Step) (end : Call) (found : Option Why) → outcome ≡ Ends steps end found
      → walk.sinks.all.items ≡ sinks_from 0 (after_steps progress placed.line steps).records
  pub pending : (steps : List Step) (end : Call) (found : Option Why) → outcome ≡ Ends steps end found
      → pending_said walk.pending ≡ pending_at run choice placed (ended (after_steps progress placed.line steps) Open placed.line (Some why)) why
  pub left_out : IsLeftOut progress.records walk

-- and where it is too long
pub record CutKept (placed : Placed) (outcome : Outcome) (progress : Progress) (walk : Walk) : Type 0 where
  pub same : sinks_from 0 (take (MOST_RECORDS - 1) (after_steps progress placed.line (steps_in outcome)).records) ≡ sinks_from 0 progress.records
  pub kept : IsKept progress.records walk

abbrev pub StopsKept : Run → Choice → Placed → Outcome → Why → Progress → Walk → Type 0
StopsKept run choice placed outcome TooLong progress walk = CutKept placed outcome progress walk
StopsKept run choice placed outcome why progress walk = EndsKept run choice placed outcome why progress walk

-- ---- A list that has ended ----

pub record IsKnown (run : Run) (choice : Choice) (walk : Walk) : Type 0 where
  pub sinks : walk.sinks.all.items ≡ sinks_of (list_of run choice walk.rank)
  pub pending : pending_said walk.pending ≡ pending_of run choice walk.rank
  pub left_out : map (left_said walk.rank) walk.left_out.items
      ≡ flat_map (left_by walk.rank (list_of run choice walk.rank)) (list_of run choice walk.rank).records
