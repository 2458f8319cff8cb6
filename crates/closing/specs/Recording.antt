-- The recording of the journals of a run: the groups of its communicators, and each rank's list.
use Rattle.std.specs.Prelude.{ℕ, ◌-◌, Bool, true, false, nat_lt, Option, Some, None, is_none, unwrap_or, if◌then◌else◌, List, [], ◌∷◌, ◌++◌, length, map, take, slice_get}
use Rattle.mpicall.specs.declared.call.Call.{Call}
use Rattle.mpicall.specs.declared.call.Call.TheVariants.{Finalize, Open}
use Rattle.closing.specs.Called.{Called, StartsExchange, Finalizes, Exits, Cuts}
use Rattle.closing.specs.Entries.{Run, Placed, journal_at, entries_at, ranks_of}
use Rattle.closing.specs.Numbers.{groups_of, preface_of}
use Rattle.closing.specs.Steps.{Id, Step, WaitsForLate, Written, Progress, plain, after_steps}
use Rattle.closing.specs.Endings.{why_at}
use Rattle.closing.specs.Entry.{Choice, steps_of}
use Rattle.closing.specs.Sinks.{Outcome, GoesOn, Ends, outcome_by_sinks}
use Rattle.closing.specs.declared.choice.Unreported.{Unreported}
use Rattle.closing.specs.declared.choice.Unreported.TheVariants as unreported
use Rattle.closing.specs.declared.why.Why.{Why}
use Rattle.closing.specs.declared.why.Why.TheVariants.{NeverReported, TooLong, NoJournal}

-- the most records of a list, its end counted
abbrev pub most_records : ℕ
most_records = 1000000

-- a rank's list without its end; its end; the number of the end's line in the journal, 0 where none gives it; why it
-- ends there, where that is before its end; and the requests that are active there
pub record Listed : Type 0 where
  pub records : List Written
  pub end : Call
  pub line : ℕ
  pub why : Option Why
  pub active : List (Id × ℕ)

abbrev pub ended : Progress → Call → ℕ → Option Why → Listed
ended progress end line why = record { records = progress.records; end = end; line = line; why = why; active = progress.active }

-- ---- Entries ----

-- the rank's last call, the end of its program or of its window
abbrev pub is_end : Called → Bool
is_end Finalizes = true
is_end Exits = true
is_end Cuts = true
is_end it = false

-- the send of an exchange stands even where its receive was never reported
abbrev pub steps_before : Run → Choice → Placed → Called → Why → List Step
steps_before run choice placed (StartsExchange request received sent awaited) NeverReported = steps_of run choice placed
steps_before run choice placed it why = []

abbrev pub outcome_by : Run → Choice → Placed → Option Why → Outcome
outcome_by run choice placed (Some why) = Ends (steps_before run choice placed placed.called why) Open (Some why)
outcome_by run choice placed None =
    if is_end placed.called then Ends (WaitsForLate ∷ []) Finalize None else GoesOn (steps_of run choice placed)

abbrev pub outcome_of : Run → Choice → Placed → Outcome
outcome_of run choice placed = outcome_by run choice placed (why_at run placed)

-- by the sinks before the entry, where lists have any
abbrev pub outcome_in : Run → Choice → List Written → Placed → Outcome
outcome_in run choice records placed = by_choice choice.unreported
  where
    by_choice : Unreported → Outcome
    by_choice unreported.Ends = outcome_of run choice placed
    by_choice unreported.Sinks = unwrap_or (outcome_by_sinks run choice records placed) (outcome_of run choice placed)

-- ---- Lists ----

abbrev pub go_on : Progress → ℕ → Outcome → (Progress → Listed) → Listed
go_on progress line (GoesOn steps) others = others (after_steps progress line steps)
go_on progress line (Ends steps end why) others = ended (after_steps progress line steps) end line why

-- the list of a rank that got so far, by its further entries
abbrev pub list_from : Run → Choice → Progress → List Placed → Listed
list_from run choice progress [] = ended progress Open 0 None
list_from run choice progress (placed ∷ others) =
    go_on progress placed.line (outcome_in run choice progress.records placed) (λ progress. list_from run choice progress others)

-- after the preface, whose line is 0
abbrev pub progress_first : Run → ℕ → Progress
progress_first run rank = record { records = plain 0 (preface_of run rank); active = []; late = [] }

abbrev pub whole_list : Run → Choice → ℕ → Listed
whole_list run choice rank = list_from run choice (progress_first run rank) (entries_at run rank)

-- ---- A list that is too long ----

abbrev pub line_of : Option Written → ℕ
line_of None = 0
line_of (Some it) = it.line

-- it ends where its last record would be another than its end
abbrev pub cut : Listed → Listed
cut it =
    if nat_lt (length it.records) most_records then it
    else record {
      records = take (most_records - 1) it.records;
      end = Open;
      line = line_of (slice_get it.records (most_records - 1));
      why = Some TooLong;
      active = it.active;
    }

-- ---- The recording ----

abbrev pub without_journal : Bool → Listed → Listed
without_journal true it = record it { why = Some NoJournal }
without_journal false it = it

abbrev pub list_of : Run → Choice → ℕ → Listed
list_of run choice rank = without_journal (is_none (journal_at run rank)) (cut (whole_list run choice rank))

-- the calls of a list, its end the last
abbrev pub calls_of : Listed → List Call
calls_of it = map (λ one. one.call) it.records ++ it.end ∷ []

pub record Recording : Type 0 where
  -- the group of each communicator, the world's first
  pub groups : List (List ℕ)
  pub lists : List Listed

unfoldable pub recording_of : Run → Choice → Recording
recording_of run choice = record { groups = groups_of run; lists = map (list_of run choice) (ranks_of run) }
