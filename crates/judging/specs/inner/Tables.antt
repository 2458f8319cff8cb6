-- The lines of the calls that were handed on.
use Rattle.std.specs.Prelude.{◌≡◌, ◌<◌, ◌≤◌, ℕ, true, Some, unwrap_or, List, [], length, map, slice_get}
use Rattle.closing.specs.Recording.{recording_of}
use Rattle.closing.specs.Recordings.{RecordingView, count_at, line_at, list_at}
use Rattle.report.specs.declared.judged.LineAt.{LineAt}
use Rattle.judging.specs.NamedCalls.{line_in, lines_of}
use Rattle.judging.specs.declared.reported.Spot.{Spot}
use Rattle.judging.specs.declared.turns.LineTable.{LineTable}
use Rattle.judging.specs.declared.turns.Lists.{Lists}

abbrev pub rows_of : LineTable → List (List ℕ)
rows_of table = map (λ row. row.items) table.lines.items

abbrev pub row_at : List (List ℕ) → ℕ → List ℕ
row_at rows rank = unwrap_or (slice_get rows rank) []

-- each call that was handed on has the line of its entry, and what waits is of one entry
pub record HasRows (it : RecordingView) (rows : List (List ℕ)) : Type 0 where
  pub ranks : length rows ≡ length it.run
  pub before : (rank : ℕ) → rank < length it.run → count_at it.before rank ≤ count_at it.handed rank
  pub count : (rank : ℕ) → rank < length it.run → length (row_at rows rank) ≡ count_at it.handed rank
  pub lines : (rank place : ℕ) → rank < length it.run → place < count_at it.handed rank →
      slice_get (row_at rows rank) place ≡ Some (line_at (list_at it rank) place)

-- the lists' table is wanted, and has them
pub record HasTable (lists : Lists) : Type 0 where
  pub wanted : lists.table.is_wanted ≡ true
  pub rows : HasRows lists.recording (rows_of lists.table)

-- and each call of the lists
abbrev pub HasAllLines : RecordingView → List (List ℕ) → Type 0
HasAllLines it rows =
    (rank place : ℕ) → line_in rows rank place ≡ line_in (map lines_of (recording_of it.run it.choice).lists) rank place

-- the line of a call by the table
abbrev pub line_of_spot : List (List ℕ) → Spot → LineAt
line_of_spot rows spot = record { rank = spot.rank; place = spot.place; line = line_in rows spot.rank spot.place }
