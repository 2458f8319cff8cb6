-- A recording whose lists are made entry by entry, as callers see it.
use Rattle.std.specs.Prelude.{◌≡◌, ℕ, ◌-◌, ◌≤◌, Option, unwrap_or, option_map, List, length, take, drop, slice_get}
use Rattle.std.specs.Option.{option_map_or}
use Rattle.mpicall.specs.declared.call.Call.{Call}
use Rattle.closing.specs.Entries.{Run}
use Rattle.closing.specs.Entry.{Choice}
use Rattle.closing.specs.Recording.{Listed, list_of, calls_of}
use Rattle.closing.specs.declared.choice.Choice.{Choice as ChoiceMade}
use Rattle.closing.specs.declared.walk.Left.{Left}

abbrev pub choice_in : ChoiceMade → Choice
choice_in it = record { tests = it.tests; calls = it.calls; unreported = it.unreported }

-- of each rank: how many calls of its list were handed on, how many were made, and how many of these before the last
-- entry; and how many lines of its journal are left, with one for the end of its list, so that it is none where that has
-- ended
pub record RecordingView : Type 0 where
  pub run : Run
  pub choice : Choice
  pub handed : List ℕ
  pub made : List ℕ
  pub before : List ℕ
  pub left : List ℕ

-- that of a rank
abbrev pub count_at : List ℕ → ℕ → ℕ
count_at counts rank = unwrap_or (slice_get counts rank) 0

abbrev pub list_at : RecordingView → ℕ → Listed
list_at it rank = list_of it.run it.choice rank

abbrev pub calls_at : RecordingView → ℕ → List Call
calls_at it rank = calls_of (list_at it rank)

-- the calls that were made and not handed on
abbrev pub calls_waiting : RecordingView → ℕ → List Call
calls_waiting it rank =
    take (count_at it.made rank - count_at it.handed rank) (drop (count_at it.handed rank) (calls_at it rank))

-- a part of the list's calls was made, all where it has ended, and a part of these handed on
pub record IsPartMade (it : RecordingView) (rank : ℕ) : Type 0 where
  pub handed : count_at it.handed rank ≤ count_at it.made rank
  pub made : count_at it.made rank ≤ length (calls_at it rank)
  pub over : count_at it.left rank ≡ 0 → count_at it.made rank ≡ length (calls_at it rank)

-- the number of the line of which a list has the call at a place
abbrev pub line_at : Listed → ℕ → ℕ
line_at it place = option_map_or (λ one. one.line) (slice_get it.records place) it.line

-- at which line, and why, a list ends before its end
abbrev pub left_in : Listed → Option Left
left_in it = option_map (λ why. record { line = it.line; why = why }) it.why

-- of the other ranks nothing is changed
pub record ChangesOnly (rank : ℕ) (old new : RecordingView) : Type 0 where
  pub run : new.run ≡ old.run
  pub choice : new.choice ≡ old.choice
  pub handed : (other : ℕ) → (other ≡ rank → ⊥) → slice_get new.handed other ≡ slice_get old.handed other
  pub made : (other : ℕ) → (other ≡ rank → ⊥) → slice_get new.made other ≡ slice_get old.made other
  pub before : (other : ℕ) → (other ≡ rank → ⊥) → slice_get new.before other ≡ slice_get old.before other
  pub left : (other : ℕ) → (other ≡ rank → ⊥) → slice_get new.left other ≡ slice_get old.left other

-- there is as much of each rank
pub record HasRanks (it : RecordingView) : Type 0 where
  pub handed : length it.handed ≡ length it.run
  pub made : length it.made ≡ length it.run
  pub before : length it.before ≡ length it.run
  pub left : length it.left ≡ length it.run
