-- Recordings that are cut again and again: after the first cut the second window is cut, and so on. What the windows tell
-- one after another is what the whole recording tells.
use Rattle.mpicall.specs.Names.{Rank, Place}
use Rattle.moves.specs.declared.reading.Reading.{Reading}
use Rattle.std.specs.Prelude.{◌≡◌, ◌↔◌, ◌<◌, Bool, true, ◌&&◌, List, [], ◌∷◌, length, map, slice_index}
use Rattle.mpigroup.specs.Groups.{Groups}
use Rattle.callstore.specs.Recordings.{Lists}
use Rattle.moves.specs.declared.need.Need.{Need}
use Rattle.moves.specs.Stands.{stands_of}
use Rattle.waitgraph.specs.Stuck.{is_stuck, unmet_of}
use Rattle.waitgraph.specs.Held.{IsHeld}
use Rattle.waitgraph.specs.Causes.{CauseView, AreCauses}
use Rattle.waitgraph.specs.Verdicts.{IsVerdictOf}
use Rattle.waitgraph.specs.declared.verdict.Verdict.{Verdict}
use Rattle.waitgraph.specs.declared.verdict.Verdict.TheVariants.{Free}
use Rattle.windows.specs.Cuts.{Cut, first_window, second_window, place_in_whole, need_in_whole}
use Rattle.windows.specs.Clean.{IsRightRecording, is_clean}

-- what is left after the last cut
abbrev pub left_of : Lists → List Cut → Lists
left_of whole [] = whole
left_of whole (cut ∷ cuts) = left_of (second_window whole cut) cuts

-- each of the cuts is clean
abbrev pub are_clean : Groups → Lists → List Cut → Bool
are_clean groups whole [] = true
are_clean groups whole (cut ∷ cuts) = is_clean groups whole cut && are_clean groups (second_window whole cut) cuts

-- each of the windows before the last is free
abbrev pub AreFree : Reading → Groups → Lists → List Cut → Type 0
AreFree reading groups whole [] = Unit {0}
AreFree reading groups whole (cut ∷ cuts) = IsVerdictOf reading groups (first_window whole cut) Free × AreFree reading groups (second_window whole cut) cuts

-- the place in the whole recording of a place in what is left, and the need of a need
abbrev pub place_through : Lists → List Cut → Rank → Place → Place
place_through whole [] rank place = place
place_through whole (cut ∷ cuts) rank place = place_in_whole whole cut rank (place_through (second_window whole cut) cuts rank place)

abbrev pub need_through : Lists → List Cut → Need → Need
need_through whole [] need = need
need_through whole (cut ∷ cuts) need = need_in_whole whole cut (need_through (second_window whole cut) cuts need)

-- what is left decides for the whole recording
pub record TheRestDecides (reading : Reading) (groups : Groups) (whole : Lists) (cuts : List Cut) : Type 0 where
  pub stands : (rank : Rank) → slice_index (stands_of reading groups whole) rank ≡ place_through whole cuts rank (slice_index (stands_of reading groups (left_of whole cuts)) rank)
  pub unmet : (rank : Rank) → unmet_of reading groups whole rank ≡ map (need_through whole cuts) (unmet_of reading groups (left_of whole cuts) rank)
  pub held : (rank : Rank) → IsHeld reading groups whole rank ↔ IsHeld reading groups (left_of whole cuts) rank
  pub verdict : (verdict : Verdict) → IsVerdictOf reading groups whole verdict ↔ IsVerdictOf reading groups (left_of whole cuts) verdict
  pub causes : (causes : List CauseView) → AreCauses reading groups whole causes ↔ AreCauses reading groups (left_of whole cuts) causes

-- Law: where all windows before it are free, the last one decides for the whole.
abbrev pub AfterFreeWindowsTheRestDecides : Type 0
AfterFreeWindowsTheRestDecides =
    (reading : Reading) (groups : Groups) (whole : Lists) (cuts : List Cut) → IsRightRecording groups whole → are_clean groups whole cuts ≡ true →
    AreFree reading groups whole cuts → TheRestDecides reading groups whole cuts

-- the rank is held in the whole recording, at the place and for the needs that it has in the first window of what is left
pub record IsHeldThrough (reading : Reading) (groups : Groups) (whole : Lists) (cuts : List Cut) (cut : Cut) (rank : Rank) : Type 0 where
  pub held : IsHeld reading groups whole rank
  pub stands : slice_index (stands_of reading groups whole) rank ≡ place_through whole cuts rank (slice_index (stands_of reading groups (first_window (left_of whole cuts) cut)) rank)
  pub unmet : unmet_of reading groups whole rank ≡ map (need_through whole cuts) (unmet_of reading groups (first_window (left_of whole cuts) cut) rank)

-- Law: so a rank that is stuck in the first window that isn't free is held in the whole.
abbrev pub StuckInTheFirstThatIsNotFree : Type 0
StuckInTheFirstThatIsNotFree =
    (reading : Reading) (groups : Groups) (whole : Lists) (cuts : List Cut) (cut : Cut) (rank : Rank) → IsRightRecording groups whole →
    are_clean groups whole cuts ≡ true → AreFree reading groups whole cuts → is_clean groups (left_of whole cuts) cut ≡ true →
    rank < length whole → is_stuck reading groups (first_window (left_of whole cuts) cut) rank ≡ true →
    IsHeldThrough reading groups whole cuts cut rank
