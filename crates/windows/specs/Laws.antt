-- Laws of clean cuts: the two windows decide for the whole recording where its ranks stand, and so whether it can hang.
use Rattle.mpicall.specs.Names.{Rank}
use Rattle.moves.specs.declared.reading.Reading.{Reading}
use Rattle.std.specs.Prelude.{◌≡◌, ◌↔◌, ◌≤◌, ◌<◌, true, List, length, map, slice_index}
use Rattle.mpigroup.specs.Groups.{Groups}
use Rattle.callstore.specs.Recordings.{Lists, IsClosed}
use Rattle.pairing.specs.Faults.{is_member, IsLawful}
use Rattle.moves.specs.Stands.{stands_of}
use Rattle.waitgraph.specs.Stuck.{is_stuck, unmet_of}
use Rattle.waitgraph.specs.Held.{IsHeld}
use Rattle.waitgraph.specs.Causes.{CauseView, AreCauses}
use Rattle.waitgraph.specs.Verdicts.{IsVerdictOf}
use Rattle.waitgraph.specs.declared.verdict.Verdict.{Verdict}
use Rattle.waitgraph.specs.declared.verdict.Verdict.TheVariants.{Free, Hang}
use Rattle.windows.specs.Cuts.{Cut, first_window, second_window, front_of, place_in_whole, need_in_whole}
use Rattle.windows.specs.Clean.{IsRightRecording, is_clean, IsEven}

-- the second window decides for the whole recording: each rank stands after the starts in front of it, in the whole
-- recording at the place that is after the cut as far, lacks the same but for that shift, and is held in both or in
-- neither; so both have the same verdict, for the same causes
pub record SecondDecides (reading : Reading) (groups : Groups) (whole : Lists) (cut : Cut) : Type 0 where
  pub in_second : (rank : Rank) → length (front_of whole cut rank) ≤ slice_index (stands_of reading groups (second_window whole cut)) rank
  pub stands : (rank : Rank) → slice_index (stands_of reading groups whole) rank ≡ place_in_whole whole cut rank (slice_index (stands_of reading groups (second_window whole cut)) rank)
  pub unmet : (rank : Rank) → unmet_of reading groups whole rank ≡ map (need_in_whole whole cut) (unmet_of reading groups (second_window whole cut) rank)
  pub held : (rank : Rank) → IsHeld reading groups whole rank ↔ IsHeld reading groups (second_window whole cut) rank
  pub verdict : (verdict : Verdict) → IsVerdictOf reading groups whole verdict ↔ IsVerdictOf reading groups (second_window whole cut) verdict
  pub causes : (causes : List CauseView) → AreCauses reading groups whole causes ↔ AreCauses reading groups (second_window whole cut) causes

-- Law: after a first window that is free the second one decides for the whole.
abbrev pub AfterAFreeWindowTheSecondDecides : Type 0
AfterAFreeWindowTheSecondDecides =
    (reading : Reading) (groups : Groups) (whole : Lists) (cut : Cut) → IsRightRecording groups whole → is_clean groups whole cut ≡ true →
    IsVerdictOf reading groups (first_window whole cut) Free → SecondDecides reading groups whole cut

-- the rank is held in the whole recording, where it stands and for what it lacks in the first window
pub record IsHeldAlike (reading : Reading) (groups : Groups) (whole : Lists) (cut : Cut) (rank : Rank) : Type 0 where
  pub held : IsHeld reading groups whole rank
  pub stands : slice_index (stands_of reading groups whole) rank ≡ slice_index (stands_of reading groups (first_window whole cut)) rank
  pub unmet : unmet_of reading groups whole rank ≡ unmet_of reading groups (first_window whole cut) rank

-- Law: a rank that is stuck in the first window is held in the whole.
abbrev pub StuckInTheFirstIsHeldInTheWhole : Type 0
StuckInTheFirstIsHeldInTheWhole =
    (reading : Reading) (groups : Groups) (whole : Lists) (cut : Cut) → IsRightRecording groups whole → is_clean groups whole cut ≡ true →
    (rank : Rank) → rank < length whole → is_stuck reading groups (first_window whole cut) rank ≡ true →
    IsHeldAlike reading groups whole cut rank

-- Law: so where the first window can hang, the whole can.
abbrev pub AHangInTheFirstIsOne : Type 0
AHangInTheFirstIsOne =
    (reading : Reading) (groups : Groups) (whole : Lists) (cut : Cut) (verdict : Verdict) → IsRightRecording groups whole → is_clean groups whole cut ≡ true →
    IsVerdictOf reading groups (first_window whole cut) Hang → IsVerdictOf reading groups whole verdict → verdict ≡ Hang

-- Law: both windows are such recordings again, so each can be cut in its turn.
abbrev pub WindowsAreRight : Type 0
WindowsAreRight =
    (groups : Groups) (whole : Lists) (cut : Cut) → IsRightRecording groups whole → is_clean groups whole cut ≡ true →
    IsRightRecording groups (first_window whole cut) × IsRightRecording groups (second_window whole cut)

-- Law: a closed recording of ranks of the world in which no call has a fault is such a recording.
abbrev pub LawfulRecordingsAreRight : Type 0
LawfulRecordingsAreRight =
    (groups : Groups) (recording : Lists) → IsLawful groups recording → IsClosed recording →
    ((rank : Rank) → rank < length recording → is_member groups rank 0 ≡ true) → IsRightRecording groups recording

-- Law: a cut of such a recording is clean exactly if it is even.
abbrev pub CleanIsEven : Type 0
CleanIsEven =
    (groups : Groups) (whole : Lists) (cut : Cut) → IsRightRecording groups whole →
    (is_clean groups whole cut ≡ true) ↔ IsEven groups whole cut
