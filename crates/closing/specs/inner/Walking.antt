-- The list of a rank entry by entry: how far it came after some of them.
use Rattle.std.specs.Prelude.{ℕ, None, List, [], ◌∷◌}
use Rattle.mpicall.specs.declared.call.Call.TheVariants.{Open}
use Rattle.closing.specs.Entries.{Run, Placed}
use Rattle.closing.specs.Steps.{Progress, after_steps}
use Rattle.closing.specs.Entry.{Choice}
use Rattle.closing.specs.Recording.{Listed, ended, outcome_in}
use Rattle.closing.specs.Sinks.{Outcome, GoesOn, Ends}

-- the list came so far, or has ended
pub data Course : Type 0 where
  Comes : Progress → Course
  Stops : Listed → Course

abbrev pub course_with : Progress → ℕ → Outcome → Course
course_with progress line (GoesOn steps) = Comes (after_steps progress line steps)
course_with progress line (Ends steps end why) = Stops (ended (after_steps progress line steps) end line why)

-- after a next entry
abbrev pub course_after : Run → Choice → Course → Placed → Course
course_after run choice (Comes progress) placed = course_with progress placed.line (outcome_in run choice progress.records placed)
course_after run choice (Stops list) placed = Stops list

abbrev pub course_from : Run → Choice → Course → List Placed → Course
course_from run choice course [] = course
course_from run choice course (placed ∷ others) = course_from run choice (course_after run choice course placed) others

-- the list where no entry is left
abbrev pub list_in : Course → Listed
list_in (Comes progress) = ended progress Open 0 None
list_in (Stops list) = list
