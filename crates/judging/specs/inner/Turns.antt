-- How far an analyser and the lines of calls have come with the lists of a recording.
use Rattle.std.specs.Prelude.{◌≡◌, ◌<◌, ◌≤◌, ℕ, ◌-◌, ◌^◌, None, List, [], ◌∷◌, ◌++◌, length, map, take, replicate, slice_set, ⊤}
use Rattle.mpicall.specs.declared.call.Call.{Call}
use Rattle.mpigroup.specs.Groups.{Groups}
use Rattle.callstore.specs.Recordings.{Lists, calls_of}
use Rattle.pairing.specs.Faults.{fault_of}
use Rattle.moves.specs.Analysed.{Analysed}
use Rattle.closing.specs.Fit.{IsFit}
use Rattle.closing.specs.Numbers.{groups_of}
use Rattle.closing.specs.Recording.{recording_of, calls_of as calls_in}
use Rattle.closing.specs.Recordings.{RecordingView, IsPartMade, calls_at, count_at}
use Rattle.lawful.specs.Laws.{IsRead}

-- a recording with more calls at the end of a rank's list
abbrev pub appended_all : Lists → ℕ → List Call → Lists
appended_all recording rank calls = slice_set recording rank (calls_of recording rank ++ calls)

-- none of these calls of a rank has a fault, each after those before it
abbrev pub HaveNoFault : Groups → ℕ → List Call → List Call → Type 0
HaveNoFault groups rank before [] = ⊤
HaveNoFault groups rank before (call ∷ calls) =
    (fault_of groups rank before call ≡ None) × HaveNoFault groups rank (before ++ call ∷ []) calls

-- the journals were read, and the analyser has what was handed on of the lists
pub record IsWithIt (it : RecordingView) (analysed : Analysed) : Type 0 where
  pub read : IsRead it.run
  pub ranks : length analysed.recording ≡ length it.run
  pub groups : analysed.groups ≡ groups_of it.run
  pub parts : (rank : ℕ) → rank < length it.run → IsPartMade it rank
  pub calls : (rank : ℕ) → rank < length it.run → calls_of analysed.recording rank ≡ take (count_at it.handed rank) (calls_at it rank)

-- all calls that were made of a rank were handed on
abbrev pub IsHandedOn : RecordingView → ℕ → Type 0
IsHandedOn it rank = count_at it.handed rank ≡ count_at it.made rank

-- nothing is changed but how much of one rank's list was handed on
pub record HandsOn (rank : ℕ) (old new : RecordingView) : Type 0 where
  pub run : new.run ≡ old.run
  pub choice : new.choice ≡ old.choice
  pub made : new.made ≡ old.made
  pub left : new.left ≡ old.left
  pub handed : IsHandedOn new rank
  pub others : (other : ℕ) → (other ≡ rank → ⊥) → count_at new.handed other ≡ count_at old.handed other

-- the run and the choice are the same, and nothing was done with other ranks' lists
pub record StaysElse (rank : ℕ) (old new : RecordingView) : Type 0 where
  pub run : new.run ≡ old.run
  pub choice : new.choice ≡ old.choice
  pub handed : (other : ℕ) → (other ≡ rank → ⊥) → count_at new.handed other ≡ count_at old.handed other
  pub made : (other : ℕ) → (other ≡ rank → ⊥) → count_at new.made other ≡ count_at old.made other
  pub left : (other : ℕ) → (other ≡ rank → ⊥) → count_at new.left other ≡ count_at old.left other

-- a turn of a rank: what is made of its list is handed on, and less of its journal is left, if any was
pub record HasTurn (rank : ℕ) (old new : RecordingView) : Type 0 where
  pub else_stays : StaysElse rank old new
  pub handed : IsHandedOn new rank
  pub less : count_at new.left rank ≤ count_at old.left rank - 1

-- so it is with the first ranks; of the others nothing was done
pub record HaveTurns (ranks : ℕ) (old new : RecordingView) : Type 0 where
  pub run : new.run ≡ old.run
  pub choice : new.choice ≡ old.choice
  pub handed : (rank : ℕ) → rank < ranks → IsHandedOn new rank
  pub less : (rank : ℕ) → rank < ranks → count_at new.left rank ≤ count_at old.left rank - 1
  pub few : (rank : ℕ) → rank < ranks → count_at old.left rank < 2 ^ 32
  pub others : (rank : ℕ) → ranks ≤ rank → count_at new.left rank ≡ count_at old.left rank

-- no list of it is made
pub record IsFresh (it : RecordingView) : Type 0 where
  pub handed : it.handed ≡ replicate (length it.run) 0
  pub parts : IsFit it.run it.choice → (rank : ℕ) → rank < length it.run → IsPartMade it rank

-- each list is made
pub record IsDone (it : RecordingView) : Type 0 where
  pub read : IsRead it.run
  pub over : (rank : ℕ) → rank < length it.run → count_at it.left rank ≡ 0

-- and the analyser has all of them: its recording is that of the journals
pub record HasAll (old new : RecordingView) (analysed : Analysed) : Type 0 where
  pub run : new.run ≡ old.run
  pub choice : new.choice ≡ old.choice
  pub done : IsDone new
  pub groups : analysed.groups ≡ groups_of new.run
  pub recording : analysed.recording ≡ map calls_in (recording_of new.run new.choice).lists
