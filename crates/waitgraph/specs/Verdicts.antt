-- The verdict over a run, by this project's reading of MPI: it can hang exactly if some rank is held, whatever calls
-- come in the place of an open (MPI 4.0, section 11.2.2: each process must call MPI_Finalize). Where no list was left
-- open, a rank is held if it doesn't come to stand at its end.
use Rattle.mpicall.specs.Names.{Rank}
use Rattle.moves.specs.declared.reading.Reading.{Reading}
use Rattle.std.specs.Prelude.{◌≡◌, ◌↔◌, ℕ, ◌<◌, Bool, true, false, List, [], ◌∷◌, length}
use Rattle.mpigroup.specs.Groups.{Groups}
use Rattle.callstore.specs.Recordings.{Lists, IsClosed}
use Rattle.waitgraph.specs.Stuck.{is_stuck}
use Rattle.waitgraph.specs.Held.{IsHeld, is_some_left_open}
use Rattle.waitgraph.specs.declared.verdict.Verdict.{Verdict}
use Rattle.waitgraph.specs.declared.verdict.Verdict.TheVariants.{Free, Hang, Unfinished}

-- the verdict is hang exactly if some rank is held; else it is unfinished if some list was left open, and free if none was
pub record IsVerdictOf (reading : Reading) (groups : Groups) (recording : Lists) (verdict : Verdict) : Type 0 where
  pub hang : (verdict ≡ Hang) ↔ ((rank : Rank) × IsHeld reading groups recording rank)
  pub unfinished : verdict ≡ Unfinished → is_some_left_open recording ≡ true
  pub free : verdict ≡ Free → is_some_left_open recording ≡ false

-- Law: every closed recording has one verdict.
abbrev pub EachRecordingHasOneVerdict : Type 0
EachRecordingHasOneVerdict =
    (reading : Reading) (groups : Groups) (recording : Lists) → IsClosed recording →
    (verdict : Verdict) × IsVerdictOf reading groups recording verdict
    × ((other : Verdict) → IsVerdictOf reading groups recording other → other ≡ verdict)

-- the same by the held ranks and whether some list was left open
abbrev pub verdict_by : List ℕ → Bool → Verdict
verdict_by [] false = Free
verdict_by [] true = Unfinished
verdict_by (rank ∷ ranks) open_lists = Hang

-- some rank is stuck
pub record SomeRankIsStuck (reading : Reading) (groups : Groups) (recording : Lists) : Type 0 where
  pub rank : Rank
  pub is_rank : rank < length recording
  pub stays : is_stuck reading groups recording rank ≡ true

-- Law: over every closed recording of which no list was left open, a rank is held exactly if it is stuck.
abbrev pub WithoutOpenTheStuckAreHeld : Type 0
WithoutOpenTheStuckAreHeld =
    (reading : Reading) (groups : Groups) (recording : Lists) → IsClosed recording → is_some_left_open recording ≡ false →
    (rank : ℕ) → rank < length recording → (is_stuck reading groups recording rank ≡ true) ↔ IsHeld reading groups recording rank

-- Law: so the verdict is then hang exactly where some rank is stuck.
abbrev pub HangTellsOfAStuckRank : Type 0
HangTellsOfAStuckRank =
    (reading : Reading) (groups : Groups) (recording : Lists) (verdict : Verdict) → IsClosed recording → is_some_left_open recording ≡ false →
    IsVerdictOf reading groups recording verdict → (verdict ≡ Hang) ↔ SomeRankIsStuck reading groups recording
