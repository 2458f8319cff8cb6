-- What the look for an entry at which a cut isn't clean goes through.
use Rattle.mpicall.specs.Names.{Comm, Wave, Place}
use Rattle.std.specs.Prelude.{◌≡◌, ◌<◌, ◌==◌, ℕ, Bool, true, false, Option, Some, None, unwrap_or, List, map, slice_get, ⊤}
use Rattle.mpigroup.specs.Groups.{Groups}
use Rattle.callstore.specs.Recordings.{Lists}
use Rattle.callstore.specs.Waves.{is_full}
use Rattle.moves.specs.Analysed.{Analysed}
use Rattle.closing.specs.Entries.{is_window}
use Rattle.closing.specs.Numbers.{groups_of}
use Rattle.closing.specs.Recording.{calls_of, recording_of}
use Rattle.closing.specs.Recordings.{RecordingView}
use Rattle.judging.specs.UnderWay.{EntryAt, unclean_at}
use Rattle.judging.specs.inner.Tables.{HasAllLines}
use Rattle.judging.specs.inner.Turns.{IsDone}
use Rattle.judging.specs.declared.judge.JudgeFault.{JudgeFault}
use Rattle.judging.specs.declared.judge.JudgeFault.TheVariants.{Unclean, Memory}
use Rattle.judging.specs.declared.under_way.EntryAt.{EntryAt as EntryCode}
use Rattle.judging.specs.declared.under_way.FullWaves.{FullWaves}

-- ---- Waves that are known to be full ----

abbrev pub count_in : FullWaves → Comm → ℕ
count_in waves comm = unwrap_or (slice_get waves.counts.items comm) 0

-- each of so many waves of a communicator is full
abbrev pub AreFullBelow : Groups → Lists → FullWaves → Type 0
AreFullBelow groups recording waves =
    (comm : Comm) (wave : Wave) → wave < count_in waves comm → is_full groups recording comm wave ≡ true

-- ---- Lists that are gathered ----

-- an analyser has the calls of the recording, whose lists are made, and a table has their lines
pub record IsGathered (it : RecordingView) (rows : List (List ℕ)) (analysed : Analysed) : Type 0 where
  pub done : IsDone it
  pub groups : analysed.groups ≡ groups_of it.run
  pub calls : analysed.recording ≡ map calls_of (recording_of it.run it.choice).lists
  pub lines : HasAllLines it rows

-- so it is where the journals of all ranks are cut
abbrev pub IsGatheredIfCut : RecordingView → List (List ℕ) → Analysed → Type 0
IsGatheredIfCut it rows analysed = is_window it.run ≡ true → IsGathered it rows analysed

-- the first of some receives is at a place
abbrev pub is_at : Option ℕ → Place → Bool
is_at (Some other) place = other == place
is_at None place = false

abbrev pub entry_said : EntryCode → EntryAt
entry_said it = record { rank = it.rank; line = it.line }

-- the fault is that something is under way at the cut, or that memory ran out
abbrev pub IsOfCut : RecordingView → List (List ℕ) → Analysed → JudgeFault → Type 0
IsOfCut it rows analysed (Unclean entry) = IsGatheredIfCut it rows analysed → unclean_at it.run it.choice ≡ Some (entry_said entry)
IsOfCut it rows analysed Memory = ⊤
IsOfCut it rows analysed fault = ⊥
