-- Writing a recording's files.
use Rattle.std.specs.Prelude.{◌≡◌, ◌<◌, ℕ, Option, List, ◌++◌, length, ⊤}
use Rattle.std.specs.Io.KnownBytes.{Appends}
use Rattle.closing.specs.Recordings.{RecordingView, IsPartMade, count_at, list_at}
use Rattle.closing.specs.Texts.{trace_text}
use Rattle.lawful.specs.Laws.{IsRead}
use Rattle.judging.specs.declared.close.CloseFault.{CloseFault}
use Rattle.judging.specs.declared.close.CloseFault.TheVariants as fault
use Rattle.judging.specs.declared.close.FileName.{FileName}
use Rattle.judging.specs.declared.close.FileName.TheVariants.{Trace}

-- the journals were read
abbrev pub IsAfterReading : CloseFault → Type 0
IsAfterReading (fault.Read it) = ⊥
IsAfterReading it = ⊤

-- and the folder made
abbrev pub IsOfFiles : CloseFault → Type 0
IsOfFiles (fault.Read it) = ⊥
IsOfFiles fault.Make = ⊥
IsOfFiles it = ⊤

-- a text was put after a page: what of both isn't written is on the page
pub record IsPut (old new : Option (List ℕ)) (page next text : List ℕ) : Type 0 where
  pub written : List ℕ
  pub appends : Appends old new written
  pub same : page ++ text ≡ written ++ next

-- nothing of the rank's list was handed on
pub record IsUnbegun (rank : ℕ) (it : RecordingView) : Type 0 where
  pub read : IsRead it.run
  pub within : rank < length it.run
  pub none : count_at it.handed rank ≡ 0
  pub part : IsPartMade it rank

-- the lists of the first ranks are in their files
abbrev pub HasTraces : Option (List ℕ) → (FileName → Option (List ℕ)) → ℕ → RecordingView → Type 0
HasTraces empty text ranks it =
    (rank : ℕ) → rank < ranks → Appends empty (text (Trace rank)) (trace_text (list_at it rank))
