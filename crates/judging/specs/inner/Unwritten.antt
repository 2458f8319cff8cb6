-- Faults before anything is written, and what the offers of records keep.
use Rattle.std.specs.Prelude.{◌≡◌, ⊤, length}
use Rattle.moves.specs.Analysed.{Analysed}
use Rattle.judging.specs.declared.judge.JudgeFault.{JudgeFault}
use Rattle.judging.specs.declared.judge.JudgeFault.TheVariants.{Read, Write}

abbrev pub IsUnwritten : JudgeFault → Type 0
IsUnwritten Write = ⊥
IsUnwritten fault = ⊤

-- a fault of a recording, whose journals were read
abbrev pub IsOfRecording : JudgeFault → Type 0
IsOfRecording (Read fault) = ⊥
IsOfRecording Write = ⊥
IsOfRecording fault = ⊤

-- the same ranks and groups, by the same reading
pub record KeepsRanks (old new : Analysed) : Type 0 where
  pub reading : new.reading ≡ old.reading
  pub groups : new.groups ≡ old.groups
  pub ranks : length new.recording ≡ length old.recording
