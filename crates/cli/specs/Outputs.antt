-- What the program leaves on an output.
use Rattle.std.specs.Prelude.{◌≡◌, ◌⊎◌, ℕ, Option, List, ◌++◌, codes}
use Rattle.std.specs.Fmt.{decimal}
use Rattle.std.specs.Io.KnownBytes.{Appends}
use Rattle.mpicall.specs.Device.{one_more, AppendsBeginning}

-- the report of a trace that is in its format, by the number of its calls
abbrev pub lint_report : ℕ → List ℕ
lint_report count = codes "lint ok " ++ decimal count ++ codes "\n"

-- what becomes of an output: it is left alone; a text is written, whole; or a prefix of one is, and a write
-- fails
pub data Written : Type 0 where
  Nothing : Written
  Whole : List ℕ → Written
  Broken : List ℕ → Written

-- an output of which is known what was written to it, and how many writes have failed
module _ {O : Type 0} (written : O → Option (List ℕ)) (failures : O → ℕ) where
  -- the text follows what was there, and no write failed
  abbrev pub Writes : O → O → List ℕ → Type 0
  Writes old new text = Appends (written old) (written new) text × (failures new ≡ failures old)

  -- a write failed, and a prefix of the text follows what was there
  abbrev pub FailsToWrite : O → O → List ℕ → Type 0
  FailsToWrite old new text = AppendsBeginning (written old) (written new) text × (failures new ≡ one_more (failures old))

  -- the text was written, whole unless a write failed
  abbrev pub Tries : O → O → List ℕ → Type 0
  Tries old new text = Writes old new text ⊎ FailsToWrite old new text

  -- this became of the output
  abbrev pub Becomes : O → O → Written → Type 0
  Becomes old new Nothing = new ≡ old
  Becomes old new (Whole text) = Writes old new text
  Becomes old new (Broken text) = FailsToWrite old new text
