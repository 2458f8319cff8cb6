-- What proofs and private contracts cite, in addition to the definitions of `specs/Outputs.antt`.
use Rattle.std.specs.Prelude.{◌≡◌, ℕ, Option, List}
use Rattle.cli.specs.declared.fault.Fault.{Fault}
use Rattle.cli.specs.declared.fault.Fault.TheVariants.{Write}
use Rattle.cli.specs.Outputs.{FailsToWrite}

-- an output of which is known what was written to it, and how many writes have failed
module _ {O : Type 0} (written : O → Option (List ℕ)) (failures : O → ℕ) where
  -- only a write that failed leaves the output other than it was
  abbrev pub LeavesAtFault : O → O → Fault → Type 0
  LeavesAtFault old new Write = (text : List ℕ) × FailsToWrite written failures old new text
  LeavesAtFault old new fault = new ≡ old
