-- The front of a head, which decides what the head says.
use Rattle.std.specs.Prelude.{◌≡◌, ℕ, Option, IfSome, List, take}
use Rattle.std.specs.Io.KnownBytes.{Consumes}
use Rattle.mpicall.specs.Device.{one_more}
use Rattle.mpigroup.specs.declared.limits.TheConstants.{DECIDING_BYTES}
use Rattle.cli.specs.declared.fault.Fault.{Fault}
use Rattle.cli.specs.declared.fault.Fault.TheVariants.{ReadHead, Memory}

-- so many bytes of a head decide it
abbrev pub deciding_bytes : ℕ
deciding_bytes = DECIDING_BYTES

-- the front of the bytes that an input gives, where it knows them
abbrev pub IsFrontOf : Option (List ℕ) → List ℕ → Type 0
IsFrontOf known front = IfSome known (λ bytes. front ≡ take deciding_bytes bytes)

-- a read failed after some of the bytes, which the input's count shows, or memory ran out and no read failed
module _ {I : Type 0} (left : I → Option (List ℕ)) (failures : I → ℕ) (old new : I) where
  abbrev pub IsFrontFault : Fault → Type 0
  IsFrontFault ReadHead = ((came : List ℕ) × Consumes (left old) (left new) came) × (failures new ≡ one_more (failures old))
  IsFrontFault Memory = failures new ≡ failures old
  IsFrontFault fault = ⊥
