-- What the devices of this crate show.
use Rattle.std.specs.Prelude.{◌≡◌, ℕ, ◌-◌, ◌==◌, min, Bool, false, MatchBool, if◌then◌else◌, Option, Some, None, is_none, Result, Ok, IfOk, IsErr, List, length}
use Rattle.mpicall.specs.Device.{count_if, CountsFailure}
use Rattle.mpicall.specs.declared.memory.MemoryInput.{MemoryInput}
use Rattle.mpicall.specs.declared.memory.MemoryOutput.{MemoryOutput}
use Rattle.mpicall.specs.declared.counted.Counted.{Counted}
use Rattle.mpicall.specs.declared.fails_at.FailsAt.{FailsAt}

-- the bytes that an input over memory still gives
abbrev pub bytes_left : MemoryInput → List ℕ
bytes_left input = input.left.now

-- the most bytes that it gives a read
abbrev pub most_a_read : MemoryInput → ℕ
most_a_read input = input.most

-- a read gives as many bytes as are left, as there is room for and as it gives at most
abbrev pub GivesPiece : {E : Type 0} → MemoryInput → Result ℕ E → List ℕ → Type 0
GivesPiece input answer into = answer ≡ Ok (min (min (length (bytes_left input)) (length into)) (most_a_read input))

-- the bytes that an output over memory has taken
abbrev pub bytes_written : MemoryOutput → List ℕ
bytes_written output = output.bytes.items

-- the most bytes that it takes a write
abbrev pub most_a_write : MemoryOutput → ℕ
most_a_write output = output.most

-- a write that memory isn't refused to takes as many bytes as there are and as it takes at most
abbrev pub TakesPiece : {E : Type 0} → MemoryOutput → Result ℕ E → List ℕ → Type 0
TakesPiece output answer from = IfOk answer (λ n. n ≡ min (length from) (most_a_write output))

-- how often an output over memory was refused memory
abbrev pub refusals : MemoryOutput → ℕ
refusals output = output.failures

-- how many failures were counted
abbrev pub counted_failures : {T : Type 0} → Counted T → ℕ
counted_failures device = device.failures

-- the device in which one call fails
abbrev pub device_within : {D : Type 0} → FailsAt D → D
device_within device = device.device

-- how many calls come before the one that fails; None once it has come
abbrev pub calls_before : {D : Type 0} → FailsAt D → Option ℕ
calls_before device = device.before

-- that call is the next one
abbrev pub is_stated : Option ℕ → Bool
is_stated None = false
is_stated (Some count) = count == 0

-- how many calls come before it, once one more has come
abbrev pub counted_down : Option ℕ → Option ℕ
counted_down None = None
counted_down (Some count) = if count == 0 then None else Some (count - 1)

-- the failures of such a device: those of the device within, and one more once the stated call has come
abbrev pub all_failures : {D : Type 0} → (D → ℕ) → FailsAt D → ℕ
all_failures failures device = count_if (is_none (calls_before device)) (failures (device_within device))

-- the stated call fails, and the device within stays as it was; each other call is one of the device within
abbrev pub FailsAsStated : {D T E : Type 0} → (D → ℕ) → FailsAt D → FailsAt D → Result T E → Type 0
FailsAsStated failures old new answer =
    MatchBool (is_stated (calls_before old))
    (IsErr answer × (device_within new ≡ device_within old))
    (CountsFailure (failures (device_within old)) (failures (device_within new)) answer)
