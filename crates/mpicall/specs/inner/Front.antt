-- Digits at the front of some bytes, as they are read. Nobody has to believe this: it says how far a reader is.
use Rattle.std.specs.Prelude.{ℕ, ◌≡◌, ◌≤◌, ◌<◌, true, List, length, take, slice_index}
use Rattle.std.specs.Str.{all_ascii_digits}
use Rattle.mpicall.specs.Number.{value_of}
use Rattle.mpicall.specs.Spelling.{space}

-- the first bytes are digits, so many, and write the number, which is within the limit
pub record AreDigits (limit : ℕ) (bytes : List ℕ) (count number : ℕ) : Type 0 where
  pub few : count ≤ length bytes
  pub digits : all_ascii_digits (take count bytes) ≡ true
  pub value : value_of (take count bytes) ≡ number
  pub within : number ≤ limit

-- and a space follows them, or nothing
pub record IsFront (limit : ℕ) (bytes : List ℕ) (count number : ℕ) : Type 0 where
  pub are : AreDigits limit bytes count number
  pub ends : count < length bytes → slice_index bytes count ≡ space
