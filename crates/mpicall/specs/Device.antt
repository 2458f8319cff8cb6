-- Inputs and outputs: what their calls do to the bytes that they say, and to their counts of failures.
use Rattle.std.specs.Prelude.{◌≡◌, ℕ, ◌+◌, ◌-◌, ◌^◌, ◌<◌, min, Bool, if◌then◌else◌, Option, Result, IfOk, MatchResult, List, length, take}
use Rattle.std.specs.Io.KnownBytes.{Appends}

-- a count of failures with one more; like every count here it stays at the greatest `u64`
abbrev pub one_more : ℕ → ℕ
one_more count = min (count + 1) (2 ^ 64 - 1)

-- the count after a call that failed, or didn't
abbrev pub count_if : Bool → ℕ → ℕ
count_if failed count = if failed then one_more count else count

-- an error adds one to the count, an answer leaves it
abbrev pub CountsFailure : {T E : Type 0} → ℕ → ℕ → Result T E → Type 0
CountsFailure old new answer = MatchResult answer (λ _. new ≡ old) (λ _. new ≡ one_more old)

-- some of the bytes are taken, where there are any
abbrev pub MakesProgress : {E : Type 0} → Result ℕ E → List ℕ → Type 0
MakesProgress answer bytes = IfOk answer (λ n. 0 < length bytes → 0 < n)

-- known bytes grow by a prefix of `bytes`
abbrev pub AppendsBeginning : Option (List ℕ) → Option (List ℕ) → List ℕ → Type 0
AppendsBeginning old new bytes = (n : ℕ) × Appends old new (take n bytes)
