-- Lists of numbers, and counts.
use Rattle.std.specs.Prelude.{ℕ, zero, suc, ◌+◌, ◌-◌, ◌^◌, min, List, [], get_or}

-- the sum of what a function gives of the numbers below one
abbrev pub sum_to : ℕ → (ℕ → ℕ) → ℕ
sum_to zero f = 0
sum_to (suc n) f = sum_to n f + f n

-- the list of that number, and the empty list where there is none
abbrev pub list_at : {X : Type 0} → List (List X) → ℕ → List X
list_at lists l = get_or lists l []

-- a count that stays at the greatest `u64`
abbrev pub counted : ℕ → ℕ → ℕ
counted work more = min (work + more) (2 ^ 64 - 1)
