-- Numbers that ascend.
use Rattle.std.specs.Prelude.{ℕ, Bool, true, nat_lt, ◌&&◌, List, [], ◌∷◌}

-- each number is above the one before it, and the first above the least
abbrev pub ascend_from : ℕ → List ℕ → Bool
ascend_from least [] = true
ascend_from least (number ∷ numbers) = nat_lt least number && ascend_from number numbers
