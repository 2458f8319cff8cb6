-- Places of numbers in lists.
use Rattle.std.proofs.Common.{◌≡◌, ℕ, Bool, true≢false, ap, arith, List, length, Some, None, inl, inr, lt-ltb}
use Rattle.std.specs.List.{position, position_or_len}
use Rattle.std.specs.Option.{is_some}
use Rattle.std.proofs.lemmas.Bool.{cases_lt}
use Rattle.std.proofs.lemmas.List.Sums.{prefix_len-le-length}

some_is_not_none : (place : ℕ) → Some place ≡ None → ⊥
some_is_not_none place e = true≢false (ap (λ o. is_some o) e)

-- a list in which nothing passes has all its length before what does
pub place_of_none : (p : ℕ → Bool) (xs : List ℕ) → position p xs ≡ None → position_or_len p xs ≡ length xs
place_of_none p xs none = elim (cases_lt (position_or_len p xs) (length xs)) [
  | inl inside ↦ absurd (some_is_not_none (position_or_len p xs) (rw (lt-ltb (position_or_len p xs) (length xs) inside) at none))
  | inr past ↦ omega (arith, prefix_len-le-length {X = ℕ})
]
