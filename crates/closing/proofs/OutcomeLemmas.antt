-- What is kept of requests, as places for more of them are made.
use Rattle.std.proofs.Common.{◌≡◌, refl, ℕ, zero, suc, List, [], ◌∷◌, ◌++◌}
use Rattle.std.specs.Prelude.{slice_get}
use Rattle.closing.specs.inner.Outcomes.{or_before}
use Rattle.closing.specs.declared.outcomes.Outcome.{Outcome}
use Rattle.closing.specs.declared.outcomes.Outcome.TheVariants.{Unknown}

-- a place of which nothing is known says what no place does
pub unknown_same : (xs : List Outcome) (n : ℕ) → or_before Unknown (slice_get (xs ++ Unknown ∷ []) n) ≡ or_before Unknown (slice_get xs n)
unknown_same [] zero = refl
unknown_same [] (suc n) = refl
unknown_same (x ∷ xs) zero = refl
unknown_same (x ∷ xs) (suc n) = unknown_same xs n
