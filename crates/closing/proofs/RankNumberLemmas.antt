-- The keys of numbers, as places for more of them are made.
use Rattle.std.proofs.Common.{◌≡◌, ◌∙◌, ap, refl, ℕ, zero, suc, ◌==◌, if◌then◌else◌, Option, None, Some, List, [], ◌∷◌, ◌++◌, inl, inr, arith}
use Rattle.std.specs.Prelude.{slice_get}
use Rattle.std.proofs.lemmas.Bool.{cases_Bool, eqb-true}
use Rattle.closing.specs.Keys.{Alone, World}
use Rattle.closing.specs.RankComms.{under}
use Rattle.closing.specs.Table.{Table}
use Rattle.closing.specs.inner.Holds.{key_kept, key_or}
use Rattle.closing.specs.inner.Table.{HasKey, IsPlaceOf}
use Rattle.closing.specs.declared.rank_numbers.RankNumbers.{RankNumbers}

-- a place without a key says what no place does
pub place_more : (xs : List (Option ℕ)) (far : Option ℕ) (n : ℕ) → key_or (slice_get (xs ++ None ∷ []) n) far ≡ key_or (slice_get xs n) far
place_more [] far zero = refl
place_more [] far (suc n) = refl
place_more (x ∷ xs) far zero = refl
place_more (x ∷ xs) far (suc n) = place_more xs far n

-- before all lines a rank has the world and itself alone
pub first_numbers : (table : Table) (rank : ℕ) (none one two : RankNumbers) (alone : ℕ) → ((n : ℕ) → key_kept none n ≡ None) → ((n : ℕ) → key_kept one n ≡ (if 0 == n then Some 0 else key_kept none n))
    → ((n : ℕ) → key_kept two n ≡ (if 1 == n then Some alone else key_kept one n)) → HasKey table 0 World → HasKey table alone (Alone rank)
    → (n : ℕ) → IsPlaceOf table (key_kept two n) (under n ((0, World) ∷ (1, Alone rank) ∷ []))
first_numbers table rank none one two alone at_none at_one at_two world itself n =
    let kept : key_kept two n ≡ (if 1 == n then Some alone else (if 0 == n then Some 0 else None)) =
    at_two n ∙ ap (λ (o : Option ℕ). if 1 == n then Some alone else o) (at_one n ∙ ap (λ (o : Option ℕ). if 0 == n then Some 0 else o) (at_none n)) in
    elim (cases_Bool (0 == n)) [
      | inl is ↦ elim (cases_Bool (1 == n)) [
        | inl other ↦ absurd (omega (arith, eqb-true 0 n is, eqb-true 1 n other))
        | inr other ↦ rw (kept, is, other) world
      ]
      | inr is ↦ elim (cases_Bool (1 == n)) [
        | inl other ↦ rw (kept, is, other) itself
        | inr other ↦ rw (kept, is, other) tt
      ]
    ]
