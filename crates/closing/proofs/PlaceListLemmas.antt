-- Lists that grow at their end, and places in them.
use Rattle.std.proofs.Common.{◌≡◌, ◌∙◌, ◌⊎◌, refl, sym, ap, ℕ, zero, suc, ◌+◌, ◌<◌, List, [], ◌∷◌, ◌++◌, length, map, Some, inl, inr, arith}
use Rattle.std.specs.Prelude.{unwrap_or}
use Rattle.std.specs.List.{slice_get, range_with_len}
use Rattle.std.proofs.lemmas.List.FromFn.{map-range_with_len_more}
use Rattle.journals.specs.declared.field.Field.{Field}
use Rattle.journals.specs.declared.field.Field.TheVariants.{Natural, Signed, Null, Any, Undefined}
use Rattle.closing.specs.Called.{naturals_in}
use Rattle.closing.specs.inner.Table.{IsEachOnce}

module _ {A : Type 0} where
  pub got_before : (xs ys : List A) (n : ℕ) (x : A) → slice_get xs n ≡ Some x → slice_get (xs ++ ys) n ≡ Some x
  got_before [] ys n x e = cc
  got_before (y ∷ xs) ys zero x e = e
  got_before (y ∷ xs) ys (suc n) x e = got_before xs ys n x e

  pub got_last : (xs : List A) (x : A) → slice_get (xs ++ x ∷ []) (length xs) ≡ Some x
  got_last [] x = refl
  got_last (y ∷ xs) x = got_last xs x

  -- what stands in the longer list stood before, or is the last
  pub got_or_last : (xs : List A) (x : A) (n : ℕ) (y : A) → slice_get (xs ++ x ∷ []) n ≡ Some y → (slice_get xs n ≡ Some y) ⊎ ((n ≡ length xs) × (y ≡ x))
  got_or_last [] x zero y e = inr (refl, cc)
  got_or_last [] x (suc n) y e = absurd (cc)
  got_or_last (z ∷ xs) x zero y e = inl e
  got_or_last (z ∷ xs) x (suc n) y e = elim (got_or_last xs x n y e) [
    | inl h ↦ inl h
    | inr h ↦ inr (ap suc h.0, h.1)
  ]

  -- there is one at each place below the length
  pub got_within : (xs : List A) (n : ℕ) → n < length xs → (x : A) × (slice_get xs n ≡ Some x)
  got_within [] n h = absurd (omega arith)
  got_within (x ∷ xs) zero h = (x, refl)
  got_within (x ∷ xs) (suc n) h = got_within xs n (omega arith)

  pub or_before : (xs ys : List A) (n : ℕ) (d : A) → n < length xs → unwrap_or (slice_get (xs ++ ys) n) d ≡ unwrap_or (slice_get xs n) d
  or_before [] ys n d h = absurd (omega arith)
  or_before (x ∷ xs) ys zero d h = refl
  or_before (x ∷ xs) ys (suc n) d h = or_before xs ys n d (omega arith)

  pub once_with : (xs : List A) (x : A) → IsEachOnce xs → ((n : ℕ) → slice_get xs n ≡ Some x → ⊥) → IsEachOnce (xs ++ x ∷ [])
  once_with xs x once new n m y e f = elim (got_or_last xs x n y e) [
    | inl h ↦ elim (got_or_last xs x m y f) [
      | inl g ↦ once n m y h g
      | inr g ↦ absurd (new n (h ∙ ap (λ (z : A). Some z) g.1))
    ]
    | inr h ↦ elim (got_or_last xs x m y f) [
      | inl g ↦ absurd (new m (g ∙ ap (λ (z : A). Some z) h.1))
      | inr g ↦ h.0 ∙ sym g.0
    ]
  ]

-- the numbers of the first field, and then those of the others
pub naturals_step : (field : Field) (fields : List Field) → naturals_in (field ∷ fields) ≡ naturals_in (field ∷ []) ++ naturals_in fields
naturals_step (Natural number) fields = refl
naturals_step (Signed number) fields = refl
naturals_step Null fields = refl
naturals_step Any fields = refl
naturals_step Undefined fields = refl

-- one more rank
pub ranks_step : (n m : ℕ) → n + 1 ≡ m → range_with_len 0 m ≡ range_with_len 0 n ++ n ∷ []
ranks_step n m e =
    ap (λ (k : ℕ). range_with_len 0 k) (sym e) ∙ sym (map-id (range_with_len 0 (n + 1)))
    ∙ map-range_with_len_more (λ (k : ℕ). k) 0 n n (omega arith)
    ∙ ap (λ (ks : List ℕ). ks ++ n ∷ []) (map-id (range_with_len 0 n))
  where
    map-id : (ks : List ℕ) → map (λ (k : ℕ). k) ks ≡ ks
    map-id [] = refl
    map-id (k ∷ ks) = ap (λ (others : List ℕ). k ∷ others) (map-id ks)
