-- Sets that keep the order in which their keys came.
use Rattle.std.proofs.Common.{◌≡◌, ◌∙◌, refl, sym, ap, ℕ, zero, suc, ◌<◌, ◌||◌, Bool, true, false, true≢false, List, [], ◌∷◌, length, map, position, get_or, Option, Some, inl, inr}
use Rattle.std.specs.Prelude.{option_map}
use Rattle.std.specs.List.{slice_get, list_any}
use Rattle.std.proofs.lemmas.List.{map-append}
use Rattle.std.proofs.lemmas.List.Quantifiers.{position-Some}
use Rattle.std.proofs.lemmas.Option.{get_or_from_slice_get, slice_get-map}
use Rattle.indexmap.specs.IndexSet.{insert_key}
use Rattle.closing.specs.inner.Table.{IsSameOrMore}
use Rattle.closing.proofs.PlaceListLemmas.{got_within}

or_false : (a b : Bool) → (a || b) ≡ false → b ≡ false
or_false true b h = absurd (true≢false h)
or_false false b h = h

module _ {K : Type 0} where
  -- where no key passes, none stands anywhere that passes
  pub none_passes : (test : K → Bool) (keys : List K) (n : ℕ) (k : K) → slice_get keys n ≡ Some k → test k ≡ true → list_any test keys ≡ false → ⊥
  none_passes test [] n k e passes none = cc
  none_passes test (x ∷ keys) zero k e passes none =
      let is : x ≡ k = cc in
      let here : test x ≡ true = ap test is ∙ passes in
      true≢false (sym (ap (λ (b : Bool). b || list_any test keys) here) ∙ none)
  none_passes test (x ∷ keys) (suc n) k e passes none = none_passes test keys n k e passes (or_false (test x) (list_any test keys) none)

  -- the key at the place that was found passes
  pub found_at : (test : K → Bool) (keys : List K) (n : ℕ) → position test keys ≡ Some n → n < length keys → (k : K) × (slice_get keys n ≡ Some k) × (test k ≡ true)
  found_at test keys n e within =
      let at = got_within keys n within in
      let passes : test (get_or keys n at.0) ≡ true = (position-Some test keys n at.0 e).1 in
      (at.0, at.1, ap test (sym (get_or_from_slice_get keys n at.0 at.0 at.1)) ∙ passes)

module _ {K A : Type 0} where
  pub got_in_map : (view : K → A) (keys : List K) (n : ℕ) (a : A) → slice_get (map view keys) n ≡ Some a → (k : K) × (slice_get keys n ≡ Some k) × (view k ≡ a)
  got_in_map view [] n a e = absurd (cc)
  got_in_map view (x ∷ keys) zero a e = (x, refl, cc)
  got_in_map view (x ∷ keys) (suc n) a e = got_in_map view keys n a e

  pub map_got : (view : K → A) (keys : List K) (n : ℕ) (k : K) → slice_get keys n ≡ Some k → slice_get (map view keys) n ≡ Some (view k)
  map_got view keys n k e = slice_get-map view keys n ∙ ap (λ (z : Option K). option_map view z) e

  pub insert_same_or_more : (eq : K → K → Bool) (view : K → A) (complete : (x k : K) → view x ≡ view k → eq k x ≡ true) (keys : List K) (k : K)
      → IsSameOrMore (view k) (map view keys) (map view (insert_key eq keys k))
  insert_same_or_more eq view complete keys k = by (list_any (eq k) keys) refl
    where
      by : (b : Bool) → list_any (eq k) keys ≡ b → IsSameOrMore (view k) (map view keys) (map view (insert_key eq keys k))
      by true e = inl (rw e refl)
      by false e =
          inr (
            rw e (map-append view keys (k ∷ [])),
            λ n h.
                let at = got_in_map view keys n (view k) h in
                none_passes (eq k) keys n at.0 at.1 (complete at.0 k at.2) e,
          )

module _ {K : Type 0} where
  pub insert_more : (eq : K → K → Bool) (itself : (k : K) → eq k k ≡ true) (keys : List K) (k : K) → IsSameOrMore k keys (insert_key eq keys k)
  insert_more eq itself keys k = by (list_any (eq k) keys) refl
    where
      by : (b : Bool) → list_any (eq k) keys ≡ b → IsSameOrMore k keys (insert_key eq keys k)
      by true e = inl (rw e refl)
      by false e = inr (rw e refl, λ n h. none_passes (eq k) keys n k h (itself k) e)
