-- Whether some of a list passes a test.
use Rattle.std.proofs.Common.{◌≡◌, refl, sym, ap, ◌∙◌, ◌⊎◌, inl, inr, ℕ, zero, suc, Bool, true, false, ◌||◌, ◌&&◌, cond, if◌then◌else◌, List, [], ◌∷◌, ◌++◌, take, filter, Option, Some, None}
use Rattle.std.specs.Prelude.{slice_get}
use Rattle.std.specs.List.{cons_option, filter_map, find, flat_map, list_any}
use Rattle.std.proofs.lemmas.Bool.{cases_Bool, false≢true}
use Rattle.std.proofs.lemmas.List.Folds.{list_any-append}
use Rattle.closing.proofs.NumberLists.{or_true}

abbrev pub passes : {A : Type 0} → (A → Bool) → Option A → Bool
passes t None = false
passes t (Some it) = t it

or_either : (a b : Bool) → (a || b) ≡ true → (a ≡ true) ⊎ (b ≡ true)
or_either true b h = inl refl
or_either false b h = inr h

pub same_if_both : (a b : Bool) → (a ≡ true → b ≡ true) → (b ≡ true → a ≡ true) → a ≡ b
same_if_both true b to from = sym (to refl)
same_if_both false true to from = from refl
same_if_both false false to from = refl

module _ {X : Type 0} where
  pub some_at : (t : X → Bool) (xs : List X) → list_any t xs ≡ true → (n : ℕ) × (x : X) × (slice_get xs n ≡ Some x) × (t x ≡ true)
  some_at t [] h = absurd (false≢true h)
  some_at t (x ∷ xs) h = elim (cases_Bool (t x)) [
    | inl holds ↦ (0, x, refl, holds)
    | inr fails ↦ let it = some_at t xs (sym (ap (λ b. b || list_any t xs) fails) ∙ h) in (suc it.0, it.1, it.2, it.3)
  ]

  pub some_of : (t : X → Bool) (xs : List X) (n : ℕ) (x : X) → slice_get xs n ≡ Some x → t x ≡ true → list_any t xs ≡ true
  some_of t [] n x e h = absurd (cc)
  some_of t (y ∷ xs) zero x e h = let same : y ≡ x = cc in ap (λ b. b || list_any t xs) (ap t same ∙ h)
  some_of t (y ∷ xs) (suc n) x e h = ap (λ b. t y || b) (some_of t xs n x e h) ∙ or_true (t y)

  pub some_more : (t u : X → Bool) (xs : List X) → ((x : X) → t x ≡ true → u x ≡ true) → list_any t xs ≡ true → list_any u xs ≡ true
  some_more t u xs more h = let it = some_at t xs h in some_of u xs it.0 it.1 it.2 (more it.1 it.3)

  pub some_first : (t : X → Bool) (xs ys : List X) → list_any t xs ≡ true → list_any t (xs ++ ys) ≡ true
  some_first t xs ys h = list_any-append t xs ys ∙ ap (λ b. b || list_any t ys) h

  pub some_second : (t : X → Bool) (xs ys : List X) → list_any t ys ≡ true → list_any t (xs ++ ys) ≡ true
  some_second t xs ys h = list_any-append t xs ys ∙ ap (λ b. list_any t xs || b) h ∙ or_true (list_any t xs)

  pub some_either : (t : X → Bool) (xs ys : List X) → list_any t (xs ++ ys) ≡ true → (list_any t xs ≡ true) ⊎ (list_any t ys ≡ true)
  some_either t xs ys h = or_either (list_any t xs) (list_any t ys) (sym (list_any-append t xs ys) ∙ h)

  pub some_taken : (t : X → Bool) (n : ℕ) (xs : List X) → list_any t (take n xs) ≡ true → list_any t xs ≡ true
  some_taken t zero xs h = absurd (false≢true h)
  some_taken t (suc n) [] h = h
  some_taken t (suc n) (x ∷ xs) h = elim (or_either (t x) (list_any t (take n xs)) h) [
    | inl here ↦ ap (λ b. b || list_any t xs) here
    | inr later ↦ ap (λ b. t x || b) (some_taken t n xs later) ∙ or_true (t x)
  ]

  kept : (t : X → Bool) (b : Bool) (x : X) (xs : List X) → list_any t (if b then x ∷ xs else xs) ≡ ((b && t x) || list_any t xs)
  kept t true x xs = refl
  kept t false x xs = refl

  pub any_filter : (t u : X → Bool) (xs : List X) → list_any t (filter u xs) ≡ list_any (λ x. u x && t x) xs
  any_filter t u [] = refl
  any_filter t u (x ∷ xs) = kept t (u x) x (filter u xs) ∙ ap (λ b. (u x && t x) || b) (any_filter t u xs)

  pub some_found : (t u : X → Bool) (xs : List X) → passes t (find u xs) ≡ true → list_any t xs ≡ true
  some_found t u [] h = h
  some_found t u (x ∷ xs) h = by (u x) h (some_found t u xs)
    where
      by : (b : Bool) → passes t (cond b (Some x) (find u xs)) ≡ true → (passes t (find u xs) ≡ true → list_any t xs ≡ true) → list_any t (x ∷ xs) ≡ true
      by true e later = ap (λ b. b || list_any t xs) e
      by false e later = ap (λ b. t x || b) (later e) ∙ or_true (t x)

consed : {Y : Type 0} (t : Y → Bool) (it : Option Y) (ys : List Y) → list_any t (cons_option it ys) ≡ (passes t it || list_any t ys)
consed t None ys = refl
consed t (Some y) ys = refl

module _ {X Y : Type 0} where
  pub any_filter_map : (t : Y → Bool) (f : X → Option Y) (xs : List X) → list_any t (filter_map f xs) ≡ list_any (λ x. passes t (f x)) xs
  any_filter_map t f [] = refl
  any_filter_map t f (x ∷ xs) = consed t (f x) (filter_map f xs) ∙ ap (λ b. passes t (f x) || b) (any_filter_map t f xs)

  pub any_flat : (t : Y → Bool) (f : X → List Y) (xs : List X) → list_any t (flat_map f xs) ≡ list_any (λ x. list_any t (f x)) xs
  any_flat t f [] = refl
  any_flat t f (x ∷ xs) = list_any-append t (f x) (flat_map f xs) ∙ ap (λ b. list_any t (f x) || b) (any_flat t f xs)
