-- What stands at the places of lists.
use Rattle.std.proofs.Common.{◌≡◌, refl, sym, ap, ◌∙◌, ℕ, zero, suc, ◌+◌, ◌≤◌, ◌<◌, ◌⊎◌, inl, inr, add-one, add-zero, arith, Bool, true, false, ◌||◌, eq-eqb, eqb-true, ◌==◌, List, [], ◌∷◌, ◌++◌, length, drop, set, replicate, Some}
use Rattle.std.specs.Prelude.{slice_get}
use Rattle.std.specs.List.{list_any}
use Rattle.std.proofs.lemmas.Bool.{cases_Bool, false≢true}
use Rattle.journals.specs.Known.{is_among}

-- ---- Tests ----

pub or_true : (b : Bool) → (b || true) ≡ true
or_true true = refl
or_true false = refl

pub or_false : (b : Bool) → (b || false) ≡ b
or_false true = refl
or_false false = refl

or_four : (a b c d : Bool) → ((a || b) || (c || d)) ≡ ((a || c) || (b || d))
or_four true b c d = refl
or_four false true true d = refl
or_four false true false d = refl
or_four false false c d = refl

-- ---- Places ----

-- the things from a place on are that there and those after it
pub drop_here : {X : Type 0} (xs : List X) (n : ℕ) (x : X) → slice_get xs n ≡ Some x → drop n xs ≡ x ∷ drop (n + 1) xs
drop_here xs n x e = rw add-one (step xs n x e)
  where
    step : {X : Type 0} (xs : List X) (n : ℕ) (x : X) → slice_get xs n ≡ Some x → drop n xs ≡ x ∷ drop (suc n) xs
    step [] n x e = absurd (cc)
    step (y ∷ ys) zero x e = cc
    step (y ∷ ys) (suc n) x e = step ys n x e

pub drop_past : {X : Type 0} (xs : List X) (n : ℕ) → length xs ≤ n → drop n xs ≡ []
drop_past [] zero h = refl
drop_past [] (suc n) h = refl
drop_past (x ∷ xs) zero h = absurd (omega arith)
drop_past (x ∷ xs) (suc n) h = drop_past xs n (omega arith)

pub get_push : {X : Type 0} (xs : List X) (y : X) (n : ℕ) (x : X) → slice_get xs n ≡ Some x → slice_get (xs ++ y ∷ []) n ≡ Some x
get_push [] y n x e = absurd (cc)
get_push (z ∷ zs) y zero x e = e
get_push (z ∷ zs) y (suc n) x e = get_push zs y n x e

pub get_append : {X : Type 0} (xs ys : List X) (n : ℕ) (x : X) → slice_get xs n ≡ Some x → slice_get (xs ++ ys) n ≡ Some x
get_append [] ys n x e = absurd (cc)
get_append (z ∷ zs) ys zero x e = e
get_append (z ∷ zs) ys (suc n) x e = get_append zs ys n x e

get_after : {X : Type 0} (xs ys : List X) (n : ℕ) → slice_get (xs ++ ys) (n + length xs) ≡ slice_get ys n
get_after [] ys n = ap (λ k. slice_get ys k) (add-zero n)
get_after (x ∷ xs) ys n =
    let e : n + suc (length xs) ≡ suc (n + length xs) = omega arith in
    ap (λ k. slice_get (x ∷ xs ++ ys) k) e ∙ get_after xs ys n

-- past the first list a place is one of the second
pub get_second : {X : Type 0} (xs ys : List X) (n k : ℕ) → n ≡ length xs + k → slice_get (xs ++ ys) n ≡ slice_get ys k
get_second xs ys n k e =
    let f : n ≡ k + length xs = omega arith in
    ap (λ m. slice_get (xs ++ ys) m) f ∙ get_after xs ys k

pub get_last : {X : Type 0} (xs : List X) (y : X) (n : ℕ) → n ≡ length xs → slice_get (xs ++ y ∷ []) n ≡ Some y
get_last xs y n e = get_second xs (y ∷ []) n 0 (omega arith)

pub push_cases : {X : Type 0} (xs : List X) (y : X) (n : ℕ) (x : X) → slice_get (xs ++ y ∷ []) n ≡ Some x → (slice_get xs n ≡ Some x) ⊎ ((n ≡ length xs) × (x ≡ y))
push_cases [] y zero x e = let k : x ≡ y = cc in inr (refl, k)
push_cases [] y (suc n) x e = absurd (cc)
push_cases (z ∷ zs) y zero x e = inl e
push_cases (z ∷ zs) y (suc n) x e = elim (push_cases zs y n x e) [ inl h ↦ inl h | inr h ↦ inr (ap suc h.0, h.1) ]

pub get_set_same : {X : Type 0} (xs : List X) (n : ℕ) (v : X) → n < length xs → slice_get (set xs n v) n ≡ Some v
get_set_same [] n v h = absurd (omega arith)
get_set_same (x ∷ xs) zero v h = refl
get_set_same (x ∷ xs) (suc n) v h = get_set_same xs n v (omega arith)

pub get_set_other : {X : Type 0} (xs : List X) (n m : ℕ) (v : X) → (n ≡ m → ⊥) → slice_get (set xs n v) m ≡ slice_get xs m
get_set_other [] n m v ne = refl
get_set_other (x ∷ xs) zero zero v ne = absurd (ne refl)
get_set_other (x ∷ xs) zero (suc m) v ne = refl
get_set_other (x ∷ xs) (suc n) zero v ne = refl
get_set_other (x ∷ xs) (suc n) (suc m) v ne = get_set_other xs n m v (λ e. ne (ap suc e))

pub get_replicate : {X : Type 0} (n k : ℕ) (x : X) → k < n → slice_get (replicate n x) k ≡ Some x
get_replicate zero k x h = absurd (omega arith)
get_replicate (suc n) zero x h = refl
get_replicate (suc n) (suc k) x h = get_replicate n k x (omega arith)

pub get_some : {X : Type 0} (xs : List X) (n : ℕ) → n < length xs → (x : X) × (slice_get xs n ≡ Some x)
get_some [] n h = absurd (omega arith)
get_some (x ∷ xs) zero h = (x, refl)
get_some (x ∷ xs) (suc n) h = get_some xs n (omega arith)

-- ---- Some of a list ----

pub any_step : {X : Type 0} (t : X → Bool) (xs : List X) (n : ℕ) (x : X) (all : Bool) → slice_get xs n ≡ Some x → t x ≡ false → list_any t (drop n xs) ≡ all → list_any t (drop (n + 1) xs) ≡ all
any_step t xs n x all e fails h = ap (λ b. b || list_any t (drop (n + 1) xs)) (sym fails) ∙ sym (ap (λ ys. list_any t ys) (drop_here xs n x e)) ∙ h

pub any_found : {X : Type 0} (t : X → Bool) (xs : List X) (n : ℕ) (x : X) (all : Bool) → slice_get xs n ≡ Some x → t x ≡ true → list_any t (drop n xs) ≡ all → all ≡ true
any_found t xs n x all e holds h = sym h ∙ ap (λ ys. list_any t ys) (drop_here xs n x e) ∙ ap (λ b. b || list_any t (drop (n + 1) xs)) holds

any_false : {X : Type 0} (xs : List X) → list_any (λ x. false) xs ≡ false
any_false [] = refl
any_false (x ∷ xs) = any_false xs

any_or : {X : Type 0} (f g : X → Bool) (xs : List X) → list_any (λ x. f x || g x) xs ≡ (list_any f xs || list_any g xs)
any_or f g [] = refl
any_or f g (x ∷ xs) = ap (λ b. (f x || g x) || b) (any_or f g xs) ∙ or_four (f x) (g x) (list_any f xs) (list_any g xs)

-- some pair of two lists
pub any_swap : {X Y : Type 0} (r : X → Y → Bool) (xs : List X) (ys : List Y) → list_any (λ x. list_any (r x) ys) xs ≡ list_any (λ y. list_any (λ x. r x y) xs) ys
any_swap r [] ys = sym (any_false ys)
any_swap r (x ∷ xs) ys = ap (λ b. list_any (r x) ys || b) (any_swap r xs ys) ∙ sym (any_or (r x) (λ y. list_any (λ z. r z y) xs) ys)

pub any_same : {X : Type 0} (t u : X → Bool) (xs : List X) → ((n : ℕ) (x : X) → slice_get xs n ≡ Some x → t x ≡ u x) → list_any t xs ≡ list_any u xs
any_same t u [] h = refl
any_same t u (x ∷ xs) h = ap (λ b. b || list_any t xs) (h 0 x refl) ∙ ap (λ b. u x || b) (any_same t u xs (λ n y e. h (suc n) y e))

-- ---- A number among some ----

pub among_found : (xs : List ℕ) (n p : ℕ) → slice_get xs n ≡ Some p → is_among p xs ≡ true
among_found [] n p e = absurd (cc)
among_found (x ∷ xs) zero p e = let k : x ≡ p = cc in ap (λ b. b || is_among p xs) (eq-eqb x p k)
among_found (x ∷ xs) (suc n) p e = ap (λ b. (x == p) || b) (among_found xs n p e) ∙ or_true (x == p)

pub among_place : (xs : List ℕ) (p : ℕ) → is_among p xs ≡ true → (n : ℕ) × (slice_get xs n ≡ Some p)
among_place [] p e = absurd (false≢true e)
among_place (x ∷ xs) p e = elim (cases_Bool (x == p)) [
  | inl holds ↦ (0, ap Some (eqb-true x p holds))
  | inr fails ↦ let it = among_place xs p (sym (ap (λ b. b || is_among p xs) fails) ∙ e) in (suc it.0, it.1)
]
