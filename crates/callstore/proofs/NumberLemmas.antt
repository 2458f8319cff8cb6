-- Numbers of keys by their positions, and lists of which one element is another.
use Rattle.std.proofs.Common.{◌≡◌, ℕ, zero, suc, ◌+◌, ◌<◌, ◌≤◌, ◌⊎◌, inl, inr, Bool, true, false, cond, ltb, eqb, Some, None, List, [], ◌∷◌, ◌++◌, length, set, refl, ap, ◌∙◌, ⊎_elim, arith, length-append}
use Rattle.std.specs.Prelude.{not, position, Result, Ok, Err, OnOk}
use Rattle.std.specs.List.{position_or_len}
use Rattle.std.proofs.lemmas.List.Folds.{position_or_len_push}
use Rattle.std.proofs.lemmas.List.Sums.{prefix_len-le-length}
use Rattle.std.proofs.lemmas.Option.{cond_some}
use Rattle.std.proofs.lemmas.Bool.{cases_Bool, ltb-true, ltb-false, lt-ltb, eq-eqb, ne_eqb}

-- a number is found, or none
pub position_cases : {K : Type 0} (p : K → Bool) (xs : List K) → ((i : ℕ) × (position p xs ≡ Some i) × (i < length xs) × (position_or_len p xs ≡ i)) ⊎ ((position p xs ≡ None) × (position_or_len p xs ≡ length xs))
position_cases p xs =
    ⊎_elim
    (λ (below : ltb (position_or_len p xs) (length xs) ≡ true).
    inl (position_or_len p xs, ap (λ b. cond b (Some (position_or_len p xs)) None) below, ltb-true _ _ below, refl))
    (λ (past : ltb (position_or_len p xs) (length xs) ≡ false).
    let most : position_or_len p xs ≤ length xs = prefix_len-le-length (λ x. not (p x)) xs in
    inr (ap (λ b. cond b (Some (position_or_len p xs)) None) past, omega (arith, most, ltb-false _ _ past)))
    (cases_Bool (ltb (position_or_len p xs) (length xs)))

pub position_at : {K : Type 0} (p : K → Bool) (xs : List K) (i : ℕ) → position_or_len p xs ≡ i → i < length xs → position p xs ≡ Some i
position_at p xs i same within =
    ap (λ b. cond b (Some (position_or_len p xs)) None) (lt-ltb (position_or_len p xs) (length xs) (omega (arith, same, within)))
    ∙ ap (λ (m : ℕ). Some m) same

length_push : {K : Type 0} (xs : List K) (y : K) → length (xs ++ y ∷ []) ≡ length xs + 1
length_push xs y = length-append xs (y ∷ [])

-- a key keeps its number where another gets one
pub number_stays : {K : Type 0} (p : K → Bool) (xs : List K) (y : K) (i : ℕ) → position p xs ≡ Some i → position p (xs ++ y ∷ []) ≡ Some i
number_stays p xs y i h =
    let was = cond_some (ltb (position_or_len p xs) (length xs)) (position_or_len p xs) i h in
    let less : position_or_len p xs < length xs = ltb-true _ _ was.0 in
    let one_more = length_push xs y in
    let differs : eqb (position_or_len p xs) (length xs) ≡ false = ne_eqb _ _ (λ e. absurd (omega (arith, less, e))) in
    position_at p (xs ++ y ∷ []) i
    (position_or_len_push p xs y ∙ ap (λ b. cond b (length xs + cond (p y) 0 1) (position_or_len p xs)) differs ∙ was.1)
    (omega (arith, was.1, less, one_more))

-- a new key gets the next number
pub number_next : {K : Type 0} (p : K → Bool) (xs : List K) (y : K) → position_or_len p xs ≡ length xs → p y ≡ true → position p (xs ++ y ∷ []) ≡ Some (length xs)
number_next p xs y absent passes =
    let one_more = length_push xs y in
    position_at p (xs ++ y ∷ []) (length xs)
    (position_or_len_push p xs y ∙ ap (λ b. cond b (length xs + cond (p y) 0 1) (position_or_len p xs)) (eq-eqb _ _ absent) ∙ ap (λ b. length xs + cond b 0 1) passes ∙ omega arith)
    (omega (arith, one_more))

-- nothing is written after a list
pub set_past : {X : Type 0} (xs : List X) (i : ℕ) (y : X) → length xs ≤ i → set xs i y ≡ xs
set_past [] i y past = refl
set_past (x ∷ xs) zero y past = absurd (omega arith)
set_past (x ∷ xs) (suc i) y past = ap (λ ys. x ∷ ys) (set_past xs i y (omega arith))

pub on_ok_then : {T E : Type 0} (r : Result T E) {P Q : Type 0} → (P → Q) → OnOk r P → OnOk r Q
on_ok_then (Ok x) step h = step h
on_ok_then (Err e) step h = h

-- the number of a key that had none is after the others
pub number_past : {K : Type 0} (p : K → Bool) (xs : List K) (y : K) → position_or_len p xs ≡ length xs → (i : ℕ) → position p (xs ++ y ∷ []) ≡ Some i → length xs ≤ i
number_past p xs y absent i h =
    let number = cond_some (ltb (position_or_len p (xs ++ y ∷ [])) (length (xs ++ y ∷ []))) (position_or_len p (xs ++ y ∷ [])) i h in
    let one_on = position_or_len_push p xs y ∙ ap (λ b. cond b (length xs + cond (p y) 0 1) (position_or_len p xs)) (eq-eqb _ _ absent) in
    omega (arith, number.1, one_on)
