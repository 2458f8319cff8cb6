-- What several crates want of lists, and what std lacks.
use Rattle.std.proofs.Common.{◌≡◌, ◌≢◌, ℕ, zero, suc, ◌+◌, ◌<◌, ◌≤◌, Bool, true, false, List, [], ◌∷◌, ◌++◌, length, set, refl, sym, ap, ◌∙◌, ⊎_elim, append-nil, arith, Some, None}
use Rattle.std.specs.List.{slice_get, filter, range_with_len}
use Rattle.std.proofs.lemmas.List.Elements.{filter-append}
use Rattle.std.proofs.lemmas.Option.{none-some, slice_get-get_or}
use Rattle.std.proofs.lemmas.Bool.{cases_lt}

-- a list with one element more
pub get_end : {A : Type 0} (xs : List A) (x : A) → slice_get (xs ++ x ∷ []) (length xs) ≡ Some x
get_end [] x = refl
get_end (y ∷ xs) x = get_end xs x

-- where no element is, the list is no longer
pub none_there : {A : Type 0} (xs : List A) (i : ℕ) → slice_get xs i ≡ None → length xs ≤ i
none_there [] i none = omega arith
none_there (x ∷ xs) i none =
    ⊎_elim
    (λ (within : i < length (x ∷ xs)). absurd (none-some _ (sym none ∙ slice_get-get_or (x ∷ xs) i x within)))
    (λ (past : length (x ∷ xs) ≤ i). past)
    (cases_lt i (length (x ∷ xs)))

-- a list in which one element is written
pub slice_get-set_same : {A : Type 0} (xs : List A) (i : ℕ) (y : A) → i < length xs → slice_get (set xs i y) i ≡ Some y
slice_get-set_same [] i y within = absurd (omega arith)
slice_get-set_same (x ∷ xs) zero y within = refl
slice_get-set_same (x ∷ xs) (suc i) y within = slice_get-set_same xs i y (omega arith)

pub slice_get-set_other : {A : Type 0} (xs : List A) (i j : ℕ) (y : A) → j ≢ i → slice_get (set xs i y) j ≡ slice_get xs j
slice_get-set_other [] i j y differs = refl
slice_get-set_other (x ∷ xs) zero zero y differs = absurd (differs refl)
slice_get-set_other (x ∷ xs) zero (suc j) y differs = refl
slice_get-set_other (x ∷ xs) (suc i) zero y differs = refl
slice_get-set_other (x ∷ xs) (suc i) (suc j) y differs = slice_get-set_other xs i j y (λ same. differs (ap suc same))

-- numbers in a row, one more of them, and those of them that pass
pub range_more : (a n : ℕ) → range_with_len a (n + 1) ≡ range_with_len a n ++ (a + n) ∷ []
range_more a zero = let e : a + 0 ≡ a = omega arith in rw e refl
range_more a (suc n) =
    let e : (a + 1) + n ≡ a + suc n = omega arith in
    let f : suc n + 1 ≡ suc (n + 1) = omega arith in
    rw f (ap (λ (rest : List ℕ). a ∷ rest) (range_more (a + 1) n ∙ ap (λ (last : ℕ). range_with_len (a + 1) n ++ last ∷ []) e))

pub from_zero : (n : ℕ) → range_with_len 0 (n + 1) ≡ range_with_len 0 n ++ n ∷ []
from_zero n = let e : 0 + n ≡ n = omega arith in range_more 0 n ∙ ap (λ (last : ℕ). range_with_len 0 n ++ last ∷ []) e

pub filter_more : (p : ℕ → Bool) (n : ℕ) → p n ≡ true → filter p (range_with_len 0 (n + 1)) ≡ filter p (range_with_len 0 n) ++ n ∷ []
filter_more p n h = ap (λ (ns : List ℕ). filter p ns) (from_zero n) ∙ filter-append p (range_with_len 0 n) (n ∷ []) ∙ rw h refl

pub filter_no_more : (p : ℕ → Bool) (n : ℕ) → p n ≡ false → filter p (range_with_len 0 (n + 1)) ≡ filter p (range_with_len 0 n)
filter_no_more p n h = ap (λ (ns : List ℕ). filter p ns) (from_zero n) ∙ filter-append p (range_with_len 0 n) (n ∷ []) ∙ rw h (append-nil (filter p (range_with_len 0 n)))
