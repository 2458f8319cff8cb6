-- The places of lists that are put together, and how many elements of them pass a test.
use Rattle.std.proofs.Common.{◌≡◌, ◌⊎◌, inl, inr, ℕ, zero, suc, ◌+◌, ◌-◌, ◌<◌, ◌≤◌, Bool, true, false, Option, Some, None, if◌then◌else◌, List, [], ◌∷◌, ◌++◌, length, refl, ap, ◌∙◌, ⊎_elim, arith}
use Rattle.std.specs.List.{slice_get}
use Rattle.std.specs.Option.{option_map}
use Rattle.std.proofs.lemmas.Option.{slice_get_within}
use Rattle.std.proofs.lemmas.Bool.{cases_Bool, cases_lt}
use Rattle.callstore.specs.Places.{places_from, places}
use Rattle.callstore.proofs.PlaceLemmas.{nth_place, slice_get_there}

-- how many of the elements pass
abbrev pub count : {A : Type 0} → (A → Bool) → List A → ℕ
count test [] = 0
count test (x ∷ xs) = (if test x then 1 else 0) + count test xs

pub places_count : {A : Type 0} (n : ℕ) (test : A → Bool) (xs : List A) → length (places_from n test xs) ≡ count test xs
places_count n test [] = refl
places_count n test (x ∷ xs) =
    let rest = places_count (n + 1) test xs in
    ⊎_elim
    (λ (here : test x ≡ true). rw here (omega (arith, rest)))
    (λ (fails : test x ≡ false). rw fails (omega (arith, rest)))
    (cases_Bool (test x))

pub count-append : {A : Type 0} (test : A → Bool) (xs ys : List A) → count test (xs ++ ys) ≡ count test xs + count test ys
count-append test [] ys = omega arith
count-append test (x ∷ xs) ys =
    let rest = count-append test xs ys in
    omega (arith, rest)

-- the places are counted from where the list begins
pub get-shift : {A : Type 0} (m n : ℕ) (test : A → Bool) (xs : List A) (k : ℕ) → slice_get (places_from (m + n) test xs) k ≡ option_map (λ p. m + p) (slice_get (places_from n test xs) k)
get-shift m n test [] k = refl
get-shift m n test (x ∷ xs) k =
    let next : m + n + 1 ≡ m + (n + 1) = omega arith in
    let rest : (j : ℕ) → slice_get (places_from (m + n + 1) test xs) j ≡ option_map (λ p. m + p) (slice_get (places_from (n + 1) test xs) j) = λ j. rw next (get-shift m (n + 1) test xs j) in
    ⊎_elim
    (λ (here : test x ≡ true). rw here (first k rest))
    (λ (fails : test x ≡ false). rw fails (rest k))
    (cases_Bool (test x))
  where
    first : (k : ℕ) → ((j : ℕ) → slice_get (places_from (m + n + 1) test xs) j ≡ option_map (λ p. m + p) (slice_get (places_from (n + 1) test xs) j)) → slice_get ((m + n) ∷ places_from (m + n + 1) test xs) k ≡ option_map (λ p. m + p) (slice_get (n ∷ places_from (n + 1) test xs) k)
    first zero rest = refl
    first (suc k) rest = rest k

-- behind the places of the first part come those of the second
get-behind_from : {A : Type 0} (n : ℕ) (test : A → Bool) (xs ys : List A) (k : ℕ) → slice_get (places_from n test (xs ++ ys)) (count test xs + k) ≡ slice_get (places_from (n + length xs) test ys) k
get-behind_from n test [] ys k =
    let start : n + 0 ≡ n = omega arith in
    let number : 0 + k ≡ k = omega arith in
    rw (start, number) refl
get-behind_from n test (x ∷ xs) ys k =
    let start : n + suc (length xs) ≡ n + 1 + length xs = omega arith in
    let rest = get-behind_from (n + 1) test xs ys k in
    ⊎_elim
    (λ (here : test x ≡ true).
    let number : 1 + count test xs + k ≡ suc (count test xs + k) = omega arith in
    rw (here, start, number) rest)
    (λ (fails : test x ≡ false).
    let number : 0 + count test xs + k ≡ count test xs + k = omega arith in
    rw (fails, start, number) rest)
    (cases_Bool (test x))

pub get-behind : {A : Type 0} (test : A → Bool) (xs ys : List A) (k : ℕ) → slice_get (places test (xs ++ ys)) (count test xs + k) ≡ option_map (λ p. length xs + p) (slice_get (places test ys) k)
get-behind test xs ys k =
    let start : 0 + length xs ≡ length xs + 0 = omega arith in
    rw start at (get-behind_from 0 test xs ys k) ∙ get-shift (length xs) 0 test ys k

-- the first of them are those of the first part
get-front_from : {A : Type 0} (n : ℕ) (test : A → Bool) (xs ys : List A) (k : ℕ) → k < count test xs → slice_get (places_from n test (xs ++ ys)) k ≡ slice_get (places_from n test xs) k
get-front_from n test [] ys k less = absurd (omega arith)
get-front_from n test (x ∷ xs) ys k less =
    ⊎_elim
    (λ (here : test x ≡ true). rw here (first k (rw here at less) (λ j. get-front_from (n + 1) test xs ys j)))
    (λ (fails : test x ≡ false).
    let fewer : k < 0 + count test xs = rw fails at less in
    rw fails (get-front_from (n + 1) test xs ys k (omega (arith, fewer))))
    (cases_Bool (test x))
  where
    first : (k : ℕ) → k < 1 + count test xs → ((j : ℕ) → j < count test xs → slice_get (places_from (n + 1) test (xs ++ ys)) j ≡ slice_get (places_from (n + 1) test xs) j) → slice_get (n ∷ places_from (n + 1) test (xs ++ ys)) k ≡ slice_get (n ∷ places_from (n + 1) test xs) k
    first zero less rest = refl
    first (suc k) less rest = rest k (omega arith)

-- a number below the count has its place in the list
pub record HasPlace {A : Type 0} (test : A → Bool) (xs : List A) (k : ℕ) : Type 0 where
  pub place : ℕ
  pub is_nth : slice_get (places test xs) k ≡ Some place
  pub within : place < length xs

pub has_place : {A : Type 0} (test : A → Bool) (xs : List A) (k : ℕ) → k < count test xs → HasPlace test xs k
has_place test xs k less =
    let there = slice_get_there (places test xs) k (omega (arith, less, places_count 0 test xs)) in
    let nth = nth_place 0 test xs k there.0 there.1 in
    record { place = there.0; is_nth = there.1; within = omega (arith, nth.place, slice_get_within xs nth.index nth.element nth.stands_there) }

pub place_less : {A : Type 0} (test : A → Bool) (xs : List A) (k p : ℕ) → slice_get (places test xs) k ≡ Some p → (k < count test xs) × (p < length xs)
place_less test xs k p h =
    let nth = nth_place 0 test xs k p h in
    let number = slice_get_within (places test xs) k p h in (
      omega (arith, number, places_count 0 test xs),
      omega (arith, nth.place, slice_get_within xs nth.index nth.element nth.stands_there),
    )

pub get-front : {A : Type 0} (test : A → Bool) (xs ys : List A) (k p : ℕ) → slice_get (places test xs) k ≡ Some p → slice_get (places test (xs ++ ys)) k ≡ Some p
get-front test xs ys k p h = get-front_from 0 test xs ys k (place_less test xs k p h).0 ∙ h

-- ---- The places of two lists with one end ----

-- the first place is in the front of its list, and so is the second; or both are the same place behind it
abbrev pub SamePlace : ℕ → ℕ → Option ℕ → Option ℕ → Type 0
SamePlace front other None None = Unit {0}
SamePlace front other None (Some q) = ⊥
SamePlace front other (Some p) None = ⊥
SamePlace front other (Some p) (Some q) = ((p < front) × (q < other)) ⊎ ((i : ℕ) × (p ≡ front + i) × (q ≡ other + i))

both_behind : (front other : ℕ) (o : Option ℕ) → SamePlace front other (option_map (λ p. front + p) o) (option_map (λ p. other + p) o)
both_behind front other None = tt
both_behind front other (Some i) = inr (i, refl, refl)

-- where the first front has so many more of them than the other
pub same_place : {A : Type 0} (test : A → Bool) (xs ys zs : List A) (more k : ℕ) → count test xs ≡ more + count test ys → SamePlace (length xs) (length ys) (slice_get (places test (xs ++ zs)) (more + k)) (slice_get (places test (ys ++ zs)) k)
same_place test xs ys zs more k is =
    ⊎_elim
    (λ (less : k < count test ys).
    let own = has_place test xs (more + k) (omega (arith, less, is)) in
    let theirs = has_place test ys k less in
    rw (get-front test xs zs (more + k) own.place own.is_nth, get-front test ys zs k theirs.place theirs.is_nth) (inl (own.within, theirs.within)))
    (λ (past : count test ys ≤ k).
    let number : more + k ≡ count test xs + (k - count test ys) = omega (arith, is, past) in
    let number_there : k ≡ count test ys + (k - count test ys) = omega (arith, past) in
    let own : slice_get (places test (xs ++ zs)) (more + k) ≡ option_map (λ p. length xs + p) (slice_get (places test zs) (k - count test ys)) =
    ap (λ (j : ℕ). slice_get (places test (xs ++ zs)) j) number ∙ get-behind test xs zs (k - count test ys) in
    let theirs : slice_get (places test (ys ++ zs)) k ≡ option_map (λ p. length ys + p) (slice_get (places test zs) (k - count test ys)) =
    ap (λ (j : ℕ). slice_get (places test (ys ++ zs)) j) number_there ∙ get-behind test ys zs (k - count test ys) in
    rw (own, theirs) (both_behind (length xs) (length ys) (slice_get (places test zs) (k - count test ys))))
    (cases_lt k (count test ys))
