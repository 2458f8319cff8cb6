-- The n-th place at which a test passes has n such places before it, and back.
use Rattle.std.proofs.Common.{◌≡◌, ℕ, zero, suc, ◌+◌, ◌<◌, Bool, true, false, Some, List, [], ◌∷◌, ◌++◌, length, take, refl, sym, ap, ◌∙◌, ⊎_elim, arith}
use Rattle.std.specs.List.{slice_get}
use Rattle.std.proofs.lemmas.Option.{none-some, same_Some}
use Rattle.std.proofs.lemmas.Bool.{cases_Bool}
use Rattle.callstore.specs.Places.{places_from}

-- The place `p` is the one with number `k` at which the test passes, where the first element has the
-- place `n`: it is the element `index`, which passes, and `k` elements before it pass.
pub record IsNth {A : Type 0} (n : ℕ) (test : A → Bool) (xs : List A) (k p : ℕ) : Type 0 where
  pub index : ℕ
  pub element : A
  pub place : p ≡ n + index
  pub stands_there : slice_get xs index ≡ Some element
  pub passes : test element ≡ true
  pub before : length (places_from n test (take index xs)) ≡ k

at_first : {A : Type 0} (n : ℕ) (test : A → Bool) (x : A) (xs : List A) (k p : ℕ) → test x ≡ true → ((k : ℕ) → slice_get (places_from (n + 1) test xs) k ≡ Some p → IsNth (n + 1) test xs k p) → slice_get (n ∷ places_from (n + 1) test xs) k ≡ Some p → IsNth n test (x ∷ xs) k p
at_first n test x xs zero p passes rest h =
    record { index = 0; element = x; place = sym (same_Some n p h) ∙ omega arith; stands_there = refl; passes = passes; before = refl }
at_first n test x xs (suc k) p passes rest h =
    let later = rest k h in
    record {
      index = suc later.index;
      element = later.element;
      place = omega (arith, later.place);
      stands_there = later.stands_there;
      passes = later.passes;
      before = rw passes (ap (λ m. suc m) later.before);
    }

at_later : {A : Type 0} (n : ℕ) (test : A → Bool) (x : A) (xs : List A) (k p : ℕ) → test x ≡ false → IsNth (n + 1) test xs k p → IsNth n test (x ∷ xs) k p
at_later n test x xs k p fails later =
    record {
      index = suc later.index;
      element = later.element;
      place = omega (arith, later.place);
      stands_there = later.stands_there;
      passes = later.passes;
      before = rw fails later.before;
    }

pub nth_place : {A : Type 0} (n : ℕ) (test : A → Bool) (xs : List A) (k p : ℕ) → slice_get (places_from n test xs) k ≡ Some p → IsNth n test xs k p
nth_place n test [] k p h = absurd (none-some p h)
nth_place n test (x ∷ xs) k p h =
    ⊎_elim
    (λ (here : test x ≡ true). at_first n test x xs k p here (λ j. nth_place (n + 1) test xs j p) (rw here at h))
    (λ (fails : test x ≡ false). at_later n test x xs k p fails (nth_place (n + 1) test xs k p (rw fails at h)))
    (cases_Bool (test x))

pub place_nth : {A : Type 0} (n : ℕ) (test : A → Bool) (xs : List A) (index : ℕ) (x : A) → slice_get xs index ≡ Some x → test x ≡ true → slice_get (places_from n test xs) (length (places_from n test (take index xs))) ≡ Some (n + index)
place_nth n test [] index x h passes = absurd (none-some x h)
place_nth n test (y ∷ ys) zero x h passes =
    let same : y ≡ x = same_Some y x h in
    let here : test y ≡ true = rw same passes in
    rw here (ap (λ (m : ℕ). Some m) (omega arith))
place_nth n test (y ∷ ys) (suc index) x h passes =
    let rest = place_nth (n + 1) test ys index x h passes in
    let end : n + 1 + index ≡ n + suc index = omega arith in
    ⊎_elim
    (λ (here : test y ≡ true). rw here (rest ∙ ap (λ (m : ℕ). Some m) end))
    (λ (fails : test y ≡ false). rw fails (rest ∙ ap (λ (m : ℕ). Some m) end))
    (cases_Bool (test y))

-- the places of a list that goes on begin with those of the list
pub places-append : {A : Type 0} (n : ℕ) (test : A → Bool) (xs ys : List A) (k p : ℕ) → slice_get (places_from n test xs) k ≡ Some p → slice_get (places_from n test (xs ++ ys)) k ≡ Some p
places-append n test [] ys k p h = absurd (none-some p h)
places-append n test (x ∷ xs) ys k p h =
    ⊎_elim
    (λ (here : test x ≡ true). rw here (append_first n test xs ys k p (λ j. places-append (n + 1) test xs ys j p) (rw here at h)))
    (λ (fails : test x ≡ false). rw fails (places-append (n + 1) test xs ys k p (rw fails at h)))
    (cases_Bool (test x))
  where
    append_first : {A : Type 0} (n : ℕ) (test : A → Bool) (xs ys : List A) (k p : ℕ) → ((k : ℕ) → slice_get (places_from (n + 1) test xs) k ≡ Some p → slice_get (places_from (n + 1) test (xs ++ ys)) k ≡ Some p) → slice_get (n ∷ places_from (n + 1) test xs) k ≡ Some p → slice_get (n ∷ places_from (n + 1) test (xs ++ ys)) k ≡ Some p
    append_first n test xs ys zero p rest h = h
    append_first n test xs ys (suc k) p rest h = rest k h

-- an element of a list that goes on
pub slice_get-front : {A : Type 0} (xs ys : List A) (i : ℕ) → i < length xs → slice_get (xs ++ ys) i ≡ slice_get xs i
slice_get-front [] ys i h = absurd (omega arith)
slice_get-front (x ∷ xs) ys zero h = refl
slice_get-front (x ∷ xs) ys (suc i) h = slice_get-front xs ys i (omega arith)

pub slice_get_there : {A : Type 0} (xs : List A) (i : ℕ) → i < length xs → (x : A) × (slice_get xs i ≡ Some x)
slice_get_there [] i within = absurd (omega arith)
slice_get_there (x ∷ xs) zero within = (x, refl)
slice_get_there (x ∷ xs) (suc i) within = slice_get_there xs i (omega arith)

-- places rise with their numbers
pub places_rise : {A : Type 0} (n : ℕ) (test : A → Bool) (xs : List A) (k k' p p' : ℕ) → k < k' → slice_get (places_from n test xs) k ≡ Some p → slice_get (places_from n test xs) k' ≡ Some p' → p < p'
places_rise n test [] k k' p p' less h h' = absurd (none-some p h)
places_rise n test (x ∷ xs) k k' p p' less h h' =
    ⊎_elim
    (λ (here : test x ≡ true). rise_first n test xs k k' p p' less (λ j j'. places_rise (n + 1) test xs j j' p p') (rw here at h) (rw here at h'))
    (λ (fails : test x ≡ false). places_rise (n + 1) test xs k k' p p' less (rw fails at h) (rw fails at h'))
    (cases_Bool (test x))
  where
    rise_first : {A : Type 0} (n : ℕ) (test : A → Bool) (xs : List A) (k k' p p' : ℕ) → k < k' → ((j j' : ℕ) → j < j' → slice_get (places_from (n + 1) test xs) j ≡ Some p → slice_get (places_from (n + 1) test xs) j' ≡ Some p' → p < p') → slice_get (n ∷ places_from (n + 1) test xs) k ≡ Some p → slice_get (n ∷ places_from (n + 1) test xs) k' ≡ Some p' → p < p'
    rise_first n test xs k zero p p' less rest h h' = absurd (omega arith)
    rise_first n test xs zero (suc k') p p' less rest h h' =
        let later = nth_place (n + 1) test xs k' p' h' in
        omega (arith, later.place, same_Some n p h)
    rise_first n test xs (suc k) (suc k') p p' less rest h h' = rest k k' (omega arith) h h'

-- a place that passes is counted among those before a later one
pub before_less : {A : Type 0} (n : ℕ) (test : A → Bool) (xs : List A) (i j : ℕ) (x : A) → i < j → slice_get xs i ≡ Some x → test x ≡ true → length (places_from n test (take i xs)) < length (places_from n test (take j xs))
before_less n test [] i j x less h passes = absurd (none-some x h)
before_less n test (y ∷ ys) i zero x less h passes = absurd (omega arith)
before_less n test (y ∷ ys) zero (suc j) x less h passes =
    let here : test y ≡ true = rw (same_Some y x h) passes in
    rw here (omega arith)
before_less n test (y ∷ ys) (suc i) (suc j) x less h passes =
    let rest = before_less (n + 1) test ys i j x (omega arith) h passes in
    ⊎_elim
    (λ (here : test y ≡ true). rw here (omega (arith, rest)))
    (λ (fails : test y ≡ false). rw fails rest)
    (cases_Bool (test y))
