-- The places of a list with one more element, and of a recording that begins.
use Rattle.std.proofs.Common.{◌≡◌, ℕ, zero, suc, ◌+◌, ◌≤◌, Bool, true, false, List, [], ◌∷◌, ◌++◌, length, replicate, refl, sym, ap, ◌∙◌, ⊎_elim, arith}
use Rattle.std.specs.Prelude.{if◌then◌else◌}
use Rattle.std.proofs.lemmas.Bool.{cases_Bool}
use Rattle.callstore.specs.Recordings.{calls_of}
use Rattle.callstore.specs.Places.{places_from, places}

-- the places of a list with one more element
pub places_push : {A : Type 0} (n : ℕ) (test : A → Bool) (xs : List A) (x : A) → test x ≡ true → places_from n test (xs ++ x ∷ []) ≡ places_from n test xs ++ (n + length xs) ∷ []
places_push n test [] x passes = rw passes (ap (λ (m : ℕ). m ∷ []) (omega arith))
places_push n test (y ∷ ys) x passes =
    let rest = places_push (n + 1) test ys x passes in
    let end : n + 1 + length ys ≡ n + suc (length ys) = omega arith in
    ⊎_elim
    (λ (here : test y ≡ true). rw here (ap (λ (ns : List ℕ). n ∷ ns) (rw end at rest)))
    (λ (fails : test y ≡ false). rw fails (rw end at rest))
    (cases_Bool (test y))

pub places_push_not : {A : Type 0} (n : ℕ) (test : A → Bool) (xs : List A) (x : A) → test x ≡ false → places_from n test (xs ++ x ∷ []) ≡ places_from n test xs
places_push_not n test [] x fails = rw fails refl
places_push_not n test (y ∷ ys) x fails_last =
    let rest = places_push_not (n + 1) test ys x fails_last in
    ⊎_elim
    (λ (here : test y ≡ true). rw here (ap (λ (ns : List ℕ). n ∷ ns) rest))
    (λ (fails : test y ≡ false). rw fails rest)
    (cases_Bool (test y))

-- what the places are where one more place comes, or none
abbrev pub with_place : Bool → List ℕ → ℕ → List ℕ
with_place comes ns place = if comes then ns ++ place ∷ [] else ns

pub places_on : {A : Type 0} (test : A → Bool) (xs : List A) (x : A) → places test (xs ++ x ∷ []) ≡ with_place (test x) (places test xs) (length xs)
places_on test xs x =
    ⊎_elim
    (λ (passes : test x ≡ true).
    let end : 0 + length xs ≡ length xs = omega arith in
    places_push 0 test xs x passes
    ∙ ap (λ (m : ℕ). places test xs ++ m ∷ []) end
    ∙ ap (λ b. with_place b (places test xs) (length xs)) (sym passes))
    (λ (fails : test x ≡ false).
    places_push_not 0 test xs x fails ∙ ap (λ b. with_place b (places test xs) (length xs)) (sym fails))
    (cases_Bool (test x))

-- no more places than elements
pub places_most : {A : Type 0} (n : ℕ) (test : A → Bool) (xs : List A) → length (places_from n test xs) ≤ length xs
places_most n test [] = omega arith
places_most n test (x ∷ xs) =
    let rest = places_most (n + 1) test xs in
    ⊎_elim
    (λ (here : test x ≡ true). rw here (omega (arith, rest)))
    (λ (fails : test x ≡ false). rw fails (omega (arith, rest)))
    (cases_Bool (test x))

-- no calls in a recording that begins
pub no_calls : (ranks rank : ℕ) → calls_of (replicate ranks []) rank ≡ []
no_calls zero rank = refl
no_calls (suc ranks) zero = refl
no_calls (suc ranks) (suc rank) = no_calls ranks rank
