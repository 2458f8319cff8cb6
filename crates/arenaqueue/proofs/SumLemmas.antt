-- Sums over the first numbers, and how long lists are whose numbers are few.
use Rattle.std.proofs.Common.{◌≡◌, ℕ, zero, suc, ◌+◌, ◌<◌, ◌≤◌, ◌≢◌, List, [], ◌∷◌, length, refl, ⊎_elim, arith}
use Rattle.std.proofs.lemmas.Bool.{cases_eq}
use Rattle.arenaqueue.specs.Numbers.{sum_to}
use Rattle.arenaqueue.specs.inner.Numbers.{count}
use Rattle.arenaqueue.proofs.NumberLemmas.{count_one, count_other}

pub sum_least : (n : ℕ) (f g : ℕ → ℕ) → ((k : ℕ) → k < n → f k ≤ g k) → sum_to n f ≤ sum_to n g
sum_least zero f g h = omega arith
sum_least (suc n) f g h = omega (arith, h n (omega arith), sum_least n f g (λ k l. h k (omega arith)))

pub sum_both : (n : ℕ) (f g h : ℕ → ℕ) → ((k : ℕ) → h k ≡ f k + g k) → sum_to n h ≡ sum_to n f + sum_to n g
sum_both zero f g h e = omega arith
sum_both (suc n) f g h e = omega (arith, sum_both n f g h e, e n)

pub sum_zero : (n : ℕ) (f : ℕ → ℕ) → ((k : ℕ) → k < n → f k ≡ 0) → sum_to n f ≡ 0
sum_zero zero f e = refl
sum_zero (suc n) f e = omega (arith, sum_zero n f (λ k l. e k (omega arith)), e n (omega arith))

pub sum_most : (n : ℕ) (f : ℕ → ℕ) → ((k : ℕ) → f k ≤ 1) → sum_to n f ≤ n
sum_most zero f h = omega arith
sum_most (suc n) f h = omega (arith, sum_most n f h, h n)

sum_one : (n x : ℕ) → x < n → sum_to n (λ k. count k (x ∷ [])) ≡ 1
sum_one zero x h = absurd (omega arith)
sum_one (suc n) x h =
    ⊎_elim
    (λ (e : n ≡ x).
    let here : count n (x ∷ []) ≡ 1 = rw e (count_one x) in
    omega (arith, sum_zero n (λ k. count k (x ∷ [])) (λ k l. count_other k x (λ f. omega arith))))
    (λ (e : n ≢ x). omega (arith, count_other n x e, sum_one n x (omega arith)))
    (cases_eq n x)

-- each number of a list counts once
pub sum_count : (n : ℕ) (xs : List ℕ) → ((r : ℕ) → 0 < count r xs → r < n) → sum_to n (λ k. count k xs) ≡ length xs
sum_count n [] h = sum_zero n (λ k. 0) (λ k l. refl)
sum_count n (x ∷ xs) h =
    omega (arith, sum_both n (λ k. count k (x ∷ [])) (λ k. count k xs) (λ k. count k (x ∷ xs)) (λ k. omega arith), sum_one n x (h x (omega (arith, count_one x))), sum_count n xs (λ r l. h r (omega (arith, l))))

-- so a list is no longer than there are numbers, where each is in it once at most
pub length_most : (n : ℕ) (xs : List ℕ) → ((r : ℕ) → 0 < count r xs → r < n) → ((r : ℕ) → count r xs ≤ 1) → length xs ≤ n
length_most n xs within once = omega (arith, sum_count n xs within, sum_most n (λ k. count k xs) once)
