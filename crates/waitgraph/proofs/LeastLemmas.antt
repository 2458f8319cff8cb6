-- The rounds of a rule end at its least set.
use Rattle.std.proofs.Common.{◌≡◌, ◌⊎◌, ℕ, zero, suc, ◌+◌, ◌<◌, ◌≤◌, ◌≢◌, Bool, true, false, refl, sym, subst, ◌∙◌, ⊎_elim, arith}
use mathlib.Core.Logic.{inl, inr}
use Rattle.std.proofs.lemmas.Bool.{cases_eq, cases_Bool, false≢true}
use Rattle.waitgraph.specs.inner.Loose.{size}
use Rattle.waitgraph.specs.Held.{Set}
use Rattle.waitgraph.specs.inner.Least.{SetRule, after_rounds, IsWithin, IsClosedUnder, IsRising, MakesBelow, RoundsGiveTheLeastSet}

-- each round keeps what was made
one_more : (rule : SetRule) → IsRising rule → (rounds : ℕ) → IsWithin (after_rounds rule rounds) (after_rounds rule (suc rounds))
one_more rule rising zero rank h = absurd (false≢true h)
one_more rule rising (suc rounds) rank h = rising (after_rounds rule rounds) (after_rounds rule (suc rounds)) (one_more rule rising rounds) rank h

-- how many of the first numbers pass
pub size_most : (f : ℕ → Bool) (n : ℕ) → size f n ≤ n
size_most f zero = omega arith
size_most f (suc n) =
    ⊎_elim
    (λ (e : f n ≡ true). rw e (omega (arith, size_most f n)))
    (λ (e : f n ≡ false). rw e (omega (arith, size_most f n)))
    (cases_Bool (f n))

size_full : (f : ℕ → Bool) (n : ℕ) → f n ≡ true → size f (suc n) ≡ size f n + 1
size_full f n e = rw e refl

size_empty : (f : ℕ → Bool) (n : ℕ) → f n ≡ false → size f (suc n) ≡ size f n
size_empty f n e = rw e refl

-- where all pass
size_all : (f : ℕ → Bool) (n : ℕ) → n ≤ size f n → (k : ℕ) → k < n → f k ≡ true
size_all f zero h k less = absurd (omega arith)
size_all f (suc n) h k less =
    ⊎_elim
    (λ (e : f n ≡ true).
    let before : n ≤ size f n = omega (arith, size_full f n e, h) in
    ⊎_elim
    (λ (same : k ≡ n). rw same e)
    (λ (other : k ≢ n). size_all f n before k (omega arith))
    (cases_eq k n))
    (λ (e : f n ≡ false). absurd (omega (arith, size_empty f n e, h, size_most f n)))
    (cases_Bool (f n))

-- a larger set is the same, or has more
pub grows : (f g : ℕ → Bool) (n : ℕ) → ((k : ℕ) → f k ≡ true → g k ≡ true) → (((k : ℕ) → k < n → g k ≡ true → f k ≡ true) × (size f n ≤ size g n)) ⊎ (size f n < size g n)
grows f g zero more = inl (λ k less h. absurd (omega arith), omega arith)
grows f g (suc n) more =
    ⊎_elim
    (λ (ef : f n ≡ true).
    let eg : g n ≡ true = more n ef in
    rw (ef, eg)
    (⊎_elim
    (λ same. inl (λ k less h. ⊎_elim (λ (e : k ≡ n). rw e ef) (λ (o : k ≢ n). same.0 k (omega arith) h) (cases_eq k n), omega (arith, same.1)))
    (λ less. inr (omega (arith, less)))
    (grows f g n more)))
    (λ (ef : f n ≡ false).
    ⊎_elim
    (λ (eg : g n ≡ true). rw (ef, eg) (inr (⊎_elim (λ same. omega (arith, same.1)) (λ less. omega (arith, less)) (grows f g n more))))
    (λ (eg : g n ≡ false).
    rw (ef, eg)
    (⊎_elim
    (λ same. inl (λ k less h. ⊎_elim (λ (e : k ≡ n). absurd (false≢true (sym eg ∙ subst (λ (m : ℕ). g m ≡ true) e h))) (λ (o : k ≢ n). same.0 k (omega arith) h) (cases_eq k n), same.1))
    (λ less. inr less)
    (grows f g n more)))
    (cases_Bool (g n)))
    (cases_Bool (f n))

-- after some rounds nothing more is made, or as many ranks are in as there were rounds
settles : (rule : SetRule) (ranks : ℕ) → IsRising rule → MakesBelow ranks rule → (rounds : ℕ) → IsClosedUnder rule (after_rounds rule rounds) ⊎ (rounds ≤ size (after_rounds rule rounds) ranks)
settles rule ranks rising below zero = inr (omega arith)
settles rule ranks rising below (suc rounds) =
    ⊎_elim
    (λ closed. inl (rising (after_rounds rule (suc rounds)) (after_rounds rule rounds) closed))
    (λ many.
    ⊎_elim
    (λ same. inl (rising (after_rounds rule (suc rounds)) (after_rounds rule rounds) (λ rank h. same.0 rank (below (after_rounds rule rounds) rank h) h)))
    (λ less. inr (omega (arith, less, many)))
    (grows (after_rounds rule rounds) (after_rounds rule (suc rounds)) ranks (one_more rule rising rounds)))
    (settles rule ranks rising below rounds)

pub in_each : (rule : SetRule) → IsRising rule → (set : Set) → IsClosedUnder rule set → (rounds : ℕ) → IsWithin (after_rounds rule rounds) set
in_each rule rising set closed zero rank h = absurd (false≢true h)
in_each rule rising set closed (suc rounds) rank h = closed rank (rising (after_rounds rule rounds) set (in_each rule rising set closed rounds) rank h)

pub rounds_give_the_least_set : RoundsGiveTheLeastSet
rounds_give_the_least_set rule ranks rising below = (
  λ rank h.
      ⊎_elim
      (λ closed. closed rank h)
      (λ many. size_all (after_rounds rule ranks) ranks many rank (below (after_rounds rule ranks) rank h))
      (settles rule ranks rising below ranks),
  λ set closed. in_each rule rising set closed ranks,
)
