-- Groups: distinct ranks of a run, some.
use Rattle.std.proofs.Common.{◌≡◌, ℕ, zero, suc, ◌+◌, ◌≤◌, ◌<◌, ◌==◌, not, true, false, List, [], ◌∷◌, length, filter, refl, ap, subst, arith, eq-eqb, inl, inr}
use Rattle.std.specs.Prelude.{nat_lt}
use Rattle.std.specs.List.{list_all, range_with_len}
use Rattle.std.proofs.lemmas.Bool.{cases_Bool, cases_eq, cases_lt, and_parts, or_parts, not-true, ltb-true, lt-ltb, ne_eqb}
use Rattle.journals.specs.Known.{is_among, are_distinct}

pub record IsGroupOf (ranks : ℕ) (group : List ℕ) : Type 0 where
  pub some : 1 ≤ length group
  pub once : are_distinct group ≡ true
  pub below : list_all (λ (rank : ℕ). nat_lt rank ranks) group ≡ true

-- ---- All but one number ----

abbrev but : ℕ → List ℕ → List ℕ
but number numbers = filter (λ (other : ℕ). not (other == number)) numbers

among_but : (rank number : ℕ) (numbers : List ℕ) → is_among rank numbers ≡ false → is_among rank (but number numbers) ≡ false
among_but rank number [] none = refl
among_but rank number (other ∷ numbers) none =
    let parts = or_parts (other == rank) (is_among rank numbers) none in
    elim (cases_Bool (other == number)) [
      | inl same ↦ rw same (among_but rank number numbers parts.1)
      | inr apart ↦ rw (apart, parts.0, among_but rank number numbers parts.1) refl
    ]

but_once : (number : ℕ) (numbers : List ℕ) → are_distinct numbers ≡ true → are_distinct (but number numbers) ≡ true
but_once number [] once = refl
but_once number (other ∷ numbers) once =
    let parts = and_parts (not (is_among other numbers)) (are_distinct numbers) once in
    elim (cases_Bool (other == number)) [
      | inl same ↦ rw same (but_once number numbers parts.1)
      | inr apart ↦ rw (apart, among_but other number numbers (not-true (is_among other numbers) parts.0), but_once number numbers parts.1) refl
    ]

-- the others of numbers up to one are below it
but_below : (n : ℕ) (numbers : List ℕ) → list_all (λ (k : ℕ). nat_lt k (suc n)) numbers ≡ true → list_all (λ (k : ℕ). nat_lt k n) (but n numbers) ≡ true
but_below n [] all = refl
but_below n (other ∷ numbers) all =
    let parts = and_parts (nat_lt other (suc n)) (list_all (λ (k : ℕ). nat_lt k (suc n)) numbers) all in
    elim (cases_eq other n) [
      | inl same ↦ rw (eq-eqb other n same) (but_below n numbers parts.1)
      | inr apart ↦ rw (ne_eqb other n apart, lt-ltb other n (lower other n apart (ltb-true other (suc n) parts.0)), but_below n numbers parts.1) refl
    ]
  where
    lower : (a b : ℕ) → (a ≡ b → ⊥) → a < suc b → a < b
    lower a b apart low =
        elim (cases_lt a b) [
          | inl below ↦ below
          | inr over ↦ absurd (apart (omega (arith, low, over)))
        ]

-- a number that isn't there leaves all
but_none : (number : ℕ) (numbers : List ℕ) → is_among number numbers ≡ false → but number numbers ≡ numbers
but_none number [] none = refl
but_none number (other ∷ numbers) none =
    let parts = or_parts (other == number) (is_among number numbers) none in
    rw parts.0 (ap (λ (all : List ℕ). other ∷ all) (but_none number numbers parts.1))

-- ---- What numbers cost ----

abbrev pub cost : (ℕ → ℕ) → List ℕ → ℕ
cost each [] = 0
cost each (number ∷ numbers) = each number + cost each numbers

unfoldable pub cost_below : (ℕ → ℕ) → ℕ → ℕ
cost_below each zero = 0
cost_below each (suc n) = each n + cost_below each n

but_cost : (each : ℕ → ℕ) (number : ℕ) (numbers : List ℕ) → are_distinct numbers ≡ true → cost each numbers ≤ each number + cost each (but number numbers)
but_cost each number [] once = omega arith
but_cost each number (other ∷ numbers) once =
    let parts = and_parts (not (is_among other numbers)) (are_distinct numbers) once in
    elim (cases_eq other number) [
      | inl same ↦ rw (eq-eqb other number same)
          (rw (but_none number numbers (subst (λ (k : ℕ). is_among k numbers ≡ false) same (not-true (is_among other numbers) parts.0)), same) (omega arith))
      | inr apart ↦ rw (ne_eqb other number apart) (let rest = but_cost each number numbers parts.1 in omega (arith, rest))
    ]

none_below : (numbers : List ℕ) → list_all (λ (k : ℕ). nat_lt k 0) numbers ≡ true → numbers ≡ []
none_below [] all = refl
none_below (number ∷ numbers) all =
    let low = ltb-true number 0 (and_parts (nat_lt number 0) (list_all (λ (k : ℕ). nat_lt k 0) numbers) all).0 in
    absurd (omega (arith, low))

-- distinct numbers below a bound cost no more than all numbers below it
pub few_cost : (each : ℕ → ℕ) (n : ℕ) (numbers : List ℕ) → are_distinct numbers ≡ true → list_all (λ (k : ℕ). nat_lt k n) numbers ≡ true → cost each numbers ≤ cost_below each n
unfolding cost_below
few_cost each zero numbers once all = rw (none_below numbers all) (omega arith)
few_cost each (suc n) numbers once all =
    let rest = few_cost each n (but n numbers) (but_once n numbers once) (but_below n numbers all) in
    let first = but_cost each n numbers once in
    omega (arith, rest, first)

cost_length : (numbers : List ℕ) → cost (λ (k : ℕ). 1) numbers ≡ length numbers
cost_length [] = refl
cost_length (number ∷ numbers) = let rest = cost_length numbers in omega (arith, rest)

ones_below : (n : ℕ) → cost_below (λ (k : ℕ). 1) n ≡ n
unfolding cost_below
ones_below zero = refl
ones_below (suc n) = let rest = ones_below n in omega (arith, rest)

-- a group has no more members than the run has ranks
pub few_members : (ranks : ℕ) (group : List ℕ) → IsGroupOf ranks group → length group ≤ ranks
few_members ranks group is =
    let few = few_cost (λ (k : ℕ). 1) ranks group is.once is.below in
    omega (arith, few, cost_length group, ones_below ranks)

-- ---- The world, and a rank alone ----

not_in_range : (rank first count : ℕ) → rank < first → is_among rank (range_with_len first count) ≡ false
not_in_range rank first zero low = refl
not_in_range rank first (suc count) low =
    rw (ne_eqb first rank (λ same. absurd (omega (arith, low, same))), not_in_range rank (first + 1) count (omega (arith, low))) refl

range_once : (first count : ℕ) → are_distinct (range_with_len first count) ≡ true
range_once first zero = refl
range_once first (suc count) = rw (not_in_range first (first + 1) count (omega arith), range_once (first + 1) count) refl

range_below : (first count bound : ℕ) → first + count ≤ bound → list_all (λ (k : ℕ). nat_lt k bound) (range_with_len first count) ≡ true
range_below first zero bound le = refl
range_below first (suc count) bound le =
    rw (lt-ltb first bound (omega (arith, le)), range_below (first + 1) count bound (omega (arith, le))) refl

range_some : (count : ℕ) → 1 ≤ count → 1 ≤ length (range_with_len 0 count)
range_some zero le = absurd (omega (arith, le))
range_some (suc count) le = omega arith

pub world_group : (ranks : ℕ) → 1 ≤ ranks → IsGroupOf ranks (range_with_len 0 ranks)
world_group ranks some = record { some = range_some ranks some; once = range_once 0 ranks; below = range_below 0 ranks ranks (omega arith) }

pub alone_group : (ranks rank : ℕ) → rank < ranks → IsGroupOf ranks (rank ∷ [])
alone_group ranks rank low = record { some = omega arith; once = refl; below = rw (lt-ltb rank ranks low) refl }
