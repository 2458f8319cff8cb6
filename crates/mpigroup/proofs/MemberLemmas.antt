-- Members that are read one by one, and what makes a group of them.
use Rattle.std.proofs.Common.{◌≡◌, ℕ, ◌<◌, ◌≤◌, Bool, true, false, ◌&&◌, cond, List, [], ◌∷◌, ◌++◌, length, map, eqb, ltb, sym, ◌∙◌, refl, arith, Err, append_assoc, inl, inr, ◌⊎◌, codes}
use Rattle.std.specs.List.{list_all, list_any, IsDistinct, AllByRecursion}
use Rattle.std.proofs.lemmas.Map.Keys.{IsDistinct-cons}
use Rattle.std.proofs.lemmas.Map.Steps.{length-le_from_distinct_below}
use Rattle.std.proofs.lemmas.Bool.{cases_Bool, or_cases, or_left, or_right, or_parts, or_from, and_from, and_left, and_right, and_parts, not_from_true, lt-ltb, le-ltb, ltb-true, eq-eqb, eqb-true}
use Rattle.std.proofs.lemmas.List.Folds.{list_all-append, list_any-append}
use Rattle.std.proofs.lemmas.Bool.Decides.{nat_tests}
use Rattle.mpicall.specs.Number.{is_canonical, value_of}
use Rattle.mpigroup.specs.HeadText.{has_twice, is_group, checked_group, group_of_fields}
use Rattle.mpigroup.specs.declared.fault.HeadFaultKind.TheVariants.{Group, CommLine}

-- the members of some numbers so far: ranks of the run, none twice
pub record AreMembers (ranks : ℕ) (all : List (List ℕ)) (group : List ℕ) (numbers : List (List ℕ)) : Type 0 where
  pub whole : group ++ map value_of numbers ≡ map value_of all
  pub below : list_all (λ member. ltb member ranks) group ≡ true
  pub once : has_twice group ≡ false
  pub canonical : list_all is_canonical numbers ≡ list_all is_canonical all

-- a number that is in a front and again after it is there twice
has_twice-found : (xs : List ℕ) (x : ℕ) (ys : List ℕ) → list_any (λ y. eqb y x) xs ≡ true → has_twice (xs ++ x ∷ ys) ≡ true
has_twice-found [] x ys found = cc
has_twice-found (y ∷ xs) x ys found = elim (or_cases (eqb y x) (list_any (λ z. eqb z x) xs) found) [
  | inl same ↦
      let e : eqb x y ≡ true = eq-eqb x y (sym (eqb-true y x same)) in
      or_left _ _ (list_any-append (λ z. eqb z y) xs (x ∷ ys) ∙ or_right _ _ (or_left _ _ e))
  | inr behind ↦ or_right (list_any (λ z. eqb z y) (xs ++ x ∷ ys)) _ (has_twice-found xs x ys behind)
]

-- one more number, which isn't there yet
has_twice-push : (xs : List ℕ) (x : ℕ) → has_twice xs ≡ false → list_any (λ y. eqb y x) xs ≡ false → has_twice (xs ++ x ∷ []) ≡ false
has_twice-push [] x once new = refl
has_twice-push (y ∷ xs) x once new =
    let parts = or_parts (list_any (λ z. eqb z y) xs) (has_twice xs) once in
    let news = or_parts (eqb y x) (list_any (λ z. eqb z x) xs) new in
    let other : eqb x y ≡ false = grind (arith, nat_tests) in
    or_from _ _ (list_any-append (λ z. eqb z y) xs (x ∷ []) ∙ or_from _ _ parts.0 (or_from _ _ other refl)) (has_twice-push xs x parts.1 news.1)

-- a new rank of the run, which one more number names
pub AreMembers-push : (ranks : ℕ) (all : List (List ℕ)) (group number : List ℕ) (numbers : List (List ℕ)) (m : ℕ) → AreMembers ranks all group (number ∷ numbers) → is_canonical number ≡ true → m ≡ value_of number → m < ranks → list_any (λ y. eqb y m) group ≡ false → AreMembers ranks all (group ++ m ∷ []) numbers
AreMembers-push ranks all group number numbers m so_far form is below new = record {
  whole = append_assoc group (m ∷ []) (map value_of numbers) ∙ rw is so_far.whole;
  below = list_all-append (λ member. ltb member ranks) group (m ∷ []) ∙ and_from _ _ so_far.below (and_from _ _ (lt-ltb m ranks below) refl);
  once = has_twice-push group m so_far.once new;
  canonical = rw form at so_far.canonical;
}

-- a rank that the run hasn't
above : (ranks : ℕ) (all : List (List ℕ)) (group number : List ℕ) (numbers : List (List ℕ)) → AreMembers ranks all group (number ∷ numbers) → ranks ≤ value_of number → checked_group ranks (map value_of all) ≡ Err Group
above ranks all group number numbers so_far h =
    let p : ℕ → Bool = λ member. ltb member ranks in
    let some : list_all p (group ++ value_of number ∷ map value_of numbers) ≡ false =
    list_all-append p group (value_of number ∷ map value_of numbers) ∙ and_right _ _ (and_left _ _ (le-ltb (value_of number) ranks h)) in
    let below : list_all p (map value_of all) ≡ false = rw so_far.whole at some in
    let bad : is_group ranks (map value_of all) ≡ false = and_left _ _ (and_right _ _ below) in
    rw bad refl

-- a rank that is there already
twice : (ranks : ℕ) (all : List (List ℕ)) (group number : List ℕ) (numbers : List (List ℕ)) → AreMembers ranks all group (number ∷ numbers) → list_any (λ y. eqb y (value_of number)) group ≡ true → checked_group ranks (map value_of all) ≡ Err Group
twice ranks all group number numbers so_far found =
    let some : has_twice (group ++ value_of number ∷ map value_of numbers) ≡ true = has_twice-found group (value_of number) (map value_of numbers) found in
    let again : has_twice (map value_of all) ≡ true = rw so_far.whole at some in
    let bad : is_group ranks (map value_of all) ≡ false = and_right _ _ (not_from_true _ again) in
    rw bad refl

-- a number that names no new member, by the forms of the numbers from it on
pub fault_of_rest : (ranks : ℕ) (all : List (List ℕ)) (group number : List ℕ) (numbers : List (List ℕ)) → AreMembers ranks all group (number ∷ numbers) → (is_canonical number ≡ true → (ranks ≤ value_of number) ⊎ (list_any (λ y. eqb y (value_of number)) group ≡ true)) → group_of_fields ranks (codes "comm" ∷ all) ≡ Err (cond (is_canonical number && list_all is_canonical numbers) Group CommLine)
fault_of_rest ranks all group number numbers so_far refused = elim (cases_Bool (is_canonical number && list_all is_canonical numbers)) [
  | inl holds ↦
      let forms : list_all is_canonical all ≡ true = sym so_far.canonical ∙ holds in
      let bad : checked_group ranks (map value_of all) ≡ Err Group = elim (refused (and_parts _ _ holds).0) [
        | inl past ↦ above ranks all group number numbers so_far past
        | inr there ↦ twice ranks all group number numbers so_far there
      ] in
      rw (holds, forms) bad
  | inr fails ↦ let forms : list_all is_canonical all ≡ false = sym so_far.canonical ∙ fails in rw (fails, forms) refl
]

-- there are no more of them than the run has ranks
apart : (x : ℕ) (xs : List ℕ) → list_any (λ y. eqb y x) xs ≡ false → AllByRecursion (λ y. eqb x y ≡ false) xs
apart x [] none = tt
apart x (y ∷ xs) none =
    let parts = or_parts (eqb y x) (list_any (λ z. eqb z x) xs) none in
    (grind (arith, nat_tests), apart x xs parts.1)

pub distinct : (xs : List ℕ) → has_twice xs ≡ false → IsDistinct eqb xs
unfolding IsDistinct
distinct [] once = tt
distinct (x ∷ xs) once =
    let parts = or_parts (list_any (λ y. eqb y x) xs) (has_twice xs) once in
    IsDistinct-cons eqb x xs (apart x xs parts.0) (distinct xs parts.1)

below : (n : ℕ) (xs : List ℕ) (q : ℕ) → list_all (λ m. ltb m n) xs ≡ true → list_any (eqb q) xs ≡ true → q < n
below n [] q all some = absurd cc
below n (x ∷ xs) q all some =
    let parts = and_parts (ltb x n) (list_all (λ m. ltb m n) xs) all in
    elim (or_cases (eqb q x) (list_any (eqb q) xs) some) [
      | inl here ↦ omega (arith, eqb-true q x here, ltb-true x n parts.0)
      | inr there ↦ below n xs q parts.1 there
    ]

pub few_members : (ranks : ℕ) (all : List (List ℕ)) (group : List ℕ) (numbers : List (List ℕ)) → AreMembers ranks all group numbers → length group ≤ ranks
few_members ranks all group numbers so_far = length-le_from_distinct_below group ranks (distinct group so_far.once) (λ q some. below ranks group q so_far.below some)
