-- The order of needs, and what adding a need does to a list that is in order.
use Rattle.std.proofs.Common.{◌≡◌, Bool, true, false, List, [], ◌∷◌, ◌++◌, refl, ◌∙◌, ⊎_elim, arith}
use Rattle.std.specs.Cmp.{IsStrictWeakOrder}
use Rattle.std.specs.List.{filter, list_all}
use Rattle.std.proofs.lemmas.Bool.{and_parts, cases_Bool}
use Rattle.std.proofs.lemmas.Bool.Decides.{nat_tests}
use Rattle.std.proofs.lemmas.List.Folds.{list_all-append}
use Rattle.moves.specs.declared.need.Need.{Need}
use Rattle.moves.specs.declared.need.Need.TheVariants.{At, Lacking}
use Rattle.waitgraph.specs.Stuck.{comes_before, with_need, are_needs_in_order}

pub before_asym : (a b : Need) → comes_before a b ≡ true → comes_before b a ≡ false
before_asym (At r p) (At r' p') h = grind (arith, nat_tests)
before_asym (At r p) (Lacking r') h = grind (arith, nat_tests)
before_asym (Lacking r) (At r' p') h = grind (arith, nat_tests)
before_asym (Lacking r) (Lacking r') h = grind (arith, nat_tests)

pub before_trans : (a b c : Need) → comes_before a b ≡ true → comes_before b c ≡ true → comes_before a c ≡ true
before_trans (At r p) (At r' p') (At r'' p'') h k = grind (arith, nat_tests)
before_trans (At r p) (At r' p') (Lacking r'') h k = grind (arith, nat_tests)
before_trans (At r p) (Lacking r') (At r'' p'') h k = grind (arith, nat_tests)
before_trans (At r p) (Lacking r') (Lacking r'') h k = grind (arith, nat_tests)
before_trans (Lacking r) (At r' p') (At r'' p'') h k = grind (arith, nat_tests)
before_trans (Lacking r) (At r' p') (Lacking r'') h k = grind (arith, nat_tests)
before_trans (Lacking r) (Lacking r') (At r'' p'') h k = grind (arith, nat_tests)
before_trans (Lacking r) (Lacking r') (Lacking r'') h k = grind (arith, nat_tests)

pub before_total : (a b : Need) → comes_before a b ≡ false → comes_before b a ≡ false → a ≡ b
before_total (At r p) (At r' p') h k = let e : r ≡ r' = grind (arith, nat_tests) in let f : p ≡ p' = grind (arith, nat_tests) in cc
before_total (At r p) (Lacking r') h k = absurd (grind (arith, nat_tests))
before_total (Lacking r) (At r' p') h k = absurd (grind (arith, nat_tests))
before_total (Lacking r) (Lacking r') h k = let e : r ≡ r' = grind (arith, nat_tests) in cc

before_chain : (a b c : Need) → comes_before a b ≡ false → comes_before b c ≡ false → comes_before a c ≡ false
before_chain (At r p) (At r' p') (At r'' p'') h k = grind (arith, nat_tests)
before_chain (At r p) (At r' p') (Lacking r'') h k = grind (arith, nat_tests)
before_chain (At r p) (Lacking r') (At r'' p'') h k = grind (arith, nat_tests)
before_chain (At r p) (Lacking r') (Lacking r'') h k = grind (arith, nat_tests)
before_chain (Lacking r) (At r' p') (At r'' p'') h k = grind (arith, nat_tests)
before_chain (Lacking r) (At r' p') (Lacking r'') h k = grind (arith, nat_tests)
before_chain (Lacking r) (Lacking r') (At r'' p'') h k = grind (arith, nat_tests)
before_chain (Lacking r) (Lacking r') (Lacking r'') h k = grind (arith, nat_tests)

-- so needs can be sorted
pub is_order : IsStrictWeakOrder comes_before
is_order = record { one_way = before_asym; chain = before_chain }

-- both of two tests
-- what comes after one that comes after the need
all_behind : (need x : Need) (xs : List Need) → comes_before need x ≡ true → list_all (comes_before x) xs ≡ true → list_all (comes_before need) xs ≡ true
all_behind need x [] h k = refl
all_behind need x (y ∷ ys) h k =
    let both = and_parts (comes_before x y) (list_all (comes_before x) ys) k in
    rw (before_trans need x y h both.0) (all_behind need x ys h both.1)

-- what all pass, those that are kept pass
kept_pass : (p q : Need → Bool) (xs : List Need) → list_all p xs ≡ true → list_all p (filter q xs) ≡ true
kept_pass p q [] h = refl
kept_pass p q (x ∷ xs) h =
    let both = and_parts (p x) (list_all p xs) h in
    ⊎_elim
    (λ (is : q x ≡ true). rw is (rw both.0 (kept_pass p q xs both.1)))
    (λ (is : q x ≡ false). rw is (kept_pass p q xs both.1))
    (cases_Bool (q x))

-- those that are kept pass
pub kept_are : (q : Need → Bool) (xs : List Need) → list_all q (filter q xs) ≡ true
kept_are q [] = refl
kept_are q (x ∷ xs) =
    ⊎_elim
    (λ (is : q x ≡ true). rw is (rw is (kept_are q xs)))
    (λ (is : q x ≡ false). rw is (kept_are q xs))
    (cases_Bool (q x))

pub kept_in_order : (q : Need → Bool) (xs : List Need) → are_needs_in_order xs ≡ true → are_needs_in_order (filter q xs) ≡ true
kept_in_order q [] h = refl
kept_in_order q (x ∷ xs) h =
    let both = and_parts (list_all (comes_before x) xs) (are_needs_in_order xs) h in
    ⊎_elim
    (λ (is : q x ≡ true). rw is (rw (kept_pass (comes_before x) q xs both.0) (kept_in_order q xs both.1)))
    (λ (is : q x ≡ false). rw is (kept_in_order q xs both.1))
    (cases_Bool (q x))

-- lists in order around the need
around : (need : Need) (xs ys : List Need) → are_needs_in_order xs ≡ true → list_all (λ other. comes_before other need) xs ≡ true → list_all (comes_before need) ys ≡ true → are_needs_in_order ys ≡ true → are_needs_in_order (xs ++ need ∷ ys) ≡ true
around need [] ys order before behind rest = rw behind rest
around need (x ∷ xs) ys order before behind rest =
    let both = and_parts (list_all (comes_before x) xs) (are_needs_in_order xs) order in
    let first = and_parts (comes_before x need) (list_all (λ other. comes_before other need) xs) before in
    let all : list_all (comes_before x) (xs ++ need ∷ ys) ≡ true =
    list_all-append (comes_before x) xs (need ∷ ys) ∙ rw (both.0, first.0) (all_behind x need ys first.0 behind) in
    rw all (around need xs ys both.1 first.1 behind rest)

pub stays_in_order : (xs : List Need) (need : Need) → are_needs_in_order xs ≡ true → are_needs_in_order (with_need xs need) ≡ true
stays_in_order xs need order =
    around need (filter (λ other. comes_before other need) xs) (filter (comes_before need) xs)
    (kept_in_order (λ other. comes_before other need) xs order)
    (kept_are (λ other. comes_before other need) xs)
    (kept_are (comes_before need) xs)
    (kept_in_order (comes_before need) xs order)
