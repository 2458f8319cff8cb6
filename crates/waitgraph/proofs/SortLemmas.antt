-- What a sort leaves of needs, and then each once: they are in order, and no list in order has the same needs.
use Rattle.std.proofs.Common.{inl, inr, ◌≡◌, suc, ◌+◌, ◌⊎◌, Bool, true, false, Some, List, [], ◌∷◌, refl, sym, ap, subst, ◌∙◌, arith}
use Rattle.std.specs.List.{dedup, dedup_from, list_all}
use Rattle.std.specs.List.Sorted.{IsPermutation, IsSortedBy}
use Rattle.std.proofs.lemmas.Bool.{and_parts, cases_Bool, false≢true}
use Rattle.std.proofs.lemmas.List.Sorted.{Contains-permutation, IsPermutation-sym}
use Rattle.std.proofs.lemmas.Option.{slice_get_within, slice_get-get_or, get_or_from_slice_get}
use Rattle.std.proofs.lemmas.Bool.Decides.{nat_tests}
use Rattle.moves.specs.declared.need.Need.{Need}
use Rattle.moves.specs.declared.need.Need.TheVariants.{At, Lacking}
use Rattle.moves.specs.contracts.need.NeedPartialEq.TheImpl as need_eq
use Rattle.waitgraph.specs.Stuck.{comes_before, needs_in_order, are_needs_in_order}
use Rattle.waitgraph.proofs.OrderLemmas.{before_asym, before_trans, before_total}
use Rattle.waitgraph.proofs.AmongLemmas.{Among, among_in, in_among, among_all, with_needs_from, with_needs_new, with_needs_in_order}

-- a test that holds of a need and itself alone
pub record IsSame (same : Need → Need → Bool) : Type 0 where
  pub own : (need : Need) → same need need ≡ true
  pub exact : (need other : Need) → same need other ≡ true → need ≡ other

sorted_rest : (x : Need) (xs : List Need) → IsSortedBy comes_before (x ∷ xs) → IsSortedBy comes_before xs
sorted_rest x xs h k d low high =
    let next : suc k + 1 ≡ suc (k + 1) = omega arith in
    rw next at (h (suc k) d (omega arith) (omega (arith, high)))

-- without the second, which is the first one again
sorted_once : (x y : Need) (ys : List Need) → y ≡ x → IsSortedBy comes_before (x ∷ y ∷ ys) → IsSortedBy comes_before (x ∷ ys)
sorted_once x y ys alike h = subst (λ (z : Need). IsSortedBy comes_before (z ∷ ys)) alike (sorted_rest x (y ∷ ys) h)

-- of two neighbours that differ the first comes before the second
steps_on : (same : Need → Need → Bool) → IsSame same → (x y : Need) (ys : List Need) → same y x ≡ false → IsSortedBy comes_before (x ∷ y ∷ ys) → comes_before x y ≡ true
steps_on same is x y ys apart h =
    elim (cases_Bool (comes_before x y)) [
      | inl before ↦ before
      | inr not_before ↦
          let alike : x ≡ y = before_total x y not_before (h 0 x (omega arith) (omega arith)) in
          absurd (false≢true (sym apart ∙ ap (λ (z : Need). same z x) (sym alike) ∙ is.own x))
    ]

before_all : (same : Need → Need → Bool) → IsSame same → (z x : Need) (xs : List Need) → comes_before z x ≡ true → IsSortedBy comes_before (x ∷ xs) → list_all (comes_before z) (dedup_from same x xs) ≡ true
before_all same is z x [] before h = rw before refl
before_all same is z x (y ∷ ys) before h =
    elim (cases_Bool (same y x)) [
      | inl alike ↦ rw alike (before_all same is z x ys before (sorted_once x y ys (is.exact y x alike) h))
      | inr apart ↦
          rw (apart, before)
          (before_all same is z y ys (before_trans z x y before (steps_on same is x y ys apart h)) (sorted_rest x (y ∷ ys) h))
    ]

once_in_order : (same : Need → Need → Bool) → IsSame same → (x : Need) (xs : List Need) → IsSortedBy comes_before (x ∷ xs) → are_needs_in_order (dedup_from same x xs) ≡ true
once_in_order same is x [] h = refl
once_in_order same is x (y ∷ ys) h =
    elim (cases_Bool (same y x)) [
      | inl alike ↦ rw alike (once_in_order same is x ys (sorted_once x y ys (is.exact y x alike) h))
      | inr apart ↦
          rw (apart, before_all same is x y ys (steps_on same is x y ys apart h) (sorted_rest x (y ∷ ys) h))
          (once_in_order same is y ys (sorted_rest x (y ∷ ys) h))
    ]

among_once : (same : Need → Need → Bool) → IsSame same → (need x : Need) (xs : List Need) → Among need (x ∷ xs) → Among need (dedup_from same x xs)
among_once same is need x [] h = h
among_once same is need x (y ∷ ys) h =
    elim (cases_Bool (same y x)) [
      | inl alike ↦ rw alike (among_once same is need x ys (kept need x y ys (is.exact y x alike) h))
      | inr apart ↦ rw apart (behind same need x y ys (λ there. among_once same is need y ys there) h)
    ]
  where
    kept : (need x y : Need) (ys : List Need) → y ≡ x → Among need (x ∷ y ∷ ys) → Among need (x ∷ ys)
    kept need x y ys alike (inl e) = inl e
    kept need x y ys alike (inr (inl e)) = inl (sym alike ∙ e)
    kept need x y ys alike (inr (inr h)) = inr h

    behind : (same : Need → Need → Bool) (need x y : Need) (ys : List Need) → (Among need (y ∷ ys) → Among need (dedup_from same y ys)) → Among need (x ∷ y ∷ ys) → Among need (x ∷ dedup_from same y ys)
    behind same need x y ys later (inl e) = inl e
    behind same need x y ys later (inr h) = inr (later h)

once_among : (same : Need → Need → Bool) (need x : Need) (xs : List Need) → Among need (dedup_from same x xs) → Among need (x ∷ xs)
once_among same need x [] h = h
once_among same need x (y ∷ ys) h =
    elim (cases_Bool (same y x)) [
      | inl alike ↦ first need x y ys (once_among same need x ys (rw alike at h))
      | inr apart ↦ behind same need x y ys (λ there. once_among same need y ys there) (rw apart at h)
    ]
  where
    first : (need x y : Need) (ys : List Need) → Among need (x ∷ ys) → Among need (x ∷ y ∷ ys)
    first need x y ys (inl e) = inl e
    first need x y ys (inr h) = inr (inr h)

    behind : (same : Need → Need → Bool) (need x y : Need) (ys : List Need) → (Among need (dedup_from same y ys) → Among need (y ∷ ys)) → Among need (x ∷ dedup_from same y ys) → Among need (x ∷ y ∷ ys)
    behind same need x y ys later (inl e) = inl e
    behind same need x y ys later (inr h) = inr (later h)

-- a need doesn't come before itself
never_before : (x : Need) → comes_before x x ≡ true → ⊥
never_before x h = false≢true (sym (before_asym x x h) ∙ h)

-- the first of two lists in order with the same needs
same_first : (x y : Need) (xs ys : List Need) → list_all (comes_before x) xs ≡ true → list_all (comes_before y) ys ≡ true → Among x (y ∷ ys) → Among y (x ∷ xs) → x ≡ y
same_first x y xs ys before other (inl e) there = sym e
same_first x y xs ys before other (inr h) (inl e) = e
same_first x y xs ys before other (inr h) (inr k) =
    absurd (false≢true (sym (before_asym y x (among_all x (comes_before y) ys h other)) ∙ among_all y (comes_before x) xs k before))

-- what follows the first of one list follows that of the other
same_rest : (need x y : Need) (xs ys : List Need) → x ≡ y → list_all (comes_before x) xs ≡ true → Among need xs → Among need (y ∷ ys) → Among need ys
same_rest need x y xs ys first before h (inl e) =
    absurd (never_before x (subst (λ (z : Need). comes_before x z ≡ true) (sym (first ∙ e)) (among_all need (comes_before x) xs h before)))
same_rest need x y xs ys first before h (inr k) = k

-- lists in order with the same needs are the same
pub same_in_order : (xs ys : List Need) → are_needs_in_order xs ≡ true → are_needs_in_order ys ≡ true → ((need : Need) → Among need xs → Among need ys) → ((need : Need) → Among need ys → Among need xs) → xs ≡ ys
same_in_order [] [] order other to from = refl
same_in_order [] (y ∷ ys) order other to from = absurd (from y (inl refl))
same_in_order (x ∷ xs) [] order other to from = absurd (to x (inl refl))
same_in_order (x ∷ xs) (y ∷ ys) order other to from =
    let one = and_parts (list_all (comes_before x) xs) (are_needs_in_order xs) order in
    let two = and_parts (list_all (comes_before y) ys) (are_needs_in_order ys) other in
    let first : x ≡ y = same_first x y xs ys one.0 two.0 (to x (inl refl)) (from y (inl refl)) in
    let rest : xs ≡ ys =
    same_in_order xs ys one.1 two.1
    (λ need h. same_rest need x y xs ys first one.0 h (to need (inr h)))
    (λ need h. same_rest need y x ys xs (sym first) two.0 h (from need (inr h))) in
    ap (λ (z : Need). z ∷ xs) first ∙ ap (λ (zs : List Need). y ∷ zs) rest

-- a sort moves needs
among_moved : (need : Need) (xs ys : List Need) → IsPermutation xs ys → Among need xs → Among need ys
among_moved need xs ys moved h =
    let there = among_in need xs h in
    let found = Contains-permutation xs ys need moved (there.0, slice_get_within xs there.0 need there.1, get_or_from_slice_get xs there.0 need need there.1) in
    in_among need ys (found.0, slice_get-get_or ys found.0 need found.1 ∙ ap (λ (z : Need). Some z) found.2)

-- needs that were sorted, each once
pub sorted_once_is : (same : Need → Need → Bool) → IsSame same → (xs ys : List Need) → IsPermutation xs ys → IsSortedBy comes_before ys → dedup same ys ≡ needs_in_order xs
sorted_once_is same is xs ys moved sorted =
    same_in_order (dedup same ys) (needs_in_order xs) (in_order_of ys sorted) (with_needs_in_order [] xs refl)
    (λ need h. with_needs_new need [] xs (among_moved need ys xs (IsPermutation-sym xs ys moved) (from_once need ys h)))
    (λ need h. to_once need ys (among_moved need xs ys moved (from_none need xs (with_needs_from need [] xs h))))
  where
    in_order_of : (ys : List Need) → IsSortedBy comes_before ys → are_needs_in_order (dedup same ys) ≡ true
    in_order_of [] sorted = refl
    in_order_of (y ∷ ys) sorted = once_in_order same is y ys sorted

    from_once : (need : Need) (ys : List Need) → Among need (dedup same ys) → Among need ys
    from_once need [] h = h
    from_once need (y ∷ ys) h = once_among same need y ys h

    to_once : (need : Need) (ys : List Need) → Among need ys → Among need (dedup same ys)
    to_once need [] h = h
    to_once need (y ∷ ys) h = among_once same is need y ys h

    from_none : (need : Need) (xs : List Need) → Among need [] ⊎ Among need xs → Among need xs
    from_none need xs (inl none) = absurd none
    from_none need xs (inr h) = h

-- two needs are the same
abbrev pub is_same_need : Need → Need → Bool
is_same_need = (need_eq.ghosts).eq

pub same_need : IsSame is_same_need
same_need = record { own = own; exact = exact }
  where
    own : (need : Need) → is_same_need need need ≡ true
    own (At r p) = grind (arith, nat_tests)
    own (Lacking r) = grind (arith, nat_tests)

    exact : (need other : Need) → is_same_need need other ≡ true → need ≡ other
    exact (At r p) (At r' p') h = let e : r ≡ r' = grind (arith, nat_tests) in let f : p ≡ p' = grind (arith, nat_tests) in cc
    exact (At r p) (Lacking r') h = absurd (grind (arith, nat_tests))
    exact (Lacking r) (At r' p') h = absurd (grind (arith, nat_tests))
    exact (Lacking r) (Lacking r') h = let e : r ≡ r' = grind (arith, nat_tests) in cc
