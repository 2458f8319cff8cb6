-- Which needs stand in a list.
use Rattle.std.proofs.Common.{inl, inr, ◌≡◌, ◌≢◌, ℕ, zero, suc, ◌+◌, ◌<◌, ◌≤◌, ◌⊎◌, Bool, true, false, Option, Some, None, List, [], ◌∷◌, ◌++◌, refl, sym, ap, subst, ◌∙◌, ⊎_elim, arith}
use Rattle.std.specs.List.{slice_get, filter, filter_map, cons_option, list_all, range_with_len}
use Rattle.std.proofs.lemmas.Option.{none-some, same_Some}
use Rattle.std.proofs.lemmas.Bool.{and_parts, cases_Bool, cases_eq, false≢true}
use Rattle.moves.specs.declared.need.Need.{Need}
use Rattle.waitgraph.specs.Stuck.{comes_before, with_need, are_needs_in_order}
use Rattle.waitgraph.specs.inner.Stuck.{with_needs}
use Rattle.waitgraph.proofs.OrderLemmas.{before_total, stays_in_order}

-- the need is one of the list
abbrev pub Among : {A : Type 0} → A → List A → Type 0
Among x [] = ⊥
Among x (first ∷ rest) = (first ≡ x) ⊎ Among x rest

pub among_in : {A : Type 0} (x : A) (xs : List A) → Among x xs → (index : ℕ) × (slice_get xs index ≡ Some x)
among_in x [] h = absurd h
among_in {A} x (y ∷ ys) (inl e) = (0, ap (λ (z : A). Some z) e)
among_in x (y ∷ ys) (inr h) = let later = among_in x ys h in (suc later.0, later.1)

in_among_at : {A : Type 0} (x : A) (xs : List A) (index : ℕ) → slice_get xs index ≡ Some x → Among x xs
in_among_at x [] index h = absurd (none-some x h)
in_among_at x (y ∷ ys) zero h = inl (same_Some y x h)
in_among_at x (y ∷ ys) (suc index) h = inr (in_among_at x ys index h)

pub in_among : {A : Type 0} (x : A) (xs : List A) → ((index : ℕ) × (slice_get xs index ≡ Some x)) → Among x xs
in_among x xs h = in_among_at x xs h.0 h.1

pub among_left : {A : Type 0} (x : A) (xs ys : List A) → Among x xs → Among x (xs ++ ys)
among_left x [] ys h = absurd h
among_left x (y ∷ more) ys (inl e) = inl e
among_left x (y ∷ more) ys (inr h) = inr (among_left x more ys h)

pub among_right : {A : Type 0} (x : A) (xs ys : List A) → Among x ys → Among x (xs ++ ys)
among_right x [] ys h = h
among_right x (y ∷ more) ys h = inr (among_right x more ys h)

pub among_both : {A : Type 0} (x : A) (xs ys : List A) → Among x (xs ++ ys) → Among x xs ⊎ Among x ys
among_both x [] ys h = inr h
among_both x (y ∷ more) ys (inl e) = inl (inl e)
among_both x (y ∷ more) ys (inr h) =
    ⊎_elim (λ (left : Among x more). inl (inr left)) (λ (right : Among x ys). inr right) (among_both x more ys h)

-- what is given stands for an element of the list
pub among_given : {A B : Type 0} (y : B) (h : A → Option B) (xs : List A) → Among y (filter_map h xs) → (x : A) × Among x xs × (h x ≡ Some y)
among_given y h [] there = absurd there
among_given {A} {B} y h (x ∷ xs) there =
    by_first y h x xs (h x) refl (λ rest. among_given y h xs rest) there
  where
    by_first : {A B : Type 0} (y : B) (h : A → Option B) (x : A) (xs : List A) (o : Option B) → h x ≡ o → (Among y (filter_map h xs) → (x : A) × Among x xs × (h x ≡ Some y)) → Among y (cons_option o (filter_map h xs)) → (z : A) × Among z (x ∷ xs) × (h z ≡ Some y)
    by_first y h x xs None is later there = let rest = later there in (rest.0, inr rest.1, rest.2)
    by_first {A} {B} y h x xs (Some z) is later (inl e) = (x, inl refl, is ∙ ap (λ (w : B). Some w) e)
    by_first y h x xs (Some z) is later (inr there) = let rest = later there in (rest.0, inr rest.1, rest.2)

pub given_among : {A B : Type 0} (x : A) (y : B) (h : A → Option B) (xs : List A) → Among x xs → h x ≡ Some y → Among y (filter_map h xs)
given_among x y h [] there is = absurd there
given_among {A} {B} x y h (z ∷ zs) (inl e) is =
    let here : h z ≡ Some y = ap h e ∙ is in
    rw here (inl refl)
given_among {A} {B} x y h (z ∷ zs) (inr there) is =
    behind y (h z) (filter_map h zs) (given_among x y h zs there is)
  where
    behind : {B : Type 0} (y : B) (o : Option B) (ys : List B) → Among y ys → Among y (cons_option o ys)
    behind y None ys there = there
    behind y (Some z) ys there = inr there

-- the numbers of a range
pub among_range : (x a n : ℕ) → Among x (range_with_len a n) → (a ≤ x) × (x < a + n)
among_range x a zero h = absurd h
among_range x a (suc n) (inl e) = (omega arith, omega arith)
among_range x a (suc n) (inr h) = let later = among_range x (a + 1) n h in (omega (arith, later.0), omega (arith, later.1))

pub range_among : (x a n : ℕ) → a ≤ x → x < a + n → Among x (range_with_len a n)
range_among x a zero low high = absurd (omega arith)
range_among x a (suc n) low high =
    ⊎_elim
    (λ (same : a ≡ x). inl same)
    (λ (other : a ≢ x). inr (range_among x (a + 1) n (omega arith) (omega arith)))
    (cases_eq a x)

kept_here : {A : Type 0} (need : A) (p : A → Bool) (x : A) (xs kept : List A) → p x ≡ true → (Among need kept → Among need xs × (p need ≡ true)) → Among need (x ∷ kept) → Among need (x ∷ xs) × (p need ≡ true)
kept_here need p x xs kept passes later (inl e) = (inl e, ap p (sym e) ∙ passes)
kept_here need p x xs kept passes later (inr h) = let rest = later h in (inr rest.0, rest.1)

-- what a filter keeps stands in the list and passes
pub kept_among : {A : Type 0} (need : A) (p : A → Bool) (xs : List A) → Among need (filter p xs) → Among need xs × (p need ≡ true)
kept_among need p [] h = absurd h
kept_among need p (x ∷ xs) h =
    ⊎_elim
    (λ (passes : p x ≡ true). kept_here need p x xs (filter p xs) passes (λ rest. kept_among need p xs rest) (rw passes at h))
    (λ (fails : p x ≡ false). let later = kept_among need p xs (rw fails at h) in (inr later.0, later.1))
    (cases_Bool (p x))

pub among_kept : {A : Type 0} (need : A) (p : A → Bool) (xs : List A) → Among need xs → p need ≡ true → Among need (filter p xs)
among_kept need p [] h passes = absurd h
among_kept need p (x ∷ xs) (inl e) passes =
    let here : p x ≡ true = ap p e ∙ passes in
    rw here (inl e)
among_kept need p (x ∷ xs) (inr h) passes =
    ⊎_elim
    (λ (is : p x ≡ true). rw is (inr (among_kept need p xs h passes)))
    (λ (is : p x ≡ false). rw is (among_kept need p xs h passes))
    (cases_Bool (p x))

-- what all pass, one of them passes
pub among_all : (need : Need) (p : Need → Bool) (xs : List Need) → Among need xs → list_all p xs ≡ true → p need ≡ true
among_all need p [] h all = absurd h
among_all need p (x ∷ xs) (inl e) all = ap p (sym e) ∙ (and_parts (p x) (list_all p xs) all).0
among_all need p (x ∷ xs) (inr h) all = among_all need p xs h (and_parts (p x) (list_all p xs) all).1

-- where not all pass, one fails
pub one_fails : (p : Need → Bool) (xs : List Need) → list_all p xs ≡ false → (need : Need) × Among need xs × (p need ≡ false)
one_fails p [] h = absurd (false≢true (sym h))
one_fails p (x ∷ xs) h =
    ⊎_elim
    (λ (passes : p x ≡ true). let later = one_fails p xs (rw passes at h) in (later.0, inr later.1, later.2))
    (λ (fails : p x ≡ false). (x, inl refl, fails))
    (cases_Bool (p x))

-- what stands in a list with a need more
with_need_from : (need other : Need) (xs : List Need) → Among need (with_need xs other) → Among need xs ⊎ (other ≡ need)
with_need_from need other xs h =
    ⊎_elim
    (λ (before : Among need (filter (λ x. comes_before x other) xs)). inl (kept_among need (λ x. comes_before x other) xs before).0)
    (from_here need other xs)
    (among_both need (filter (λ x. comes_before x other) xs) (other ∷ filter (comes_before other) xs) h)
  where
    from_here : (need other : Need) (xs : List Need) → Among need (other ∷ filter (comes_before other) xs) → Among need xs ⊎ (other ≡ need)
    from_here need other xs (inl e) = inr e
    from_here need other xs (inr behind) = inl (kept_among need (comes_before other) xs behind).0

with_need_new : (other : Need) (xs : List Need) → Among other (with_need xs other)
with_need_new other xs = among_right other (filter (λ x. comes_before x other) xs) (other ∷ filter (comes_before other) xs) (inl refl)

with_need_old : (need other : Need) (xs : List Need) → Among need xs → Among need (with_need xs other)
with_need_old need other xs h =
    ⊎_elim
    (λ (before : comes_before need other ≡ true).
    among_left need (filter (λ x. comes_before x other) xs) (other ∷ filter (comes_before other) xs) (among_kept need (λ x. comes_before x other) xs h before))
    (λ (not_before : comes_before need other ≡ false).
    among_right need (filter (λ x. comes_before x other) xs) (other ∷ filter (comes_before other) xs)
    (⊎_elim
    (λ (behind : comes_before other need ≡ true). inr (among_kept need (comes_before other) xs h behind))
    (λ (not_behind : comes_before other need ≡ false). inl (sym (before_total need other not_before not_behind)))
    (cases_Bool (comes_before other need))))
    (cases_Bool (comes_before need other))

pub with_needs_from : (need : Need) (xs ys : List Need) → Among need (with_needs xs ys) → Among need xs ⊎ Among need ys
with_needs_from need xs [] h = inl h
with_needs_from need xs (y ∷ ys) h =
    ⊎_elim
    (λ (early : Among need (with_need xs y)).
    ⊎_elim
    (λ (old : Among need xs). inl old)
    (λ (new : y ≡ need). inr (inl new))
    (with_need_from need y xs early))
    (λ (late : Among need ys). inr (inr late))
    (with_needs_from need (with_need xs y) ys h)

pub with_needs_old : (need : Need) (xs ys : List Need) → Among need xs → Among need (with_needs xs ys)
with_needs_old need xs [] h = h
with_needs_old need xs (y ∷ ys) h = with_needs_old need (with_need xs y) ys (with_need_old need y xs h)

pub with_needs_new : (need : Need) (xs ys : List Need) → Among need ys → Among need (with_needs xs ys)
with_needs_new need xs [] h = absurd h
with_needs_new need xs (y ∷ ys) (inl e) =
    with_needs_old need (with_need xs y) ys (subst (λ (z : Need). Among need (with_need xs z)) (sym e) (with_need_new need xs))
with_needs_new need xs (y ∷ ys) (inr h) = with_needs_new need (with_need xs y) ys h

pub with_needs_in_order : (xs ys : List Need) → are_needs_in_order xs ≡ true → are_needs_in_order (with_needs xs ys) ≡ true
with_needs_in_order xs [] order = order
with_needs_in_order xs (y ∷ ys) order = with_needs_in_order (with_need xs y) ys (stays_in_order xs y order)
