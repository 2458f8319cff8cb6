-- How often numbers are in lists.
use Rattle.std.proofs.Common.{◌≡◌, ℕ, zero, suc, ◌+◌, ◌<◌, ◌≤◌, ◌++◌, ◌≢◌, List, [], ◌∷◌, length, map, drop, get_or, set, refl, sym, ap, ◌∙◌, ⊎_elim, arith, get_or-set_same, get_or-set_other}
use Rattle.std.specs.Prelude.{◌==◌, if◌then◌else◌}
use Rattle.std.proofs.lemmas.List.{get_or-map}
use Rattle.std.proofs.lemmas.Bool.{cases_eq, cases_lt, eq-eqb, ne_eqb}
use Rattle.arenaqueue.specs.Numbers.{list_at}
use Rattle.arenaqueue.specs.inner.Numbers.{count, in_all, without, after}

pub count-append : (r : ℕ) (xs ys : List ℕ) → count r (xs ++ ys) ≡ count r xs + count r ys
count-append r [] ys = omega arith
count-append r (x ∷ xs) ys = omega (arith, count-append r xs ys)

pub count_one : (r : ℕ) → count r (r ∷ []) ≡ 1
count_one r = rw (eq-eqb r r refl) refl

pub count_other : (r x : ℕ) → (r ≡ x → ⊥) → count r (x ∷ []) ≡ 0
count_other r x h = rw (ne_eqb r x h) refl

pub count_head : (r : ℕ) (xs : List ℕ) → count r (r ∷ xs) ≡ 1 + count r xs
count_head r xs = rw (eq-eqb r r refl) refl

pub in_all-set : (r : ℕ) (ls : List (List ℕ)) (l : ℕ) (xs : List ℕ) → l < length ls → in_all r (set ls l xs) + count r (list_at ls l) ≡ in_all r ls + count r xs
in_all-set r [] l xs h = absurd (omega arith)
in_all-set r (y ∷ ys) zero xs h = omega arith
in_all-set r (y ∷ ys) (suc l) xs h = omega (arith, in_all-set r ys l xs (omega arith))

pub count_in_all : (r : ℕ) (ls : List (List ℕ)) (l : ℕ) → count r (list_at ls l) ≤ in_all r ls
count_in_all r [] l = omega arith
count_in_all r (y ∷ ys) zero = omega arith
count_in_all r (y ∷ ys) (suc l) = omega (arith, count_in_all r ys l)

pub some_list : (ls : List (List ℕ)) (l n : ℕ) → 0 < count n (list_at ls l) → l < length ls
some_list [] l n some = absurd (omega arith)
some_list (xs ∷ ls) zero n some = omega arith
some_list (xs ∷ ls) (suc l) n some = omega (arith, some_list ls l n some)

pub count_in_two : (r : ℕ) (ls : List (List ℕ)) (l m : ℕ) → l ≢ m → count r (list_at ls l) + count r (list_at ls m) ≤ in_all r ls
count_in_two r [] l m h = omega arith
count_in_two r (y ∷ ys) zero zero h = absurd (h refl)
count_in_two r (y ∷ ys) zero (suc m) h = omega (arith, count_in_all r ys m)
count_in_two r (y ∷ ys) (suc l) zero h = omega (arith, count_in_all r ys l)
count_in_two r (y ∷ ys) (suc l) (suc m) h = omega (arith, count_in_two r ys l m (λ e. h (ap suc e)))

-- the list in which a number is
pub found_in : (n : ℕ) (ls : List (List ℕ)) → 0 < in_all n ls → (l : ℕ) × (l < length ls) × (0 < count n (list_at ls l))
found_in n [] h = absurd (omega arith)
found_in n (y ∷ ys) h =
    ⊎_elim
    (λ (here : 0 < count n y). (zero, omega arith, here))
    (λ (not : count n y ≤ 0).
    let later = found_in n ys (omega arith) in
    (suc later.0, omega (arith, later.1), later.2))
    (cases_lt 0 (count n y))

-- a list is cut at a number that is in it
pub record Cut (n : ℕ) (xs : List ℕ) : Type 0 where
  pub front : List ℕ
  pub back : List ℕ
  pub is : xs ≡ front ++ n ∷ back

pub cut_at : (n : ℕ) (xs : List ℕ) → 0 < count n xs → Cut n xs
cut_at n [] h = absurd (omega arith)
cut_at n (x ∷ xs) h =
    ⊎_elim
    (λ (e : n ≡ x). let is : x ∷ xs ≡ n ∷ xs = ap (λ (y : ℕ). y ∷ xs) (sym e) in record { front = []; back = xs; is = is })
    (λ (e : n ≡ x → ⊥).
    let rest = cut_at n xs (omega (arith, count_other n x e)) in
    record { front = x ∷ rest.front; back = rest.back; is = ap (λ (ys : List ℕ). x ∷ ys) rest.is })
    (cases_eq n x)

pub without_none : (n : ℕ) (xs : List ℕ) → count n xs ≡ 0 → without n xs ≡ xs
without_none n [] h = refl
without_none n (x ∷ xs) h =
    ⊎_elim
    (λ (e : n ≡ x). absurd (let one : count n (x ∷ []) ≡ 1 = rw e (count_one x) in omega arith))
    (λ (e : n ≡ x → ⊥). rw (ne_eqb n x e) (ap (λ (ys : List ℕ). x ∷ ys) (without_none n xs (omega arith))))
    (cases_eq n x)

pub without_cut : (n : ℕ) (xs ys : List ℕ) → count n xs ≡ 0 → count n ys ≡ 0 → without n (xs ++ n ∷ ys) ≡ xs ++ ys
without_cut n [] ys h k = rw (eq-eqb n n refl) (without_none n ys k)
without_cut n (x ∷ xs) ys h k =
    ⊎_elim
    (λ (e : n ≡ x). absurd (let one : count n (x ∷ []) ≡ 1 = rw e (count_one x) in omega arith))
    (λ (e : n ≡ x → ⊥). rw (ne_eqb n x e) (ap (λ (zs : List ℕ). x ∷ zs) (without_cut n xs ys (omega arith) k)))
    (cases_eq n x)

pub count_without : (n x : ℕ) (xs : List ℕ) → x ≢ n → count x (without n xs) ≡ count x xs
count_without n x [] h = refl
count_without n x (y ∷ ys) h =
    ⊎_elim
    (λ (e : n ≡ y). rw (eq-eqb n y e) (omega (arith, count_without n x ys h, count_other x y (λ f. h (f ∙ sym e)))))
    (λ (e : n ≡ y → ⊥). rw (ne_eqb n y e) (ap (λ (k : ℕ). (if x == y then 1 else 0) + k) (count_without n x ys h)))
    (cases_eq n y)

pub count_without_same : (n : ℕ) (xs : List ℕ) → count n (without n xs) ≡ 0
count_without_same n [] = refl
count_without_same n (y ∷ ys) =
    ⊎_elim
    (λ (e : n ≡ y). rw (eq-eqb n y e) (count_without_same n ys))
    (λ (e : n ≡ y → ⊥). rw (ne_eqb n y e) (omega (arith, count_other n y e, count_without_same n ys)))
    (cases_eq n y)

pub in_all_without : (n x : ℕ) (ls : List (List ℕ)) → in_all x (map (without n) ls) ≤ in_all x ls
in_all_without n x [] = omega arith
in_all_without n x (l ∷ ls) =
    ⊎_elim
    (λ (e : x ≡ n). let none : count x (without n l) ≡ 0 = rw e (count_without_same n l) in omega (arith, in_all_without n x ls))
    (λ (e : x ≡ n → ⊥). omega (arith, in_all_without n x ls, count_without n x l e))
    (cases_eq x n)

pub in_all_without_same : (n : ℕ) (ls : List (List ℕ)) → in_all n (map (without n) ls) ≡ 0
in_all_without_same n [] = refl
in_all_without_same n (l ∷ ls) = omega (arith, count_without_same n l, in_all_without_same n ls)

pub count_drop : (n : ℕ) (ring : List ℕ) → count n (drop 1 ring) ≤ count n ring
count_drop n [] = omega arith
count_drop n (x ∷ xs) = omega arith

pub apart : (b c : ℕ) (xs : List ℕ) → count b xs ≡ 0 → 0 < count c xs → b ≢ c
apart b c xs none some e = omega (arith, ap (λ (x : ℕ). count x xs) e)

pub at_map : (f : List ℕ → List ℕ) (rings : List (List ℕ)) (m : ℕ) → m < length rings → list_at (map f rings) m ≡ f (list_at rings m)
at_map f rings m h = get_or-map f rings m [] [] h

pub in_all-append : (x : ℕ) (ls : List (List ℕ)) (l : List ℕ) → in_all x (ls ++ l ∷ []) ≡ in_all x ls + count x l
in_all-append x [] l = omega arith
in_all-append x (k ∷ ks) l = omega (arith, in_all-append x ks l)

-- a default at the end is not seen
pub get_or-push_default : {X : Type 0} (d : X) (xs : List X) (i : ℕ) → get_or (xs ++ d ∷ []) i d ≡ get_or xs i d
get_or-push_default d [] zero = refl
get_or-push_default d [] (suc i) = refl
get_or-push_default d (x ∷ xs) zero = refl
get_or-push_default d (x ∷ xs) (suc i) = get_or-push_default d xs i

pub list_at-without : (n : ℕ) (lists : List (List ℕ)) (l : ℕ) → list_at (map (without n) lists) l ≡ without n (list_at lists l)
list_at-without n [] l = refl
list_at-without n (xs ∷ lists) zero = refl
list_at-without n (xs ∷ lists) (suc l) = list_at-without n lists l

pub after_cut : (n : ℕ) (xs ys : List ℕ) → count n xs ≡ 0 → after n (xs ++ n ∷ ys) ≡ ys
after_cut n [] ys none = rw (eq-eqb n n refl) refl
after_cut n (x ∷ xs) ys none =
    let differs : n ≡ x → ⊥ = λ e. omega (arith, ap (λ (y : ℕ). count n (y ∷ [])) e, count_one n) in
    rw (ne_eqb n x differs) (after_cut n xs ys (omega arith))

-- a list with a number more at its back, among the lists
pub count_back : (x n l : ℕ) (lists : List (List ℕ)) → l < length lists → count x (list_at (set lists l (list_at lists l ++ n ∷ [])) l) ≡ count x (list_at lists l) + count x (n ∷ [])
count_back x n l lists l_in = ap (count x) (get_or-set_same lists l (list_at lists l ++ n ∷ []) [] l_in) ∙ count-append x (list_at lists l) (n ∷ [])

pub count_back_other : (x n l m : ℕ) (lists : List (List ℕ)) → m ≢ l → count x (list_at (set lists l (list_at lists l ++ n ∷ [])) m) ≡ count x (list_at lists m)
count_back_other x n l m lists other = ap (count x) (get_or-set_other lists l m (list_at lists l ++ n ∷ []) [] other)

pub count_after : (x n : ℕ) (xs : List ℕ) → count x (after n xs) ≤ count x xs
count_after x n [] = omega arith
count_after x n (y ∷ ys) =
    ⊎_elim
    (λ (same : n ≡ y). let is : after n (y ∷ ys) ≡ ys = rw (eq-eqb n y same) refl in omega (arith, ap (count x) is))
    (λ (other : n ≡ y → ⊥). let is : after n (y ∷ ys) ≡ after n ys = rw (ne_eqb n y other) refl in omega (arith, ap (count x) is, count_after x n ys))
    (cases_eq n y)
