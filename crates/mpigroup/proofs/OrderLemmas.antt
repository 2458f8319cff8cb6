-- Lists in strict order: a list of distinct elements has one order.
use Rattle.std.proofs.Common.{◌≡◌, Bool, true, false, ◌||◌, List, [], ◌∷◌, sym, ap, ◌∙◌, refl, inl, inr}
use Rattle.std.specs.List.{list_any, AllByRecursion, IsDistinct, dedup_from, dedup}
use Rattle.std.specs.List.Sorted.{IsStrictlySortedBy, IsSorted, IsPermutation}
use Rattle.std.specs.Cmp.{IsTotalOrder}
use Rattle.std.specs.Ordering.{eq_by_cmp, is_lt, is_eq, ordering_reverse}
use Rattle.std.specs.declared.cmp.Ordering.{Ordering}
use Rattle.std.specs.declared.cmp.Ordering.TheVariants.{Less, Equal, Greater}
use Rattle.std.proofs.lemmas.Cmp.{tied_itself, eq_by_cmp_equiv}
use Rattle.std.proofs.lemmas.Bool.{cases_Bool, or_parts, or_left}
use Rattle.std.proofs.lemmas.Map.Keys.{IsDistinct-head, IsDistinct-tail, IsDistinct-IsPermutation}
use Rattle.std.proofs.lemmas.List.Sorted.{list_any-IsPermutation}
use Rattle.std.proofs.lemmas.List.Kept.{IsStrictlySortedBy-dedup}
use Rattle.mpigroup.specs.Splits.{put_in, in_order}

-- the element is in the list, by the order
abbrev pub has : {T : Type 0} → (T → T → Ordering) → T → List T → Bool
has cmp q xs = list_any (eq_by_cmp cmp q) xs

or_swap : (a b c : Bool) → (a || (b || c)) ≡ (b || (a || c))
or_swap true true c = refl
or_swap true false c = refl
or_swap false b c = refl

has-put_in : {T : Type 0} (cmp : T → T → Ordering) (q x : T) (ys : List T) → has cmp q (put_in cmp x ys) ≡ (eq_by_cmp cmp q x || has cmp q ys)
has-put_in cmp q x [] = refl
has-put_in cmp q x (y ∷ ys) = elim (cases_Bool (is_lt (cmp x y))) [
  | inl below ↦ rw below refl
  | inr above ↦ rw above (ap (λ b. eq_by_cmp cmp q y || b) (has-put_in cmp q x ys) ∙ or_swap (eq_by_cmp cmp q y) (eq_by_cmp cmp q x) (has cmp q ys))
]

has-in_order : {T : Type 0} (cmp : T → T → Ordering) (q : T) (xs : List T) → has cmp q (in_order cmp xs) ≡ has cmp q xs
has-in_order cmp q [] = refl
has-in_order cmp q (x ∷ xs) = has-put_in cmp q x (in_order cmp xs) ∙ ap (λ b. eq_by_cmp cmp q x || b) (has-in_order cmp q xs)

all_put : {T : Type 0} (P : T → Type 0) (cmp : T → T → Ordering) (x : T) (ys : List T) → P x → AllByRecursion P ys → AllByRecursion P (put_in cmp x ys)
all_put P cmp x [] here all = (here, tt)
all_put P cmp x (y ∷ ys) here all = elim (cases_Bool (is_lt (cmp x y))) [
  | inl below ↦ rw below (here, all)
  | inr above ↦ rw above (all.0, all_put P cmp x ys here all.1)
]

all_trans : {T : Type 0} (cmp : T → T → Ordering) (o : IsTotalOrder cmp) (x y : T) (ys : List T) → cmp x y ≡ Less → AllByRecursion (λ z. cmp y z ≡ Less) ys → AllByRecursion (λ z. cmp x z ≡ Less) ys
all_trans cmp o x y [] below all = tt
all_trans cmp o x y (z ∷ ys) below all = (o.trans x y z below all.0, all_trans cmp o x y ys below all.1)

-- an element that isn't there yet goes to its place
sorted_put_at : {T : Type 0} (cmp : T → T → Ordering) (o : IsTotalOrder cmp) (x y : T) (ys : List T) (r : Ordering) → cmp x y ≡ r → IsStrictlySortedBy cmp (y ∷ ys) → has cmp x (y ∷ ys) ≡ false → (has cmp x ys ≡ false → IsStrictlySortedBy cmp (put_in cmp x ys)) → IsStrictlySortedBy cmp (put_in cmp x (y ∷ ys))
unfolding IsStrictlySortedBy
sorted_put_at cmp o x y ys Less e sorted new behind = rw e ((e, all_trans cmp o x y ys e sorted.0), sorted)
sorted_put_at cmp o x y ys Equal e sorted new behind = absurd (let f = rw e at new in cc)
sorted_put_at cmp o x y ys Greater e sorted new behind =
    let back : cmp y x ≡ Less = o.antisymm y x ∙ ap ordering_reverse e in
    rw e (all_put (λ z. cmp y z ≡ Less) cmp x ys back sorted.0, behind (or_parts (eq_by_cmp cmp x y) (has cmp x ys) new).1)

sorted_put : {T : Type 0} (cmp : T → T → Ordering) (o : IsTotalOrder cmp) (x : T) (ys : List T) → IsStrictlySortedBy cmp ys → has cmp x ys ≡ false → IsStrictlySortedBy cmp (put_in cmp x ys)
unfolding IsStrictlySortedBy
sorted_put cmp o x [] sorted new = (tt, tt)
sorted_put cmp o x (y ∷ ys) sorted new = sorted_put_at cmp o x y ys (cmp x y) refl sorted new (λ apart. sorted_put cmp o x ys sorted.1 apart)

has_none : {T : Type 0} (cmp : T → T → Ordering) (q : T) (xs : List T) → AllByRecursion (λ y. eq_by_cmp cmp q y ≡ false) xs → has cmp q xs ≡ false
has_none cmp q [] all = refl
has_none cmp q (x ∷ xs) all = rw all.0 (has_none cmp q xs all.1)

sorted-in_order : {T : Type 0} (cmp : T → T → Ordering) (o : IsTotalOrder cmp) (xs : List T) → IsDistinct (eq_by_cmp cmp) xs → IsStrictlySortedBy cmp (in_order cmp xs)
unfolding IsStrictlySortedBy
sorted-in_order cmp o [] distinct = tt
sorted-in_order cmp o (x ∷ xs) distinct =
    sorted_put cmp o x (in_order cmp xs) (sorted-in_order cmp o xs (IsDistinct-tail (eq_by_cmp cmp) x xs distinct))
    (has-in_order cmp x xs ∙ has_none cmp x xs (IsDistinct-head (eq_by_cmp cmp) x xs distinct))

-- what comes before all elements isn't among them
has_below : {T : Type 0} (cmp : T → T → Ordering) (q : T) (xs : List T) → AllByRecursion (λ y. cmp q y ≡ Less) xs → has cmp q xs ≡ false
has_below cmp q [] all = refl
has_below cmp q (x ∷ xs) all = rw all.0 (has_below cmp q xs all.1)

found_below_at : {T : Type 0} (cmp : T → T → Ordering) (exact : (x y : T) → cmp x y ≡ Equal → x ≡ y) (y q z : T) (ys : List T) (r : Ordering) → cmp q z ≡ r → cmp y z ≡ Less → has cmp q (z ∷ ys) ≡ true → (has cmp q ys ≡ true → cmp y q ≡ Less) → cmp y q ≡ Less
found_below_at cmp exact y q z ys Less e first some behind = behind (rw e at some)
found_below_at cmp exact y q z ys Equal e first some behind = ap (cmp y) (exact q z e) ∙ first
found_below_at cmp exact y q z ys Greater e first some behind = behind (rw e at some)

found_below : {T : Type 0} (cmp : T → T → Ordering) (exact : (x y : T) → cmp x y ≡ Equal → x ≡ y) (y q : T) (ys : List T) → AllByRecursion (λ z. cmp y z ≡ Less) ys → has cmp q ys ≡ true → cmp y q ≡ Less
found_below cmp exact y q [] all some = absurd cc
found_below cmp exact y q (z ∷ ys) all some = found_below_at cmp exact y q z ys (cmp q z) refl all.0 some (λ behind. found_below cmp exact y q ys all.1 behind)

no_both : {T : Type 0} (cmp : T → T → Ordering) (o : IsTotalOrder cmp) (x y : T) → cmp x y ≡ Less → cmp y x ≡ Less → ⊥
no_both cmp o x y e d = let f : Less ≡ Greater = sym e ∙ o.antisymm x y ∙ ap ordering_reverse d in cc

-- after an equal first element are the same elements
same_behind : {T : Type 0} (cmp : T → T → Ordering) (exact : (x y : T) → cmp x y ≡ Equal → x ≡ y) (x q : T) (xs ys : List T) (r : Ordering) → cmp q x ≡ r → AllByRecursion (λ z. cmp x z ≡ Less) xs → AllByRecursion (λ z. cmp x z ≡ Less) ys → has cmp q (x ∷ xs) ≡ has cmp q (x ∷ ys) → has cmp q xs ≡ has cmp q ys
same_behind cmp exact x q xs ys Less e s t same = rw e at same
same_behind cmp exact x q xs ys Greater e s t same = rw e at same
same_behind cmp exact x q xs ys Equal e s t same =
    let is : q ≡ x = exact q x e in
    rw is (has_below cmp x xs s ∙ sym (has_below cmp x ys t))

same_at : {T : Type 0} (cmp : T → T → Ordering) (o : IsTotalOrder cmp) (exact : (x y : T) → cmp x y ≡ Equal → x ≡ y) (x y : T) (xs ys : List T) (r : Ordering) → cmp x y ≡ r → IsStrictlySortedBy cmp (x ∷ xs) → IsStrictlySortedBy cmp (y ∷ ys) → ((q : T) → has cmp q (x ∷ xs) ≡ has cmp q (y ∷ ys)) → (IsStrictlySortedBy cmp xs → IsStrictlySortedBy cmp ys → ((q : T) → has cmp q xs ≡ has cmp q ys) → xs ≡ ys) → (x ∷ xs) ≡ (y ∷ ys)
unfolding IsStrictlySortedBy
same_at cmp o exact x y xs ys Equal e s t same behind =
    let first : x ≡ y = exact x y e in
    let t' : AllByRecursion (λ z. cmp x z ≡ Less) ys = rw first t.0 in
    let rest : xs ≡ ys = behind s.1 t.1 (λ q. same_behind cmp exact x q xs ys (cmp q x) refl s.0 t' (same q ∙ ap (λ z. has cmp q (z ∷ ys)) (sym first))) in
    ap (λ z. z ∷ xs) first ∙ ap (λ l. y ∷ l) rest
same_at cmp o exact x y xs ys Less e s t same behind =
    let here : has cmp x (y ∷ ys) ≡ true = sym (same x) ∙ or_left _ _ (ap is_eq (tied_itself o x)) in
    let some : has cmp x ys ≡ true = rw e at here in
    absurd (no_both cmp o x y e (found_below cmp exact y x ys t.0 some))
same_at cmp o exact x y xs ys Greater e s t same behind =
    let back : cmp y x ≡ Less = o.antisymm y x ∙ ap ordering_reverse e in
    let there : has cmp y (x ∷ xs) ≡ true = same y ∙ or_left _ _ (ap is_eq (tied_itself o y)) in
    let some : has cmp y xs ≡ true = rw back at there in
    absurd (no_both cmp o y x back (found_below cmp exact x y xs s.0 some))

-- two lists in strict order with the same elements are the same
pub same_sorted : {T : Type 0} (cmp : T → T → Ordering) (o : IsTotalOrder cmp) (exact : (x y : T) → cmp x y ≡ Equal → x ≡ y) (xs ys : List T) → IsStrictlySortedBy cmp xs → IsStrictlySortedBy cmp ys → ((q : T) → has cmp q xs ≡ has cmp q ys) → xs ≡ ys
same_sorted cmp o exact [] [] s t same = refl
same_sorted cmp o exact [] (y ∷ ys) s t same = absurd (let e = tied_itself o y in let f = rw e at (same y) in cc)
same_sorted cmp o exact (x ∷ xs) [] s t same = absurd (let e = tied_itself o x in let f = rw e at (same x) in cc)
same_sorted cmp o exact (x ∷ xs) (y ∷ ys) s t same =
    same_at cmp o exact x y xs ys (cmp x y) refl s t same (λ s' t' same'. same_sorted cmp o exact xs ys s' t' same')

-- a sort of distinct elements leaves them in strict order
dedup_distinct : {T : Type 0} (e : T → T → Bool) (flips : (x y : T) → e x y ≡ e y x) (x : T) (xs : List T) → IsDistinct e (x ∷ xs) → dedup_from e x xs ≡ x ∷ xs
unfolding IsDistinct
dedup_distinct e flips x [] distinct = refl
dedup_distinct e flips x (y ∷ xs) distinct =
    let apart : e y x ≡ false = flips y x ∙ distinct.0.0 in
    rw apart (ap (λ l. x ∷ l) (dedup_distinct e flips y xs distinct.1))

dedup_all : {T : Type 0} (e : T → T → Bool) (flips : (x y : T) → e x y ≡ e y x) (xs : List T) → IsDistinct e xs → dedup e xs ≡ xs
dedup_all e flips [] distinct = refl
dedup_all e flips (x ∷ xs) distinct = dedup_distinct e flips x xs distinct

pub sorted_strictly : {T : Type 0} (cmp : T → T → Ordering) (o : IsTotalOrder cmp) (xs ys : List T) → IsDistinct (eq_by_cmp cmp) xs → IsPermutation xs ys → IsSorted cmp ys → IsStrictlySortedBy cmp ys
sorted_strictly cmp o xs ys distinct moved sorted =
    let flips = (eq_by_cmp_equiv o).symm in
    let apart = IsDistinct-IsPermutation (eq_by_cmp cmp) flips xs ys moved distinct in
    rw (dedup_all (eq_by_cmp cmp) flips ys apart) at (IsStrictlySortedBy-dedup o {E = eq_by_cmp cmp} (λ x y. refl) ys sorted)

-- that order is the one of the definition
pub in_order-sorted : {T : Type 0} (cmp : T → T → Ordering) (o : IsTotalOrder cmp) (exact : (x y : T) → cmp x y ≡ Equal → x ≡ y) (xs ys : List T) → IsDistinct (eq_by_cmp cmp) xs → IsPermutation xs ys → IsStrictlySortedBy cmp ys → ys ≡ in_order cmp xs
in_order-sorted cmp o exact xs ys distinct moved sorted =
    same_sorted cmp o exact ys (in_order cmp xs) sorted (sorted-in_order cmp o xs distinct)
    (λ q. sym (has-in_order cmp q xs ∙ list_any-IsPermutation (eq_by_cmp cmp q) xs ys moved))
