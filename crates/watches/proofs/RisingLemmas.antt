-- No stand falls along the publications.
use Rattle.std.proofs.Common.{◌≡◌, ℕ, ◌<◌, Bool, true, false, if◌then◌else◌, nat_le, nat_lt, List, [], ◌∷◌, ◌++◌, Option, Some, None, sum, refl, arith, slice_index, slice_get, suc, IfSome}
use Rattle.std.specs.List.{range_with_len}
use Rattle.std.proofs.lemmas.Bool.{and_parts}
use Rattle.std.proofs.lemmas.Bool.Decides.{nat_tests}
use Rattle.std.proofs.lemmas.List.Sums.{AllPass-from_list_all, list_all-from_AllPass}
use Rattle.mpigroup.specs.declared.limits.TheConstants.{MOST_RANKS}
use mathlib.Core.List.{IsPrefix}
use Rattle.watches.specs.declared.stands.Stands.{Stands}
use Rattle.watches.specs.Stands.{is_no_lower, is_further}
use Rattle.watches.proofs.PrefixLemmas.{prefix_get}
use Rattle.watches.specs.Publications.{last_published, is_rising, NeverFalls}

then_of : (b r : Bool) → (if b then r else false) ≡ true → (b ≡ true) × (r ≡ true)
then_of true r e = (refl, e)
then_of false r e = absurd cc

then_is : (b r : Bool) → b ≡ true → r ≡ true → (if b then r else false) ≡ true
then_is b r e f = rw e f

le_self : (n : ℕ) → nat_le n n ≡ true
le_self n = grind (arith, nat_tests)

le_through : (a b c : ℕ) → nat_le a b ≡ true → nat_le b c ≡ true → nat_le a c ≡ true
le_through a b c p q = grind (arith, nat_tests, p, q)

less_by : (a b : ℕ) → nat_lt a b ≡ true → a < b
less_by a b p = grind (arith, nat_tests, p)

no_lower_self : (xs : List ℕ) → is_no_lower xs xs ≡ true
unfolding is_no_lower
no_lower_self xs = list_all-from_AllPass (λ rank. nat_le (slice_index xs rank) (slice_index xs rank)) (range_with_len 0 MOST_RANKS) (λ k d below. le_self _)

no_lower_trans : (xs ys zs : List ℕ) → is_no_lower xs ys ≡ true → is_no_lower ys zs ≡ true → is_no_lower xs zs ≡ true
unfolding is_no_lower
no_lower_trans xs ys zs p q =
    let p' = AllPass-from_list_all (λ rank. nat_le (slice_index xs rank) (slice_index ys rank)) (range_with_len 0 MOST_RANKS) p in
    let q' = AllPass-from_list_all (λ rank. nat_le (slice_index ys rank) (slice_index zs rank)) (range_with_len 0 MOST_RANKS) q in
    list_all-from_AllPass (λ rank. nat_le (slice_index xs rank) (slice_index zs rank)) (range_with_len 0 MOST_RANKS) (λ k d below. le_through _ _ _ (p' k d below) (q' k d below))

further_is_no_lower : (xs ys : List ℕ) → is_further xs ys ≡ true → is_no_lower xs ys ≡ true
further_is_no_lower xs ys e = (and_parts (is_no_lower xs ys) (nat_lt (sum xs) (sum ys)) e).0

pub further_is_more : (xs ys : List ℕ) → is_further xs ys ≡ true → sum xs < sum ys
further_is_more xs ys e = less_by (sum xs) (sum ys) (and_parts (is_no_lower xs ys) (nat_lt (sum xs) (sum ys)) e).1

-- what may follow the last of a list
abbrev pub may_follow : Option Stands → Stands → Bool
may_follow None stands = true
may_follow (Some last) stands = is_further last.places stands.places

pub rising_snoc : (xs : List Stands) (e : Stands) → is_rising xs ≡ true → may_follow (last_published xs) e ≡ true → is_rising (xs ++ e ∷ []) ≡ true
rising_snoc [] e r m = refl
rising_snoc (x ∷ []) e r m = then_is (is_further x.places e.places) true m refl
rising_snoc (x ∷ y ∷ ys) e r m =
    let r' = then_of (is_further x.places y.places) (is_rising (y ∷ ys)) r in
    then_is (is_further x.places y.places) (is_rising (y ∷ ys ++ e ∷ [])) r'.0 (rising_snoc (y ∷ ys) e r'.1 m)

pub last_of_snoc : (xs : List Stands) (e : Stands) → last_published (xs ++ e ∷ []) ≡ Some e
last_of_snoc [] e = refl
last_of_snoc (x ∷ []) e = refl
last_of_snoc (x ∷ y ∷ ys) e = last_of_snoc (y ∷ ys) e

passes_to : (x y : Stands) (last : Option Stands) → is_no_lower x.places y.places ≡ true → NeverFalls (Some y) last → NeverFalls (Some x) last
passes_to x y None p q = tt
passes_to x y (Some z) p q = no_lower_trans x.places y.places z.places p q

passes : (x y : Stands) (ys : List Stands) → is_further x.places y.places ≡ true → NeverFalls (Some y) (last_published (y ∷ ys)) → NeverFalls (Some x) (last_published (y ∷ ys))
passes x y ys p q = passes_to x y (last_published (y ∷ ys)) (further_is_no_lower x.places y.places p) q

-- the last is no lower than the first
pub first_below : (x : Stands) (xs : List Stands) → is_rising (x ∷ xs) ≡ true → NeverFalls (Some x) (last_published (x ∷ xs))
first_below x [] r = no_lower_self x.places
first_below x (y ∷ ys) r =
    let r' = then_of (is_further x.places y.places) (is_rising (y ∷ ys)) r in
    passes x y ys r'.0 (first_below y ys r'.1)

pub never_falls : (xs ys : List Stands) → IsPrefix xs ys → is_rising ys ≡ true → NeverFalls (last_published xs) (last_published ys)
never_falls [] ys p r = tt
never_falls (x ∷ []) [] p r = absurd (cc p.1)
never_falls (x ∷ []) (y ∷ ys) p r = let e : x ≡ y = cc p.1 in rw e (first_below y ys r)
never_falls (x ∷ x' ∷ xs) [] p r = absurd (cc p.1)
never_falls (x ∷ x' ∷ xs) (y ∷ []) p r = absurd (cc p.1)
never_falls (x ∷ x' ∷ xs) (y ∷ y' ∷ ys) p r =
    let r' = then_of (is_further y.places y'.places) (is_rising (y' ∷ ys)) r in
    never_falls (x' ∷ xs) (y' ∷ ys) (p.0, cc p.1) r'.1

self_of : (last : Option Stands) → NeverFalls last last
self_of None = tt
self_of (Some x) = no_lower_self x.places

pub never_falls_self : (xs : List Stands) → NeverFalls (last_published xs) (last_published xs)
never_falls_self xs = self_of (last_published xs)

one_behind : (last : Option Stands) (y : Stands) (ys : List Stands) → IfSome last (λ stands. (place : ℕ) × (slice_get ys place ≡ Some stands)) → IfSome last (λ stands. (place : ℕ) × (slice_get (y ∷ ys) place ≡ Some stands))
one_behind None y ys at = tt
one_behind (Some stands) y ys at = (suc at.0, at.1)

-- the last of a prefix is in the whole
pub last_among : (xs ys : List Stands) → IsPrefix xs ys → IfSome (last_published xs) (λ stands. (place : ℕ) × (slice_get ys place ≡ Some stands))
last_among [] ys p = tt
last_among (x ∷ []) ys p = (0, prefix_get (x ∷ []) ys 0 x p refl)
last_among (x ∷ x' ∷ xs) [] p = absurd (cc p.1)
last_among (x ∷ x' ∷ xs) (y ∷ ys) p = one_behind (last_published (x' ∷ xs)) y ys (last_among (x' ∷ xs) ys (p.0, cc p.1))
