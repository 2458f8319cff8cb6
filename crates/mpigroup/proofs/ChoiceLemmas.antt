-- The members of a split and their order.
use Rattle.std.proofs.Common.{◌≡◌, ℕ, ◌+◌, ◌<◌, true, false, Some, None, List, [], ◌∷◌, ap, refl, arith, ℤ}
use Rattle.std.specs.List.{AllByRecursion, IsDistinct}
use Rattle.std.specs.Cmp.{IsTotalOrder}
use Rattle.std.specs.Ordering.{nat_cmp, int_cmp, ordering_then, eq_by_cmp, is_eq}
use Rattle.std.specs.declared.cmp.Ordering.{Ordering}
use Rattle.std.specs.declared.cmp.Ordering.TheVariants.{Less, Equal, Greater}
use Rattle.std.proofs.lemmas.Cmp.{then_total, on_total, nat_cmp_total, int_cmp_total}
use Rattle.std.proofs.lemmas.Map.Lookups.{exact_unsigned, exact_signed}
use Rattle.std.proofs.lemmas.Map.Keys.{IsDistinct-cons}
use Rattle.std.proofs.lemmas.Bool.{false_from_ne_true}
use Rattle.std.specs.List.Sorted.{IsStrictlySortedBy, IsSorted, IsPermutation}
use Rattle.mpigroup.proofs.OrderLemmas.{sorted_strictly, in_order-sorted}
use Rattle.mpigroup.specs.Splits.{Choices, members_from, members_in_order, member_cmp}
use Rattle.mpigroup.specs.declared.split.Member.{Member}

pub member_cmp_total : IsTotalOrder member_cmp
member_cmp_total = then_total (on_total (λ m. m.colour) nat_cmp_total) (then_total (on_total (λ m. m.key) int_cmp_total) (on_total (λ m. m.rank) nat_cmp_total))

then_parts : (a b : Ordering) → ordering_then a b ≡ Equal → (a ≡ Equal) × (b ≡ Equal)
then_parts Less b e = absurd cc
then_parts Equal b e = (refl, e)
then_parts Greater b e = absurd cc

make : ℕ → ℤ → ℕ → Member
make colour key rank = record { colour = colour; key = key; rank = rank }

same_made : (c d : ℕ) (k l : ℤ) (r s : ℕ) → c ≡ d → k ≡ l → r ≡ s → make c k r ≡ make d l s
same_made c d k l r s colour key rank = cc

same_member : (x y : Member) → x.colour ≡ y.colour → x.key ≡ y.key → x.rank ≡ y.rank → x ≡ y
unfolding make
same_member x y colour key rank = same_made x.colour y.colour x.key y.key x.rank y.rank colour key rank

pub member_cmp_exact : (x y : Member) → member_cmp x y ≡ Equal → x ≡ y
member_cmp_exact x y e =
    let parts = then_parts (nat_cmp x.colour y.colour) (ordering_then (int_cmp x.key y.key) (nat_cmp x.rank y.rank)) e in
    let more = then_parts (int_cmp x.key y.key) (nat_cmp x.rank y.rank) parts.1 in
    same_member x y (exact_unsigned x.colour y.colour parts.0) (exact_signed x.key y.key more.0) (exact_unsigned x.rank y.rank more.1)

from_is_eq : (o : Ordering) → is_eq o ≡ true → o ≡ Equal
from_is_eq Less e = absurd cc
from_is_eq Equal e = refl
from_is_eq Greater e = absurd cc

other_rank : (x y : Member) → x.rank < y.rank → eq_by_cmp member_cmp x y ≡ false
other_rank x y less = false_from_ne_true _ (λ e. let same = ap (λ m. m.rank) (member_cmp_exact x y (from_is_eq _ e)) in omega (arith, same))

-- members of later ranks are others
later : (x : Member) (rank : ℕ) (choices : Choices) → x.rank < rank → AllByRecursion (λ y. eq_by_cmp member_cmp x y ≡ false) (members_from rank choices)
later x rank [] less = tt
later x rank ((Some colour, key) ∷ choices) less = (other_rank x _ less, later x (rank + 1) choices (omega arith))
later x rank ((None, key) ∷ choices) less = later x (rank + 1) choices (omega arith)

pub members_from-distinct : (rank : ℕ) (choices : Choices) → IsDistinct (eq_by_cmp member_cmp) (members_from rank choices)
unfolding IsDistinct
members_from-distinct rank [] = tt
members_from-distinct rank ((Some colour, key) ∷ choices) =
    IsDistinct-cons (eq_by_cmp member_cmp) _ (members_from (rank + 1) choices) (later _ (rank + 1) choices (omega arith)) (members_from-distinct (rank + 1) choices)
members_from-distinct rank ((None, key) ∷ choices) = members_from-distinct (rank + 1) choices

-- a sort of the members gives the one order of the definition
pub sorted_members : (choices : Choices) (xs ys : List Member) → xs ≡ members_from 0 choices → IsPermutation xs ys → IsSorted member_cmp ys → IsStrictlySortedBy member_cmp ys
sorted_members choices xs ys all moved sorted =
    let distinct : IsDistinct (eq_by_cmp member_cmp) xs = rw all (members_from-distinct 0 choices) in
    sorted_strictly member_cmp member_cmp_total xs ys distinct moved sorted

pub ordered_members : (choices : Choices) (xs ys : List Member) → xs ≡ members_from 0 choices → IsPermutation xs ys → IsSorted member_cmp ys → ys ≡ members_in_order choices
ordered_members choices xs ys all moved sorted =
    let distinct : IsDistinct (eq_by_cmp member_cmp) xs = rw all (members_from-distinct 0 choices) in
    rw (← all) (in_order-sorted member_cmp member_cmp_total member_cmp_exact xs ys distinct moved (sorted_strictly member_cmp member_cmp_total xs ys distinct moved sorted))
