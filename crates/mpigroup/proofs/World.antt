-- What the look-ups answer of the world, whose group has the ranks in order, and of the other groups.
use Rattle.std.proofs.Common.{◌≡◌, ℕ, ◌+◌, ◌<◌, ◌≤◌, zero, suc, List, length, get_or, not, eqb, ltb, true, false, Some, None, [], ◌∷◌, arith, refl, ap}
use Rattle.std.specs.List.{range_with_len, position, position_or_len, slice_get, list_all, All}
use Rattle.std.proofs.lemmas.List.FromFn.{length-range_with_len, get_or-range_with_len}
use Rattle.std.proofs.lemmas.List.Sums.{prefix_len_is}
use Rattle.std.proofs.lemmas.List.Elements.{All-nil, All-cons}
use Rattle.std.proofs.lemmas.Option.{slice_get-get_or, slice_get_past}
use Rattle.std.proofs.lemmas.Map.Keys.{IsDistinct-from_apart}
use Rattle.std.proofs.lemmas.Bool.{and_parts, not-true, ltb-true, leb-true, ne_eqb}
use Rattle.std.proofs.lemmas.Bool.Decides.{nat_tests}
use Rattle.mpigroup.specs.Groups.{Groups, group_of, ranks_of, size_of, world_rank_of, group_rank_of}
use Rattle.mpigroup.specs.HeadText.{has_twice, is_group}
use Rattle.mpigroup.specs.Heads.{IsGroup}
use Rattle.mpigroup.proofs.MemberLemmas.{distinct}

-- the groups begin with a world of so many ranks
abbrev pub BeginsWithWorld : Groups → ℕ → Groups → Type 0
BeginsWithWorld groups n further = groups ≡ range_with_len 0 n ∷ further

-- the world has all ranks
pub ranks_of-world : (groups : Groups) (n : ℕ) (further : Groups) → BeginsWithWorld groups n further → ranks_of groups ≡ n
ranks_of-world groups n further is = rw is (length-range_with_len 0 n)

pub size_of-world : (groups : Groups) (n : ℕ) (further : Groups) (comm : ℕ) → BeginsWithWorld groups n further → comm ≡ 0 → size_of groups comm ≡ Some n
size_of-world groups n further comm is world = rw (is, world) (ap (λ (k : ℕ). Some k) (length-range_with_len 0 n))

-- a member's rank in the world's group is its rank
member : (n k : ℕ) → k < n → slice_get (range_with_len 0 n) k ≡ Some k
member n k h =
    let at : get_or (range_with_len 0 n) k 0 ≡ k = rw (get_or-range_with_len 0 n k 0 h) (omega arith) in
    let within : k < length (range_with_len 0 n) = rw length-range_with_len h in
    rw (slice_get-get_or (range_with_len 0 n) k 0 within, at) refl

no_member : (n k : ℕ) → n ≤ k → slice_get (range_with_len 0 n) k ≡ None
no_member n k h = slice_get_past (range_with_len 0 n) k (rw length-range_with_len h)

place : (n k j : ℕ) → j ≤ n → j ≤ k → (j < n → j ≡ k) → position_or_len (λ m. eqb m k) (range_with_len 0 n) ≡ j
place n k j within below stop =
    prefix_len_is (λ m. not (eqb m k)) (range_with_len 0 n) j 0
    (rw length-range_with_len within)
    (λ i h. let at : get_or (range_with_len 0 n) i 0 ≡ i = rw (get_or-range_with_len 0 n i 0 (omega arith)) (omega arith) in rw at (grind (arith, nat_tests)))
    (λ h. let inside : j < n = rw length-range_with_len at h in
    let at : get_or (range_with_len 0 n) j 0 ≡ j = rw (get_or-range_with_len 0 n j 0 inside) (omega arith) in rw (at, stop inside) (grind (arith, nat_tests)))

found : (n k : ℕ) → k < n → position (λ m. eqb m k) (range_with_len 0 n) ≡ Some k
found n k h = rw (place n k k (omega arith) (omega arith) (λ _. refl), length-range_with_len) (grind (arith, nat_tests))

not_found : (n k : ℕ) → n ≤ k → position (λ m. eqb m k) (range_with_len 0 n) ≡ None
not_found n k h = rw (place n k n (omega arith) h (λ i. omega arith), length-range_with_len) (grind (arith, nat_tests))

pub world_rank_of-member : (groups : Groups) (n : ℕ) (further : Groups) (comm g : ℕ) → BeginsWithWorld groups n further → comm ≡ 0 → g < n → world_rank_of groups comm g ≡ Some g
world_rank_of-member groups n further comm g is world h = rw (is, world) (member n g h)

pub world_rank_of-past : (groups : Groups) (n : ℕ) (further : Groups) (comm g : ℕ) → BeginsWithWorld groups n further → comm ≡ 0 → n ≤ g → world_rank_of groups comm g ≡ None
world_rank_of-past groups n further comm g is world h = rw (is, world) (no_member n g h)

pub group_rank_of-member : (groups : Groups) (n : ℕ) (further : Groups) (comm rank : ℕ) → BeginsWithWorld groups n further → comm ≡ 0 → rank < n → group_rank_of groups comm rank ≡ Some rank
group_rank_of-member groups n further comm rank is world h = rw (is, world) (found n rank h)

pub group_rank_of-past : (groups : Groups) (n : ℕ) (further : Groups) (comm rank : ℕ) → BeginsWithWorld groups n further → comm ≡ 0 → n ≤ rank → group_rank_of groups comm rank ≡ None
group_rank_of-past groups n further comm rank is world h = rw (is, world) (not_found n rank h)

-- each group names ranks of the run, one at least and none twice
is_group-at : (ranks : ℕ) (groups : Groups) (k : ℕ) (group : List ℕ) → list_all (is_group ranks) groups ≡ true → slice_get groups k ≡ Some group → is_group ranks group ≡ true
is_group-at ranks [] k group all is = absurd cc
is_group-at ranks (first ∷ groups) zero group all is =
    let e : first ≡ group = cc in
    rw (← e) (and_parts (is_group ranks first) (list_all (is_group ranks) groups) all).0
is_group-at ranks (first ∷ groups) (suc k) group all is =
    is_group-at ranks groups k group (and_parts (is_group ranks first) (list_all (is_group ranks) groups) all).1 is

range-apart : (n i j d : ℕ) → i < j → j < n → eqb (get_or (range_with_len 0 n) i d) (get_or (range_with_len 0 n) j d) ≡ false
range-apart n i j d less within =
    let first : get_or (range_with_len 0 n) i d ≡ 0 + i = get_or-range_with_len 0 n i d (omega arith) in
    let second : get_or (range_with_len 0 n) j d ≡ 0 + j = get_or-range_with_len 0 n j d within in
    rw (first, second) (ne_eqb (0 + i) (0 + j) (λ e. omega (arith, less, e)))

range-below : (n : ℕ) → All (λ rank. rank < n) (range_with_len 0 n)
range-below n = λ k d within. let h : k < n = rw length-range_with_len at within in rw (get_or-range_with_len 0 n k d h) (omega arith)

world-IsGroup : (n : ℕ) → 1 ≤ n → IsGroup n (range_with_len 0 n)
world-IsGroup n some = record {
  some = rw length-range_with_len some;
  below = range-below n;
  once = IsDistinct-from_apart eqb (range_with_len 0 n) (λ i j d less within. range-apart n i j d less (let h = rw length-range_with_len at within in h));
}

below-All : (n : ℕ) (xs : List ℕ) → list_all (λ m. ltb m n) xs ≡ true → All (λ rank. rank < n) xs
below-All n [] all = All-nil (λ rank. rank < n)
below-All n (x ∷ xs) all =
    let parts = and_parts (ltb x n) (list_all (λ m. ltb m n) xs) all in
    All-cons (λ rank. rank < n) x xs (ltb-true x n parts.0) (below-All n xs parts.1)

IsGroup-from : (ranks : ℕ) (group : List ℕ) → is_group ranks group ≡ true → IsGroup ranks group
IsGroup-from ranks group is =
    let parts = and_parts _ (not (has_twice group)) is in
    let more = and_parts _ (list_all (λ m. ltb m ranks) group) parts.0 in
    record {
      some = leb-true 1 (length group) more.0;
      below = below-All ranks group more.1;
      once = distinct group (not-true _ parts.1);
    }

pub group_of-world : (groups : Groups) (n : ℕ) (further : Groups) → BeginsWithWorld groups n further → group_of groups 0 ≡ range_with_len 0 (ranks_of groups)
group_of-world groups n further is = rw (ranks_of-world groups n further is) (rw is refl)

pub groups_are_sound : (groups : Groups) (n : ℕ) (further : Groups) (comm : ℕ) → BeginsWithWorld groups n further → 1 ≤ n → list_all (is_group n) further ≡ true → comm < length groups → IsGroup (ranks_of groups) (group_of groups comm)
groups_are_sound groups n further zero is some all within =
    rw (is, length-range_with_len) (world-IsGroup n some)
groups_are_sound groups n further (suc comm) is some all within =
    let inside : comm < length further = omega (arith, within, ap length is) in
    let at : slice_get further comm ≡ Some (get_or further comm []) = slice_get-get_or further comm [] inside in
    rw (ranks_of-world groups n further is) (rw (is, at) (IsGroup-from n (get_or further comm []) (is_group-at n further comm (get_or further comm []) all at)))
