-- Members in order of their colours: those of one colour are together.
use Rattle.std.proofs.Common.{◌≡◌, ℕ, ◌+◌, ◌≤◌, suc, Bool, true, false, not, eqb, ltb, List, [], ◌∷◌, ◌++◌, length, map, take, drop, sym, ap, ◌∙◌, refl, arith, inl, inr, append_assoc, Some, unwrap_or, subst}
use Rattle.std.specs.List.{position_or_len, position, slice_get, filter, dedup_from, AllByRecursion}
use Rattle.std.specs.List.Sorted.{IsStrictlySortedBy}
use Rattle.std.specs.Ordering.{nat_cmp, ordering_then}
use Rattle.std.specs.declared.cmp.Ordering.{Ordering}
use Rattle.std.specs.declared.cmp.Ordering.TheVariants.{Less, Equal, Greater}
use Rattle.std.proofs.lemmas.Cmp.{ranked}
use Rattle.std.proofs.lemmas.List.{map-append}
use Rattle.std.proofs.lemmas.List.Sums.{prefix_len-le-length}
use Rattle.std.proofs.lemmas.Bool.{cases_Bool, eqb-true, eqb-false, ne_eqb, eq-eqb, ltb-false}
use Rattle.mpigroup.specs.Splits.{ranks_with, colours_of, member_cmp}
use Rattle.mpigroup.specs.declared.split.Member.{Member}

-- no colour is below this one
abbrev pub AtLeast : ℕ → List Member → Type 0
AtLeast low members = AllByRecursion (λ member. low ≤ member.colour) members

-- the colours never fall
abbrev pub ColoursRise : List Member → Type 0
ColoursRise [] = Unit {0}
ColoursRise (x ∷ xs) = AtLeast x.colour xs × ColoursRise xs

abbrev pub has_colour : ℕ → Member → Bool
has_colour colour member = eqb member.colour colour

-- how many at the front have this colour
abbrev pub run : ℕ → List Member → ℕ
run colour members = position_or_len (λ member. not (has_colour colour member)) members

-- the groups of all colours
abbrev pub groups_by_colour : List Member → List (List ℕ)
groups_by_colour members = map (λ colour. ranks_with colour members) (colours_of members)

at_least_more : (low more : ℕ) (xs : List Member) → low ≤ more → AtLeast more xs → AtLeast low xs
at_least_more low more [] h all = tt
at_least_more low more (x ∷ xs) h all = (omega (arith, all.0), at_least_more low more xs h all.1)

-- no member of greater colours has this one
filter-above : (c : ℕ) (xs : List Member) → AtLeast (suc c) xs → filter (has_colour c) xs ≡ []
filter-above c [] all = refl
filter-above c (x ∷ xs) all =
    let other : eqb x.colour c ≡ false = ne_eqb x.colour c (λ e. omega (arith, all.0)) in
    rw other (filter-above c xs all.1)

-- the members of the least colour are in front
filter-run : (c : ℕ) (xs : List Member) → AtLeast c xs → ColoursRise xs → filter (has_colour c) xs ≡ take (run c xs) xs
filter-run c [] all rise = refl
filter-run c (x ∷ xs) all rise = elim (cases_Bool (eqb x.colour c)) [
  | inl same ↦ let e : 1 + run c xs ≡ suc (run c xs) = omega arith in rw (same, e) (ap (λ l. x ∷ l) (filter-run c xs all.1 rise.1))
  | inr other ↦
      let above : suc c ≤ x.colour = omega (arith, all.0, eqb-false x.colour c other) in
      rw other (filter-above c xs (at_least_more (suc c) x.colour xs above rise.0))
]

-- after them come greater colours
above_run : (c : ℕ) (xs : List Member) → AtLeast c xs → ColoursRise xs → AtLeast (suc c) (drop (run c xs) xs)
above_run c [] all rise = tt
above_run c (x ∷ xs) all rise = elim (cases_Bool (eqb x.colour c)) [
  | inl same ↦ let e : 1 + run c xs ≡ suc (run c xs) = omega arith in rw (same, e) (above_run c xs all.1 rise.1)
  | inr other ↦
      let above : suc c ≤ x.colour = omega (arith, all.0, eqb-false x.colour c other) in
      rw other (above, at_least_more (suc c) x.colour xs above rise.0)
]

rise_behind : (c : ℕ) (xs : List Member) → ColoursRise xs → ColoursRise (drop (run c xs) xs)
rise_behind c [] rise = tt
rise_behind c (x ∷ xs) rise = elim (cases_Bool (eqb x.colour c)) [
  | inl same ↦ let e : 1 + run c xs ≡ suc (run c xs) = omega arith in rw (same, e) (rise_behind c xs rise.1)
  | inr other ↦ rw other rise
]

-- members of another colour are those after the front
filter-behind : (c d : ℕ) (xs : List Member) → (c ≡ d → ⊥) → filter (has_colour d) xs ≡ filter (has_colour d) (drop (run c xs) xs)
filter-behind c d [] apart = refl
filter-behind c d (x ∷ xs) apart = elim (cases_Bool (eqb x.colour c)) [
  | inl same ↦
      let e : 1 + run c xs ≡ suc (run c xs) = omega arith in
      let is : x.colour ≡ c = eqb-true x.colour c same in
      let no : eqb x.colour d ≡ false = ne_eqb x.colour d (λ f. apart (sym is ∙ f)) in
      rw (same, e, no) (filter-behind c d xs apart)
  | inr other ↦ rw other refl
]

-- the first colour, and those after its members
colours-behind : (c : ℕ) (xs : List Member) → dedup_from eqb c (map (λ m. m.colour) xs) ≡ c ∷ colours_of (drop (run c xs) xs)
colours-behind c [] = refl
colours-behind c (x ∷ xs) = elim (cases_Bool (eqb x.colour c)) [
  | inl same ↦ let e : 1 + run c xs ≡ suc (run c xs) = omega arith in rw (same, e) (colours-behind c xs)
  | inr other ↦ rw other refl
]

-- each of the colours is another one
abbrev pub AllOther : ℕ → List ℕ → Type 0
AllOther c colours = AllByRecursion (λ d. c ≡ d → ⊥) colours

other_from : (c d : ℕ) (xs : List Member) → (c ≡ d → ⊥) → AtLeast (suc c) xs → AllOther c (dedup_from eqb d (map (λ m. m.colour) xs))
other_from c d [] apart all = (apart, tt)
other_from c d (x ∷ xs) apart all = elim (cases_Bool (eqb x.colour d)) [
  | inl same ↦ rw same (other_from c d xs apart all.1)
  | inr other ↦ rw other (apart, other_from c x.colour xs (λ e. omega (arith, all.0)) all.1)
]

other_colours : (c : ℕ) (xs : List Member) → AtLeast (suc c) xs → AllOther c (colours_of xs)
other_colours c [] all = tt
other_colours c (x ∷ xs) all = other_from c x.colour xs (λ e. omega (arith, all.0)) all.1

same_groups : (c : ℕ) (xs : List Member) (colours : List ℕ) → AllOther c colours → map (λ d. ranks_with d xs) colours ≡ map (λ d. ranks_with d (drop (run c xs) xs)) colours
same_groups c xs [] other = refl
same_groups c xs (d ∷ colours) other = rw (← filter-behind c d xs other.0, same_groups c xs colours other.1) refl

run_first : (x : Member) (xs : List Member) → run x.colour (x ∷ xs) ≡ suc (run x.colour xs)
run_first x xs =
    let same : eqb x.colour x.colour ≡ true = eq-eqb x.colour x.colour refl in
    let e : 1 + run x.colour xs ≡ suc (run x.colour xs) = omega arith in
    rw (same, e) refl

drop_first : (x : Member) (xs : List Member) → drop (run x.colour (x ∷ xs)) (x ∷ xs) ≡ drop (run x.colour xs) xs
drop_first x xs = ap (λ n. drop n (x ∷ xs)) (run_first x xs)

-- the members of the first colour make the first group
pub groups_by_colour-cons : (x : Member) (xs : List Member) → ColoursRise (x ∷ xs) → groups_by_colour (x ∷ xs) ≡ map (λ m. m.rank) (take (run x.colour (x ∷ xs)) (x ∷ xs)) ∷ groups_by_colour (drop (run x.colour (x ∷ xs)) (x ∷ xs))
groups_by_colour-cons x xs rise =
    let c : ℕ = x.colour in
    let members : List Member = x ∷ xs in
    let behind : List Member = drop (run c members) members in
    let least : AtLeast c members = (omega arith, rise.0) in
    let rest : behind ≡ drop (run c xs) xs = drop_first x xs in
    let colours : colours_of members ≡ c ∷ colours_of behind = colours-behind c xs ∙ ap (λ l. c ∷ colours_of l) (sym rest) in
    let others : AllOther c (colours_of behind) = other_colours c behind (above_run c members least rise) in
    ap (map (λ d. ranks_with d members)) colours
    ∙ ap (λ l. map (λ m. m.rank) l ∷ map (λ d. ranks_with d members) (colours_of behind)) (filter-run c members least rise)
    ∙ ap (λ l. map (λ m. m.rank) (take (run c members) members) ∷ l) (same_groups c members (colours_of behind) others)

-- members in their order have rising colours
colour_below : (a b : ℕ) (o p : Ordering) → o ≡ nat_cmp a b → ordering_then o p ≡ Less → a ≤ b
colour_below a b Less p e is = omega (arith, ranked a b Less e)
colour_below a b Equal p e is = omega (arith, ranked a b Equal e)
colour_below a b Greater p e is = absurd cc

at_least-sorted : (x : Member) (xs : List Member) → AllByRecursion (λ y. member_cmp x y ≡ Less) xs → AtLeast x.colour xs
at_least-sorted x [] all = tt
at_least-sorted x (y ∷ xs) all = (colour_below x.colour y.colour _ _ refl all.0, at_least-sorted x xs all.1)

pub rise-sorted : (xs : List Member) → IsStrictlySortedBy member_cmp xs → ColoursRise xs
unfolding IsStrictlySortedBy
rise-sorted [] sorted = tt
rise-sorted (x ∷ xs) sorted = (at_least-sorted x xs sorted.0, rise-sorted xs sorted.1)

-- the groups of the members in front, and the members that are left
pub record AreCut (all : List (List ℕ)) (groups : List (List ℕ)) (rest : List Member) : Type 0 where
  pub whole : groups ++ groups_by_colour rest ≡ all
  pub rise : ColoursRise rest

cut_first_at : (all groups : List (List ℕ)) (y : Member) (ys : List Member) → AreCut all groups (y ∷ ys) → AreCut all (groups ++ map (λ m. m.rank) (take (run y.colour (y ∷ ys)) (y ∷ ys)) ∷ []) (drop (run y.colour (y ∷ ys)) (y ∷ ys))
cut_first_at all groups y ys so_far = record {
  whole = append_assoc groups (map (λ m. m.rank) (take (run y.colour (y ∷ ys)) (y ∷ ys)) ∷ []) (groups_by_colour (drop (run y.colour (y ∷ ys)) (y ∷ ys))) ∙ ap (λ l. groups ++ l) (sym (groups_by_colour-cons y ys so_far.rise)) ∙ so_far.whole;
  rise = rise_behind y.colour (y ∷ ys) so_far.rise;
}

cut_first : (all groups : List (List ℕ)) (rest : List Member) (x : Member) → slice_get rest 0 ≡ Some x → AreCut all groups rest → AreCut all (groups ++ map (λ m. m.rank) (take (run x.colour rest) rest) ∷ []) (drop (run x.colour rest) rest)
cut_first all groups [] x is so_far = absurd cc
cut_first all groups (y ∷ ys) x is so_far =
    let first : y ≡ x = cc in
    let P : Member → Type 0 = λ z. AreCut all (groups ++ map (λ m. m.rank) (take (run z.colour (y ∷ ys)) (y ∷ ys)) ∷ []) (drop (run z.colour (y ∷ ys)) (y ∷ ys)) in
    subst P first (cut_first_at all groups y ys so_far)

pub run_within : (colour : ℕ) (members : List Member) (n : ℕ) → n ≡ run colour members → n ≤ length members
run_within colour members n is =
    let most : run colour members ≤ length members = prefix_len-le-length _ members in omega arith

pub AreCut-more : {V : Type 0} (items : V → List ℕ) (all : List (List ℕ)) (kept new : List V) (rest group others : List Member) (x : Member) (n : ℕ) (g : V) → AreCut all (map items kept) rest → slice_get rest 0 ≡ Some x → n ≡ run x.colour rest → group ≡ take n rest → others ≡ drop n rest → items g ≡ map (λ m. m.rank) group → new ≡ kept ++ g ∷ [] → AreCut all (map items new) others
AreCut-more items all kept new rest group others x n g so_far is count front behind ranks pushed =
    rw (pushed, map-append, behind, ranks, front, count) (cut_first all (map items kept) rest x is so_far)

pub unwrap_or-position : (p : Member → Bool) (xs : List Member) → unwrap_or (position p xs) (length xs) ≡ position_or_len p xs
unwrap_or-position p xs = elim (cases_Bool (ltb (position_or_len p xs) (length xs))) [
  | inl within ↦ rw within refl
  | inr past ↦
      let most : position_or_len p xs ≤ length xs = prefix_len-le-length _ xs in
      rw past (omega (arith, ltb-false (position_or_len p xs) (length xs) past))
]
