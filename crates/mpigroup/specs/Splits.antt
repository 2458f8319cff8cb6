-- The groups that a split of a communicator makes (MPI 4.0, section 7.4.2): one for each colour that a
-- member of the old group gives. A new group has the members that give its colour, in the order of the
-- keys that they give, and where the keys are equal in the order of their ranks in the old group.
use Rattle.mpicall.specs.Names.{Rank}
use Rattle.std.specs.Prelude.{ℕ, ℤ, ◌+◌, ◌==◌, Option, Some, None, if◌then◌else◌, List, [], ◌∷◌, map, filter}
use Rattle.std.specs.List.{dedup}
use Rattle.std.specs.Ordering.{nat_cmp, int_cmp, ordering_then, is_lt}
use Rattle.std.specs.declared.cmp.Ordering.{Ordering}
use Rattle.mpigroup.specs.declared.split.Member.{Member}

-- what each member of the old group gives, by its rank there: a colour or none, and a key
abbrev pub Choices : Type 0
Choices = List (Option ℕ × ℤ)

-- the members that give a colour, of those from one rank on
abbrev pub members_from : Rank → Choices → List Member
members_from rank [] = []
members_from rank ((Some colour, key) ∷ choices) =
    record { colour = colour; key = key; rank = rank } ∷ members_from (rank + 1) choices
members_from rank ((None, key) ∷ choices) = members_from (rank + 1) choices

-- the order of members: by colour, then by key, then by rank in the old group
abbrev pub member_cmp : Member → Member → Ordering
member_cmp x y = ordering_then (nat_cmp x.colour y.colour) (ordering_then (int_cmp x.key y.key) (nat_cmp x.rank y.rank))

-- a list in order with one more element in its place
abbrev pub put_in : {T : Type 0} → (T → T → Ordering) → T → List T → List T
put_in cmp x [] = x ∷ []
put_in cmp x (y ∷ ys) = if is_lt (cmp x y) then x ∷ y ∷ ys else y ∷ put_in cmp x ys

-- the elements of a list in order
abbrev pub in_order : {T : Type 0} → (T → T → Ordering) → List T → List T
in_order cmp [] = []
in_order cmp (x ∷ xs) = put_in cmp x (in_order cmp xs)

-- all members that give a colour, in their order
abbrev pub members_in_order : Choices → List Member
members_in_order choices = in_order member_cmp (members_from 0 choices)

-- the ranks of the members that give one colour
abbrev pub ranks_with : ℕ → List Member → List ℕ
ranks_with colour members = map (λ member. member.rank) (filter (λ member. member.colour == colour) members)

-- the new group of one colour, as ranks in the old group
abbrev pub colour_group : Choices → ℕ → List Rank
colour_group choices colour = ranks_with colour (members_in_order choices)

-- the colours of some members in their order, each once
abbrev pub colours_of : List Member → List ℕ
colours_of members = dedup (λ x y. x == y) (map (λ member. member.colour) members)

-- the new groups, in rising order of their colours
abbrev pub split_of : Choices → List (List ℕ)
split_of choices = map (colour_group choices) (colours_of (members_in_order choices))
