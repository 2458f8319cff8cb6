-- The test of keys decides whether they are the same.
use Rattle.std.proofs.Common.{◌≡◌, refl, sym, ap, ℕ, Bool, true, ◌==◌, ◌&&◌, true≢false, List}
use Rattle.std.specs.Bool.{Decides}
use Rattle.std.specs.Str.{bytes_eq}
use Rattle.std.proofs.lemmas.Bool.{and_parts, eqb-true, eq-eqb}
use Rattle.std.proofs.lemmas.Slice.Eq.{bytes_eq-Decides}
use Rattle.closing.specs.Keys.{Key, World, Alone, Made, Duplicated, OfGroup, Apart, same_key}

pub same_group_true : (a b : List ℕ) → bytes_eq a b ≡ true → a ≡ b
same_group_true a b h = (bytes_eq-Decides a b).0 h

pub same_group_itself : (a : List ℕ) → bytes_eq a a ≡ true
same_group_itself a = (bytes_eq-Decides a a).1 refl

and_true : (a b : Bool) → a ≡ true → b ≡ true → (a && b) ≡ true
and_true a b p q = rw (p, q) refl

pub same_key_true : (a b : Key) → same_key a b ≡ true → a ≡ b
same_key_true World World h = refl
same_key_true (Alone rank) (Alone rank') h = ap Alone (eqb-true rank rank' h)
same_key_true (Made parent count group) (Made parent' count' group') h =
    let first = and_parts (same_key parent parent' && count == count') (bytes_eq group group') h in
    let second = and_parts (same_key parent parent') (count == count') first.0 in
    let p : parent ≡ parent' = same_key_true parent parent' second.0 in
    let n : count ≡ count' = eqb-true count count' second.1 in
    let g : group ≡ group' = same_group_true group group' first.1 in
    cc
same_key_true (Duplicated parent count group) (Duplicated parent' count' group') h =
    let first = and_parts (same_key parent parent' && count == count') (bytes_eq group group') h in
    let second = and_parts (same_key parent parent') (count == count') first.0 in
    let p : parent ≡ parent' = same_key_true parent parent' second.0 in
    let n : count ≡ count' = eqb-true count count' second.1 in
    let g : group ≡ group' = same_group_true group group' first.1 in
    cc
same_key_true (OfGroup group count) (OfGroup group' count') h =
    let parts = and_parts (bytes_eq group group') (count == count') h in
    let n : count ≡ count' = eqb-true count count' parts.1 in
    let g : group ≡ group' = same_group_true group group' parts.0 in
    cc
same_key_true (Apart group count) (Apart group' count') h =
    let parts = and_parts (bytes_eq group group') (count == count') h in
    let n : count ≡ count' = eqb-true count count' parts.1 in
    let g : group ≡ group' = same_group_true group group' parts.0 in
    cc
same_key_true a b h = absurd (true≢false (sym h))

pub same_key_itself : (a : Key) → same_key a a ≡ true
same_key_itself World = refl
same_key_itself (Alone rank) = eq-eqb rank rank refl
same_key_itself (Made parent count group) =
    and_true (same_key parent parent && count == count) (bytes_eq group group)
    (and_true (same_key parent parent) (count == count) (same_key_itself parent) (eq-eqb count count refl)) (same_group_itself group)
same_key_itself (Duplicated parent count group) =
    and_true (same_key parent parent && count == count) (bytes_eq group group)
    (and_true (same_key parent parent) (count == count) (same_key_itself parent) (eq-eqb count count refl)) (same_group_itself group)
same_key_itself (OfGroup group count) = and_true (bytes_eq group group) (count == count) (same_group_itself group) (eq-eqb count count refl)
same_key_itself (Apart group count) = and_true (bytes_eq group group) (count == count) (same_group_itself group) (eq-eqb count count refl)

pub same_key-Decides : (a b : Key) → Decides (same_key a b) (a ≡ b)
same_key-Decides a b = (same_key_true a b, λ e. rw e (same_key_itself b))
