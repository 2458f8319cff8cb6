-- Two fields after some others.
use Rattle.std.proofs.Common.{◌≡◌, ℕ, Bool, true, false, ◌||◌, List, [], ◌∷◌, take, drop, refl}
use Rattle.std.specs.List.{list_any}
use Rattle.std.proofs.lemmas.List.{drop-drop}
use Rattle.mpicall.specs.Line.{is_any}

or_false : (a b : Bool) → ((a || false) || (b || false)) ≡ (a || (b || false))
or_false true b = refl
or_false false b = refl

one_or_false : (a : Bool) → ((a || false) || false) ≡ (a || false)
one_or_false true = refl
one_or_false false = refl

pub first_two : (fields : List (List ℕ)) → (list_any is_any (take 1 fields) || list_any is_any (take 1 (drop 1 fields))) ≡ list_any is_any (take 2 fields)
first_two [] = refl
first_two (a ∷ []) = one_or_false (is_any a)
first_two (a ∷ b ∷ fields) = or_false (is_any a) (is_any b)

pub ruleset wildcard_steps = (first_two, drop-drop)
