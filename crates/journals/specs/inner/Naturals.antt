-- The numbers that some fields are.
use Rattle.std.specs.Prelude.{ℕ, ◌<◌, Bool, true, ◌&&◌, not, ◌==◌, Option, Some, None, List, [], ◌∷◌}
use Rattle.std.specs.List.{filter_map}
use Rattle.journals.specs.declared.field.Field.{Field}
use Rattle.journals.specs.declared.field.Field.TheVariants.{Natural}

abbrev pub natural_in : Field → Option ℕ
natural_in (Natural number) = Some number
natural_in _ = None

abbrev pub naturals : List Field → List ℕ
naturals fields = filter_map natural_in fields

-- each number passes the test, which it fails from then on
abbrev pub each_once : (ℕ → Bool) → List ℕ → Bool
each_once passes [] = true
each_once passes (number ∷ numbers) =
    passes number && each_once (λ other. passes other && not (other == number)) numbers

abbrev pub IsNatural : Field → Type 0
IsNatural (Natural number) = Unit {0}
IsNatural _ = ⊥

abbrev pub AreNatural : List Field → Type 0
AreNatural [] = Unit {0}
AreNatural (field ∷ fields) = IsNatural field × AreNatural fields

-- the field is a rank of a run of so many
abbrev pub IsMember : ℕ → Field → Type 0
IsMember ranks (Natural rank) = rank < ranks
IsMember ranks _ = ⊥

abbrev pub AreMembers : ℕ → List Field → Type 0
AreMembers ranks [] = Unit {0}
AreMembers ranks (field ∷ fields) = IsMember ranks field × AreMembers ranks fields
