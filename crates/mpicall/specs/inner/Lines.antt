-- What proofs and private contracts cite, in addition to the definitions of `specs/Lines.antt`.
use Rattle.std.specs.Prelude.{ℕ, Bool, true, false, Option, Some, None, List, [], ◌∷◌}
use Rattle.std.specs.Borrow.{Bor}
use Rattle.mpicall.specs.Lines.{split_fields}

-- the fields of what is left of a body, if anything is
abbrev pub split_some : Option (Bor (List ℕ)) → List (List ℕ)
split_some None = []
split_some (Some rest) = split_fields rest.now

-- no fields are left
abbrev pub is_empty : List (List ℕ) → Bool
is_empty [] = true
is_empty (_ ∷ _) = false
