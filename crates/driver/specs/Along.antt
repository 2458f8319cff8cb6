-- Lists side by side.
use Rattle.std.specs.Prelude.{List, [], ◌∷◌, ⊤}

-- three lists of one length, whose members at each place are related
abbrev pub Along : {A B C : Type 0} → (A → B → C → Type 0) → List A → List B → List C → Type 0
Along R [] [] [] = ⊤
Along R (x ∷ xs) (y ∷ ys) (z ∷ zs) = R x y z × Along R xs ys zs
Along R xs ys zs = ⊥
