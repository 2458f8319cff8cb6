-- What proofs and private contracts cite, in addition to the definitions of `specs/Numbers.antt`.
use Rattle.std.specs.Prelude.{ℕ, ◌+◌, List, [], ◌∷◌, Option, Some, None, ◌==◌, if◌then◌else◌}

-- how often a number is in a list, and in all lists
abbrev pub count : ℕ → List ℕ → ℕ
count n [] = 0
count n (x ∷ xs) = (if n == x then 1 else 0) + count n xs

abbrev pub in_all : ℕ → List (List ℕ) → ℕ
in_all n [] = 0
in_all n (xs ∷ lists) = count n xs + in_all n lists

-- the list without a number
abbrev pub without : ℕ → List ℕ → List ℕ
without n [] = []
without n (x ∷ xs) = if n == x then without n xs else x ∷ without n xs

-- what follows a number
abbrev pub after : ℕ → List ℕ → List ℕ
after n [] = []
after n (x ∷ xs) = if n == x then xs else after n xs

abbrev pub first_of : List ℕ → Option ℕ
first_of [] = None
first_of (x ∷ _) = Some x
