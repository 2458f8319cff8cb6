-- What proofs and private contracts cite, in addition to the definitions of `specs/Arena.antt`.
use Rattle.std.specs.Prelude.{ℕ, List, map}

-- the values of each list, for those who do not want nodes
abbrev pub contents : {T : Type 0} → List (List (ℕ × T)) → List (List T)
contents lists = map (λ list. map (λ entry. entry.1) list) lists
