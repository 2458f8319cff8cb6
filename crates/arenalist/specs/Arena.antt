-- Lists of nodes with values, by their numbers.
use Rattle.std.specs.Prelude.{◌≡◌, ℕ, ◌+◌, Option, Some, None, IsSome, List, [], ◌∷◌, ◌++◌, map, drop, slice_set, ◌==◌, if◌then◌else◌}
use Rattle.arenaqueue.specs.Numbers.{list_at}

-- the lists, each an entry (node, value) after the other; how many nodes are spare; and the count
pub record Arena (T : Type 0) : Type 0 where
  pub lists : List (List (ℕ × T))
  pub spare : ℕ
  pub work : ℕ

-- the value at a node of a list
abbrev pub value_in : {T : Type 0} → List (ℕ × T) → ℕ → Option T
value_in [] n = None
value_in (entry ∷ list) n = if n == entry.0 then Some entry.1 else value_in list n

abbrev pub or_value : {T : Type 0} → Option T → Option T → Option T
or_value None other = other
or_value (Some v) other = Some v

-- the value at a node, in whichever list it is; None where it is in no list
abbrev pub value_at : {T : Type 0} → List (List (ℕ × T)) → ℕ → Option T
value_at [] n = None
value_at (list ∷ lists) n = or_value (value_in list n) (value_at lists n)

-- the node is in the list, and in some list
abbrev pub HasNode : {T : Type 0} → List (ℕ × T) → ℕ → Type 0
HasNode list n = IsSome (value_in list n)

abbrev pub IsLinked : {T : Type 0} → List (List (ℕ × T)) → ℕ → Type 0
IsLinked lists n = IsSome (value_at lists n)

-- how often a node is in a list, and in the lists
abbrev pub times_in : {T : Type 0} → List (ℕ × T) → ℕ → ℕ
times_in [] n = 0
times_in (entry ∷ list) n = (if n == entry.0 then 1 else 0) + times_in list n

abbrev pub times : {T : Type 0} → List (List (ℕ × T)) → ℕ → ℕ
times [] n = 0
times (list ∷ lists) n = times_in list n + times lists n

abbrev pub first_node : {T : Type 0} → List (ℕ × T) → Option ℕ
first_node [] = None
first_node (entry ∷ list) = Some entry.0

abbrev pub first_value : {T : Type 0} → List (ℕ × T) → Option T
first_value [] = None
first_value (entry ∷ list) = Some entry.1

-- what follows a node in its list
abbrev pub behind : {T : Type 0} → List (ℕ × T) → ℕ → List (ℕ × T)
behind [] n = []
behind (entry ∷ list) n = if n == entry.0 then list else behind list n

-- a list without a node
abbrev pub without_node : {T : Type 0} → List (ℕ × T) → ℕ → List (ℕ × T)
without_node [] n = []
without_node (entry ∷ list) n = if n == entry.0 then without_node list n else entry ∷ without_node list n

-- the lists once a node is taken out of its list: every other list stays
abbrev pub unlinked : {T : Type 0} → List (List (ℕ × T)) → ℕ → List (List (ℕ × T))
unlinked lists n = map (λ list. without_node list n) lists

-- the lists once a node with a value is put at the back of list `l`
abbrev pub linked : {T : Type 0} → List (List (ℕ × T)) → ℕ → ℕ → T → List (List (ℕ × T))
linked lists l n v = slice_set lists l (list_at lists l ++ (n, v) ∷ [])

-- the lists once all of list `from` is put after list `to`
abbrev pub spliced : {T : Type 0} → List (List (ℕ × T)) → ℕ → ℕ → List (List (ℕ × T))
spliced lists to from = slice_set (slice_set lists to (list_at lists to ++ list_at lists from)) from []

-- the lists once the value at a node is another
abbrev pub revalued_in : {T : Type 0} → List (ℕ × T) → ℕ → T → List (ℕ × T)
revalued_in [] n v = []
revalued_in (entry ∷ list) n v = (if n == entry.0 then (n, v) else entry) ∷ revalued_in list n v

abbrev pub revalued : {T : Type 0} → List (List (ℕ × T)) → ℕ → T → List (List (ℕ × T))
revalued lists n v = map (λ list. revalued_in list n v) lists

-- node `n` is the first of list `l`, and the list has the rest once the node is taken out
pub record IsFirst {T : Type 0} (lists : List (List (ℕ × T))) (l n : ℕ) : Type 0 where
  pub value : T
  pub found : value_at lists n ≡ Some value
  pub is : list_at lists l ≡ (n, value) ∷ drop 1 (list_at lists l)
  pub rest : unlinked lists n ≡ slice_set lists l (drop 1 (list_at lists l))
