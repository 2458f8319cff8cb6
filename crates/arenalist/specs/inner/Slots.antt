-- The values that an arena keeps by cell, and the cells that are spare.
use Rattle.std.specs.Prelude.{◌≡◌, ℕ, ◌+◌, ◌<◌, ◌≤◌, true, Option, Some, None, is_some, List, [], ◌∷◌, ◌++◌, length, get_or, map}
use Rattle.arenaqueue.specs.inner.Numbers.{count, in_all}

abbrev pub entry_of : {T : Type 0} → ℕ → Option T → List (ℕ × T)
entry_of n None = []
entry_of n (Some v) = (n, v) ∷ []

-- the cells that have a value, with it
abbrev pub entries : {T : Type 0} → List (Option T) → List ℕ → List (ℕ × T)
entries values [] = []
entries values (n ∷ ns) = entry_of n (get_or values n None) ++ entries values ns

abbrev pub entries_of : {T : Type 0} → List (Option T) → List (List ℕ) → List (List (ℕ × T))
entries_of values lists = map (λ list. entries values list) lists

-- a cell is a head, is in a list or is spare; each that is in a list has a value
pub record IsArena {T : Type 0} (heads : List ℕ) (lists : List (List ℕ)) (cells : ℕ) (values : List (Option T)) (free : List ℕ) (room : ℕ) : Type 0 where
  pub once : (x : ℕ) → count x heads + in_all x lists + count x free ≤ 1
  pub within : (x : ℕ) → 0 < count x heads + in_all x lists + count x free → x < cells
  pub as_many : length values ≡ cells
  pub valued : (x : ℕ) → 0 < in_all x lists → is_some (get_or values x None) ≡ true
  pub room_enough : cells ≤ room
