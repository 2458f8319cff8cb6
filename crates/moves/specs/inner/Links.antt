-- Lists of ranks: list 0 has the ranks to look at, each other list ranks that wait for one thing.
use Rattle.std.specs.Prelude.{◌≡◌, ℕ, ◌+◌, ◌<◌, ◌≤◌, List, [], ◌∷◌, length}
use Rattle.arenaqueue.specs.Numbers.{list_at}
use Rattle.arenaqueue.specs.inner.Numbers.{count, in_all}

-- how many ranks all lists have together
abbrev pub linked_ranks : List (List ℕ) → ℕ
linked_ranks [] = 0
linked_ranks (ranks ∷ lists) = length ranks + linked_ranks lists

-- Only ranks are in the lists, and each at most once. Who is in a list besides the first waits there rightly, and who
-- is in none may rest.
pub record AreListed (ranks : ℕ) (lists : List (List ℕ)) (IsWaiting : ℕ → ℕ → Type 0) (IsResting : ℕ → Type 0) : Type 0 where
  pub ranks_only : (rank : ℕ) → 0 < in_all rank lists → rank < ranks
  pub once : (rank : ℕ) → in_all rank lists ≤ 1
  pub waits : (rank list : ℕ) → 0 < list → 0 < count rank (list_at lists list) → IsWaiting rank list
  pub rests : (rank : ℕ) → rank < ranks → in_all rank lists ≡ 0 → IsResting rank
