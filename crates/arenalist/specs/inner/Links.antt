-- The links of an arena's cells.
use Rattle.std.specs.Prelude.{◌≡◌, ℕ, ◌<◌, ◌^◌, List, [], ◌∷◌, length, get_or, set, Option, Some, None}
use Rattle.arenaqueue.specs.Numbers.{list_at}
use Rattle.arenaqueue.specs.inner.Numbers.{count}
use Rattle.arenalist.specs.inner.Rings.{AreLinked, rings_of, lists_of}

-- each list's own cell, the cells in each list, and how many cells there are
pub record Linked : Type 0 where
  pub heads : List ℕ
  pub lists : List (List ℕ)
  pub cells : ℕ

-- each cell has the number of the list that it is in
pub record AreOwned (owners : List (Option ℕ)) (lists : List (List ℕ)) : Type 0 where
  pub owned : (x l : ℕ) → 0 < count x (list_at lists l) → get_or owners x None ≡ Some l
  pub held : (x l : ℕ) → get_or owners x None ≡ Some l → 0 < count x (list_at lists l)

pub record AreLinks (heads nexts prevs : List ℕ) (owners : List (Option ℕ)) : Type 0 where
  pub linked : AreLinked nexts prevs (rings_of heads nexts)
  pub owned : AreOwned owners (lists_of (rings_of heads nexts))
  pub as_many : length owners ≡ length nexts
  pub small : length nexts < 2 ^ 32
  pub few : length heads < 2 ^ 32

-- the owners once cells are given to list `l`
abbrev pub owners_given : List (Option ℕ) → List ℕ → ℕ → List (Option ℕ)
owners_given owners [] l = owners
owners_given owners (x ∷ xs) l = owners_given (set owners x (Some l)) xs l
