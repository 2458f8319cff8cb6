-- What holds of the groups of every head.
use Rattle.mpicall.specs.Names.{Rank}
use Rattle.std.specs.Prelude.{ℕ, ◌≤◌, ◌<◌, ◌==◌, List, length}
use Rattle.std.specs.List.{All, IsDistinct}

-- a group of a run with so many ranks names ranks of the run: one at least, and none twice
pub record IsGroup (ranks : ℕ) (group : List Rank) : Type 0 where
  pub some : 1 ≤ length group
  pub below : All (λ rank. rank < ranks) group
  pub once : IsDistinct (λ x y. x == y) group
