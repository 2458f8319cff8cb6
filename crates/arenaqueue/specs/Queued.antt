-- Lists of values by their numbers.
use Rattle.std.specs.Prelude.{ℕ, List}

-- the lists, each with its values from the first on; how many nodes are spare; and the count
pub record Queued (T : Type 0) : Type 0 where
  pub lists : List (List T)
  pub spare : ℕ
  pub work : ℕ
