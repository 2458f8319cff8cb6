-- What proofs and private contracts cite, in addition to the definitions of `specs/Seats.antt`.
use Rattle.std.specs.Prelude.{ℕ, List}

-- places in the order in which they came, and how many there is room for
pub record Listed : Type 0 where
  pub places : List ℕ
  pub room : ℕ
