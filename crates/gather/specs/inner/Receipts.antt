-- What proofs and private contracts cite, in addition to the definitions of `specs/Receipts.antt`.
use Rattle.std.specs.Prelude.{◌≡◌, ℕ, List, ◌++◌, map}
use Rattle.rankfeed.specs.Rings.{taker_ring, received_by}
use Rattle.rankfeed.specs.declared.ring.Receipt.{Receipt}
use Rattle.rankfeed.specs.declared.ring.Taker.{Taker}
use Rattle.gather.specs.Takers.{received_in, left_in}
use Rattle.gather.specs.Receipts.{AreAllOf}

-- the taker of a rank knows all that is left by the receipt, and nothing more was received
pub record Meets (rank : ℕ) (receipt : Receipt) (old new : List Taker) : Type 0 where
  pub names : map taker_ring new ≡ map taker_ring old
  pub received : map received_by new ≡ map received_by old
  pub left : AreAllOf receipt (received_in new rank ++ left_in new rank)
