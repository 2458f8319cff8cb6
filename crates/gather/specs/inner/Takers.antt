-- What proofs and private contracts cite, in addition to the definitions of `specs/Takers.antt`.
use Rattle.std.specs.Prelude.{◌≡◌, ℕ, true, List, ◌++◌, length, map}
use Rattle.rankfeed.specs.Items.{end_mark_of, are_ended, IsFeed}
use Rattle.rankfeed.specs.Answers.{Receives}
use Rattle.rankfeed.specs.Rings.{taker_ring, received_by, left_for}
use Rattle.rankfeed.specs.declared.answer.Took.{Took}
use Rattle.rankfeed.specs.declared.ring.Taker.{Taker}
use Rattle.gather.specs.Collected.{Kept, Enters}
use Rattle.gather.specs.inner.Collected.{AreKeptOf}
use Rattle.gather.specs.declared.ledger.Stepped.{Stepped}

-- what is kept is what the takers' items give: a list of records and a place for a fault for each taker, and of each
-- rank its records before its first fault, and that fault
pub record Collects (takers : List Taker) (kept : Kept) : Type 0 where
  pub one_a_rank : length takers ≡ length kept.recording
  pub one_fault_a_rank : length takers ≡ length kept.faults
  pub collected : AreKeptOf (map received_by takers) kept

-- one item at most was taken by a rank's taker, and entered. Where all that is left is known, it is what was known
-- before without that item, and one was found
pub record EntersNext (rank : ℕ) (was : Taker) (old : Kept) (answer : Stepped) (now : Taker) (new : Kept) : Type 0 where
  pub found : Took
  pub name : taker_ring now ≡ taker_ring was
  pub receives : Receives (end_mark_of (received_by was)) found (received_by was) (received_by now)
  pub is_feed : IsFeed (received_by now)
  pub left : are_ended (received_by was ++ left_for was) ≡ true → received_by now ++ left_for now ≡ received_by was ++ left_for was
  pub never_empty : are_ended (received_by was ++ left_for was) ≡ true → ¬ (found ≡ Took.Empty)
  pub enters : Enters rank found old answer new
