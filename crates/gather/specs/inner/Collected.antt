-- What proofs and private contracts cite, in addition to the definitions of `specs/Collected.antt`.
use Rattle.std.specs.Prelude.{◌≡◌, ◌≢◌, ℕ, false, List, length}
use Rattle.callstore.specs.Recordings.{calls_of}
use Rattle.rankfeed.specs.declared.item.Item.{Item}
use Rattle.gather.specs.Collected.{IsKeptOf, Kept, fault_at, items_of}

-- unless memory ran out, what is kept of each rank is what its items give, however they came
abbrev pub AreKeptOf : List (List Item) → Kept → Type 0
AreKeptOf received kept =
    kept.wanted ≡ false → (rank : ℕ) → IsKeptOf kept.groups rank (items_of received rank) (calls_of kept.recording rank) (fault_at kept.faults rank)

-- the other ranks' calls and faults are as before, and memory that was wanted is wanted still
pub record LeavesOthers (rank : ℕ) (before after : Kept) : Type 0 where
  pub reading : after.reading ≡ before.reading
  pub groups : after.groups ≡ before.groups
  pub ranks : length after.recording ≡ length before.recording
  pub places : length after.faults ≡ length before.faults
  pub unwanted : after.wanted ≡ false → before.wanted ≡ false
  pub calls : (other : ℕ) → other ≢ rank → calls_of after.recording other ≡ calls_of before.recording other
  pub faults : (other : ℕ) → other ≢ rank → fault_at after.faults other ≡ fault_at before.faults other
