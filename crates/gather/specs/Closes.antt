-- What the close of a session answers by what the receipts hold, and a ledger by what it keeps.
use Rattle.moves.specs.declared.reading.Reading.{Reading}
use Rattle.std.specs.Prelude.{◌≡◌, ℕ, ⊤, false, Some, None, Option, Result, Ok, Err, List}
use Rattle.mpigroup.specs.Groups.{Groups}
use Rattle.callstore.specs.Recordings.{Lists, IsClosed}
use Rattle.rankfeed.specs.declared.ring.Receipt.{Receipt}
use Rattle.gather.specs.Outcomes.{refusal_of, recording_of_traces}
use Rattle.gather.specs.Collected.{Kept, refusal_kept}
use Rattle.gather.specs.Receipts.{first_missing, traces_held}
use Rattle.gather.specs.declared.fault.Refusal.{Refusal}
use Rattle.gather.specs.declared.outcome.CloseFault.{CloseFault}
use Rattle.gather.specs.declared.outcome.CloseFault.TheVariants.{Memory, Unproved, Refused}
use Rattle.moves.specs.Analysed.{Analysed}

-- there is no refusal, and the outcome is that of the records: each rank's once, in order, and none after its
-- end record, which is its last
pub record IsOutcomeOf (refusal : Option Refusal) (reading : Reading) (groups : Groups) (lists : Lists) (outcome : Analysed) : Type 0 where
  pub no_refusal : refusal ≡ None
  pub same_reading : outcome.reading ≡ reading
  pub same_groups : outcome.groups ≡ groups
  pub recording : outcome.recording ≡ lists
  pub closed : IsClosed lists

-- Unproved names a rank without a receipt. Only where all is there, the answer is the refusal of the lowest
-- rank that has a fault, or else the outcome of the records.
abbrev pub ClosesOver : (ℕ → Type 0) → Type 0 → Option Refusal → Reading → Groups → Lists → Result Analysed CloseFault → Type 0
ClosesOver misses all refusal reading groups recording (Err Memory) = ⊤
ClosesOver misses all refusal reading groups recording (Err (Unproved rank)) = misses rank
ClosesOver misses all refusal reading groups recording (Err (Refused told)) = all × (refusal ≡ Some told)
ClosesOver misses all refusal reading groups recording (Ok outcome) = all × IsOutcomeOf refusal reading groups recording outcome

-- Unproved names the lowest rank without a receipt. With a receipt for each, the answer is that over the
-- traces that the receipts hold.
abbrev pub Closes : Reading → Groups → List (Option Receipt) → Result Analysed CloseFault → Type 0
Closes reading groups receipts answer =
    ClosesOver (λ rank. first_missing receipts ≡ Some rank) (first_missing receipts ≡ None) (refusal_of groups (traces_held receipts))
    reading groups (recording_of_traces (traces_held receipts)) answer

-- A ledger keeps all where no memory ran out, and needs no receipts.
abbrev pub Concludes : Kept → Result Analysed CloseFault → Type 0
Concludes kept answer = ClosesOver (λ rank. ⊥) (kept.wanted ≡ false) (refusal_kept kept) kept.reading kept.groups kept.recording answer
