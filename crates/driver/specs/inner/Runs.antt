-- What proofs and private contracts cite, in addition to the definitions of `specs/Runs.antt`.
use Rattle.moves.specs.declared.reading.Reading.{Reading}
use Rattle.std.specs.Prelude.{◌≡◌, ℕ, Bool, ◌+◌, ⊤, Option, Some, None, Result, Ok, Err, List, [], ◌∷◌, map}
use Rattle.mpicall.specs.Source.{coming}
use Rattle.mpicall.specs.declared.source.Source.{Source}
use Rattle.mpigroup.specs.Groups.{Groups}
use Rattle.rankfeed.specs.declared.item.Item.{Item}
use Rattle.rankfeed.specs.declared.ring.Receipt.{Receipt}
use Rattle.gather.specs.inner.Closes.{IsOutcomeOver}
use Rattle.gather.specs.Collectors.{rings, kept}
use Rattle.driver.specs.Threads.{IsFedOrNotStarted}
use Rattle.gather.specs.Receipts.{trace_of_items}
use Rattle.gather.specs.declared.collector.Collector.{Collector}
use Rattle.gather.specs.declared.fault.RunFault.{RunFault}
use Rattle.gather.specs.declared.fault.RunFault.TheVariants.{Memory, Unproved, Refused}
use Rattle.gather.specs.declared.outcome.CloseFault.{CloseFault}
use Rattle.gather.specs.declared.outcome.CloseFault.TheVariants as close
use Rattle.moves.specs.Analysed.{Analysed}
use Rattle.driver.specs.declared.threads.FeedResult.{FeedResult}

-- a later time of the same session: its feeds, its reading and its head are as they were
pub record IsSameSession (old new : Collector) : Type 0 where
  pub names : rings new ≡ rings old
  pub reading : (kept new).reading ≡ (kept old).reading
  pub groups : (kept new).groups ≡ (kept old).groups

-- the receipt that came of a source, if one did
abbrev pub receipt_in : {E : Type 0} → Result Receipt E → Option Receipt
receipt_in (Ok receipt) = Some receipt
receipt_in (Err fault) = None

abbrev pub receipt_of : FeedResult → Option Receipt
receipt_of fed = receipt_in fed.receipt

-- the fault of a run whose session has no outcome
abbrev pub of_close : CloseFault → RunFault
of_close close.Memory = Memory
of_close (close.Unproved rank) = Unproved rank
of_close (close.Refused refusal) = Refused refusal

-- each rank's items, from `rank` on, are those of the source at its place, or the mark of a thread that didn't
-- start alone
abbrev pub AreFedBy : {I : Type 0} → (I → Option (List ℕ)) → (ℕ → ℕ → Bool → Type 0) → ℕ → List (Source I) → List (List Item) → Type 0
AreFedBy left may_answer rank [] [] = ⊤
AreFedBy left may_answer rank (source ∷ sources) (items ∷ rest) =
    IsFedOrNotStarted (coming left source) (may_answer rank) items × AreFedBy left may_answer (rank + 1) sources rest
AreFedBy left may_answer rank sources items = ⊥

-- the outcome is that of items such as are read of these sources, one list a rank
pub record IsOutcomeOfFeeds {I : Type 0} (left : I → Option (List ℕ)) (may_answer : ℕ → ℕ → Bool → Type 0) (sources : List (Source I)) (reading : Reading) (groups : Groups) (outcome : Analysed) : Type 0 where
  pub items : List (List Item)
  pub fed : AreFedBy left may_answer 0 sources items
  pub over : IsOutcomeOver reading groups (map trace_of_items items) outcome
