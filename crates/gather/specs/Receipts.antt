-- The receipts of the ranks' feeds, what they hold, and what is received of it.
use Rattle.mpicall.specs.Names.{Rank}
use Rattle.std.specs.Prelude.{◌≡◌, ⊤, ℕ, ◌+◌, true, Option, Some, None, IfSome, unwrap_or, List, [], ◌∷◌, slice_get}
use Rattle.mpicall.specs.Trace.{Trace}
use Rattle.mpicall.specs.declared.fault.SourceFault.TheVariants.{NoFinalize}
use Rattle.rankfeed.specs.Items.{calls_among, end_mark_of, are_ended, IsFeed}
use Rattle.rankfeed.specs.Rings.{FeedName, receipt_ring, sent_whole}
use Rattle.mpicall.specs.declared.fault.Ending.TheVariants.{Torn}
use Rattle.rankfeed.specs.declared.item.Item.{Item}
use Rattle.rankfeed.specs.declared.ring.Receipt.{Receipt}

-- the trace that the items of a feed make: their records, and the end that their end mark says; items without
-- one stop before their end record
abbrev pub trace_of_items : List Item → Trace
trace_of_items items = record { records = calls_among items; end = unwrap_or (end_mark_of items) (Torn NoFinalize) }

-- the receipts are those of the feeds: one for each feed, in their order, where there is one
abbrev pub AreReceiptsOf : List FeedName → List (Option Receipt) → Type 0
AreReceiptsOf [] [] = ⊤
AreReceiptsOf (name ∷ names) (receipt ∷ receipts) = IfSome receipt (λ r. receipt_ring r ≡ name) × AreReceiptsOf names receipts
AreReceiptsOf names receipts = ⊥

-- the lowest rank, from `rank` on, without a receipt
abbrev pub missing_from : Rank → List (Option Receipt) → Option Rank
missing_from rank [] = None
missing_from rank (None ∷ receipts) = Some rank
missing_from rank (Some receipt ∷ receipts) = missing_from (rank + 1) receipts

-- the lowest rank without a receipt
abbrev pub first_missing : List (Option Receipt) → Option ℕ
first_missing receipts = missing_from 0 receipts

-- the traces that the receipts hold
abbrev pub traces_held : List (Option Receipt) → List Trace
traces_held [] = []
traces_held (None ∷ receipts) = traces_held receipts
traces_held (Some receipt ∷ receipts) = trace_of_items (sent_whole receipt) ∷ traces_held receipts

-- the items are all that was sent on the feed of a receipt: they end with an end mark, and are in order
pub record AreAllOf (receipt : Receipt) (items : List Item) : Type 0 where
  pub all : items ≡ sent_whole receipt
  pub ended : are_ended items ≡ true
  pub in_order : IsFeed items

-- of each rank that has a receipt, all was received
abbrev pub AllReceived : List (Option Receipt) → (ℕ → List Item) → Type 0
AllReceived receipts received = (rank : ℕ) (receipt : Receipt) → slice_get receipts rank ≡ Some (Some receipt) → AreAllOf receipt (received rank)
