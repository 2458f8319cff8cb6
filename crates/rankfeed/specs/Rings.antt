-- What contracts see of a feed over a ring, of its taker and of its receipt.
use Rattle.std.specs.Prelude.{ℕ, ◌-◌, Option, Some, None, List, ◌∷◌}
use denote.RawPtr.{Ptr}
use Rattle.std.specs.declared.alloc.Global.{Global}
use Rattle.rtrb.specs.Shared.{Names}
use Rattle.rtrb.specs.declared.end.End.{End}
use Rattle.rtrb.specs.Ring.{sent, received, known_items, all_sent, producer_capacity}
use Rattle.mpicall.specs.declared.call.Call.{Call}
use Rattle.rankfeed.specs.declared.item.Item.{Item}
use Rattle.rankfeed.specs.declared.item.Item.TheVariants.{Entry}
use Rattle.rankfeed.specs.declared.ring.Feed.{Feed}
use Rattle.rankfeed.specs.declared.ring.Taker.{Taker}
use Rattle.rankfeed.specs.declared.ring.Receipt.{Receipt}

-- which feed an end or a receipt belongs to: the rank, and the ring
pub record FeedName : Type 0 where
  pub rank_number : ℕ
  pub words : Ptr
  pub slots : Ptr
  pub names : Names
  pub heap : Global

abbrev pub name_of_feed : {P : Type 0} → ℕ → End Item Global P → FeedName
name_of_feed number end = record { rank_number = number; words = end.words; slots = end.slots; names = end.names; heap = end.heap }

abbrev pub feed_ring : Feed → FeedName
feed_ring feed = name_of_feed feed.rank feed.ring.end

abbrev pub taker_ring : Taker → FeedName
taker_ring taker = name_of_feed taker.rank taker.ring.end

abbrev pub receipt_ring : Receipt → FeedName
receipt_ring receipt = name_of_feed receipt.rank receipt.ring.end

-- the items put so far
abbrev pub sent_by : Feed → List Item
sent_by feed = sent feed.ring

-- how many records the feed has room for
abbrev pub feed_capacity : Feed → ℕ
feed_capacity feed = producer_capacity feed.ring - 1

-- all the items that were put on the feed of a receipt
abbrev pub sent_whole : Receipt → List Item
sent_whole receipt = all_sent receipt.ring

-- the items taken so far
abbrev pub received_by : Taker → List Item
received_by taker = received taker.ring

-- the items that are known to be left; all of them, once the taker met its receipt
abbrev pub left_for : Taker → List Item
left_for taker = known_items taker.ring

-- the record at the front, where one is known to be there
abbrev pub first_record : List Item → Option Call
first_record (Entry call ∷ items) = Some call
first_record _ = None

abbrev pub front_of : Taker → Option Call
front_of taker = first_record (left_for taker)
