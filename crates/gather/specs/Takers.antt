-- What contracts see of the ranks' feeds and their takers.
use Rattle.mpicall.specs.Names.{Rank}
use Rattle.std.specs.Prelude.{◌≡◌, ◌≢◌, ℕ, true, List, [], ◌++◌, map, slice_get}
use Rattle.rankfeed.specs.Items.{end_mark_of, are_ended, IsFeed}
use Rattle.rankfeed.specs.Answers.{Receives}
use Rattle.rankfeed.specs.Rings.{feed_ring, feed_capacity, sent_by, taker_ring, received_by, left_for}
use Rattle.rankfeed.specs.declared.answer.Took.{Took}
use Rattle.rankfeed.specs.declared.item.Item.{Item}
use Rattle.rankfeed.specs.declared.ring.Feed.{Feed}
use Rattle.rankfeed.specs.declared.ring.Taker.{Taker}
use Rattle.gather.specs.Collected.{items_of}

-- the rank whose records a feed takes
abbrev pub rank_fed : Feed → ℕ
rank_fed feed = (feed_ring feed).rank_number

-- the feed has so much room, and nothing was sent
abbrev pub IsFreshFeed : ℕ → Feed → Type 0
IsFreshFeed capacity feed = (feed_capacity feed ≡ capacity) × (sent_by feed ≡ [])

-- the items received from a rank by its taker
abbrev pub received_in : List Taker → Rank → List Item
received_in takers rank = items_of (map received_by takers) rank

-- the items that are known to be left on a rank's feed
abbrev pub left_in : List Taker → Rank → List Item
left_in takers rank = items_of (map left_for takers) rank

-- one item at most was taken from the rank's feed, and from no other. Where all that is left is known, it is
-- what was known before without that item, and one was found
pub record Takes (rank : Rank) (found : Took) (old new : List Taker) : Type 0 where
  pub names : map taker_ring new ≡ map taker_ring old
  pub others : (other : ℕ) → other ≢ rank → slice_get new other ≡ slice_get old other
  pub receives : Receives (end_mark_of (received_in old rank)) found (received_in old rank) (received_in new rank)
  pub is_feed : IsFeed (received_in new rank)
  pub left : are_ended (received_in old rank ++ left_in old rank) ≡ true → received_in new rank ++ left_in new rank ≡ received_in old rank ++ left_in old rank
  pub never_empty : are_ended (received_in old rank ++ left_in old rank) ≡ true → ¬ (found ≡ Took.Empty)
