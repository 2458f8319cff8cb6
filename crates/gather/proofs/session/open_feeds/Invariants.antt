-- The feeds so far are those of the ranks so far, with their takers; nothing was sent or received.
use Rattle.std.proofs.Common.{◌≡◌, [], All, map}
use Rattle.std.specs.List.{range_with_len}
use Rattle.rankfeed.specs.Rings.{feed_ring, taker_ring, received_by}
use Rattle.gather.specs.Takers.{rank_fed, IsFreshFeed}
use Rattle.gather.proofs.session.open_feeds.Given as goal

abbrev pub invariant-loop-rank : goal.invariant-loop-rank
invariant-loop-rank l = record {
  names : map taker_ring l.takers.items ≡ map feed_ring l.feeds.items;
  ranks : map rank_fed l.feeds.items ≡ range_with_len 0 l.rank;
  feeds : All (IsFreshFeed l.capacity) l.feeds.items;
  takers : All (λ taker. received_by taker ≡ []) l.takers.items;
}
