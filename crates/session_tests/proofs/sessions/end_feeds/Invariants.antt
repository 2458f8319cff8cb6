-- The receipts so far are those of the feeds so far.
use Rattle.std.proofs.Common.{◌≡◌, length, map}
use Rattle.std.specs.Vec.Iter.{into_iter_items, into_iter_len}
use Rattle.rankfeed.specs.Rings.{feed_ring}
use Rattle.session_tests.proofs.ReceiptLemmas.{ReceiptsTo}
use Rattle.session_tests.proofs.sessions.end_feeds.Given as goal

abbrev pub invariant-loop-feed : goal.invariant-loop-feed
invariant-loop-feed l = record {
  can_next : goal.iterator-loop-feed.can_next l.feed-iterator;
  is_finite : goal.iterator-loop-feed.is_finite l.feed-iterator;
  len : into_iter_len l.feed-iterator ≡ length (into_iter_items l.feed-iterator);
  receipts : ReceiptsTo (map feed_ring l.fn.feeds.items) l.receipts.items (map feed_ring (into_iter_items l.feed-iterator));
}
