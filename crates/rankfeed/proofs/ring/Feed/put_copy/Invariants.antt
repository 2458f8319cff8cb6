use Rattle.std.proofs.Common.{◌≡◌, false}
use Rattle.rankfeed.specs.Rings.{feed_ring, feed_capacity, sent_by}
use Rattle.rankfeed.proofs.ring.Feed.put_copy.Given as goal

abbrev pub invariant-loop : goal.invariant-loop
invariant-loop g l = record {
  can_next : (goal.iterator-loop g).can_next l.iterator';
  is_finite : (goal.iterator-loop g).is_finite l.iterator';
  name : feed_ring l.self ≡ feed_ring l.fn.self;
  capacity : feed_capacity l.self ≡ feed_capacity l.fn.self;
  sent : sent_by l.self ≡ sent_by l.fn.self;
  open_still : l.self.done ≡ false;
}
