use Rattle.std.proofs.Common.{◌≡◌}
use Rattle.channelfeed.specs.Channels.{SameFeed, sent_by}
use Rattle.channelfeed.proofs.channel.Feed.put.Given as goal

abbrev pub invariant-loop : goal.invariant-loop
invariant-loop g l = record {
  can_next : (goal.iterator-loop g).can_next l.iterator';
  is_finite : (goal.iterator-loop g).is_finite l.iterator';
  same : SameFeed l.fn.self l.self;
  sent : sent_by l.self ≡ sent_by l.fn.self;
}
