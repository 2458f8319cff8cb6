use Rattle.std.proofs.Common.{◌≡◌, [], ◌∷◌, ◌++◌, refl, sym}
use Rattle.std.proofs.lemmas.List.Elements.{All-push}
use Rattle.std.proofs.lemmas.List.{map_push}
use Rattle.rankfeed.specs.Rings.{feed_ring, taker_ring, received_by}
use Rattle.gather.specs.Takers.{rank_fed, IsFreshFeed}
use Rattle.mpigroup.proofs.ListLemmas.{from_zero}
use Rattle.gather.proofs.session.open_feeds.Goals as goal

pub loop-rank-preserved : goal.loop-rank-preserved
loop-rank-preserved c =
    let old = c.loop-rank.invariant in
    let feed = c.in_ok-feed.feed in
    let taker = c.in_ok-feed.taker in
    let feeds : c.push.new.self.items ≡ c.loop-rank.feeds.items ++ feed ∷ [] = c.in_ok-push.ensures.items in
    let takers : c.push-in-loop-rank.new.self.items ≡ c.loop-rank.takers.items ++ taker ∷ [] = c.in_ok-push-2.ensures.items in record {
      names = rw (takers, feeds, map_push taker_ring c.loop-rank.takers.items taker, map_push feed_ring c.loop-rank.feeds.items feed, old.names, c.in_ok-feed.ensures.name) refl;
      ranks = rw (feeds, map_push rank_fed c.loop-rank.feeds.items feed, old.ranks, c.in_ok-feed.ensures.rank) (sym (from_zero c.loop-rank.rank));
      feeds = rw feeds (All-push (IsFreshFeed c.args.capacity) c.loop-rank.feeds.items feed old.feeds c.in_ok-feed.ensures.feed);
      takers = rw takers (All-push (λ taker. received_by taker ≡ []) c.loop-rank.takers.items taker old.takers c.in_ok-feed.ensures.taker);
    }
