use Rattle.std.proofs.Common.{rules, length, map, sym, ap, ◌∙◌, subst, arith}
use Rattle.std.specs.Vec.Iter.{into_iter_items}
use Rattle.std.proofs.lemmas.List.{nil_from_length}
use Rattle.rankfeed.specs.Rings.{feed_ring}
use Rattle.session_tests.proofs.ReceiptLemmas.{ReceiptsTo, one_receipt_more, all_receipts}
use Rattle.session_tests.proofs.sessions.end_feeds.Goals as goal

pub loop-feed-preserved : goal.loop-feed-preserved
loop-feed-preserved c =
    let feeds = c.in-Some.ensures.steps.0 in
    let was = c.loop-feed.invariant in record {
      can_next = search rules;
      is_finite = search rules;
      len = omega (arith, ap length feeds, c.in-Some.ensures.steps.1, was.len);
      receipts = rw c.in_ok-push.ensures.items
          (one_receipt_more (map feed_ring c.args.feeds.items) c.loop-feed.receipts.items _ (feed_ring c.in-Some.feed) c.end_feed.result
          (subst (λ fs. ReceiptsTo (map feed_ring c.args.feeds.items) c.loop-feed.receipts.items (map feed_ring fs)) feeds was.receipts) c.end_feed.ensures);
    }

pub returns : goal.returns
returns c = all_receipts (map feed_ring c.args.feeds.items) c.loop-feed.receipts.items (subst (λ fs. ReceiptsTo (map feed_ring c.args.feeds.items) c.loop-feed.receipts.items (map feed_ring fs)) (nil_from_length (into_iter_items c.loop-feed.feed-iterator) (sym c.loop-feed.invariant.len ∙ c.in-None.ensures.steps.0)) c.loop-feed.invariant.receipts)
