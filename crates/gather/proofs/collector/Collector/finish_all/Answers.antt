use Rattle.std.proofs.Common.{◌≡◌, Option, Some, List, ◌∷◌, length, drop, sym, ap, ◌∙◌, subst, arith}
use Rattle.std.specs.Vec.Iter.{into_iter_items}
use Rattle.rankfeed.specs.Rings.{FeedName}
use Rattle.rankfeed.specs.declared.ring.Receipt.{Receipt}
use Rattle.gather.specs.Receipts.{AreReceiptsOf}
use Rattle.gather.specs.Collectors.{rings}
use Rattle.gather.proofs.FinishLemmas.{front_at, rest_at, some_left, receipts_count, receipt_of_ring, with_receipt, without_receipt, lowest_known, all_received}
use Rattle.gather.proofs.collector.Collector.finish_all.Goals as goal
use Rattle.gather.proofs.collector.Collector.finish_all.Goals.{in-Some-receipt, in-None}

pub unreachable-requires : goal.unreachable-requires
unreachable-requires c =
    some_left c.args.receipts.items (into_iter_items c.loop-rank.receipts) c.loop-rank.rank c.loop-rank.invariant.rest (sym c.loop-rank.invariant.rest_len ∙ c.in_default.ensures.cases.0)
    (omega (arith, c.loop-rank-test.true, c.ranks-rank-end.ensures.value, receipts_count (rings c.args.self.now) c.args.receipts.items c.requires))

pub finish-requires : goal.finish-requires
finish-requires c =
    let front : drop c.loop-rank.rank c.args.receipts.items ≡ Some c.in-Some-receipt.receipt ∷ into_iter_items c.next.new.self =
    sym c.loop-rank.invariant.rest ∙ c.in-Some.ensures.items ∙ ap (λ (r : Option Receipt). r ∷ into_iter_items c.next.new.self) c.in-Some-receipt.is in
    receipt_of_ring (rings c.loop-rank.self) c.args.receipts.items c.loop-rank.rank c.in-Some-receipt.receipt
    (subst (λ (names : List FeedName). AreReceiptsOf names c.args.receipts.items) (sym c.loop-rank.invariant.finished.names) c.requires)
    (front_at c.args.receipts.items (into_iter_items c.next.new.self) c.loop-rank.rank (Some c.in-Some-receipt.receipt) front)

pub loop-rank-preserved : goal.loop-rank-preserved
loop-rank-preserved c =
    let items : drop c.loop-rank.rank c.args.receipts.items ≡ c.in-Some.receipt ∷ into_iter_items c.next.new.self =
    sym c.loop-rank.invariant.rest ∙ c.in-Some.ensures.items in record {
      finished = elim c.match-receipt.branch [
        | in-Some-receipt w ↦ rw (w.self-is, w.missing-is)
            (with_receipt c.args.self.now c.loop-rank.self w.finish.new.self c.args.receipts.items (into_iter_items c.next.new.self) c.loop-rank.rank c.loop-rank.missing w.in-Some-receipt.receipt c.loop-rank.invariant.finished
            (items ∙ ap (λ (r : Option Receipt). r ∷ into_iter_items c.next.new.self) w.in-Some-receipt.is) w.finish.ensures.only w.finish.ensures.all)
        | in-None w ↦ rw (w.self-is, w.missing-is, w.or-missing.ensures)
            (without_receipt c.args.self.now c.loop-rank.self c.args.receipts.items (into_iter_items c.next.new.self) c.loop-rank.rank c.loop-rank.missing c.loop-rank.invariant.finished
            (items ∙ ap (λ (r : Option Receipt). r ∷ into_iter_items c.next.new.self) w.in-None.is))
      ];
      rest_len = let count = ap length c.in-Some.ensures.items in omega (arith, count, c.loop-rank.invariant.rest_len, c.in-Some.ensures.cases.1);
      rest = rest_at c.args.receipts.items (into_iter_items c.next.new.self) c.loop-rank.rank c.in-Some.receipt items;
    }

pub returns-clause-missing : goal.returns-clause-missing
returns-clause-missing c =
    lowest_known c.args.self.now c.loop-rank.self c.args.receipts.items c.loop-rank.rank c.loop-rank.missing c.loop-rank.invariant.finished
    (omega (arith, c.loop-rank-test.false, c.ranks-rank-end.ensures.value, receipts_count (rings c.args.self.now) c.args.receipts.items c.requires))

pub returns-clause-all : goal.returns-clause-all
returns-clause-all c =
    all_received c.args.self.now c.loop-rank.self c.args.receipts.items c.loop-rank.rank c.loop-rank.missing c.loop-rank.invariant.finished
    (omega (arith, c.loop-rank-test.false, c.ranks-rank-end.ensures.value, receipts_count (rings c.args.self.now) c.args.receipts.items c.requires))
