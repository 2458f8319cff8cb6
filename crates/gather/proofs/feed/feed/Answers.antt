-- The failures counted are those that the end mark tells, and a record that was read is put.
use Rattle.std.proofs.Common.{rules, ap, refl, subst, sym, ◌∙◌, Some, [], ◌∷◌, ◌++◌}
use Rattle.mpicall.specs.Device.{count_if}
use Rattle.rankfeed.specs.Rings.{sent_by}
use Rattle.rankfeed.specs.declared.item.Item.TheVariants.{Mark}
use Rattle.gather.specs.FeedContract.{is_failed_read}
use Rattle.gather.specs.Reads.{IsReading}
use Rattle.gather.proofs.FedLemmas.{counted_behind, receipt_counts, taken_open}
use Rattle.gather.proofs.feed.feed.Goals as goal

pub returns-in-Some-end-clause-count : goal.returns-in-Some-end-clause-count
returns-in-Some-end-clause-count g c =
    let end = c.in-Some-end.end in
    let items = sent_by c.loop.feed in
    receipt_counts c.end_with.result (items ++ Mark end ∷ []) _ _ c.end_with.ensures.sent
    (counted_behind items end _ _ (c.in-Some-end.ensures.count ∙ ap (count_if (is_failed_read (Some end))) c.loop.invariant.count))

pub loop-preserved : goal.loop-preserved
loop-preserved g c =
    let going = c.in_default.ensures.going refl in
    let put = c.put_copy.ensures.put (taken_open (sent_by c.loop.feed) c.is_done-done.result c.put_copy.result c.is_done-done.ensures going c.put_copy.ensures.closed) in record {
      can_next = search rules;
      is_finite = search rules;
      same = search rules;
      fresh = c.in_default.ensures.fresh refl;
      read = subst (λ items. IsReading g.I.Input.left (g.G.Gate.may_answer c.args.gate.now c.args.rank) c.args.source.now c.next_of-end.new.source items c.next_of-end.new.line) (sym put)
          (c.in_default.ensures.read c.args.source.now (sent_by c.loop.feed) (sym c.is_done-done.ensures) c.loop.invariant.read);
      count = c.in_default.ensures.count ∙ c.loop.invariant.count;
    }
