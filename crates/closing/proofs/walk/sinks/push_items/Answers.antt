use Rattle.std.specs.List.{filter_map}
use Rattle.closing.specs.inner.Sunk.{item_at}
use Rattle.closing.proofs.GrowLemmas.{grown}
use Rattle.closing.proofs.SunkWaits.{items_step}
use Rattle.closing.proofs.walk.sinks.push_items.Goals as goal

pub loop-field-preserved : goal.loop-field-preserved
loop-field-preserved c =
    let item = item_at c.args.standing.now c.args.sinks.now c.args.list.now in
    grown (filter_map item) (items_step item) c.args.requests.now c.loop-field.field-index c.field-item.result _ _ _ c.field-item.is c.loop-field-test.true c.in_ok-push_item.ensures c.loop-field.invariant
