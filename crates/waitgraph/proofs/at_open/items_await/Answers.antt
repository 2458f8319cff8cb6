use Rattle.std.proofs.Common.{◌∙◌, flat_map, ap, arith}
use Rattle.std.proofs.lemmas.List.{take_all}
use Rattle.waitgraph.specs.PendingNeeds.{item_awaits}
use Rattle.waitgraph.specs.inner.Scenes.{comes, staying}
use Rattle.waitgraph.proofs.BlockedLemmas.{one_list_more}
use Rattle.waitgraph.proofs.at_open.items_await.Goals as goal

pub loop-item-preserved : goal.loop-item-preserved
loop-item-preserved c =
    let w = c.args.scene.now.world.now in
    one_list_more (item_awaits (comes c.args.scene.now c.args.marks.now) w.reading w.pairs.groups w.pairs.recording c.args.scene.now.stands.now (staying c.args.marks.now) c.args.rank) c.args.items.now c.loop-item.item-index _ c.loop-item.awaits.items c.deref.result.now c.extend_from_slice.new.self.items
    (omega (arith, c.loop-item-test.true)) c.loop-item.invariant (c.deref.ensures.value ∙ c.in_ok-more.ensures) c.in_ok-extend_from_slice.ensures.items

pub returns : goal.returns
returns c =
    let w = c.args.scene.now.world.now in
    c.loop-item.invariant
    ∙ ap (flat_map (item_awaits (comes c.args.scene.now c.args.marks.now) w.reading w.pairs.groups w.pairs.recording c.args.scene.now.stands.now (staying c.args.marks.now) c.args.rank)) (take_all c.loop-item.item-index c.args.items.now (omega (arith, c.loop-item-test.false)))
