use Rattle.std.proofs.Common.{◌∙◌, sym}
use Rattle.waitgraph.proofs.BlockedLemmas.{got_copied}
use Rattle.waitgraph.proofs.MovingLemmas.{held_first, held_not}
use Rattle.waitgraph.proofs.at_open.held_up.Goals as goal

pub returns-then-not-stays : goal.returns-then-not-stays
returns-then-not-stays c = held_not c.args.scene.now c.args.marks.now c.args.rank (sym c.stays.ensures ∙ c.if-not-stays.true)

pub returns : goal.returns
returns c =
    c.copied.ensures
    ∙ got_copied c.get.result c.deref.result.now c.in_ok-blocks.blocks.items 0 c.deref.ensures.value c.get.ensures.lookup.3
    ∙ held_first c.args.scene.now c.args.marks.now c.args.rank c.in_ok-blocks.blocks.items (sym c.stays.ensures ∙ c.if-not-stays.false) c.in_ok-blocks.ensures
