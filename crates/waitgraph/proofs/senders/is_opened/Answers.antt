use Rattle.std.proofs.Common.{length, refl}
use Rattle.pairing.specs.LeftOpen.{is_left_open}
use Rattle.waitgraph.proofs.SinkTableLemmas.{got, mark_is}
use Rattle.waitgraph.proofs.senders.is_opened.Goals as goal

pub returns-in-Some : goal.returns-in-Some
returns-in-Some c =
    let recording = c.args.scene.now.world.now.pairs.recording in
    mark_is (is_left_open recording) (length recording) c.args.rank c.in-Some.mark.now c.args.scene.now.opened.now c.requires
    (got c.args.scene.now.opened.now c.args.scene.now.opened.now c.from.result c.args.rank c.in-Some.mark.now refl c.from.ensures c.in-Some.ensures.lookup.3)
