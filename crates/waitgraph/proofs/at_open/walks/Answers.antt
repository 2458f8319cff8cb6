use Rattle.std.specs.Prelude.{option_map}
use Rattle.waitgraph.specs.inner.Scenes.{held_up_in, hop_from_awaited}
use Rattle.waitgraph.proofs.BlockedLemmas.{one_row_more}
use Rattle.waitgraph.proofs.at_open.walks.Goals as goal

pub loop-rank-preserved : goal.loop-rank-preserved
loop-rank-preserved c =
    one_row_more (λ rank. option_map (hop_from_awaited c.args.scene.now.world.now.pairs.recording) (held_up_in c.args.scene.now c.args.marks.now rank)) c.loop-rank.rank c.loop-rank.walks.items _ _
    c.loop-rank.invariant c.in_ok-hop_of.ensures c.in_ok-push.ensures.items
