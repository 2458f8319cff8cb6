use Rattle.std.proofs.Common.{arith}
use Rattle.waitgraph.specs.declared.awaited.Awaited.TheVariants as awaited
use Rattle.waitgraph.proofs.BlockedLemmas.{one_more_behind}
use Rattle.waitgraph.proofs.senders.add_ranks.Goals as goal

pub loop-rank-preserved : goal.loop-rank-preserved
loop-rank-preserved c =
    one_more_behind awaited.Rank c.args.ranks.now c.loop-rank.rank-index 0 c.args.awaits.now.items c.loop-rank.awaits.items c.push.new.self.items (omega (arith, c.loop-rank-test.true)) c.loop-rank.invariant c.in_ok-push.ensures.items
