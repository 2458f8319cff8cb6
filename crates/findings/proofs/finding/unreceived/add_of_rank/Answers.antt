use Rattle.std.proofs.Common.{arith}
use Rattle.findings.specs.Findings.{unreceived_at}
use Rattle.findings.proofs.FindingLemmas.{one_more}
use Rattle.findings.proofs.finding.unreceived.add_of_rank.Goals as goal

pub loop-place-preserved : goal.loop-place-preserved
loop-place-preserved c =
    one_more (unreceived_at c.args.pairs.now.groups c.args.pairs.now.recording c.args.rank) 0 c.loop-place.place c.loop-place.place _ _ _ c.loop-place.invariant c.in_ok-add_at.ensures (omega arith)
