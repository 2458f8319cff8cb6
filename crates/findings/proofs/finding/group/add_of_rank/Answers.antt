use Rattle.std.proofs.Common.{arith}
use Rattle.findings.specs.Findings.{group_at}
use Rattle.findings.proofs.FindingLemmas.{one_more}
use Rattle.findings.proofs.finding.group.add_of_rank.Goals as goal

pub loop-place-preserved : goal.loop-place-preserved
loop-place-preserved c = record {
  found = one_more (group_at c.args.pairs.now.groups c.args.pairs.now.recording c.args.rank) 0 c.loop-place.place c.loop-place.place _ _ _ c.loop-place.invariant.found c.in_ok-add_at.ensures.value (omega arith);
  known = c.in_ok-add_at.ensures.known;
}
