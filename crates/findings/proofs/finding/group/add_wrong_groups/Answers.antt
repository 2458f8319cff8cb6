use Rattle.std.proofs.Common.{arith}
use Rattle.findings.specs.Places.{over_places}
use Rattle.findings.specs.Findings.{group_at}
use Rattle.findings.proofs.FindingLemmas.{one_more}
use Rattle.findings.proofs.finding.group.add_wrong_groups.Goals as goal

pub loop-rank-preserved : goal.loop-rank-preserved
loop-rank-preserved c =
    let groups = c.args.pairs.now.groups in
    let recording = c.args.pairs.now.recording in
    record {
      found = one_more (λ rank. over_places (group_at groups recording rank) recording rank) 0 c.loop-rank.rank c.loop-rank.rank _ _ _ c.loop-rank.invariant.found c.in_ok-add_of_rank.ensures.value (omega arith);
      known = c.in_ok-add_of_rank.ensures.known;
    }
