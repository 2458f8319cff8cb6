use Rattle.std.proofs.Common.{◌≡◌, ◌++◌}
use Rattle.std.specs.List.{flat_map, range_with_len}
use Rattle.findings.specs.Places.{over_places}
use Rattle.findings.specs.Findings.{unreceived_at}
use Rattle.findings.proofs.finding.unreceived.add_unreceived.Given as goal

abbrev pub invariant-loop-rank : goal.invariant-loop-rank
invariant-loop-rank l =
    l.findings.items ≡ l.fn.findings.items ++ flat_map (λ rank. over_places (unreceived_at l.pairs.groups l.pairs.recording rank) l.pairs.recording rank) (range_with_len 0 l.rank)
