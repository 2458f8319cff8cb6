use Rattle.std.proofs.Common.{◌≡◌, ◌++◌}
use Rattle.std.specs.List.{flat_map, range_with_len}
use Rattle.findings.specs.Findings.{unreceived_at}
use Rattle.findings.proofs.finding.unreceived.add_of_rank.Given as goal

abbrev pub invariant-loop-place : goal.invariant-loop-place
invariant-loop-place l =
    l.findings.items ≡ l.fn.findings.items ++ flat_map (unreceived_at l.pairs.groups l.pairs.recording l.rank) (range_with_len 0 l.place)
