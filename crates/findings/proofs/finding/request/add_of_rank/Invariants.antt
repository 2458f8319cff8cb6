use Rattle.std.proofs.Common.{◌≡◌, ◌++◌}
use Rattle.std.specs.List.{flat_map, range_with_len}
use Rattle.findings.specs.Findings.{lost_at}
use Rattle.findings.proofs.finding.request.add_of_rank.Given as goal

abbrev pub invariant-loop-place : goal.invariant-loop-place
invariant-loop-place l =
    l.findings.items ≡ l.fn.findings.items ++ flat_map (lost_at l.pairs.recording l.rank) (range_with_len 0 l.place)
