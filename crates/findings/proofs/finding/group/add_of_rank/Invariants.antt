use Rattle.std.proofs.Common.{◌≡◌, ◌++◌}
use Rattle.std.specs.List.{flat_map, range_with_len}
use Rattle.findings.specs.Findings.{group_at}
use Rattle.findings.specs.inner.Makings.{IsKnown}
use Rattle.findings.proofs.finding.group.add_of_rank.Given as goal

abbrev pub invariant-loop-place : goal.invariant-loop-place
invariant-loop-place l = record {
  found : l.findings.items ≡ l.fn.findings.items ++ flat_map (group_at l.pairs.groups l.pairs.recording l.rank) (range_with_len 0 l.place);
  known : IsKnown l.pairs.groups l.pairs.recording l.known;
}
