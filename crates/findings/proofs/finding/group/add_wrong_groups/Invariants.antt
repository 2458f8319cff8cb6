use Rattle.std.proofs.Common.{◌≡◌, ◌++◌}
use Rattle.std.specs.List.{flat_map, range_with_len}
use Rattle.findings.specs.Places.{over_places}
use Rattle.findings.specs.Findings.{group_at}
use Rattle.findings.specs.inner.Makings.{IsKnown}
use Rattle.findings.proofs.finding.group.add_wrong_groups.Given as goal

abbrev pub invariant-loop-rank : goal.invariant-loop-rank
invariant-loop-rank l = record {
  found : l.findings.items ≡ l.fn.findings.items ++ flat_map (λ rank. over_places (group_at l.pairs.groups l.pairs.recording rank) l.pairs.recording rank) (range_with_len 0 l.rank);
  known : IsKnown l.pairs.groups l.pairs.recording l.known;
}
