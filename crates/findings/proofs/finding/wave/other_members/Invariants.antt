use Rattle.std.proofs.Common.{◌≡◌, ◌-◌, ◌≤◌}
use Rattle.std.specs.List.{range_with_len}
use Rattle.findings.proofs.finding.wave.other_members.Given as goal

abbrev pub invariant-loop-g : goal.invariant-loop-g
invariant-loop-g l = record {
  others : l.others.items ≡ range_with_len 1 (l.g - 1);
  least : 1 ≤ l.g;
  within : l.g - 1 ≤ l.g-end - 1;
}
