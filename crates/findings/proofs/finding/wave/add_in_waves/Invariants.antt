use Rattle.std.proofs.Common.{◌≡◌, ◌++◌}
use Rattle.std.specs.List.{flat_map, range_with_len}
use Rattle.findings.specs.Findings.{found_in_comm}
use Rattle.findings.specs.inner.Comparisons.{comparison_of}
use Rattle.findings.proofs.finding.wave.add_in_waves.Given as goal

abbrev pub invariant-loop-comm : goal.invariant-loop-comm
invariant-loop-comm l =
    l.findings.items ≡ l.fn.findings.items ++ flat_map (found_in_comm (comparison_of l.compared) l.pairs.groups l.pairs.recording) (range_with_len 0 l.comm)
