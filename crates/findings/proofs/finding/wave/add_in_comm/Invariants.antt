use Rattle.std.proofs.Common.{◌≡◌, ◌≤◌, ◌++◌, ℕ, flat_map}
use Rattle.std.specs.List.{range_with_len}
use Rattle.findings.specs.Findings.{found_of_member, found_in_wave}
use Rattle.findings.specs.inner.Comparisons.{comparison_of}
use Rattle.findings.proofs.finding.wave.add_in_comm.Given as goal

-- what is found so far, and from here on nothing is found of other members than those that are kept
abbrev pub invariant-loop-wave : goal.invariant-loop-wave
invariant-loop-wave l = record {
  found : l.findings.items ≡ l.fn.findings.items ++ flat_map (found_in_wave (comparison_of l.compared) l.pairs.groups l.pairs.recording l.comm) (range_with_len 0 l.wave);
  others : (later : ℕ) → l.wave ≤ later →
      flat_map (found_of_member (comparison_of l.compared) l.pairs.groups l.pairs.recording l.comm later) l.others.items
      ≡ found_in_wave (comparison_of l.compared) l.pairs.groups l.pairs.recording l.comm later;
}
