use Rattle.std.proofs.Common.{◌≡◌, ◌<◌, ◌≤◌, ◌-◌, ℕ, [], length}
use Rattle.mpigroup.specs.Groups.{group_of}
use Rattle.findings.specs.declared.finding.wave.Compared.{Compared}
use Rattle.findings.specs.inner.Comparisons.{comparison_of}
use Rattle.findings.specs.Findings.{found_of_member}
use Rattle.findings.proofs.finding.wave.are_alike_in_comm.Given as goal

-- nothing is found in the waves so far
abbrev pub invariant-loop-from : goal.invariant-loop-from
invariant-loop-from l = record {
  within : l.from ≤ l.waves;
  each : (compared : Compared) (g wave : ℕ) → 1 ≤ g → g < length (group_of l.pairs.groups l.comm) → wave < l.from →
      found_of_member (comparison_of compared) l.pairs.groups l.pairs.recording l.comm wave g ≡ [];
}

abbrev pub decreases-loop-from : goal.decreases-loop-from
decreases-loop-from l = l.waves - l.from
