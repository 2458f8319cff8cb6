use Rattle.std.proofs.Common.{◌≤◌}
use Rattle.findings.specs.Findings.{waves_in}
use Rattle.findings.proofs.bounds.waves.Given as goal

abbrev pub invariant-loop-wave : goal.invariant-loop-wave
invariant-loop-wave l = l.wave ≤ waves_in l.pairs.groups l.pairs.recording l.comm
