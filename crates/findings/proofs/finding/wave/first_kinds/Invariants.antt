use Rattle.std.proofs.Common.{◌≡◌, ◌+◌, ◌<◌, ℕ, None, length, get_or}
use Rattle.findings.specs.inner.Comparisons.{kind_in}
use Rattle.findings.specs.declared.finding.wave.TheConstants.{WAVES_A_BLOCK}
use Rattle.findings.proofs.finding.wave.first_kinds.Given as goal

-- the kinds so far
abbrev pub invariant-loop-i : goal.invariant-loop-i
invariant-loop-i l = record {
  long : length l.kinds ≡ WAVES_A_BLOCK;
  each : (i : ℕ) → i < l.i → get_or l.kinds i None ≡ kind_in l.pairs.groups l.pairs.recording l.comm (l.from + i) 0;
}
