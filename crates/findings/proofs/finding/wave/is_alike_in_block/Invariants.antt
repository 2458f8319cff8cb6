use Rattle.std.proofs.Common.{◌≡◌, ◌+◌, ◌<◌, ℕ, []}
use Rattle.findings.specs.declared.finding.wave.Compared.{Compared}
use Rattle.findings.specs.inner.Comparisons.{comparison_of}
use Rattle.findings.specs.Findings.{found_of_member}
use Rattle.findings.proofs.finding.wave.is_alike_in_block.Given as goal

-- nothing is found so far
abbrev pub invariant-loop-i : goal.invariant-loop-i
invariant-loop-i l = (compared : Compared) (i : ℕ) → i < l.i → found_of_member (comparison_of compared) l.pairs.groups l.pairs.recording l.comm (l.from + i) l.g ≡ []
