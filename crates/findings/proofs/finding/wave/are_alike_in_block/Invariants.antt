use Rattle.std.proofs.Common.{◌≡◌, ◌+◌, ◌<◌, ◌≤◌, ℕ, []}
use Rattle.findings.specs.declared.finding.wave.Compared.{Compared}
use Rattle.findings.specs.inner.Comparisons.{comparison_of}
use Rattle.findings.specs.Findings.{found_of_member}
use Rattle.findings.proofs.finding.wave.are_alike_in_block.Given as goal

-- nothing is found so far
abbrev pub invariant-loop-g : goal.invariant-loop-g
invariant-loop-g l = (compared : Compared) (g i : ℕ) → 1 ≤ g → g < l.g → i < l.count → found_of_member (comparison_of compared) l.pairs.groups l.pairs.recording l.comm (l.from + i) g ≡ []
