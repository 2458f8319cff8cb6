use Rattle.std.proofs.Common.{◌≡◌, ◌<◌, ℕ, []}
use Rattle.findings.specs.declared.finding.wave.Compared.{Compared}
use Rattle.findings.specs.inner.Comparisons.{comparison_of}
use Rattle.findings.specs.Findings.{found_in_comm}
use Rattle.findings.proofs.finding.wave.are_all_alike.Given as goal

-- nothing is found so far
abbrev pub invariant-loop-comm : goal.invariant-loop-comm
invariant-loop-comm l = (compared : Compared) (comm : ℕ) → comm < l.comm → found_in_comm (comparison_of compared) l.pairs.groups l.pairs.recording comm ≡ []
