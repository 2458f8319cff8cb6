use Rattle.std.proofs.Common.{◌≡◌, ◌+◌, ◌<◌, ◌≤◌, ℕ, [], ⊎_elim, subst, arith}
use Rattle.std.proofs.lemmas.Bool.{cases_lt}
use Rattle.findings.specs.inner.Comparisons.{comparison_of}
use Rattle.findings.specs.Findings.{found_of_member}
use Rattle.findings.proofs.finding.wave.is_alike_in_block.Goals as goal

pub loop-i-preserved : goal.loop-i-preserved
loop-i-preserved c compared i below =
    ⊎_elim
    (λ (before : i < c.loop-i.i). c.loop-i.invariant compared i before)
    (λ (behind : c.loop-i.i ≤ i).
    let is : c.loop-i.i ≡ i = omega (arith, below, behind) in
    subst (λ (n : ℕ). found_of_member (comparison_of compared) c.args.pairs.now.groups c.args.pairs.now.recording c.args.comm (c.args.from + n) c.args.g ≡ []) is
    (c.is_of_kind.ensures c.if-not-is_of_kind.false compared))
    (cases_lt i c.loop-i.i)
