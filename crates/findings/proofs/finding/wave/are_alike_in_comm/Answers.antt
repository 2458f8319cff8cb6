use Rattle.std.proofs.Common.{◌≡◌, ◌+◌, ◌-◌, ◌<◌, ◌≤◌, ℕ, [], ⊎_elim, subst, arith}
use Rattle.std.proofs.lemmas.Bool.{cases_lt}
use Rattle.findings.specs.inner.Comparisons.{comparison_of}
use Rattle.findings.specs.Findings.{found_of_member}
use Rattle.findings.proofs.AlikeLemmas.{nothing_in_comm}
use Rattle.findings.proofs.finding.wave.are_alike_in_comm.Goals as goal

pub loop-from-preserved : goal.loop-from-preserved
loop-from-preserved c =
    let from = c.loop-from.from in
    record {
      within = omega (arith, c.min-count.ensures, c.loop-from-test.true);
      each = λ compared g wave least most below. ⊎_elim
          (λ (before : wave < from). c.loop-from.invariant.each compared g wave least most before)
          (λ (behind : from ≤ wave).
          let is : from + (wave - from) ≡ wave = omega (arith, behind) in
          subst (λ (n : ℕ). found_of_member (comparison_of compared) c.args.pairs.now.groups c.args.pairs.now.recording c.args.comm n g ≡ []) is
          (c.are_alike_in_block.ensures c.if-not-are_alike_in_block.false compared g (wave - from) least most (omega (arith, below, behind))))
          (cases_lt wave from);
    }

pub returns : goal.returns
returns c h compared =
    nothing_in_comm (comparison_of compared) c.args.pairs.now.groups c.args.pairs.now.recording c.args.comm
    (λ g wave least most below. c.loop-from.invariant.each compared g wave least most (omega (arith, below, c.waves-waves.ensures.value, c.loop-from-test.false)))
