use Rattle.std.proofs.Common.{◌≡◌, ◌+◌, ◌<◌, ◌≤◌, ℕ, None, length, get_or, slice_set, ⊎_elim, subst, ◌∙◌, arith}
use Rattle.std.proofs.lemmas.Bool.{cases_lt}
use Rattle.std.proofs.lemmas.List.{get_or-set_same, get_or-set_other, length-set}
use Rattle.findings.specs.inner.Comparisons.{kind_in}
use Rattle.findings.proofs.finding.wave.first_kinds.Goals as goal

pub loop-i-preserved : goal.loop-i-preserved
loop-i-preserved c =
    let within : c.loop-i.i < length c.loop-i.kinds = omega (arith, c.loop-i-test.true, c.loop-i.invariant.long) in
    record {
      long = length-set c.loop-i.kinds c.loop-i.i c.kind_in.result ∙ c.loop-i.invariant.long;
      each = λ i below. ⊎_elim
          (λ (before : i < c.loop-i.i). get_or-set_other c.loop-i.kinds c.loop-i.i i c.kind_in.result None (omega (arith, before)) ∙ c.loop-i.invariant.each i before)
          (λ (behind : c.loop-i.i ≤ i).
          let is : c.loop-i.i ≡ i = omega (arith, below, behind) in
          subst (λ (n : ℕ). get_or (slice_set c.loop-i.kinds c.loop-i.i c.kind_in.result) n None ≡ kind_in c.args.pairs.now.groups c.args.pairs.now.recording c.args.comm (c.args.from + n) 0) is
          (get_or-set_same c.loop-i.kinds c.loop-i.i c.kind_in.result None within ∙ c.kind_in.ensures))
          (cases_lt i c.loop-i.i);
    }
