use Rattle.std.proofs.Common.{ℕ, List, [], ◌∷◌, ◌++◌, sym, ap, ◌∙◌, arith}
use Rattle.findings.proofs.FindingLemmas.{from_one}
use Rattle.findings.proofs.finding.wave.other_members.Goals as goal

pub loop-g-preserved : goal.loop-g-preserved
loop-g-preserved c = record {
  others =
      c.in_ok-push.ensures.items
      ∙ ap (λ (others : List ℕ). others ++ c.loop-g.g ∷ []) c.loop-g.invariant.others
      ∙ sym (from_one c.loop-g.g c.loop-g.invariant.least);
  least = omega arith;
  within = omega (arith, c.loop-g-test.true, c.loop-g.invariant.least);
}
