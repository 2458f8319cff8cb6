use Rattle.std.proofs.Common.{ℕ, List, ◌++◌, flat_map, ap, ◌∙◌, arith}
use Rattle.findings.specs.inner.Comparisons.{comparison_of}
use Rattle.findings.specs.Findings.{found_of_member, found_in_wave}
use Rattle.findings.specs.declared.finding.Finding.{Finding}
use Rattle.findings.proofs.CallerLemmas.{fewer}
use Rattle.findings.proofs.FindingLemmas.{one_more}
use Rattle.findings.proofs.finding.wave.add_in_comm.Goals as goal

pub loop-wave-preserved : goal.loop-wave-preserved
loop-wave-preserved c =
    let compare = comparison_of c.args.compared in
    let groups = c.args.pairs.now.groups in
    let recording = c.args.pairs.now.recording in
    let wave = c.loop-wave.wave in
    let kept = fewer compare groups recording c.args.comm wave c.loop-wave.others.items c.keep_callers.new.others.items c.keep_callers.ensures c.loop-wave.invariant.others in
    record {
      found = one_more (found_in_wave compare groups recording c.args.comm) 0 wave wave c.args.findings.now.items c.loop-wave.findings.items c.add_in_wave.new.findings.items
          c.loop-wave.invariant.found
          (c.in_ok-add_in_wave.ensures
          ∙ ap (λ (others : List ℕ). c.loop-wave.findings.items ++ flat_map (found_of_member compare groups recording c.args.comm wave) others) c.deref.ensures.value
          ∙ ap (λ (found : List Finding). c.loop-wave.findings.items ++ found) (kept wave (omega arith)))
          (omega arith);
      others = λ later behind. kept later (omega (arith, behind));
    }
