-- One more record was given, so the source had no end before.
use Rattle.std.proofs.Common.{sym, ap, ◌∙◌, Ok}
use Rattle.mpicall.specs.Source.{coming}
use Rattle.mpicall.proofs.LintLemmas.{lint_steps, first_steps, gives_none, counts_none}
use Rattle.mpicall.proofs.lint.lint.Goals as goal

pub loop-preserved : goal.loop-preserved
unfolding coming
loop-preserved g c =
    let yes = c.in-Ok-true.field-0-test in
    let trace = rw yes at c.in-Ok-true.ensures.trace in
    let end = rw yes at c.in-Ok-true.ensures.end in
    let none = gives_none _ c.next_into.new.into _ _ (rw yes at c.in-Ok-true.ensures.repeats) in
    let count = rw yes at c.in-Ok-true.ensures.count in
    record {
      first = rw c.saturating_add-count.ensures (first_steps _ _ _ _ _ _ _ _ c.loop.invariant.first trace end (c.in-Ok-true.ensures.line (ap Ok yes)));
      given = rw c.saturating_add-count.ensures (lint_steps _ _ _ _ _ c.loop.invariant.given trace);
      end = end ∙ sym none ∙ c.loop.invariant.end;
      count = count ∙ counts_none _ c.next_into.new.into _ ∙ c.loop.invariant.count;
    }
