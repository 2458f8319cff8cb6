-- The answer is that of what is kept, where all feeds were drained by a receipt for each.
use Rattle.std.proofs.Common.{◌≡◌, ℕ, Option, None, Err, IfSome, false, refl, sym, ap, subst, ◌∙◌}
use Rattle.gather.specs.declared.outcome.CloseFault.TheVariants.{Unproved}
use Rattle.gather.specs.Collected.{Kept}
use Rattle.gather.proofs.CloseLemmas.{AreDrained, drained, recording_closed, concluded, memory_first}
use Rattle.gather.proofs.collector.Collector.conclude.Goals as goal

pub conclude-requires : goal.conclude-requires
conclude-requires c = λ calm none lawful.
    let is = c.into_ledger-ledger.ensures in
    let finished = c.requires.1 in
    let are = subst (λ (kept : Kept). AreDrained c.args.self.takers.items kept c.requires.0) (sym is)
    (drained c.args.self c.args.self c.requires.0 c.args.missing finished.are refl (ap (λ (kept : Kept). kept.wanted) (sym is) ∙ calm) finished.lowest (c.unproved.ensures.none c.in-None.is calm) finished.all) in
    recording_closed c.args.self.takers.items c.into_ledger-ledger.result c.requires.0 are none lawful

pub returns-in-None-clause-answer : goal.returns-in-None-clause-answer
returns-in-None-clause-answer c receipts finished =
    let is = c.into_ledger-ledger.ensures in
    concluded c.args.self.ledger.reading c.args.self.ledger.groups c.args.self.takers.items c.into_ledger-ledger.result receipts c.conclude.result
    (λ (calm : c.into_ledger-ledger.result.wanted ≡ false). subst (λ (kept : Kept). AreDrained c.args.self.takers.items kept receipts) (sym is)
    (drained c.args.self c.args.self receipts c.args.missing finished.are refl (ap (λ (kept : Kept). kept.wanted) (sym is) ∙ calm) finished.lowest (c.unproved.ensures.none c.in-None.is calm) finished.all))
    (ap (λ (kept : Kept). kept.reading) is)
    (ap (λ (kept : Kept). kept.groups) is)
    c.conclude.ensures

pub returns-in-None-clause-wanting : goal.returns-in-None-clause-wanting
returns-in-None-clause-wanting c wanted =
    memory_first c.into_ledger-ledger.result c.conclude.result (ap (λ (kept : Kept). kept.wanted) c.into_ledger-ledger.ensures ∙ wanted) c.conclude.ensures

pub returns-in-None-clause-unproved : goal.returns-in-None-clause-unproved
returns-in-None-clause-unproved c calm =
    let none : c.args.missing ≡ None = c.unproved.ensures.none c.in-None.is (ap (λ (kept : Kept). kept.wanted) c.into_ledger-ledger.ensures ∙ calm) in
    subst (λ (missing : Option ℕ). IfSome missing (λ rank. c.conclude.result ≡ Err (Unproved rank))) (sym none) tt
