-- So is that of a place.
use Rattle.std.proofs.Common.{◌≡◌, ◌∙◌, ℕ, ap, sym, subst, Some}
use Rattle.closing.specs.inner.Numbered.{named_as}
use Rattle.closing.specs.inner.Table.{HasKey}
use Rattle.closing.proofs.numbers.Communicators.named_if.Goals as goal

pub returns-in-Some-clause-known : goal.returns-in-Some-clause-known
returns-in-Some-clause-known c =
    λ run it place h e has known.
    let same : c.in-Some.key ≡ place = cc (e, c.in-Some.is) in
    c.named.ensures.known run it h (subst (λ (n : ℕ). HasKey c.args.self.now.keys n it) (sym same) has) known ∙ ap (λ (n : ℕ). Some (named_as run n it)) same

pub returns-in-None-clause-known : goal.returns-in-None-clause-known
returns-in-None-clause-known c = λ run it place h e has known. absurd (cc (e, c.in-None.is))
