use Rattle.std.proofs.Common.{◌∙◌, not, sym, ap}
use Rattle.std.proofs.lemmas.Bool.{false≢true}
use Rattle.waitgraph.proofs.held.is_next.Goals as goal

pub returns-then-not-is_marked-clause-now : goal.returns-then-not-is_marked-clause-now
returns-then-not-is_marked-clause-now c is =
    sym c.is_free.ensures ∙ is

pub returns-then-not-is_marked-clause-new : goal.returns-then-not-is_marked-clause-new
returns-then-not-is_marked-clause-new c is = sym c.is_marked.ensures ∙ c.if-not-is_marked.true

pub returns-then-not-is_marked-clause-not_now : goal.returns-then-not-is_marked-clause-not_now
returns-then-not-is_marked-clause-not_now c is frees =
    absurd (false≢true (sym is ∙ c.is_free.ensures ∙ frees))

pub returns-else-not-is_marked-clause-now : goal.returns-else-not-is_marked-clause-now
returns-else-not-is_marked-clause-now c is = absurd (false≢true (sym (ap not c.if-not-is_marked.false) ∙ is))

pub returns-else-not-is_marked-clause-new : goal.returns-else-not-is_marked-clause-new
returns-else-not-is_marked-clause-new c is = absurd (false≢true (sym (ap not c.if-not-is_marked.false) ∙ is))

pub returns-else-not-is_marked-clause-not_now : goal.returns-else-not-is_marked-clause-not_now
returns-else-not-is_marked-clause-not_now c is frees = sym c.is_marked.ensures ∙ c.if-not-is_marked.false
