use Rattle.std.proofs.Common.{◌≡◌, ◌∙◌, sym, ap}
use Rattle.mpicall.specs.Lines.{split_fields}
use Rattle.mpicall.specs.inner.Lines.{split_some}
use Rattle.mpicall.proofs.FrontLemmas.{front_then, front_last}
use Rattle.mpicall.proofs.fields.Fields.next_canonical.Goals as goal

pub returns-then-front-rest-clause-value : goal.returns-then-front-rest-clause-value
returns-then-front-rest-clause-value c =
    let is : c.args.self.now ≡ split_fields c.in_ok-rest.rest.now = sym c.self.view_is ∙ ap split_some c.in_ok-rest.was in
    rw is (front_then c.args.limit c.in_ok-rest.rest.now c.in_ok-front.front.count c.in_ok-front.front.number c.in_ok-front.ensures c.if-front-eq0.false
    (sym c.has_leading_zero.ensures ∙ c.if-has_leading_zero.false) c.if-front-rest.true)

pub returns-else-front-rest-clause-value : goal.returns-else-front-rest-clause-value
returns-else-front-rest-clause-value c =
    let is : c.args.self.now ≡ split_fields c.in_ok-rest.rest.now = sym c.self.view_is ∙ ap split_some c.in_ok-rest.was in
    rw is (front_last c.args.limit c.in_ok-rest.rest.now c.in_ok-front.front.count c.in_ok-front.front.number c.in_ok-front.ensures c.if-front-eq0.false
    (sym c.has_leading_zero.ensures ∙ c.if-has_leading_zero.false) c.if-front-rest.false)
