-- The digits at the front are the first text.
use Rattle.std.proofs.Common.{◌≡◌, ◌∙◌, sym, ap, arith}
use Rattle.mpicall.specs.Lines.{split_fields}
use Rattle.mpicall.specs.inner.Lines.{split_some}
use Rattle.mpicall.proofs.FrontLemmas.{front_number}
use Rattle.journals.specs.declared.limits.TheConstants.{GREATEST}
use Rattle.journals.proofs.PieceLemmas.{front_then, front_last}
use Rattle.journals.proofs.texts.Texts.next_number.Goals as goal

pub returns-then-front-rest : goal.returns-then-front-rest
returns-then-front-rest c =
    let is : c.args.self.now ≡ split_fields c.in_ok-rest.rest.now = sym c.self.view_is ∙ ap split_some c.in_ok-rest.was in
    let first = front_then GREATEST c.in_ok-rest.rest.now c.in_ok-front.front.count c.in_ok-front.front.number c.in_ok-front.ensures c.if-front-rest.true in
    let number = front_number GREATEST c.in_ok-rest.rest.now c.in_ok-front.front.count c.in_ok-front.front.number c.in_ok-front.ensures c.if-front-eq0.false
    (sym c.has_leading_zero.ensures ∙ c.if-has_leading_zero.false) in
    (is ∙ first, (number, c.in_ok-front.ensures.are.within))

pub returns : goal.returns
returns c =
    let is : c.args.self.now ≡ split_fields c.in_ok-rest.rest.now = sym c.self.view_is ∙ ap split_some c.in_ok-rest.was in
    let first = front_last GREATEST c.in_ok-rest.rest.now c.in_ok-front.front.count c.in_ok-front.front.number c.in_ok-front.ensures (omega (arith, c.if-front-rest.false)) in
    let number = front_number GREATEST c.in_ok-rest.rest.now c.in_ok-front.front.count c.in_ok-front.front.number c.in_ok-front.ensures c.if-front-eq0.false
    (sym c.has_leading_zero.ensures ∙ c.if-has_leading_zero.false) in
    (is ∙ first, (number, c.in_ok-front.ensures.are.within))
