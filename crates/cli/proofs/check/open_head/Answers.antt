use Rattle.std.proofs.Common.{rules, sym, subst, List, ℕ}
use Rattle.std.proofs.lemmas.Result.{IfErr-weaker, IfOk-weaker}
use Rattle.cli.specs.inner.Front.{IsFrontOf}
use Rattle.cli.specs.Openings.{fate_of}
use Rattle.cli.proofs.OpeningLemmas.{opened_where}
use Rattle.cli.proofs.TextLemmas.{fault_says, head_says}
use Rattle.cli.proofs.check.open_head.Goals as goal

pub returns-clause-head : goal.returns-clause-head
returns-clause-head g c =
    let of_left = subst (λ (front : List ℕ). IsFrontOf (g.P.In.Input.left c.in-Some.input) front) (sym c.deref.ensures.value) c.in_ok-front.ensures.front in
    IfOk-weaker c.head_of_front.result _ _ (λ head says. head_says _ _ c.deref.result.now _ (search rules) of_left says) c.head_of_front.ensures.head

pub returns-clause-fault : goal.returns-clause-fault
returns-clause-fault g c =
    let of_left = subst (λ (front : List ℕ). IsFrontOf (g.P.In.Input.left c.in-Some.input) front) (sym c.deref.ensures.value) c.in_ok-front.ensures.front in
    IfErr-weaker c.head_of_front.result _ _ (λ fault says. fault_says (fate_of g.P.In.Input.left g.P.In.Input.failures (g.P.Opener.may_give c.args.opener.now)) (g.P.Opener.told c.args.opener.now) c.args.path.now _ c.deref.result.now fault (search rules) of_left says) c.head_of_front.ensures.fault

pub returns-clause-opened : goal.returns-clause-opened
returns-clause-opened g c =
    opened_where g.P.In.Input.left g.P.In.Input.failures (g.P.Opener.may_give c.args.opener.now) c.args.path.now c.in-Some.input c.open_input.result c.head_of_front.result c.open_input.ensures.answer c.in-Some.is
