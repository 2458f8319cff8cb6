-- What is listed is what the requests stand for.
use Rattle.std.proofs.Common.{◌≡◌, ◌∙◌, ◌≤◌, ◌++◌, arith, ap, sym, length, map}
use Rattle.std.proofs.lemmas.List.{append-nil, drop_all}
use Rattle.closing.specs.Steps.{Own}
use Rattle.closing.specs.inner.Standings.{ids_in}
use Rattle.closing.proofs.GrowLemmas.{grown}
use Rattle.closing.proofs.RequestReportLemmas.{ids_told}
use Rattle.closing.proofs.StandingLemmas.{ids_step}
use Rattle.closing.proofs.standing.Standing.find.Goals as goal

pub returns-clause-told : goal.returns-clause-told
returns-clause-told c = λ lines told stand.
    let past : length c.args.requests.now ≤ c.loop-field.field-index = omega (arith, c.loop-field-test.false) in
    let same : c.loop-field.into.items ≡ ids_in c.args.self.now c.args.requests.now =
    sym (append-nil c.loop-field.into.items)
    ∙ sym (ap (λ rest. c.loop-field.into.items ++ ids_in c.args.self.now rest) (drop_all c.loop-field.field-index c.args.requests.now past))
    ∙ c.loop-field.invariant in
    ap (map Own) same ∙ ids_told lines c.args.self.now told c.args.requests.now stand

pub loop-field-preserved : goal.loop-field-preserved
loop-field-preserved c =
    grown (ids_in c.args.self.now) (ids_step c.args.self.now) c.args.requests.now c.loop-field.field-index c.field-item.result _ _ _ c.field-item.is c.loop-field-test.true c.in_ok-push_id.ensures c.loop-field.invariant
