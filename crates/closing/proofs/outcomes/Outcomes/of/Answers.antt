-- All lines were taken.
use Rattle.std.proofs.Common.{◌∙◌, arith}
use Rattle.closing.proofs.RequestReportLemmas.{outcome_step, tells_all}
use Rattle.closing.proofs.outcomes.Outcomes.of.Goals as goal

pub returns : goal.returns
returns c = λ readable.
    tells_all c.args.lines.now c.loop-line.line c.loop-line.outcomes
    (omega (arith, readable.few, c.loop-line-test.false, c.count_of-line-end.ensures.exact)) readable c.loop-line.invariant

pub loop-line-preserved : goal.loop-line-preserved
loop-line-preserved c = λ request.
    outcome_step c.args.lines.now c.loop-line.line request _ _ (omega (arith, c.loop-line-test.true, c.count_of-line-end.ensures.exact)) (c.in_ok-take_line.ensures request)
    ∙ c.loop-line.invariant request
