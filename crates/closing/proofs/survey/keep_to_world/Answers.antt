-- One line more keeps to the world, or none is left.
use Rattle.std.proofs.Common.{◌<◌, ◌≤◌, ◌∙◌, arith, length, sym}
use Rattle.closing.proofs.OnWorldLemmas.{keep_all, keep_more}
use Rattle.closing.proofs.PlaceListLemmas.{got_within}
use Rattle.closing.proofs.survey.keep_to_world.Goals as goal

pub loop-line-preserved : goal.loop-line-preserved
loop-line-preserved c =
    let lines = c.args.lines.now in
    let below : c.loop-line.line < length lines = omega (arith, c.loop-line-test.true, c.count_of-line-end.ensures.exact) in
    let there = got_within lines c.loop-line.line below in
    keep_more lines c.loop-line.line there.0 there.1 c.loop-line.invariant (sym c.keeps_to_world.ensures ∙ c.if-not-keeps_to_world.false)

pub returns : goal.returns
returns c = λ places is.
    let past : length c.args.lines.now ≤ c.loop-line.line = omega (arith, c.loop-line-test.false, c.count_of-line-end.ensures.all places) in
    keep_all c.args.lines.now c.loop-line.line past c.loop-line.invariant
