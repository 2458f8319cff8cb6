-- One line names the world, or none does.
use Rattle.std.proofs.Common.{◌<◌, ◌≤◌, ◌∙◌, ap, arith, length, sym}
use Rattle.closing.specs.inner.Surveyed.{world_place}
use Rattle.closing.proofs.OnWorldLemmas.{named_here, named_later, named_none}
use Rattle.closing.proofs.PlaceListLemmas.{got_within}
use Rattle.closing.proofs.survey.world_in.Goals as goal

pub returns-then-names_world : goal.returns-then-names_world
returns-then-names_world c = λ places.
    ap world_place (sym (named_here c.args.lines.now c.loop-line.line (sym c.names_world.ensures ∙ c.if-names_world.true)))

pub loop-line-preserved : goal.loop-line-preserved
loop-line-preserved c =
    let lines = c.args.lines.now in
    let below : c.loop-line.line < length lines = omega (arith, c.loop-line-test.true, c.count_of-line-end.ensures.exact) in
    let there = got_within lines c.loop-line.line below in
    named_later lines c.loop-line.line there.0 there.1 c.loop-line.invariant (sym c.names_world.ensures ∙ c.if-names_world.false)

pub returns : goal.returns
returns c = λ places.
    let past : length c.args.lines.now ≤ c.loop-line.line = omega (arith, c.loop-line-test.false, c.count_of-line-end.ensures.all places) in
    ap world_place (sym (named_none c.args.lines.now c.loop-line.line past c.loop-line.invariant))
