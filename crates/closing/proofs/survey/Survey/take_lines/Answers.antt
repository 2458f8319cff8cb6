-- One line more is taken.
use Rattle.std.proofs.Common.{◌+◌, ◌<◌, ◌≤◌, ◌++◌, arith, length, refl, take}
use Rattle.closing.specs.RankComms.{after_lines}
use Rattle.closing.specs.inner.Surveyed.{names_from}
use Rattle.closing.proofs.PlaceListLemmas.{got_within}
use Rattle.closing.proofs.SurveyLemmas.{keeps_all, keeps_more, keeps_none, same_survey}
use Rattle.closing.proofs.survey.Survey.take_lines.Goals as goal

pub loop-line-init : goal.loop-line-init
loop-line-init c = record {
  same = refl;
  takes = λ before names it is. keeps_none before names it c.args.self.now c.args.comms.now is;
}

pub loop-line-preserved : goal.loop-line-preserved
loop-line-preserved c =
    let lines = c.args.lines.now in
    let below : c.loop-line.line < length lines = omega (arith, c.loop-line-test.true, c.count_of-line-end.ensures.exact) in
    let there = got_within lines c.loop-line.line below in
    record {
      same = same_survey c.args.self.now c.loop-line.self c.take_line.new.self c.loop-line.invariant.same c.in_ok-take_line.ensures.same;
      takes = λ before names it is.
          let so_far = c.loop-line.invariant.takes before names it is in
          keeps_more before names it lines c.loop-line.line (c.loop-line.line + 1) there.0 c.args.self.now c.loop-line.self c.take_line.new.self c.loop-line.comms c.take_line.new.comms
          there.1 refl so_far
          (c.in_ok-take_line.ensures.takes before (names ++ names_from it (take c.loop-line.line lines)) (after_lines it (take c.loop-line.line lines)) there.0 there.1 so_far.is);
    }

pub returns-clause-takes : goal.returns-clause-takes
returns-clause-takes c before names it places is =
    let past : length c.args.lines.now ≤ c.loop-line.line = omega (arith, c.loop-line-test.false, c.count_of-line-end.ensures.all places) in
    keeps_all before names it c.args.lines.now c.loop-line.line c.args.self.now c.loop-line.self c.loop-line.comms past (c.loop-line.invariant.takes before names it is)
