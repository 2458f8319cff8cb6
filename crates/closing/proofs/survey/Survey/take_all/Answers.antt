-- The lines name the world alone, or are taken one by one.
use Rattle.closing.specs.RankComms.{comms_first}
use Rattle.closing.proofs.survey.Survey.take_all.Goals as goal

pub returns-then-keep_to_world-clause-takes : goal.returns-then-keep_to_world-clause-takes
returns-then-keep_to_world-clause-takes c before names rank places is =
    c.take_on_world.ensures.takes before names rank c.args.comms.now places (c.keep_to_world.ensures places c.if-keep_to_world.true) is

pub returns-clause-takes : goal.returns-clause-takes
returns-clause-takes c before names rank places is = c.in_ok-take_lines.ensures.takes before names (comms_first rank) places is
