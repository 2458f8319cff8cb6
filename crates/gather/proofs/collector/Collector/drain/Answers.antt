use Rattle.gather.proofs.DrainLemmas.{drain_on, together_on, all_taken, one_less, is_not_ended}
use Rattle.gather.proofs.collector.Collector.drain.Goals as goal

pub loop-preserved : goal.loop-preserved
loop-preserved c = record {
  only = drain_on c.args.rank c.args.self.now c.loop.self c.step.new.self c.step.result c.loop.invariant.only c.step.ensures.step c.step.ensures.publishes;
  together = together_on c.args.rank c.args.self.now c.loop.self c.step.new.self c.step.result c.requires.known c.loop.invariant.together c.step.ensures.step;
}

pub loop-smaller : goal.loop-smaller
loop-smaller c = one_less c.args.rank c.args.self.now c.loop.self c.step.new.self c.step.result c.requires.known c.loop.invariant.together c.step.ensures.step (is_not_ended c.step.result c.in-Took.is)

pub returns-in-Ended-clause-only : goal.returns-in-Ended-clause-only
returns-in-Ended-clause-only c = drain_on c.args.rank c.args.self.now c.loop.self c.step.new.self c.step.result c.loop.invariant.only c.step.ensures.step c.step.ensures.publishes

pub returns-in-Ended-clause-all : goal.returns-in-Ended-clause-all
returns-in-Ended-clause-all c = all_taken c.args.rank c.args.self.now c.loop.self c.step.new.self c.step.result c.requires.known c.requires.in_order c.loop.invariant.together c.step.ensures.step c.in-Ended.is
