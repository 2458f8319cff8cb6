-- A sink, or nothing.
use Rattle.std.proofs.Common.{sym, subst, Ok, true}
use Rattle.closing.specs.inner.Sunk.{TakesSteps, steps_left}
use Rattle.closing.specs.declared.walk.sinks.Leaves.{Leaves}
use Rattle.closing.proofs.walk.Walk.leaves.Goals as goal

pub returns-in-Nothing-clause-takes : goal.returns-in-Nothing-clause-takes
returns-in-Nothing-clause-takes c =
    subst (λ (it : Leaves). TakesSteps c.args.self.now.line (steps_left it c.args.wants.now.wanted c.args.wants.now.is_known) (Ok true) c.args.self.now c.args.self.now) (sym c.in-Nothing.is)
    (λ handed progress stands kept fits. (stands, kept))

pub returns-in-Sink-clause-takes : goal.returns-in-Sink-clause-takes
returns-in-Sink-clause-takes c =
    subst (λ (it : Leaves). TakesSteps c.args.self.now.line (steps_left it c.args.wants.now.wanted c.args.wants.now.is_known) c.starts_sink.result c.args.self.now c.starts_sink.new.self) (sym c.in-Sink.is)
    c.starts_sink.ensures.takes
