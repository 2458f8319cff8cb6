-- A sink is put, and its entry left.
use Rattle.std.proofs.Common.{refl, ◌∷◌, []}
use Rattle.closing.specs.declared.stop.Stop.TheVariants.{Memory}
use Rattle.closing.proofs.FollowLemmas.{residual}
use Rattle.closing.proofs.SunkSteps.{no_memory_steps, sink_left, sink_stops_by}
use Rattle.closing.specs.inner.Sunk.{sink_step}
use Rattle.closing.proofs.walk.Walk.starts_sink.Goals as goal

pub returns-in_err-puts_sink-clause-takes : goal.returns-in_err-puts_sink-clause-takes
returns-in_err-puts_sink-clause-takes c = λ handed progress stands kept fits.
    sink_stops_by c.puts_sink.result c.in_err-puts_sink.field-0.0 c.from_residual.result handed progress c.args.self.now.line c.args.own c.args.wants.now.wanted c.args.wants.now.is_known
    c.args.self.now c.puts_sink.new.self c.in_err-puts_sink.was (residual c.from_residual.result c.in_err-puts_sink.field-0.0 c.from_residual.ensures.1)
    stands kept c.puts_sink.ensures.same
    (c.puts_sink.ensures.puts handed progress c.args.self.now.line c.args.wants.now.is_known stands kept.sinks fits.0)

pub returns-in_err-leaves_out-clause-takes : goal.returns-in_err-leaves_out-clause-takes
returns-in_err-leaves_out-clause-takes c = λ handed progress stands kept fits.
    no_memory_steps c.args.self.now.line (sink_step c.args.own c.args.wants.now.wanted c.args.wants.now.is_known ∷ []) c.from_residual-in_err-leaves_out.result handed progress c.leaves_out.new.self
    (residual c.from_residual-in_err-leaves_out.result Memory c.from_residual-in_err-leaves_out.ensures.1)

pub returns-clause-takes : goal.returns-clause-takes
returns-clause-takes c = λ handed progress stands kept fits.
    sink_left handed progress c.args.self.now.line c.args.own c.args.wants.now.wanted c.args.wants.now.is_known
    c.args.self.now c.puts_sink.new.self c.leaves_out.new.self kept refl c.puts_sink.ensures.same c.leaves_out.ensures.same c.in_ok-leaves_out.ensures.left_out
    (c.in_ok-puts_sink.ensures.puts handed progress c.args.self.now.line c.args.wants.now.is_known stands kept.sinks fits.0)
