-- A start that no message meets, which is a sink.
use Rattle.std.proofs.Common.{refl, ◌∙◌, ap, ◌++◌, ◌∷◌, []}
use Rattle.closing.specs.Steps.{Sink}
use Rattle.closing.specs.declared.stop.Stop.TheVariants.{Memory}
use Rattle.closing.proofs.FollowLemmas.{residual}
use Rattle.closing.proofs.SunkLemmas.{has_put}
use Rattle.closing.proofs.SunkSteps.{no_memory_sink, sink_cut_by}
use Rattle.closing.proofs.walk.Walk.puts_sink.Goals as goal

pub returns-in_err-starts_unnamed-clause-puts : goal.returns-in_err-starts_unnamed-clause-puts
returns-in_err-starts_unnamed-clause-puts c = λ handed progress line is_known stands has ranges.
    sink_cut_by c.starts_unnamed.result c.in_err-starts_unnamed.field-0.0 c.from_residual.result handed progress line c.args.own c.args.wanted is_known
    c.args.self.now.sinks (record c.args.self.now { list = c.starts_unnamed.new.self })
    c.in_err-starts_unnamed.was (residual c.from_residual.result c.in_err-starts_unnamed.field-0.0 c.from_residual.ensures.1) refl
    (c.starts_unnamed.ensures handed progress line (Sink c.args.own c.args.wanted is_known) stands ranges tt)

pub returns-in_err-put-clause-puts : goal.returns-in_err-put-clause-puts
returns-in_err-put-clause-puts c = λ handed progress line is_known stands has ranges.
    no_memory_sink c.from_residual-in_err-put.result handed progress line c.args.own c.args.wanted is_known c.args.self.now.sinks _
    (residual c.from_residual-in_err-put.result Memory c.from_residual-in_err-put.ensures.1)

pub returns-clause-puts : goal.returns-clause-puts
returns-clause-puts c = λ handed progress line is_known stands has ranges. (
  c.in_ok-starts_unnamed.ensures handed progress line (Sink c.args.own c.args.wanted is_known) stands ranges tt,
  has_put progress.records _ line c.args.own c.args.wanted is_known c.args.self.now.sinks c.put.new.self has
      (c.in_ok-put.ensures.all ∙ ap (λ n. c.args.self.now.sinks.all.items ++ record { place = n; wanted = c.args.wanted } ∷ []) (c.place-place.ensures ∙ stands.count))
      c.in_ok-put.ensures.named,
)
