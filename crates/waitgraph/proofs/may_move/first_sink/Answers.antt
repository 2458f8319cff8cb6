use Rattle.std.proofs.Common.{refl, sym, ◌∙◌, arith}
use Rattle.waitgraph.specs.Pending.{may_take}
use Rattle.waitgraph.proofs.ScenesLemmas.{sink_found, sink_missing}
use Rattle.waitgraph.proofs.may_move.first_sink.Goals as goal

pub returns-then-may_take : goal.returns-then-may_take
returns-then-may_take c =
    sink_found (may_take c.args.head.now c.args.envelope.now) c.args.sinks.now c.loop-sink.sink-index _ _ (omega arith) refl c.loop-sink.invariant (sym c.may_take.ensures ∙ c.if-may_take.true)

pub returns : goal.returns
returns c = sink_missing (may_take c.args.head.now c.args.envelope.now) c.args.sinks.now c.loop-sink.sink-index (omega arith) c.loop-sink.invariant
