use Rattle.std.proofs.Common.{sym, ◌∙◌}
use Rattle.waitgraph.specs.Pending.{may_take}
use Rattle.waitgraph.proofs.SinkTableLemmas.{is_of_dest, none_takes}
use Rattle.waitgraph.proofs.may_move.first_to.Goals as goal

pub returns-in-Some : goal.returns-in-Some
returns-in-Some c =
    c.first_sink.ensures
    ∙ (c.of.ensures (may_take c.args.head.now c.args.envelope.now) (λ sink takes. is_of_dest c.args.head.now c.args.envelope.now c.in-Some.dest sink (sym c.rank_of_half.ensures ∙ c.in-Some.is) takes)).0

pub returns-in-None : goal.returns-in-None
returns-in-None c = none_takes c.args.head.now c.args.envelope.now c.args.sinks.now (sym c.rank_of_half.ensures ∙ c.in-None.is)
