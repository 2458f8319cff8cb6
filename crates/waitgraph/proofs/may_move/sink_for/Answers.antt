use Rattle.std.proofs.Common.{◌∙◌, false, Option, sym, ap}
use Rattle.std.specs.Prelude.{find}
use Rattle.std.specs.Option.{option_map_or}
use Rattle.callstore.specs.declared.envelope.Envelope.{Envelope}
use Rattle.waitgraph.specs.Pending.{may_take}
use Rattle.waitgraph.proofs.ScenesLemmas.{no_sink}
use Rattle.waitgraph.proofs.may_move.sink_for.Goals as goal

pub returns-in-None : goal.returns-in-None
returns-in-None c =
    sym (ap (λ (o : Option Envelope). find (λ sink. option_map_or (λ e. may_take c.args.pairs.now.groups e sink) o false) c.args.sinks.now) (sym c.spare_at.ensures ∙ c.in-None.is)
    ∙ no_sink c.args.sinks.now)
