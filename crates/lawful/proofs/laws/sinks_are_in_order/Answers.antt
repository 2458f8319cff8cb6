use Rattle.lawful.proofs.SinkLaws.{sinks_are_in_order}
use Rattle.lawful.proofs.laws.sinks_are_in_order.Goals as goal

pub returns : goal.returns
returns c = sinks_are_in_order
