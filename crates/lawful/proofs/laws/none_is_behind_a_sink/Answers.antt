use Rattle.lawful.proofs.SinkLaws.{none_is_behind_a_sink}
use Rattle.lawful.proofs.laws.none_is_behind_a_sink.Goals as goal

pub returns : goal.returns
returns c = none_is_behind_a_sink
