use Rattle.lawful.proofs.SinkLaws.{each_sink_has_its_place}
use Rattle.lawful.proofs.laws.each_sink_has_its_place.Goals as goal

pub returns : goal.returns
returns c = each_sink_has_its_place
