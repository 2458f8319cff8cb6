use Rattle.lawful.proofs.ClosedLemmas.{each_recording_is_closed}
use Rattle.lawful.proofs.laws.each_recording_is_closed.Goals as goal

pub returns : goal.returns
returns c = each_recording_is_closed
