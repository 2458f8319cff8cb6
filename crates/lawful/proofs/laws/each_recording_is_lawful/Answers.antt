use Rattle.lawful.proofs.LawfulLemmas.{each_recording_is_lawful}
use Rattle.lawful.proofs.laws.each_recording_is_lawful.Goals as goal

pub returns : goal.returns
returns c = each_recording_is_lawful
