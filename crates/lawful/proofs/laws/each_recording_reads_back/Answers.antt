use Rattle.lawful.proofs.HeadTexts.{each_recording_reads_back}
use Rattle.lawful.proofs.laws.each_recording_reads_back.Goals as goal

pub returns : goal.returns
returns c = each_recording_reads_back
