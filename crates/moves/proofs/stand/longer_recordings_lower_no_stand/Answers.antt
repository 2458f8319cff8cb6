use Rattle.moves.proofs.StandLemmas.{longer_recordings_lower_no_stand}
use Rattle.moves.proofs.stand.longer_recordings_lower_no_stand.Goals as goal

pub returns : goal.returns
returns c = longer_recordings_lower_no_stand
