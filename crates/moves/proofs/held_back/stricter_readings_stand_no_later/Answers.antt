use Rattle.moves.proofs.ReadingLemmas.{stricter_readings_stand_no_later}
use Rattle.moves.proofs.held_back.stricter_readings_stand_no_later.Goals as goal

pub returns : goal.returns
returns c = stricter_readings_stand_no_later
