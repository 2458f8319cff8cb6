use Rattle.windows.proofs.LawfulRight.{lawful_recordings_are_right}
use Rattle.windows.proofs.laws.lawful_recordings_are_right.Goals as goal

pub returns : goal.returns
returns c = lawful_recordings_are_right
