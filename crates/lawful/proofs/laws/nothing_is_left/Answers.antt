use Rattle.lawful.proofs.FreeLemmas.{nothing_is_left}
use Rattle.lawful.proofs.laws.nothing_is_left.Goals as goal

pub returns : goal.returns
returns c = nothing_is_left
