use Rattle.lawful.proofs.FreeLemmas.{sinks_alone_are_left}
use Rattle.lawful.proofs.laws.sinks_alone_are_left.Goals as goal

pub returns : goal.returns
returns c = sinks_alone_are_left
