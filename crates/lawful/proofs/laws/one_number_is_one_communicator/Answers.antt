use Rattle.lawful.proofs.KeyLemmas.{one_number_is_one_communicator}
use Rattle.lawful.proofs.laws.one_number_is_one_communicator.Goals as goal

pub returns : goal.returns
returns c = one_number_is_one_communicator
