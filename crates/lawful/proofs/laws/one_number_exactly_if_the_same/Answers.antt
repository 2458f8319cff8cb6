use Rattle.lawful.proofs.SameLemmas.{one_number_exactly_if_the_same}
use Rattle.lawful.proofs.laws.one_number_exactly_if_the_same.Goals as goal

pub returns : goal.returns
returns c = one_number_exactly_if_the_same
