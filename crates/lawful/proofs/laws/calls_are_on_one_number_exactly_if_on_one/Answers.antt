use Rattle.lawful.proofs.SameLemmas.{calls_are_on_one_number_exactly_if_on_one}
use Rattle.lawful.proofs.laws.calls_are_on_one_number_exactly_if_on_one.Goals as goal

pub returns : goal.returns
returns c = calls_are_on_one_number_exactly_if_on_one
