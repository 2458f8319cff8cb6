use Rattle.lawful.proofs.EndLemmas.{what_is_gone_through_ends}
use Rattle.lawful.proofs.laws.what_is_gone_through_ends.Goals as goal

pub returns : goal.returns
returns c = what_is_gone_through_ends
