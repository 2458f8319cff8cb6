use Rattle.lawful.proofs.SameLemmas.{each_number_has_its_group}
use Rattle.lawful.proofs.laws.each_number_has_its_group.Goals as goal

pub returns : goal.returns
returns c = each_number_has_its_group
