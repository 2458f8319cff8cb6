use Rattle.lawful.proofs.EndLemmas.{each_finalize_is_an_end}
use Rattle.lawful.proofs.laws.each_finalize_is_an_end.Goals as goal

pub returns : goal.returns
returns c = each_finalize_is_an_end
