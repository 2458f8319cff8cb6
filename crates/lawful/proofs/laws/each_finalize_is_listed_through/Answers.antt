use Rattle.lawful.proofs.EndLemmas.{each_finalize_is_listed_through}
use Rattle.lawful.proofs.laws.each_finalize_is_listed_through.Goals as goal

pub returns : goal.returns
returns c = each_finalize_is_listed_through
