use Rattle.lawful.proofs.FreeLemmas.{what_is_free_is_whole}
use Rattle.lawful.proofs.laws.what_is_free_is_whole.Goals as goal

pub returns : goal.returns
returns c = what_is_free_is_whole
