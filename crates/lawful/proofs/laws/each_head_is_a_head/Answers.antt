use Rattle.lawful.proofs.HeadLemmas.{each_head_is_a_head}
use Rattle.lawful.proofs.laws.each_head_is_a_head.Goals as goal

pub returns : goal.returns
returns c = each_head_is_a_head
