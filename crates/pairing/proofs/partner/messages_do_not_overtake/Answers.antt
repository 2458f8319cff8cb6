use Rattle.pairing.proofs.PartnerLemmas.{messages_do_not_overtake}
use Rattle.pairing.proofs.partner.messages_do_not_overtake.Goals as goal

pub returns : goal.returns
returns c = messages_do_not_overtake
