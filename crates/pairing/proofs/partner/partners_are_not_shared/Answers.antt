use Rattle.pairing.proofs.PartnerLemmas.{partners_are_not_shared}
use Rattle.pairing.proofs.partner.partners_are_not_shared.Goals as goal

pub returns : goal.returns
returns c = partners_are_not_shared
