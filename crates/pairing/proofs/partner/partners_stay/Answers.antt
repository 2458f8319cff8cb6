use Rattle.pairing.proofs.PartnerLemmas.{partners_stay}
use Rattle.pairing.proofs.partner.partners_stay.Goals as goal

pub returns : goal.returns
returns c = partners_stay
