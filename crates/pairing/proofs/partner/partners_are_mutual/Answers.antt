use Rattle.pairing.proofs.PartnerLemmas.{partners_are_mutual}
use Rattle.pairing.proofs.partner.partners_are_mutual.Goals as goal

pub returns : goal.returns
returns c = partners_are_mutual
