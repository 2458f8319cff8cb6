-- The envelope with that number is this one.
use Rattle.std.proofs.Common.{◌≡◌, ◌∙◌, List, Some, ap, sym}
use Rattle.std.specs.List.{slice_get}
use Rattle.callstore.specs.declared.envelope.Envelope.{Envelope}
use Rattle.pairing.proofs.MatchedLemmas.{own_number}
use Rattle.pairing.proofs.PartnerLemmas.{same_envelope_true}
use Rattle.pairing.proofs.envelope_index.EnvelopeIndex.known.Goals as goal

pub returns-in-Some : goal.returns-in-Some
returns-in-Some c =
    let number = c.in_ok-number.field-0.now in
    let known = c.in-Some.known.now in
    let stands : Some known ≡ slice_get c.self.inside.envelopes.keys number = c.in-Some.ensures.key in
    let is : known ≡ c.args.envelope.now = same_envelope_true known c.args.envelope.now (sym c.eq.ensures ∙ c.if-eq.true) in
    own_number c.args.self.now c.args.envelope.now number c.len-envelopes.ensures.unique
    (ap (λ (keys : List Envelope). slice_get keys number) (sym c.self.view_is) ∙ sym stands ∙ ap (λ (e : Envelope). Some e) is)
