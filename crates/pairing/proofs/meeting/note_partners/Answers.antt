use Rattle.std.proofs.Common.{◌∙◌, ap, List}
use Rattle.callstore.specs.Notes.{Noted}
use Rattle.callstore.specs.inner.Notes.{recording_of}
use Rattle.pairing.proofs.PartneredLemmas.{recording_partnered}
use Rattle.pairing.proofs.meeting.note_partners.Goals as goal

pub returns-in-Some-clause-recording : goal.returns-in-Some-clause-recording
returns-in-Some-clause-recording c =
    ap (λ (notes : List (List Noted)). recording_of notes) c.set_partner-in-Some.ensures
    ∙ recording_partnered c.set_partner.new.self.lists c.in-Some.other c.args.there c.other-in-Some.result c.args.at.place
    ∙ ap (λ (notes : List (List Noted)). recording_of notes) c.set_partner.ensures
    ∙ recording_partnered c.args.notes.now.lists c.args.at.rank c.args.at.place c.args.at.half c.args.there
