-- What is noted of a call is what the recording has there.
use Rattle.std.proofs.Common.{◌≡◌, Some, sym, ◌∙◌}
use Rattle.std.specs.List.{slice_get}
use Rattle.callstore.specs.Notes.{notes_of}
use Rattle.pairing.proofs.KeptLemmas.{its_call, no_call, partner_noted, wave_there, completed_noted}
use Rattle.pairing.proofs.kept.Kept.at.Goals as goal

pub returns-in-Some-clause-call : goal.returns-in-Some-clause-call
returns-in-Some-clause-call c = sym (its_call c.args.self.now.notes.lists c.args.rank c.args.place c.in-Some.note (sym c.get.ensures.value ∙ c.in-Some.is))

pub returns-in-Some-clause-seen : goal.returns-in-Some-clause-seen
returns-in-Some-clause-seen c =
    let notes = c.args.self.now.notes.lists in
    let noted : slice_get (notes_of notes c.args.rank) c.args.place ≡ Some c.in-Some.note = sym c.get.ensures.value ∙ c.in-Some.is in
    record {
      partner = λ half. partner_noted c.args.self.now.head notes c.args.rank c.args.place half c.in-Some.note c.requires.partnered noted;
      wave = wave_there notes c.args.rank c.args.place c.in-Some.note c.requires.noted noted;
      start = λ index. sym (completed_noted notes c.args.rank c.args.place index c.in-Some.note c.requires.noted noted);
    }

pub returns-in-None-clause-call : goal.returns-in-None-clause-call
returns-in-None-clause-call c = sym (no_call c.args.self.now.notes.lists c.args.rank c.args.place (sym c.get.ensures.value ∙ c.in-None.is))
