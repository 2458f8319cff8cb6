-- The first fault follows from the tables of the calls before it.
use Rattle.std.proofs.Common.{◌∙◌, sym}
use Rattle.callstore.specs.inner.Notes.{recording_of}
use Rattle.pairing.proofs.KeptLemmas.{is_over_by, count_noted}
use Rattle.pairing.proofs.kept.Kept.next_fault.Goals as goal

pub returns : goal.returns
returns c =
    let notes = c.args.self.now.notes.lists in
    let others = c.requires.kept.tables.others in
    c.first_fault.ensures (recording_of notes) others.made_comms others.active
    (c.count.ensures.value ∙ sym (count_noted notes c.args.rank))
    (c.is_over.ensures ∙ is_over_by c.args.self.now.head notes c.args.self.now.tables c.args.rank c.requires.is_rank c.requires.kept)
    c.requires.active
