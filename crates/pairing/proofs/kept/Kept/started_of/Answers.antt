-- What is kept with the request is what started it.
use Rattle.std.proofs.Common.{sym, ◌∙◌}
use Rattle.pairing.proofs.KeptLemmas.{started_noted}
use Rattle.pairing.proofs.kept.Kept.started_of.Goals as goal

pub returns : goal.returns
returns c =
    c.start_of.ensures
    ∙ sym (started_noted c.args.self.now.notes.lists c.args.rank c.args.place c.args.req c.in_ok-note.note c.requires (sym c.in_ok-note.ensures.value))
