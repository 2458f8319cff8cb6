-- No request is left to be unfit.
use Rattle.std.proofs.Common.{◌≡◌, ◌∙◌, sym, length, arith}
use Rattle.journals.specs.inner.Notes.{note_at}
use Rattle.journals.specs.inner.Knows.{is_unfit}
use Rattle.journals.specs.inner.Places.{looked_at, requests_first}
use Rattle.journals.specs.declared.word.Word.TheVariants.{Report}
use Rattle.journals.proofs.PlaceLemmas.{unfit_late}
use Rattle.journals.proofs.known.Known.names_unfit.Goals as goal

pub returns : goal.returns
returns c =
    let at_end : c.loop-place.place ≡ looked_at (requests_first (Report c.args.word)) (length c.args.fields.now) = omega arith in
    sym (unfit_late (is_unfit c.args.self.now.last c.args.word) (note_at c.args.self.now.notes) (Report c.args.word) c.args.fields.now c.loop-place.place at_end) ∙ c.loop-place.invariant
