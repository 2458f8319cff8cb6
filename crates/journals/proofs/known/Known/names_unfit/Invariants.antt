-- The requests to come are unfit where those of the whole line are.
use Rattle.std.proofs.Common.{◌≡◌}
use Rattle.journals.specs.inner.Numbered.{numbered, numbered_from}
use Rattle.journals.specs.inner.Notes.{note_at}
use Rattle.journals.specs.inner.Knows.{is_unfit, names_unfit_by}
use Rattle.journals.specs.declared.word.Word.TheVariants.{Report}
use Rattle.journals.proofs.known.Known.names_unfit.Given as goal

abbrev pub invariant-loop-place : goal.invariant-loop-place
invariant-loop-place l = names_unfit_by (is_unfit l.self.last l.word) (note_at l.self.notes) (numbered_from (Report l.word) l.fields l.place) ≡ names_unfit_by (is_unfit l.self.last l.word) (note_at l.self.notes) (numbered (Report l.word) l.fields)
