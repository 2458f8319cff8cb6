-- No number is left to be noted.
use Rattle.std.proofs.Common.{◌≡◌, ◌∙◌, sym, length, arith}
use Rattle.journals.specs.inner.Notes.{note_at, may_report, by_report}
use Rattle.journals.specs.inner.Places.{looked_at, requests_first}
use Rattle.journals.specs.declared.word.Word.TheVariants.{Report}
use Rattle.journals.proofs.PlaceLemmas.{may_late, noted_late}
use Rattle.journals.proofs.notes.note_report.Goals as goal

pub returns-clause-ok : goal.returns-clause-ok
returns-clause-ok c =
    let at_end : c.loop-place.place ≡ looked_at (requests_first (Report c.args.report.word)) (length c.args.report.fields.now) = omega arith in
    sym c.loop-place.invariant.uses ∙ may_late (may_report c.args.report.line) (by_report c.args.report.word c.args.report.line c.args.report.completed) (note_at c.loop-place.notes) (Report c.args.report.word) c.args.report.fields.now c.loop-place.place at_end

pub returns-clause-notes : goal.returns-clause-notes
returns-clause-notes c = λ other.
    let at_end : c.loop-place.place ≡ looked_at (requests_first (Report c.args.report.word)) (length c.args.report.fields.now) = omega arith in
    sym (noted_late (may_report c.args.report.line) (by_report c.args.report.word c.args.report.line c.args.report.completed) other (note_at c.loop-place.notes other) (Report c.args.report.word) c.args.report.fields.now c.loop-place.place at_end) ∙ c.loop-place.invariant.notes other
