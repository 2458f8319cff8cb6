-- A receive that is reported to be moved is so wrongly where the lines don't end with a cut, or it is completed.
use Rattle.std.proofs.Common.{◌≡◌, ◌∙◌, ◌||◌, not, Bool, true, false, Some, ap, sym, slice_get}
use Rattle.journals.specs.Faults.{ends_with_cut}
use Rattle.journals.specs.Taking.{word_at, fields_in_line}
use Rattle.journals.specs.inner.Notes.{note_at}
use Rattle.journals.specs.inner.Knows.{names_completed_by}
use Rattle.journals.specs.declared.word.Word.TheVariants.{Report}
use Rattle.journals.specs.declared.word.ReportWord.TheVariants as report
use Rattle.journals.proofs.MovedLemmas.{moved_is}
use Rattle.journals.proofs.known.Known.is_moved_wrongly.Goals as goal

pub returns-then-not-ends_with_cut : goal.returns-then-not-ends_with_cut
returns-then-not-ends_with_cut c =
    let word : word_at c.args.lines.now c.args.line ≡ Some (Report report.Moved) = cc (c.word.ensures, c.in-Some-Report-Moved.is, c.in-Some-Report-Moved.field-0-is, c.in-Some-Report-Moved.field-0-0-is) in
    let ends : ends_with_cut c.args.lines.now ≡ false = sym (c.ends_with_cut.ensures _ c.args.lines.now c.requires.last) ∙ c.if-not-ends_with_cut.true in
    ap not c.if-not-ends_with_cut.true
    ∙ ap (λ (b : Bool). not b || names_completed_by (note_at c.args.self.now.notes) (fields_in_line (slice_get c.args.lines.now c.args.line))) (sym ends)
    ∙ moved_is c.args.lines.now c.args.self.now c.requires (slice_get c.args.lines.now c.args.line) word

pub returns-else-not-ends_with_cut : goal.returns-else-not-ends_with_cut
returns-else-not-ends_with_cut c =
    let word : word_at c.args.lines.now c.args.line ≡ Some (Report report.Moved) = cc (c.word.ensures, c.in-Some-Report-Moved.is, c.in-Some-Report-Moved.field-0-is, c.in-Some-Report-Moved.field-0-0-is) in
    let ends : ends_with_cut c.args.lines.now ≡ true = sym (c.ends_with_cut.ensures _ c.args.lines.now c.requires.last) ∙ c.if-not-ends_with_cut.false in
    c.names_completed.ensures
    ∙ ap (names_completed_by (note_at c.args.self.now.notes)) c.fields.ensures
    ∙ ap (λ (b : Bool). not b || names_completed_by (note_at c.args.self.now.notes) (fields_in_line (slice_get c.args.lines.now c.args.line))) (sym ends)
    ∙ moved_is c.args.lines.now c.args.self.now c.requires (slice_get c.args.lines.now c.args.line) word
