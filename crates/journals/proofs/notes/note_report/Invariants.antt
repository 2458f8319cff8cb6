-- The numbers to come still do what all of them do.
use Rattle.std.proofs.Common.{◌≡◌, ℕ}
use Rattle.journals.specs.inner.Numbered.{numbered, numbered_from}
use Rattle.journals.specs.inner.Notes.{note_at, may_use, noted, may_report, by_report}
use Rattle.journals.specs.declared.word.Word.TheVariants.{Report}
use Rattle.journals.proofs.notes.note_report.Given as goal

abbrev pub invariant-loop-place : goal.invariant-loop-place
invariant-loop-place l = record {
  uses : may_use (may_report l.report.line) (by_report l.report.word l.report.line l.report.completed) (note_at l.notes) (numbered_from (Report l.report.word) l.report.fields.now l.place) ≡ may_use (may_report l.report.line) (by_report l.report.word l.report.line l.report.completed) (note_at l.initial.notes) (numbered (Report l.report.word) l.report.fields.now);
  notes : (other : ℕ) → noted (by_report l.report.word l.report.line l.report.completed) other (note_at l.notes other) (numbered_from (Report l.report.word) l.report.fields.now l.place) ≡ noted (by_report l.report.word l.report.line l.report.completed) other (note_at l.initial.notes other) (numbered (Report l.report.word) l.report.fields.now);
}
