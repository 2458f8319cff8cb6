-- The numbers to come still do what all of them do.
use Rattle.std.proofs.Common.{◌≡◌, ℕ}
use Rattle.journals.specs.inner.Numbered.{numbered, numbered_from}
use Rattle.journals.specs.inner.Notes.{note_at, may_use, noted, may_call, by_call}
use Rattle.journals.specs.declared.word.Word.TheVariants.{Call}
use Rattle.journals.proofs.notes.note_call.Given as goal

abbrev pub invariant-loop-place : goal.invariant-loop-place
invariant-loop-place l = record {
  uses : may_use (may_call l.call.line) (by_call l.call.word l.call.fields.now l.call.line) (note_at l.notes) (numbered_from (Call l.call.word) l.call.fields.now l.place) ≡ may_use (may_call l.call.line) (by_call l.call.word l.call.fields.now l.call.line) (note_at l.initial.notes) (numbered (Call l.call.word) l.call.fields.now);
  notes : (other : ℕ) → noted (by_call l.call.word l.call.fields.now l.call.line) other (note_at l.notes other) (numbered_from (Call l.call.word) l.call.fields.now l.place) ≡ noted (by_call l.call.word l.call.fields.now l.call.line) other (note_at l.initial.notes other) (numbered (Call l.call.word) l.call.fields.now);
}
