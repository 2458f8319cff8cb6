-- The fields to come still take back what all of them do.
use Rattle.std.proofs.Common.{◌≡◌, ℕ, if◌then◌else◌, length}
use Rattle.journals.specs.Known.{is_among}
use Rattle.journals.specs.inner.Naturals.{naturals}
use Rattle.journals.specs.inner.Notes.{note_at, undone_at}
use Rattle.journals.proofs.notes.undo_all.Given as goal

abbrev pub invariant-loop-fields : goal.invariant-loop-fields
invariant-loop-fields l = (other : ℕ) → (if is_among other (naturals l.fields) then undone_at l.line (note_at l.notes other) else note_at l.notes other) ≡ (if is_among other (naturals l.initial.fields) then undone_at l.line (note_at l.initial.notes other) else note_at l.initial.notes other)

abbrev pub decreases-loop-fields : goal.decreases-loop-fields
decreases-loop-fields l = length l.fields
