-- The lines still to come say what all of them do.
use Rattle.std.proofs.Common.{◌≡◌, ℕ, ◌+◌, ◌≤◌, length}
use Rattle.std.specs.Io.KnownBytes.{prepend_known}
use Rattle.journals.specs.Inputs.{text_left}
use Rattle.journals.specs.inner.Knows.{Knows, owner_of}
use Rattle.journals.specs.inner.Reader.{coming}
use Rattle.journals.specs.inner.JournalAnswers.{lines_to_come, GoesOn, Passes}
use Rattle.journals.proofs.journal.read_lines.Given as goal

abbrev pub invariant-loop : goal.invariant-loop
invariant-loop g l = record {
  owner : owner_of l.reading.known ≡ owner_of l.initial.reading.known;
  ranks : (owner_of l.reading.known).ranks ≡ l.reading.ranks;
  knows : Knows l.reading.lines l.reading.known;
  some : 1 ≤ l.reading.ranks;
  number : l.reading.number ≡ length l.reading.lines + 2;
  passed : (count : ℕ) × (l.reading.number ≡ l.initial.reading.number + count) × Passes (prepend_known l.fn.window (text_left g.I.Input.left l.fn.text)) (prepend_known l.window (text_left g.I.Input.left l.text)) count;
  on : GoesOn (lines_to_come (owner_of l.initial.reading.known) l.initial.reading.lines (coming l.fn.window (text_left g.I.Input.left l.fn.text))) (lines_to_come (owner_of l.reading.known) l.reading.lines (coming l.window (text_left g.I.Input.left l.text)));
}
