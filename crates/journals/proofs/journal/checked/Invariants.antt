-- None of the lines so far reports a moved receive that they can't have.
use Rattle.std.proofs.Common.{◌≡◌, drop}
use Rattle.journals.specs.Journal.{first_moved_wrongly}
use Rattle.journals.proofs.journal.checked.Given as goal

abbrev pub invariant-loop-place : goal.invariant-loop-place
invariant-loop-place l = first_moved_wrongly l.fn.lines l.place (drop l.place l.fn.lines) ≡ first_moved_wrongly l.fn.lines 0 l.fn.lines
