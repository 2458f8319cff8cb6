-- What was searched has no line feed; nothing of what was known is lost, and no read failed.
use Rattle.std.proofs.Common.{◌≡◌, ◌≤◌, ◌-◌, length}
use Rattle.std.specs.Io.KnownBytes.{Keeps, prepend_known}
use Rattle.journals.specs.inner.LineWindow.{NoFeedBelow}
use Rattle.journals.proofs.line_window.line_end.Given as goal

abbrev pub invariant-loop-at : goal.invariant-loop-at
invariant-loop-at g l = record {
  within : l.searched ≤ length l.window;
  none : NoFeedBelow l.window l.searched;
  known : Keeps (prepend_known l.fn.window (g.I.Input.left l.fn.input)) (prepend_known l.window (g.I.Input.left l.input));
  count : g.I.Input.failures l.input ≡ g.I.Input.failures l.fn.input;
}

abbrev pub decreases-loop-at : goal.decreases-loop-at
decreases-loop-at g l = 32769 - length l.window
