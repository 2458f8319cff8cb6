-- No line from here on is a call line, and the call before them came back if one of them says so.
use Rattle.closing.specs.inner.Noted.{HavePlaces, IsSeenFrom}
use Rattle.closing.proofs.last.last_call.Given as goal

abbrev pub invariant-loop-line : goal.invariant-loop-line
invariant-loop-line l = HavePlaces l.lines → IsSeenFrom l.lines l.is_outside l.line l.came_back
