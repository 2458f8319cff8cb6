-- Those that the lines so far free.
use Rattle.std.proofs.Common.{◌≡◌, take}
use Rattle.closing.specs.Freed.{freed}
use Rattle.closing.proofs.freed.freed_in.Given as goal

abbrev pub invariant-loop-line : goal.invariant-loop-line
invariant-loop-line l = l.requests.items ≡ freed (take l.line l.lines)
