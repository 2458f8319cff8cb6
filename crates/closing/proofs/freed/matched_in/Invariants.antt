-- The messages that requests take by the lines so far.
use Rattle.std.proofs.Common.{◌≡◌, ℕ, take}
use Rattle.closing.specs.Entry.{matched_message}
use Rattle.closing.specs.inner.Standings.{message_for}
use Rattle.closing.proofs.freed.matched_in.Given as goal

abbrev pub invariant-loop-line : goal.invariant-loop-line
invariant-loop-line l = (request : ℕ) → message_for l.matched request ≡ matched_message (take l.line l.lines) request
