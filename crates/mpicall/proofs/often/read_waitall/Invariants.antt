-- The requests so far.
use Rattle.std.proofs.Common.{◌-◌, length}
use Rattle.mpicall.specs.inner.Often.{HasRequests}
use Rattle.mpicall.proofs.often.read_waitall.Given as goal

abbrev pub invariant-loop-next : goal.invariant-loop-next
invariant-loop-next l = HasRequests l.bytes l.at l.next l.reqs

abbrev pub decreases-loop-next : goal.decreases-loop-next
decreases-loop-next l = length l.bytes - l.at
