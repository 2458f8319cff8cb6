-- The session is the same.
use Rattle.driver.specs.inner.Runs.{IsSameSession}
use Rattle.driver.proofs.poll.poll.Given as goal

abbrev pub invariant-loop-rank : goal.invariant-loop-rank
invariant-loop-rank l = IsSameSession l.fn.collector l.collector
