-- The session is the same.
use Rattle.driver.specs.inner.Runs.{IsSameSession}
use Rattle.driver.proofs.poll.take_some.Given as goal

abbrev pub invariant-loop : goal.invariant-loop
invariant-loop l = IsSameSession l.fn.collector l.collector
