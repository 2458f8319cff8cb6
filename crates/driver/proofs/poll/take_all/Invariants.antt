-- The session is the same.
use Rattle.driver.specs.inner.Runs.{IsSameSession}
use Rattle.driver.proofs.poll.take_all.Given as goal

abbrev pub invariant-loop : goal.invariant-loop
invariant-loop g l =
    (goal.iterator-loop g).can_next l.iterator' × (goal.iterator-loop g).is_finite l.iterator' × IsSameSession l.fn.collector l.collector
