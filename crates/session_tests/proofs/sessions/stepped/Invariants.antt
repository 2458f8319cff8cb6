-- The feeds are the same.
use Rattle.std.proofs.Common.{◌≡◌}
use Rattle.gather.specs.Collectors.{rings}
use Rattle.session_tests.proofs.sessions.stepped.Given as goal

abbrev pub invariant-loop : goal.invariant-loop
invariant-loop g l =
    (goal.iterator-loop g).can_next l.iterator' × (goal.iterator-loop g).is_finite l.iterator' × rings l.collector ≡ rings l.fn.collector
