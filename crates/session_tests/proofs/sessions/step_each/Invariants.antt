-- The feeds are the same.
use Rattle.std.proofs.Common.{◌≡◌}
use Rattle.gather.specs.Collectors.{rings}
use Rattle.session_tests.proofs.sessions.step_each.Given as goal

abbrev pub invariant-loop-rank : goal.invariant-loop-rank
invariant-loop-rank l = rings l.collector ≡ rings l.fn.collector
