-- The session's list stays.
use Rattle.std.proofs.Common.{◌≡◌}
use Rattle.gather.specs.Collectors.{list_published}
use Rattle.session_tests.proofs.opened.Opened.deal_barriers.Given as goal

abbrev pub invariant-loop-rank : goal.invariant-loop-rank
invariant-loop-rank l = list_published l.self.collector ≡ list_published l.fn.self.collector
