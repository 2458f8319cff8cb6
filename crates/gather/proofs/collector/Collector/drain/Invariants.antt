-- What is received and what is left of the rank are together what they were, and nothing else was taken.
use Rattle.std.proofs.Common.{◌≡◌, ◌++◌, length}
use Rattle.gather.specs.Collectors.{received_from, left_from}
use Rattle.gather.specs.inner.Collectors.{ReceivesFrom}
use Rattle.gather.proofs.collector.Collector.drain.Given as goal

abbrev pub invariant-loop : goal.invariant-loop
invariant-loop l = record {
  only : ReceivesFrom l.rank l.fn.self l.self;
  together : received_from l.self l.rank ++ left_from l.self l.rank ≡ received_from l.fn.self l.rank ++ left_from l.fn.self l.rank;
}

abbrev pub decreases-loop : goal.decreases-loop
decreases-loop l = length (left_from l.self l.rank)
