use Rattle.std.proofs.Common.{rules}
use Rattle.channelfeed.proofs.RelayLemmas.{begins, forks}
use Rattle.channelfeed.proofs.channel.Feed.open.Goals as goal

pub bounded_with-requires-clause-rule : goal.bounded_with-requires-clause-rule
bounded_with-requires-clause-rule c = begins

pub another-other-requires-clause-rule : goal.another-other-requires-clause-rule
another-other-requires-clause-rule c = forks _ _ (search rules) (search rules)
