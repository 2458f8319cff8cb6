-- Of several messages the first stays.
use Rattle.closing.specs.inner.Standings.{message_for}
use Rattle.closing.proofs.StandingLemmas.{first_stays}
use Rattle.closing.proofs.standing.Standing.take_matched.Goals as goal

pub returns-clause-matched : goal.returns-clause-matched
returns-clause-matched c =
    first_stays (message_for c.args.self.now) _ c.args.request c.args.message c.message_or-first.result c.message_or-first.ensures c.in_ok-insert.ensures.updates.0
