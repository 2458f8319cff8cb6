use Rattle.lawful.proofs.SinkEntries.{what_is_told_stays_with_sinks, what_is_told_between_stays_with_sinks}
use Rattle.lawful.proofs.laws.what_is_told_stays_with_sinks.Goals as goal

pub returns-clause-behind : goal.returns-clause-behind
returns-clause-behind c = what_is_told_stays_with_sinks

pub returns-clause-between : goal.returns-clause-between
returns-clause-between c = what_is_told_between_stays_with_sinks
