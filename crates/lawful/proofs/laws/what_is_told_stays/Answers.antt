use Rattle.lawful.proofs.LongerLists.{what_is_told_stays, what_is_told_between_stays}
use Rattle.lawful.proofs.laws.what_is_told_stays.Goals as goal

pub returns-clause-behind : goal.returns-clause-behind
returns-clause-behind c = what_is_told_stays

pub returns-clause-between : goal.returns-clause-between
returns-clause-between c = what_is_told_between_stays
