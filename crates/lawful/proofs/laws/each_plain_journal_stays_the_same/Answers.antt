use Rattle.lawful.proofs.PlainSteps.{each_plain_journal_stays_the_same}
use Rattle.lawful.proofs.laws.each_plain_journal_stays_the_same.Goals as goal

pub returns : goal.returns
returns c = each_plain_journal_stays_the_same
