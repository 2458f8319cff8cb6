use Rattle.judging.proofs.PlainLemmas.{without_pending_the_report_is_plain}
use Rattle.judging.proofs.judge.without_pending_the_report_is_plain.Goals as goal

pub returns : goal.returns
returns c = without_pending_the_report_is_plain
