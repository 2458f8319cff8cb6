-- A rank without a journal has no entry.
use Rattle.std.proofs.Common.{Some, refl}
use Rattle.std.proofs.lemmas.Option.{slice_get_within}
use Rattle.closing.proofs.RecordedLemmas.{journal_there, no_journal, stays_alone}
use Rattle.closing.proofs.recording.take_entry.Goals as goal

pub returns-in_default : goal.returns-in_default
returns-in_default c ranks choice is =
    stays_alone ranks c.args.journals.now choice c.args.run.now c.args.walks.now.items is c.args.rank
    (λ journal there. no_journal c.args.journals.now c.args.rank c.journal_of.result journal c.journal_of.ensures c.in_default.is there)

pub returns : goal.returns
returns c ranks choice is =
    let there = journal_there c.args.journals.now c.args.rank c.journal_of.result c.in-Some.journal c.journal_of.ensures c.in-Some.is in
    c.in_ok-step_at.ensures ranks c.args.journals.now choice c.in-Some.journal.now is
    (slice_get_within c.args.journals.now c.args.rank (Some c.in-Some.journal.now) there) there refl
