-- The wave of the last call is that which the rank waits for.
use Rattle.std.proofs.Common.{◌∙◌, Option, inl, inr, subst, sym}
use Rattle.closing.specs.RankComms.{Wave, comms_after}
use Rattle.closing.specs.inner.Surveyed.{journal_of_code}
use Rattle.closing.specs.inner.Table.{IsWaveOf}
use Rattle.closing.proofs.CallLemmas.{no_wave_is}
use Rattle.closing.proofs.LastWaitLemmas.{wave_none, wave_some, wait_of}
use Rattle.closing.proofs.survey.wave_of.Goals as goal

pub returns-then-last : goal.returns-then-last
returns-then-last c table rank is has =
    let journal = journal_of_code c.args.journal.now in
    no_wave_is table (wait_of rank journal) (wave_none rank journal c.args.last is (inl c.if-last.true))

pub returns-then-not-may_give : goal.returns-then-not-may_give
returns-then-not-may_give c table rank is has =
    let journal = journal_of_code c.args.journal.now in
    no_wave_is table (wait_of rank journal) (wave_none rank journal c.args.last is (inr (sym c.may_give.ensures ∙ c.if-not-may_give.true)))

pub returns : goal.returns
returns c table rank is has =
    let journal = journal_of_code c.args.journal.now in
    let e = wave_some rank journal c.args.last is c.if-last.false (sym c.may_give.ensures ∙ c.if-not-may_give.false) in
    subst (λ (o : Option Wave). IsWaveOf table c.wave.result o) (sym e) (c.wave.ensures table (comms_after rank journal.lines) has)
