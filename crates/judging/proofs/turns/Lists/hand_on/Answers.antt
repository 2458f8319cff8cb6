-- What waits is handed on.
use Rattle.std.proofs.Common.{◌<◌, ◌∙◌, length, arith}
use Rattle.lawful.proofs.ReadRuns.{fit_of_read}
use Rattle.judging.specs.inner.Tables.{rows_of}
use Rattle.judging.specs.inner.Turns.{IsWithIt}
use Rattle.judging.proofs.HandLemmas.{hands, calls_lawful, calls_handed, memory_answered}
use Rattle.judging.proofs.TableLemmas.{lines_handed}
use Rattle.judging.proofs.turns.Lists.hand_on.Goals as goal

pub returns-clause-with_it : goal.returns-clause-with_it
returns-clause-with_it c = λ with_it.
    let it = c.args.self.now.recording in
    let next = c.forget_records.new.self in
    let same = c.forget_records.ensures in
    let hand = hands it next c.args.rank with_it.read same.same same.made same.left same.handed in
    calls_handed it c.args.analyser.now c.args.rank c.records-records.result.now with_it c.requires c.records-records.ensures.calls
    next c.offer_all.new.analyser c.offer_all.ensures.kept c.in_ok-offer_all.ensures.more hand

pub returns-clause-handed : goal.returns-clause-handed
returns-clause-handed c = λ with_it.
    let same = c.forget_records.ensures in
    hands c.args.self.now.recording c.forget_records.new.self c.args.rank with_it.read same.same same.made same.left same.handed

pub returns-in_err-offer_all-clause-lawful : goal.returns-in_err-offer_all-clause-lawful
returns-in_err-offer_all-clause-lawful c =
    let it = c.args.self.now.recording in
    memory_answered c.from_residual-in_err-offer_all.result c.in_err-offer_all.field-0.0 (IsWithIt it c.args.analyser.now) c.from_residual-in_err-offer_all.ensures.1
    (λ with_it. c.in_err-offer_all.ensures.lawful (calls_lawful it c.args.analyser.now c.args.rank c.records-records.result.now with_it c.requires c.records-records.ensures.calls))

pub returns-clause-table : goal.returns-clause-table
returns-clause-table c = λ with_it has.
    let it = c.args.self.now.recording in
    let next = c.forget_records.new.self in
    let rank = c.args.rank in
    let same = c.forget_records.ensures in
    let within : rank < length it.run = omega (arith, c.requires, with_it.ranks) in
    let hand = hands it next rank with_it.read same.same same.made same.left same.handed in
    record {
      wanted = c.note.ensures.wanted ∙ has.wanted;
      rows = lines_handed it next rank (rows_of c.args.self.now.table) has.rows (rows_of c.note.new.self) c.line.result _
          within (with_it.parts rank within) hand same.before c.records-records.ensures.count
          (c.line.ensures (fit_of_read it.run it.choice with_it.read) within) (c.in_ok-note.ensures.noted has.wanted);
    }
