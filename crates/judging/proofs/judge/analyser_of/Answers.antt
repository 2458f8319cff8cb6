-- All of the lists, or lack of memory.
use Rattle.std.proofs.Common.{◌≡◌, ◌∙◌, sym}
use Rattle.std.proofs.lemmas.Bool.{false≢true}
use Rattle.lawful.specs.Laws.{IsRead}
use Rattle.judging.specs.declared.judge.JudgeFault.TheVariants.{Memory}
use Rattle.judging.specs.inner.Turns.{IsFresh}
use Rattle.judging.proofs.BegunLemmas.{begins_with_it, all_closed}
use Rattle.judging.proofs.JudgeLemmas.{err_as}
use Rattle.judging.proofs.judge.analyser_of.Goals as goal

pub returns-in_err-take_all-clause-lawful : goal.returns-in_err-take_all-clause-lawful
returns-in_err-take_all-clause-lawful g c =
    let it = c.args.lists.now.recording in
    err_as c.from_residual-in_err-take_all.result c.in_err-take_all.field-0.0 (λ fault. IsFresh it → IsRead it.run → fault ≡ Memory) c.from_residual-in_err-take_all.ensures.1
    (λ fresh read. c.in_err-take_all.ensures.lawful
    (begins_with_it it c.in_ok-analyser.analyser c.in_ok-head.head fresh read c.in_ok-head.ensures.head c.in_ok-analyser.ensures.groups c.in_ok-analyser.ensures.recording))

pub returns-then-not-is_closed-clause-lawful : goal.returns-then-not-is_closed-clause-lawful
returns-then-not-is_closed-clause-lawful g c = λ fresh read.
    let it = c.args.lists.now.recording in
    let all = c.in_ok-take_all.ensures.all
    (begins_with_it it c.in_ok-analyser.analyser c.in_ok-head.head fresh read c.in_ok-head.ensures.head c.in_ok-analyser.ensures.groups c.in_ok-analyser.ensures.recording) in
    absurd (false≢true (sym c.if-not-is_closed.true ∙ c.is_closed.ensures.1 (all_closed it c.take_all.new.self.recording c.take_all.new.analyser all)))

pub returns-clause-all : goal.returns-clause-all
returns-clause-all g c = λ fresh read.
    let it = c.args.lists.now.recording in
    c.in_ok-take_all.ensures.all
    (begins_with_it it c.in_ok-analyser.analyser c.in_ok-head.head fresh read c.in_ok-head.ensures.head c.in_ok-analyser.ensures.groups c.in_ok-analyser.ensures.recording)

pub returns-clause-table : goal.returns-clause-table
returns-clause-table g c = λ fresh read.
    c.in_ok-take_all.ensures.table
    (begins_with_it c.args.lists.now.recording c.in_ok-analyser.analyser c.in_ok-head.head fresh read c.in_ok-head.ensures.head c.in_ok-analyser.ensures.groups c.in_ok-analyser.ensures.recording)
