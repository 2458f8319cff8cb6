-- A report that brings no communicator leaves all as it is.
use Rattle.std.proofs.Common.{◌∙◌, subst, sym}
use Rattle.journals.specs.Taking.{fields_at}
use Rattle.closing.specs.RankComms.{RankComms}
use Rattle.closing.specs.inner.Holds.{HasComms}
use Rattle.closing.specs.inner.SoFar.{comms_at}
use Rattle.closing.proofs.NamedLemmas.{none_brought, none_told}
use Rattle.closing.proofs.PlacedLemmas.{comms_reported}
use Rattle.closing.proofs.TableLemmas.{grows_same}
use Rattle.closing.proofs.walk.Walk.take_report.Goals as goal

pub returns-then-brings_none-clause-comms : goal.returns-then-brings_none-clause-comms
returns-then-brings_none-clause-comms c rank word at has =
    let lines = c.args.lines.now in
    let n = c.args.line in
    let none = c.brings_none.ensures c.if-brings_none.true word at in
    subst (λ (it : RankComms). HasComms c.args.run.now.keys c.args.self.now.comms it)
    (sym (none_brought (comms_at rank lines n) word (fields_at lines n) none) ∙ comms_reported rank lines n word at) has

pub returns-then-brings_none-clause-grows : goal.returns-then-brings_none-clause-grows
returns-then-brings_none-clause-grows c rank has = grows_same c.args.run.now.keys has.table_is

pub returns-then-brings_none-clause-made : goal.returns-then-brings_none-clause-made
returns-then-brings_none-clause-made c rank word at has =
    let lines = c.args.lines.now in
    let n = c.args.line in
    none_told c.args.run.now.keys (comms_at rank lines n) word (fields_at lines n) (c.brings_none.ensures c.if-brings_none.true word at)
