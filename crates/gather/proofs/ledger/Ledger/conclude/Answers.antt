-- Where no fault is kept, the records are closed.
use Rattle.std.proofs.Common.{sym, subst}
use Rattle.callstore.specs.Recordings.{IsClosed}
use Rattle.gather.proofs.CloseLemmas.{of_outcome}
use Rattle.gather.proofs.ledger.Ledger.conclude.Goals as goal

pub of-requires : goal.of-requires
of-requires c =
    let told = c.fault.ensures in
    subst IsClosed (sym c.into_analyser.ensures.recording) (c.requires (told.calm c.in-None.is) (told.none c.in-None.is) told.lawful)

pub returns-in-None : goal.returns-in-None
returns-in-None c =
    let told = c.fault.ensures in
    let calm = told.calm c.in-None.is in
    let none = told.none c.in-None.is in
    of_outcome c.args.self c.into_analyser.result c.of.result calm none (c.requires calm none told.lawful) c.into_analyser.ensures.reading c.into_analyser.ensures.groups c.into_analyser.ensures.recording c.of.ensures.ok c.of.ensures.fault
