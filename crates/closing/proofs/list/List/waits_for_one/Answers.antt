-- The request is active, or no line is put.
use Rattle.std.proofs.Common.{map, sym, take}
use Rattle.mpicall.specs.declared.limits.TheConstants.{MOST_REQUESTS}
use Rattle.closing.specs.Steps.{Own, numbers_of}
use Rattle.closing.proofs.ChoiceLemmas.{one_none}
use Rattle.closing.proofs.list.List.waits_for_one.Goals as goal

pub returns-in-Some : goal.returns-in-Some
returns-in-Some c = λ handed progress line stands. c.waits_for_active.ensures handed progress line stands (sym c.in-Some.ensures)

pub returns-in-None : goal.returns-in-None
returns-in-None c = λ handed progress line stands.
    one_none handed progress line c.args.self.now c.args.wanted (take MOST_REQUESTS (numbers_of progress.active (map Own c.args.ids.now))) stands (sym c.in-None.ensures)
