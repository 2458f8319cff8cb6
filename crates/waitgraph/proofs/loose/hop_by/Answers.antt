use Rattle.std.proofs.Common.{refl, sym, ◌∙◌, arith}
use Rattle.waitgraph.specs.inner.Loose.{set_of, are_held}
use Rattle.waitgraph.proofs.GoingLemmas.{hop_found, hop_none}
use Rattle.waitgraph.proofs.loose.hop_by.Goals as goal

pub returns-then-goes_on : goal.returns-then-goes_on
returns-then-goes_on c =
    hop_found (set_of c.args.opened.now) (are_held (set_of c.args.opened.now) c.args.standings.now c.args.waits.now) c.args.needs.now c.loop-need.need-index _ _ c.hop.result
    (omega arith) refl c.loop-need.invariant (sym c.goes_on.ensures ∙ c.if-goes_on.true) c.hop.ensures

pub returns : goal.returns
returns c =
    hop_none (set_of c.args.opened.now) (are_held (set_of c.args.opened.now) c.args.standings.now c.args.waits.now) c.args.needs.now c.loop-need.need-index
    (omega arith) c.loop-need.invariant
