-- One more rank is told, and at the end all are.
use Rattle.std.proofs.Common.{ℕ, List, map, get_or, ap, ◌∙◌}
use Rattle.std.proofs.lemmas.List.{get_or_default, take_all}
use Rattle.serde_json.specs.Data.{Data, array}
use Rattle.serde_json.specs.View.{items_of}
use Rattle.report.specs.JsonReport.{numeral}
use Rattle.report.proofs.JsonLemmas.{one_told}
use Rattle.report.proofs.json.cause.cycle_value.Goals as goal

pub loop-rank-preserved : goal.loop-rank-preserved
loop-rank-preserved c =
    let ranks = c.args.ranks.now in
    one_told numeral ranks c.loop-rank.rank-index (get_or ranks c.loop-rank.rank-index 0) c.loop-rank.list.items c.push.new.self.items c.from.result
    c.loop-rank.invariant c.in_ok-push.ensures.items c.from.ensures c.loop-rank-test.true (get_or_default ranks c.loop-rank.rank-index 0 (get_or ranks c.loop-rank.rank-index 0) c.loop-rank-test.true)

pub returns : goal.returns
returns c =
    c.from-2.ensures
    ∙ ap (λ (told : List Data). array (items_of told))
    (c.loop-rank.invariant
    ∙ ap (λ (ranks : List ℕ). map numeral ranks) (take_all c.loop-rank.rank-index c.args.ranks.now c.loop-rank-test.false))
