use Rattle.std.proofs.Common.{List, map, ap, ◌∙◌, arith}
use Rattle.std.proofs.lemmas.List.{take_all}
use Rattle.serde_json.specs.Data.{Data, array}
use Rattle.serde_json.specs.View.{items_of}
use Rattle.waitgraph.specs.Causes.{view_of}
use Rattle.report.specs.JsonReport.{cause_data}
use Rattle.waitgraph.specs.declared.cause.Cause.{Cause}
use Rattle.report.proofs.JsonLemmas.{told_as_seen}
use Rattle.report.proofs.json.cause.causes_value.Goals as goal

pub returns : goal.returns
returns c =
    let causes = c.args.causes.now in
    let all = take_all c.loop-cause.cause-index causes (omega (arith, c.loop-cause-test.false)) in
    c.from.ensures
    ∙ ap (λ (told : List Data). array (items_of told))
    (c.loop-cause.invariant
    ∙ ap (λ (causes : List Cause). map (λ cause. cause_data (view_of cause)) causes) all
    ∙ told_as_seen causes)
