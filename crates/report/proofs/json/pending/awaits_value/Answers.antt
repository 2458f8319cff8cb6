-- At the end all are told.
use Rattle.std.proofs.Common.{List, map, ap, ◌∙◌}
use Rattle.std.proofs.lemmas.List.{take_all}
use Rattle.serde_json.specs.Data.{Data, array}
use Rattle.serde_json.specs.View.{items_of}
use Rattle.waitgraph.specs.declared.awaited.Awaited.{Awaited}
use Rattle.report.specs.PendingReport.{awaited_data}
use Rattle.report.proofs.json.pending.awaits_value.Goals as goal

pub returns : goal.returns
returns c =
    c.from.ensures
    ∙ ap (λ (told : List Data). array (items_of told))
    (c.loop-one.invariant
    ∙ ap (λ (awaits : List Awaited). map awaited_data awaits) (take_all c.loop-one.one-index c.args.awaits.now c.loop-one-test.false))
