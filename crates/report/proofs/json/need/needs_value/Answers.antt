-- At the end all are told.
use Rattle.std.proofs.Common.{List, map, ap, ◌∙◌}
use Rattle.std.proofs.lemmas.List.{take_all}
use Rattle.serde_json.specs.Data.{Data, array}
use Rattle.serde_json.specs.View.{items_of}
use Rattle.moves.specs.declared.need.Need.{Need}
use Rattle.report.specs.JsonReport.{need_data}
use Rattle.report.proofs.json.need.needs_value.Goals as goal

pub returns : goal.returns
returns c =
    c.from.ensures
    ∙ ap (λ (told : List Data). array (items_of told))
    (c.loop-need.invariant
    ∙ ap (λ (needs : List Need). map need_data needs) (take_all c.loop-need.need-index c.args.needs.now c.loop-need-test.false))
