-- At the end all are told.
use Rattle.std.proofs.Common.{List, map, ap, ◌∙◌}
use Rattle.std.proofs.lemmas.List.{take_all}
use Rattle.serde_json.specs.Data.{Data, array}
use Rattle.serde_json.specs.View.{items_of}
use Rattle.report.specs.declared.judged.CallOf.{CallOf}
use Rattle.report.specs.Judged.{call_data}
use Rattle.report.proofs.json.held.calls_value.Goals as goal

pub returns : goal.returns
returns c =
    c.from.ensures
    ∙ ap (λ (told : List Data). array (items_of told))
    (c.loop-call.invariant
    ∙ ap (λ (calls : List CallOf). map call_data calls) (take_all c.loop-call.call-index c.args.calls.now c.loop-call-test.false))
