use Rattle.std.proofs.Common.{◌++◌, List, nat_lt, string_bytes, ap, ◌∙◌, arith}
use Rattle.serde_json.specs.Data.{Data}
use Rattle.serde_json.specs.Written.{comma_if, compact_text, has_float}
use Rattle.report.specs.Judged.{call_data}
use Rattle.report.specs.JsonReport.{each}
use Rattle.report.specs.declared.judged.CallOf.{CallOf}
use Rattle.report.proofs.ArrayLemmas.{one_written}
use Rattle.report.proofs.JsonLemmas.{no_float_calls}
use Rattle.report.proofs.json.held.push_calls.Goals as goal

pub push_element-requires : goal.push_element-requires
push_element-requires c = ap has_float c.in_ok-value.ensures ∙ no_float_calls c.as_slice.result.now

pub loop-index-preserved : goal.loop-index-preserved
loop-index-preserved c =
    one_written (λ calls. each call_data calls.items) c.args.all.now c.loop-index.index c.index-all-index.result (string_bytes c.args.text.now) (string_bytes c.loop-index.text) (string_bytes c.push_element.new.text)
    c.loop-index.invariant
    (c.in_ok-push_element.ensures
    ∙ ap (λ (value : Data). string_bytes c.loop-index.text ++ (comma_if (nat_lt 0 c.loop-index.index) ++ compact_text value))
    (c.in_ok-value.ensures ∙ ap (λ (calls : List CallOf). each call_data calls) c.as_slice.ensures.value ∙ ap (λ v. each call_data v.items) c.index-all-index.is))
    (omega (arith, c.loop-index-test.true))
