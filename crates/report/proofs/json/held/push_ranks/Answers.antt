use Rattle.std.proofs.Common.{◌++◌, nat_lt, string_bytes, ap, ◌∙◌, arith}
use Rattle.serde_json.specs.Data.{Data}
use Rattle.serde_json.specs.Written.{comma_if, compact_text}
use Rattle.report.specs.JsonReport.{numeral}
use Rattle.report.proofs.ArrayLemmas.{one_written}
use Rattle.report.proofs.json.held.push_ranks.Goals as goal

pub loop-index-preserved : goal.loop-index-preserved
loop-index-preserved c =
    one_written numeral c.args.ranks.now c.loop-index.index _ (string_bytes c.args.text.now) (string_bytes c.loop-index.text) (string_bytes c.push_element.new.text)
    c.loop-index.invariant
    (c.in_ok-push_element.ensures ∙ ap (λ (value : Data). string_bytes c.loop-index.text ++ (comma_if (nat_lt 0 c.loop-index.index) ++ compact_text value)) c.in_ok-value.ensures)
    (omega (arith, c.loop-index-test.true))
