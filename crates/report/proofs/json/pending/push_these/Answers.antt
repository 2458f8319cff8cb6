use Rattle.std.proofs.Common.{◌++◌, nat_lt, map, string_bytes, ap, ◌∙◌, arith}
use Rattle.serde_json.specs.Data.{Data}
use Rattle.serde_json.specs.Written.{comma_if, compact_text, has_float}
use Rattle.waitgraph.specs.Pending.{view_of}
use Rattle.report.specs.PendingReport.{data_of_rank}
use Rattle.report.proofs.ArrayLemmas.{one_written}
use Rattle.report.proofs.JsonLemmas.{no_float_rank_of}
use Rattle.report.proofs.json.pending.push_these.Goals as goal

pub push_element-requires : goal.push_element-requires
push_element-requires c =
    ap has_float c.in_ok-value.ensures ∙ no_float_rank_of c.args.run.now.analyser.now.reading c.args.run.now.analyser.now.groups c.args.run.now.analyser.now.recording (map view_of c.args.run.now.pending.now) c.args.run.now.graph.now.at_open _

pub loop-index-preserved : goal.loop-index-preserved
loop-index-preserved c =
    one_written (data_of_rank c.args.run.now.analyser.now.reading c.args.run.now.analyser.now.groups c.args.run.now.analyser.now.recording (map view_of c.args.run.now.pending.now) c.args.run.now.graph.now.at_open) c.args.ranks.now c.loop-index.index _
    (string_bytes c.args.text.now) (string_bytes c.loop-index.text) (string_bytes c.push_element.new.text)
    c.loop-index.invariant
    (c.in_ok-push_element.ensures ∙ ap (λ (value : Data). string_bytes c.loop-index.text ++ (comma_if (nat_lt 0 c.loop-index.index) ++ compact_text value)) c.in_ok-value.ensures)
    (omega (arith, c.loop-index-test.true))
