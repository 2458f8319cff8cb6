use Rattle.std.proofs.Common.{rules, not, ap, ◌∙◌}
use Rattle.std.specs.List.{filter}
use Rattle.std.proofs.lemmas.Fn.{filter_same}
use Rattle.waitgraph.specs.PendingGraphs.{is_left_out}
use Rattle.waitgraph.proofs.graph.pending.findings_by.Goals as goal

pub returns : goal.returns
returns c =
    filter_same _ (λ one. not (is_left_out c.args.pairs.now.groups c.args.pairs.now.recording c.args.sinks.now one)) _ (λ x b f k. search rules) _ _ c.retain.ensures.filtered
    ∙ ap (filter (λ one. not (is_left_out c.args.pairs.now.groups c.args.pairs.now.recording c.args.sinks.now one))) c.in_ok-findings.ensures
