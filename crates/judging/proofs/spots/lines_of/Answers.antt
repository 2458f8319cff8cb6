-- The lines of the set.
use Rattle.std.proofs.Common.{◌∙◌, ℕ, [], List, ◌++◌, ap}
use Rattle.std.specs.List.{flat_map}
use Rattle.waitgraph.specs.Stuck.{stuck_of}
use Rattle.judging.specs.KnownCalls.{calls_at_opens}
use Rattle.judging.specs.NamedCalls.{calls_found, calls_named, calls_of_stuck}
use Rattle.judging.specs.declared.reported.Spot.{Spot}
use Rattle.judging.specs.inner.Known.{known_in}
use Rattle.judging.specs.inner.Spots.{with_calls}
use Rattle.judging.specs.inner.Tables.{rows_of}
use Rattle.judging.proofs.SpotLemmas.{both_added, named_lines, numbered_lines}
use Rattle.judging.proofs.spots.lines_of.Goals as goal

pub returns-clause-names : goal.returns-clause-names
returns-clause-names c =
    let at = c.args.analyser.now in
    let findings = c.args.findings.now in
    let stuck = flat_map (calls_of_stuck at.reading at.groups at.recording) (stuck_of at.reading at.groups at.recording) in
    let named = calls_named at.reading at.groups at.recording findings in
    let opens = calls_at_opens at.reading at.groups at.recording (known_in c.args.known.now) c.args.graph.now.at_open in
    named_lines (λ lines. lines.items) c.lines_at.result (rows_of c.args.table.now) (named ++ opens) c.add_all_at_open.new.spots.keys
    (both_added named opens [] c.add_findings.new.spots.keys c.add_all_at_open.new.spots.keys
    (both_added stuck (flat_map (calls_found at.groups at.recording) findings) [] c.add_all_stuck.new.spots.keys c.add_findings.new.spots.keys
    (c.in_ok-add_all_stuck.ensures
    ∙ ap (λ (ranks : List ℕ). with_calls c.new-spots.result.keys (flat_map (calls_of_stuck at.reading at.groups at.recording) ranks)) (c.stuck.ensures ∙ c.requires.stuck)
    ∙ ap (λ (spots : List Spot). with_calls spots stuck) c.new-spots.ensures.empty) c.in_ok-add_findings.ensures) c.in_ok-add_all_at_open.ensures)
    c.lines_at.ensures.lines c.lines_at.ensures.sorted

pub returns-clause-numbers : goal.returns-clause-numbers
returns-clause-numbers c =
    numbered_lines (λ lines. lines.items) c.lines_at.result (rows_of c.args.table.now) c.add_all_at_open.new.spots.keys c.lines_at.ensures.lines
