-- The verdict, the ranks, the causes and the findings are printed in turn.
use Rattle.std.proofs.Common.{◌≡◌, ℕ, List, [], ◌∷◌, ◌++◌, flat_map, map, refl, subst, ap, ◌∙◌}
use Rattle.std.proofs.KnownBytes.{Appends-nil}
use Rattle.moves.specs.declared.reading.Reading.{Reading}
use Rattle.mpigroup.specs.Groups.{Groups}
use Rattle.callstore.specs.Recordings.{Lists}
use Rattle.waitgraph.specs.Causes.{CauseView, view_of}
use Rattle.findings.specs.Findings.{findings_of}
use Rattle.waitgraph.specs.Stuck.{stuck_of}
use Rattle.waitgraph.specs.Verdicts.{verdict_by}
use Rattle.waitgraph.specs.declared.verdict.Verdict.{Verdict}
use Rattle.waitgraph.specs.declared.cause.Cause.{Cause}
use Rattle.findings.specs.declared.finding.Finding.{Finding}
use Rattle.report.specs.inner.Printing.{IsPrinted, PrintsAll}
use Rattle.report.specs.TextReport.{cause_line, finding_line, rank_lines, text_report, verdict_line}
use Rattle.report.proofs.write.text.write_text.Goals as goal

lines_of_views : (causes : List Cause) → flat_map (λ cause. cause_line (view_of cause)) causes ≡ flat_map cause_line (map view_of causes)
lines_of_views [] = refl
lines_of_views (cause ∷ causes) = ap (λ (bytes : List ℕ). cause_line (view_of cause) ++ bytes) (lines_of_views causes)

-- the report by what the graph tells
in_parts : (reading : Reading) (groups : Groups) (recording : Lists) (verdict : Verdict) (stuck : List ℕ) (causes : List Cause) (views : List CauseView) (findings : List Finding) →
    stuck ≡ stuck_of reading groups recording → map view_of causes ≡ views → findings ≡ findings_of groups recording →
    ((verdict_line verdict ++ flat_map (rank_lines reading groups recording) stuck) ++ flat_map (λ cause. cause_line (view_of cause)) causes) ++ flat_map finding_line findings
    ≡ text_report reading groups recording verdict views
unfolding text_report
in_parts reading groups recording verdict stuck causes views findings are_stuck are_causes are_findings =
    rw (are_stuck, are_findings, lines_of_views causes, are_causes) refl

pub returns : goal.returns
returns g c =
    let reading = c.args.analyser.now.reading in
    let groups = c.args.analyser.now.groups in
    let recording = c.args.analyser.now.recording in
    let begun = g.O.Output.written c.args.out.now in
    let count = g.O.Output.failures c.args.out.now in
    let verdict = verdict_line (verdict_by c.args.graph.now.held c.args.graph.now.left_open) in
    let ranks = flat_map (rank_lines reading groups recording) c.stuck.result.now in
    let causes = flat_map (λ cause. cause_line (view_of cause)) c.causes.result.now in
    let findings = flat_map finding_line c.findings.result.now in
    let put : verdict ≡ c.push_verdict.new.page =
    rw (c.push_verdict.ensures, c.new-printer.ensures.page, c.verdict.ensures) refl in
    let first : IsPrinted c.new-printer.result.failed begun count verdict begun count c.push_verdict.new.page =
    rw c.new-printer.ensures.failed (record { given = []; went = Appends-nil begun; none_is_lost = put }, refl) in
    let last = c.write_findings.ensures begun count ((verdict ++ ranks) ++ causes)
    (c.write_causes.ensures begun count (verdict ++ ranks) (c.write_ranks.ensures begun count verdict first)) in
    let whole = in_parts reading groups recording (verdict_by c.args.graph.now.held c.args.graph.now.left_open) _ _ _ _ (c.stuck.ensures ∙ c.requires.stuck) c.causes.ensures (c.findings.ensures ∙ c.requires.findings) in
    subst (λ (text : List ℕ). PrintsAll begun count (g.O.Output.written c.finish.new.out) (g.O.Output.failures c.finish.new.out) text c.finish.result) whole
    (c.finish.ensures begun count (((verdict ++ ranks) ++ causes) ++ findings) last)
