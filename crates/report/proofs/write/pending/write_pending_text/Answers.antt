-- The verdict, the ranks, the causes, the findings and the lists that ended early are printed in turn.
use Rattle.std.proofs.Common.{◌≡◌, ℕ, List, [], ◌∷◌, ◌++◌, flat_map, length, map, refl, subst, ap}
use Rattle.std.proofs.KnownBytes.{Appends-nil}
use Rattle.std.specs.List.{range_with_len}
use Rattle.moves.specs.declared.reading.Reading.{Reading}
use Rattle.mpigroup.specs.Groups.{Groups}
use Rattle.callstore.specs.Recordings.{Lists}
use Rattle.waitgraph.specs.Causes.{CauseView, view_of}
use Rattle.waitgraph.specs.Pending.{PendingView, view_of as pending_view}
use Rattle.waitgraph.specs.Verdicts.{verdict_by}
use Rattle.waitgraph.specs.declared.awaited.Awaited.{Awaited}
use Rattle.waitgraph.specs.declared.verdict.Verdict.{Verdict}
use Rattle.waitgraph.specs.declared.cause.Cause.{Cause}
use Rattle.findings.specs.declared.finding.Finding.{Finding}
use Rattle.report.specs.inner.Printing.{IsPrinted, PrintsAll}
use Rattle.report.specs.TextReport.{cause_line, finding_line, verdict_line}
use Rattle.report.specs.Judged.{left_line}
use Rattle.report.specs.PendingReport.{lines_of_rank, pending_text}
use Rattle.report.specs.declared.judged.LeftAt.{LeftAt}
use Rattle.report.proofs.write.pending.write_pending_text.Goals as goal

lines_of_views : (causes : List Cause) → flat_map (λ cause. cause_line (view_of cause)) causes ≡ flat_map cause_line (map view_of causes)
lines_of_views [] = refl
lines_of_views (cause ∷ causes) = ap (λ (bytes : List ℕ). cause_line (view_of cause) ++ bytes) (lines_of_views causes)

-- the report by what the graph says
in_parts : (reading : Reading) (groups : Groups) (recording : Lists) (verdict : Verdict) (pending : List PendingView) (at_open : List (List Awaited)) (causes : List Cause) (views : List CauseView) (findings : List Finding) (left : List LeftAt) →
    map view_of causes ≡ views →
    (((verdict_line verdict ++ flat_map (lines_of_rank reading groups recording pending at_open) (range_with_len 0 (length recording))) ++ flat_map (λ cause. cause_line (view_of cause)) causes) ++ flat_map finding_line findings) ++ flat_map left_line left
    ≡ pending_text reading groups recording verdict pending at_open views findings left
unfolding pending_text
in_parts reading groups recording verdict pending at_open causes views findings left are_causes =
    rw (lines_of_views causes, are_causes) refl

pub returns : goal.returns
returns g c =
    let run = c.args.run.now in
    let reading = run.analyser.now.reading in
    let groups = run.analyser.now.groups in
    let recording = run.analyser.now.recording in
    let pending = map pending_view run.pending.now in
    let begun = g.O.Output.written c.args.out.now in
    let count = g.O.Output.failures c.args.out.now in
    let said = verdict_by run.graph.now.held run.graph.now.left_open in
    let verdict = verdict_line said in
    let ranks = flat_map (lines_of_rank reading groups recording pending run.graph.now.at_open) (range_with_len 0 (length recording)) in
    let causes = flat_map (λ cause. cause_line (view_of cause)) c.causes.result.now in
    let findings = flat_map finding_line c.args.judged.now.findings.now in
    let left = flat_map left_line c.args.judged.now.left.now in
    let put : verdict ≡ c.push_verdict.new.page =
    rw (c.push_verdict.ensures, c.new-printer.ensures.page, c.verdict.ensures) refl in
    let first : IsPrinted c.new-printer.result.failed begun count verdict begun count c.push_verdict.new.page =
    rw c.new-printer.ensures.failed (record { given = []; went = Appends-nil begun; none_is_lost = put }, refl) in
    let last = c.write_all_left.ensures begun count (((verdict ++ ranks) ++ causes) ++ findings)
    (c.write_findings.ensures begun count ((verdict ++ ranks) ++ causes)
    (c.write_causes.ensures begun count (verdict ++ ranks) (c.write_ranks.ensures begun count verdict first))) in
    let whole = in_parts reading groups recording said pending run.graph.now.at_open _ _ c.args.judged.now.findings.now c.args.judged.now.left.now c.causes.ensures in
    subst (λ (text : List ℕ). PrintsAll begun count (g.O.Output.written c.finish.new.out) (g.O.Output.failures c.finish.new.out) text c.finish.result) whole
    (c.finish.ensures begun count ((((verdict ++ ranks) ++ causes) ++ findings) ++ left) last)
