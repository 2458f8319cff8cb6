-- The report by a wait graph of a recording is one of it.
use Rattle.std.proofs.Common.{◌≡◌, ℕ, Option, List, length, sym, ap, subst}
use Rattle.std.specs.Io.KnownBytes.{Appends}
use Rattle.moves.specs.declared.reading.Reading.{Reading}
use Rattle.mpigroup.specs.Groups.{Groups, ranks_of}
use Rattle.callstore.specs.Recordings.{Lists, IsClosed}
use Rattle.waitgraph.specs.Graphs.{GraphView}
use Rattle.waitgraph.specs.Pending.{Known}
use Rattle.waitgraph.specs.PendingGraphs.{IsGraphWith}
use Rattle.waitgraph.specs.PendingVerdicts.{IsVerdictBy}
use Rattle.waitgraph.specs.Verdicts.{verdict_by}
use Rattle.waitgraph.specs.declared.verdict.Verdict.{Verdict}
use Rattle.waitgraph.proofs.PendingVerdictLemmas.{graphs_have_the_verdict}
use Rattle.report.specs.PendingReport.{pending_report}
use Rattle.report.specs.declared.judged.Judged.{Judged}
use Rattle.report.specs.declared.write.Format.{Format}
use Rattle.judging.specs.inner.Reported.{IsReported}

pub judged_written : {O : Type 0} (written : O → Option (List ℕ)) (old new : O) (format : Format) (reading : Reading) (groups : Groups) (recording : Lists) (known : Known) (graph : GraphView) (judged : Judged) (verdict : Verdict) →
    length recording ≡ ranks_of groups → IsClosed recording → IsGraphWith reading groups recording known graph → verdict ≡ verdict_by graph.held graph.left_open →
    Appends (written old) (written new) (pending_report format reading groups recording (verdict_by graph.held graph.left_open) known.pending graph.at_open graph.causes judged) →
    (report : List ℕ) × IsReported reading format groups recording known graph.at_open judged verdict report × Appends (written old) (written new) report
judged_written written old new format reading groups recording known graph judged verdict ranks closed is says appends = (
  pending_report format reading groups recording (verdict_by graph.held graph.left_open) known.pending graph.at_open graph.causes judged,
  record {
    one_a_rank = ranks;
    closed = closed;
    is_verdict = subst (λ (v : Verdict). IsVerdictBy reading groups recording known v) (sym says) (graphs_have_the_verdict reading groups recording known graph closed is);
    are_awaited = is.at_open;
    causes = graph.causes;
    are_causes = is.causes;
    is_text = ap (λ (v : Verdict). pending_report format reading groups recording v known.pending graph.at_open graph.causes judged) (sym says);
  },
  appends,
)
