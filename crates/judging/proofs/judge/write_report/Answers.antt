use Rattle.std.proofs.Common.{ℕ, List, map, sym, subst}
use Rattle.std.specs.Io.KnownBytes.{Appends}
use Rattle.moves.specs.declared.reading.Reading.{Reading}
use Rattle.waitgraph.specs.Pending.{view_of}
use Rattle.waitgraph.specs.PendingGraphs.{IsGraphWith}
use Rattle.waitgraph.specs.Verdicts.{verdict_by}
use Rattle.waitgraph.specs.declared.pending.PendingCall.{PendingCall}
use Rattle.report.specs.PendingReport.{pending_report}
use Rattle.judging.specs.inner.Known.{known_in}
use Rattle.judging.specs.inner.Reported.{IsReported}
use Rattle.judging.proofs.JudgedLemmas.{judged_written}
use Rattle.judging.proofs.judge.write_report.Goals as goal

pub write_pending-requires-clause-graph : goal.write_pending-requires-clause-graph
write_pending-requires-clause-graph g c =
    let at = c.args.analyser.now in
    let sinks = c.args.known.now.sinks.items in (
      sinks,
      subst (λ (calls : List PendingCall). IsGraphWith at.reading at.groups at.recording (record { pending = map view_of calls; sinks = sinks }) c.args.graph.now)
          (sym c.as_slice.ensures.value) c.requires.graph,
    )

pub returns-in-Ok-clause-written : goal.returns-in-Ok-clause-written
returns-in-Ok-clause-written g c =
    let at = c.args.analyser.now in
    let graph = c.args.graph.now in
    let known = known_in c.args.known.now in
    let written = g.O.Output.written in
    let format = c.args.manner.format in
    subst (λ (r : Reading). (report : List ℕ) × IsReported r format at.groups at.recording known graph.at_open c.args.judged.now c.verdict-verdict.result report × Appends (written c.args.out.now) (written c.write_pending.new.out) report) c.requires.reading
    (judged_written written c.args.out.now c.write_pending.new.out format at.reading at.groups at.recording
    known graph c.args.judged.now c.verdict-verdict.result c.head-head.ensures.ranks c.requires.closed c.requires.graph
    c.verdict-verdict.ensures
    (subst (λ (calls : List PendingCall). Appends (written c.args.out.now) (written c.write_pending.new.out)
    (pending_report format at.reading at.groups at.recording (verdict_by graph.held graph.left_open) (map view_of calls) graph.at_open graph.causes c.args.judged.now))
    c.as_slice.ensures.value c.in-Ok.ensures.written))
