-- What is written is by the wait graph of the outcome's recording, and so the report of that.
use Rattle.std.proofs.Common.{◌≡◌, ℕ, List, rules, subst}
use Rattle.std.specs.Io.KnownBytes.{Appends}
use Rattle.moves.specs.Analysed.{Analysed}
use Rattle.waitgraph.specs.Verdicts.{verdict_by}
use Rattle.report.specs.Reports.{report_of}
use Rattle.gather.specs.declared.fault.RunFault.TheVariants.{Memory, Write}
use Rattle.driver.specs.inner.Ranks.{LeavesRunReport}
use Rattle.driver.proofs.RunLemmas.{graph_reported, graph_not_reported}
use Rattle.driver.proofs.run.report.Goals as goal

pub returns-in-Ok-clause-written : goal.returns-in-Ok-clause-written
returns-in-Ok-clause-written g c =
    let it = c.args.outcome.now in
    let graph = c.graph.result.now in
    graph_reported g.O.Output.written c.args.out.now c.write_report.new.out c.args.format it.reading it.groups it.recording graph c.verdict.result c.graph.ensures c.verdict.ensures.value
    (subst (λ (a : Analysed). Appends (g.O.Output.written c.args.out.now) (g.O.Output.written c.write_report.new.out)
    (report_of c.args.format a.reading a.groups a.recording (verdict_by graph.held graph.left_open) graph.causes)) c.analyser.ensures c.in-Ok.ensures.written)

pub returns-in-Err-Memory-clause-fault : goal.returns-in-Err-Memory-clause-fault
returns-in-Err-Memory-clause-fault g c =
    let it = c.args.outcome.now in
    let leaves : c.write_report.new.out ≡ c.args.out.now = search rules in
    graph_not_reported g.O.Output.written g.O.Output.failures c.args.out.now c.write_report.new.out c.args.format it.reading it.groups it.recording c.graph.result.now Memory c.graph.ensures leaves

pub returns-in-Err-Write-clause-fault : goal.returns-in-Err-Write-clause-fault
returns-in-Err-Write-clause-fault g c =
    let it = c.args.outcome.now in
    let graph = c.graph.result.now in
    let leaves : LeavesRunReport g.O.Output.written g.O.Output.failures c.args.out.now c.write_report.new.out
    (report_of c.args.format it.reading it.groups it.recording (verdict_by graph.held graph.left_open) graph.causes) Write = search rules in
    graph_not_reported g.O.Output.written g.O.Output.failures c.args.out.now c.write_report.new.out c.args.format it.reading it.groups it.recording graph Write c.graph.ensures leaves
