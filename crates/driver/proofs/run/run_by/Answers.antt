-- The answer of the report is that of the run, and a session without an outcome that of its close.
use Rattle.std.proofs.lemmas.Result.{IfErr-weaker}
use Rattle.driver.proofs.HeldLemmas.{accepts_all, accepts_feeds}
use Rattle.driver.proofs.RunLemmas.{close_output, close_refuses, report_feeds, report_refuses, report_stops, run_accepted, run_output, run_verdict, run_written}
use Rattle.driver.proofs.run.run_by.Goals as goal

pub returns-in-Ok-clause-accepted : goal.returns-in-Ok-clause-accepted
returns-in-Ok-clause-accepted g c =
    run_accepted g.I.Input.left c.args.head c.args.sources.items c.in-Ok.outcome.recording c.report.result c.requires.one_a_rank
    (accepts_all g.I.Input.left (g.G.Gate.may_answer c.args.gate.now) c.args.sources.items c.args.reading c.args.head c.in-Ok.outcome c.requires.one_a_rank c.in-Ok.ensures.ok)

pub returns-in-Ok-clause-verdict : goal.returns-in-Ok-clause-verdict
returns-in-Ok-clause-verdict g c =
    run_verdict g.I.Input.left g.O.Output.written c.args.reading _ c.args.head _ c.args.sources.items _ c.args.format _ _ c.report.result c.requires.one_a_rank c.in-Ok.ensures.ok.over.same_reading c.in-Ok.ensures.ok.over.same_groups
    (accepts_all g.I.Input.left (g.G.Gate.may_answer c.args.gate.now) c.args.sources.items c.args.reading c.args.head c.in-Ok.outcome c.requires.one_a_rank c.in-Ok.ensures.ok) c.report.ensures.written

pub returns-in-Ok-clause-refused : goal.returns-in-Ok-clause-refused
returns-in-Ok-clause-refused g c =
    IfErr-weaker c.report.result _ _ (λ fault leaves. λ traces tells. report_refuses g.O.Output.written g.O.Output.failures _ _ _ _ _ _ c.args.head traces fault leaves) c.report.ensures.fault

pub returns-in-Ok-clause-asked : goal.returns-in-Ok-clause-asked
returns-in-Ok-clause-asked g c = accepts_feeds g.I.Input.left (g.G.Gate.may_answer c.args.gate.now) c.args.sources.items c.args.reading c.args.head c.in-Ok.outcome c.report.result c.in-Ok.ensures.ok

pub returns-in-Ok-clause-fed : goal.returns-in-Ok-clause-fed
returns-in-Ok-clause-fed g c = report_feeds g.O.Output.written g.O.Output.failures _ _ _ _ _ _ g.I.Input.left (g.G.Gate.may_answer c.args.gate.now) c.args.sources.items c.args.head c.report.result c.report.ensures.fault

pub returns-in-Ok-clause-stopped : goal.returns-in-Ok-clause-stopped
returns-in-Ok-clause-stopped g c = report_stops g.O.Output.written g.O.Output.failures _ _ _ _ _ _ (g.G.Gate.may_answer c.args.gate.now) c.report.result c.report.ensures.fault

pub returns-in-Ok-clause-written : goal.returns-in-Ok-clause-written
returns-in-Ok-clause-written g c =
    run_written g.I.Input.left g.O.Output.written g.O.Output.failures c.args.reading _ c.args.head _ c.args.sources.items _ c.args.format _ _ c.report.result c.requires.one_a_rank c.in-Ok.ensures.ok.over.same_reading c.in-Ok.ensures.ok.over.same_groups
    (accepts_all g.I.Input.left (g.G.Gate.may_answer c.args.gate.now) c.args.sources.items c.args.reading c.args.head c.in-Ok.outcome c.requires.one_a_rank c.in-Ok.ensures.ok) c.report.ensures.written

pub returns-in-Ok-clause-output : goal.returns-in-Ok-clause-output
returns-in-Ok-clause-output g c =
    run_output g.I.Input.left g.O.Output.written g.O.Output.failures c.args.reading _ c.args.head _ c.args.sources.items _ c.args.format _ _ c.report.result c.requires.one_a_rank c.in-Ok.ensures.ok.over.same_reading c.in-Ok.ensures.ok.over.same_groups
    (accepts_all g.I.Input.left (g.G.Gate.may_answer c.args.gate.now) c.args.sources.items c.args.reading c.args.head c.in-Ok.outcome c.requires.one_a_rank c.in-Ok.ensures.ok) c.report.ensures.fault

pub returns-in-Err-clause-refused : goal.returns-in-Err-clause-refused
returns-in-Err-clause-refused g c traces tells =
    close_refuses g.I.Input.left (g.G.Gate.may_answer c.args.gate.now) c.args.head c.args.sources.items c.in-Err.fault c.fault_of_close.result c.fault_of_close.ensures c.requires.one_a_rank c.in-Err.ensures.fault traces tells

pub returns-in-Err-clause-output : goal.returns-in-Err-clause-output
returns-in-Err-clause-output g c =
    close_output g.I.Input.left g.O.Output.written g.O.Output.failures c.args.reading c.args.head c.args.sources.items c.args.format c.args.out.now c.in-Err.fault c.fault_of_close.result c.fault_of_close.ensures
