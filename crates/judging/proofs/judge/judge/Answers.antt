-- The report of the run that the files hold.
use Rattle.std.proofs.Common.{ℕ, List, refl, sym, subst}
use Rattle.std.specs.Io.KnownBytes.{Appends}
use Rattle.judging.specs.Judging.{IsFaultOfJudge, IsJudgedReport, LeavesAt}
use Rattle.judging.specs.declared.judge.JudgeFault.{JudgeFault}
use Rattle.judging.specs.declared.judge.JudgeFault.TheVariants.{Memory}
use Rattle.judging.specs.inner.Known.{known_in}
use Rattle.judging.specs.inner.Reported.{IsLate, IsReportedOf}
use Rattle.judging.specs.inner.Tables.{rows_of}
use Rattle.judging.proofs.JudgeLemmas.{err_as, if_ok, if_err, judged_report, judge_fault, cut_fault, late_fault}
use Rattle.judging.proofs.UnwrittenLemmas.{leaves_memory, leaves_of_cut}
use Rattle.judging.proofs.judge.judge.Goals as goal

pub returns-in_err-analyser-clause-fault : goal.returns-in_err-analyser-clause-fault
returns-in_err-analyser-clause-fault g c =
    let known = g.J.Journals.known c.args.journals.now in
    let lists = c.in_ok-lists.ensures in
    err_as c.from_residual-in_err-analyser.result c.in_err-analyser.field-0.0 (IsFaultOfJudge known c.args.manner.choice) c.from_residual-in_err-analyser.ensures.1
    (judge_fault known c.args.manner c.in_ok-lists.lists.recording lists.run lists.fresh c.in_err-analyser.field-0.0 c.in_err-analyser.ensures.fault c.in_err-analyser.ensures.lawful)

pub returns-in_err-check_cut-clause-fault : goal.returns-in_err-check_cut-clause-fault
returns-in_err-check_cut-clause-fault g c =
    let known = g.J.Journals.known c.args.journals.now in
    let lists = c.in_ok-lists.ensures in
    err_as c.from_residual-in_err-check_cut.result c.in_err-check_cut.field-0.0 (IsFaultOfJudge known c.args.manner.choice) c.from_residual-in_err-check_cut.ensures.1
    (cut_fault known c.args.manner c.in_ok-lists.lists.recording lists.run lists.fresh c.analyser_of.new.lists.recording c.in_ok-analyser.analyser lists.choice c.in_ok-analyser.ensures.all
    (rows_of c.analyser_of.new.lists.table) (λ fresh read cut. c.in_ok-analyser.ensures.table fresh read (lists.window cut)) c.in_err-check_cut.field-0.0 c.in_err-check_cut.ensures.fault)

pub returns-in_err-check_cut-clause-output : goal.returns-in_err-check_cut-clause-output
returns-in_err-check_cut-clause-output g c =
    let written = g.O.Output.written in
    let failures = g.O.Output.failures in
    let out = c.args.out.now in
    err_as c.from_residual-in_err-check_cut.result c.in_err-check_cut.field-0.0 (LeavesAt written failures out out) c.from_residual-in_err-check_cut.ensures.1
    (leaves_of_cut written failures out c.analyser_of.new.lists.recording (rows_of c.analyser_of.new.lists.table) c.in_ok-analyser.analyser c.in_err-check_cut.field-0.0 c.in_err-check_cut.ensures.fault)

pub returns-in_err-known-clause-fault : goal.returns-in_err-known-clause-fault
returns-in_err-known-clause-fault g c =
    err_as c.from_residual-in_err-known.result Memory (IsFaultOfJudge (g.J.Journals.known c.args.journals.now) c.args.manner.choice) c.from_residual-in_err-known.ensures.1 tt

pub returns-in_err-known-clause-output : goal.returns-in_err-known-clause-output
returns-in_err-known-clause-output g c =
    err_as c.from_residual-in_err-known.result Memory (LeavesAt g.O.Output.written g.O.Output.failures c.args.out.now c.args.out.now) c.from_residual-in_err-known.ensures.1 refl

pub returns-in_err-graph-clause-fault : goal.returns-in_err-graph-clause-fault
returns-in_err-graph-clause-fault g c =
    let known = g.J.Journals.known c.args.journals.now in
    err_as c.from_residual-in_err-graph.result c.in_err-graph.field-0.0 (IsFaultOfJudge known c.args.manner.choice) c.from_residual-in_err-graph.ensures.1
    (subst (λ (fault : JudgeFault). IsFaultOfJudge known c.args.manner.choice fault) (sym c.in_err-graph.ensures.fault) tt)

pub returns-in_err-graph-clause-output : goal.returns-in_err-graph-clause-output
returns-in_err-graph-clause-output g c =
    let written = g.O.Output.written in
    let failures = g.O.Output.failures in
    let out = c.args.out.now in
    err_as c.from_residual-in_err-graph.result c.in_err-graph.field-0.0 (LeavesAt written failures out out) c.from_residual-in_err-graph.ensures.1
    (leaves_memory written failures out c.in_err-graph.field-0.0 c.in_err-graph.ensures.fault)

pub returns-clause-written : goal.returns-clause-written
returns-clause-written g c =
    let known = g.J.Journals.known c.args.journals.now in
    let written = g.O.Output.written in
    let lists = c.in_ok-lists.ensures in
    let it = c.analyser_of.new.lists.recording in
    let rows = rows_of c.analyser_of.new.lists.table in
    let analysed = c.in_ok-analyser.analyser in
    let pending = known_in c.in_ok-known.known in
    if_ok c.report.result
    (λ verdict. (report : List ℕ) × IsReportedOf it rows analysed pending c.args.manner verdict report × Appends (written c.args.out.now) (written c.report.new.out) report)
    (λ verdict. (report : List ℕ) × IsJudgedReport known c.args.manner verdict report × Appends (written c.args.out.now) (written c.report.new.out) report)
    (λ verdict of. (
      of.0,
      judged_report known c.args.manner c.in_ok-lists.lists.recording lists.run lists.fresh it analysed pending lists.choice c.in_ok-analyser.ensures.all c.in_ok-known.ensures
          rows (λ fresh read json. c.in_ok-analyser.ensures.table fresh read (lists.table json)) (λ fresh read cut. c.in_ok-analyser.ensures.table fresh read (lists.window cut)) c.in_ok-check_cut.ensures.clean verdict of.0 of.1,
      of.2,
    ))
    c.report.ensures.written

pub returns-clause-fault : goal.returns-clause-fault
returns-clause-fault g c =
    let known = g.J.Journals.known c.args.journals.now in
    if_err c.report.result IsLate (IsFaultOfJudge known c.args.manner.choice) (late_fault known c.args.manner.choice) c.report.ensures.fault
