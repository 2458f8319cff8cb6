-- A report is on standard output, or the fault is reported.
use Rattle.std.proofs.Common.{refl, inl, subst, sym}
use Rattle.cli.specs.ExitContract.{EndsInJudged}
use Rattle.cli.specs.JournalFolders.{known_in}
use Rattle.cli.specs.Journals.{IsFaultOfJudge}
use Rattle.cli.specs.Outputs.{Whole}
use Rattle.cli.specs.inner.Outputs.{LeavesAtFault}
use Rattle.cli.specs.declared.fault.Fault.{Fault}
use Rattle.cli.proofs.EndLemmas.{refused}
use Rattle.cli.proofs.JournalLemmas.{judged_left, may_judge}
use Rattle.cli.proofs.program.answer_judge.Goals as goal

pub returns-in-Ok : goal.returns-in-Ok
returns-in-Ok g c = (
  Whole c.in-Ok.ensures.written.0,
  (c.in-Ok.ensures.written.2, c.in-Ok.ensures.no_write_failed),
  inl (record {
    verdict = c.in-Ok.verdict;
    report = c.in-Ok.ensures.written.0;
    is_report = c.in-Ok.ensures.written.1;
    status_is = c.status_of.ensures;
    output = refl;
    errors = refl;
  }),
)

pub returns-in-Err : goal.returns-in-Err
returns-in-Err g c =
    let folder = c.args.journals.now in
    let known = known_in (g.P.Opener.told folder.opener.now) (g.P.Opener.named folder.opener.now) folder.path.now in
    let same = sym c.fault_of_judge-fault.ensures in
    let may = subst (λ (f : Fault). IsFaultOfJudge known c.args.manner.choice folder.path.now f) same (may_judge known c.args.manner.choice folder.path c.in-Err.fault c.in-Err.ensures.fault) in
    let left = subst (λ (f : Fault). LeavesAtFault g.O.Output.written g.O.Output.failures c.args.out.now c.judge_shown.new.out f) same (judged_left g.O.Output.written g.O.Output.failures c.args.out.now c.judge_shown.new.out folder.path c.in-Err.fault c.in-Err.ensures.output) in
    refused g.O.Output.written g.O.Output.failures (EndsInJudged known c.args.manner) (IsFaultOfJudge known c.args.manner.choice folder.path.now) c.args.out.now c.judge_shown.new.out c.refuse.new.out c.fault_of_judge-fault.result c.refuse.result tt tt may left c.refuse.ensures
