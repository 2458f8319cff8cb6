-- A report is on standard output, or the fault is told.
use Rattle.std.proofs.Common.{ℕ, List, Bor, map, refl, inl}
use Rattle.cli.specs.ExitContract.{EndsInReport}
use Rattle.cli.specs.Openings.{fate_of}
use Rattle.cli.specs.Outputs.{Whole}
use Rattle.cli.specs.Texts.{IsFaultOfCheck}
use Rattle.cli.proofs.EndLemmas.{refused}
use Rattle.cli.proofs.program.answer_check.Goals as goal

pub returns-in-Ok : goal.returns-in-Ok
returns-in-Ok g c = (
  Whole c.in-Ok.ensures.written.0,
  (c.in-Ok.ensures.written.2, c.in-Ok.ensures.no_write_failed),
  inl (record {
    verdict = c.in-Ok.verdict;
    report = c.in-Ok.ensures.written.0;
    is_report = c.in-Ok.ensures.written.1;
    is_verdict = c.in-Ok.ensures.verdict;
    status_is = c.status_of.ensures;
    output = refl;
    errors = refl;
  }),
)

pub returns-in-Err : goal.returns-in-Err
returns-in-Err g c =
    let told = g.P.Opener.told c.args.opener.now in
    refused g.O.Output.written g.O.Output.failures (EndsInReport c.args.options (told c.args.head.now) (map (λ (file : Bor (List ℕ)). told file.now) c.args.files.now)) (IsFaultOfCheck (fate_of g.P.In.Input.left g.P.In.Input.failures (g.P.Opener.may_give c.args.opener.now)) told c.args.head.now c.args.files.now) c.args.out.now c.check_shown.new.out c.refuse.new.out c.in-Err.fault c.refuse.result tt tt c.in-Err.ensures.fault c.in-Err.ensures.output c.refuse.ensures
