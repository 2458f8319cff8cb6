-- The number of calls is on standard output, or the fault is told.
use Rattle.std.proofs.Common.{refl, inl}
use Rattle.cli.specs.ExitContract.{EndsInCount}
use Rattle.cli.specs.Lints.{IsFaultOfLint}
use Rattle.cli.specs.Outputs.{Whole, lint_report}
use Rattle.cli.proofs.EndLemmas.{refused}
use Rattle.cli.proofs.program.answer_lint.Goals as goal

pub returns-in-Ok : goal.returns-in-Ok
returns-in-Ok g c = (
  Whole (lint_report c.in-Ok.field-0),
  (c.in-Ok.ensures.written, c.in-Ok.ensures.no_write_failed),
  inl (record {
    count = c.in-Ok.field-0;
    is_count = c.in-Ok.ensures.count;
    status_is = refl;
    output = refl;
    errors = refl;
  }),
)

pub returns-in-Err : goal.returns-in-Err
returns-in-Err g c =
    let told = g.P.Opener.told c.args.opener.now in
    refused g.O.Output.written g.O.Output.failures (EndsInCount (told c.args.file.now)) (IsFaultOfLint told c.args.file.now) c.args.out.now c.lint_file.new.out c.refuse.new.out c.in-Err.fault c.refuse.result tt tt c.in-Err.ensures.fault c.in-Err.ensures.output c.refuse.ensures
