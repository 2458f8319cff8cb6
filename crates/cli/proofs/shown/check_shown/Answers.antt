-- The files are measured as they are read, and what becomes of them is what it is of files that aren't.
use Rattle.cli.proofs.OpeningLemmas.{answers_unmeasured}
use Rattle.cli.proofs.shown.check_shown.Goals as goal

pub returns-in_default : goal.returns-in_default
returns-in_default g c =
    answers_unmeasured g.O.Output.written g.O.Output.failures g.P.In.Input.left g.P.In.Input.failures (g.P.Opener.may_give c.args.opener.now) (g.P.Opener.told c.args.opener.now) c.args.head.now c.args.files.now c.args.options c.args.out.now c.check_paths.new.out c.check_paths.result c.check_paths.ensures

pub returns-in_default-open : goal.returns-in_default-open
returns-in_default-open g c =
    answers_unmeasured g.O.Output.written g.O.Output.failures g.P.In.Input.left g.P.In.Input.failures (g.P.Opener.may_give c.args.opener.now) (g.P.Opener.told c.args.opener.now) c.args.head.now c.args.files.now c.args.options c.args.out.now c.check_paths-in_default-open.new.out c.check_paths-in_default-open.result c.check_paths-in_default-open.ensures

pub returns : goal.returns
returns g c =
    answers_unmeasured g.O.Output.written g.O.Output.failures g.P.In.Input.left g.P.In.Input.failures (g.P.Opener.may_give c.args.opener.now) (g.P.Opener.told c.args.opener.now) c.args.head.now c.args.files.now c.args.options c.args.out.now c.check_viewed-answer.new.out c.check_viewed-answer.result c.check_viewed-answer.ensures
