use Rattle.std.proofs.Common.{map, refl}
use Rattle.cli.specs.ExitContract.{made_by}
use Rattle.cli.specs.Openings.{fate_of}
use Rattle.cli.proofs.EndLemmas.{ends_at_once, ends_in_complaint}
use Rattle.cli.proofs.program.program.Goals as goal

pub returns-in-Ok : goal.returns-in-Ok
returns-in-Ok g c =
    ends_at_once g.O.Output.written g.O.Output.failures g.E.Output.written g.E.Output.failures (fate_of g.P.In.Input.left g.P.In.Input.failures (g.P.Opener.may_give c.args.opener.now)) (g.P.Opener.told c.args.opener.now) (g.P.Opener.named c.args.opener.now) (made_by g.M.Maker.empty g.M.Maker.text c.args.maker.now c.answer.new.maker) c.args.out.now c.answer.new.out c.args.err.now c.args.err.now (map (λ word. word.now) c.args.words.now)
    c.parse.result c.in-Ok.status c.parse.ensures c.in-Ok.ensures refl

pub returns-in-Err : goal.returns-in-Err
returns-in-Err g c =
    ends_in_complaint g.O.Output.written g.O.Output.failures g.E.Output.written g.E.Output.failures (fate_of g.P.In.Input.left g.P.In.Input.failures (g.P.Opener.may_give c.args.opener.now)) (g.P.Opener.told c.args.opener.now) (g.P.Opener.named c.args.opener.now) (made_by g.M.Maker.empty g.M.Maker.text c.args.maker.now c.answer.new.maker) c.args.out.now c.answer.new.out c.args.err.now c.complain.new.err (map (λ word. word.now) c.args.words.now)
    c.parse.result c.complain.result c.in-Err.complaint c.parse.ensures c.in-Err.ensures c.complain.ensures
