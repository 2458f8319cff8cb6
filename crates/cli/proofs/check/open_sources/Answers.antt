-- One more file was opened.
use Rattle.std.proofs.Common.{arith, rules}
use Rattle.std.proofs.lemmas.Grind.{common_steps}
use Rattle.cli.proofs.OpeningLemmas.{opened_more}
use Rattle.cli.proofs.check.open_sources.Goals as goal

pub loop-path-preserved : goal.loop-path-preserved
loop-path-preserved g c = record {
  fresh = grind (arith, common_steps);
  told = grind (arith, common_steps);
  opened = opened_more g.P.In.Input.left g.P.In.Input.failures (g.P.Opener.may_give c.args.opener.now) c.args.paths.now c.loop-path.path-index c.in-Some.input _ c.open_input.result c.loop-path.invariant.opened (search rules) c.open_input.ensures.answer c.in-Some.is;
}
