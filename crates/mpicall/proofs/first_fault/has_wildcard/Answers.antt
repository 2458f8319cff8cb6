-- One more field is left out.
use Rattle.std.proofs.Common.{◌∙◌, ap, drop}
use Rattle.std.proofs.lemmas.List.{drop-drop}
use Rattle.mpicall.proofs.first_fault.has_wildcard.Goals as goal

pub loop-preserved : goal.loop-preserved
loop-preserved c = c.skip.ensures ∙ ap (drop 1) c.loop.invariant ∙ drop-drop 1 c.loop.counter c.args.fields
