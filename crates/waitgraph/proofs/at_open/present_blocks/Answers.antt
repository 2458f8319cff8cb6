use Rattle.std.proofs.Common.{Some, None, sym, ap, ◌∙◌}
use Rattle.std.specs.Prelude.{option_map}
use Rattle.std.proofs.lemmas.Result.{IfOk-weaker}
use Rattle.pairing.specs.Seen.{call_seen}
use Rattle.waitgraph.proofs.MovingLemmas.{blocked_there}
use Rattle.waitgraph.proofs.at_open.present_blocks.Goals as goal

pub returns-in-Some : goal.returns-in-Some
returns-in-Some c =
    IfOk-weaker c.call_blocks.result _ _
    (λ needs is.
    is ∙ blocked_there c.args.scene.now c.args.marks.now c.args.rank c.stand_of-place.result (Some (call_seen c.in-Some.call)) c.stand_of-place.ensures (sym c.at.ensures.call ∙ ap (option_map call_seen) c.in-Some.is))
    c.call_blocks.ensures

pub returns-in-None : goal.returns-in-None
returns-in-None c =
    c.new.ensures.items
    ∙ blocked_there c.args.scene.now c.args.marks.now c.args.rank c.stand_of-place.result None c.stand_of-place.ensures (sym c.at.ensures.call ∙ ap (option_map call_seen) c.in-None.is)
