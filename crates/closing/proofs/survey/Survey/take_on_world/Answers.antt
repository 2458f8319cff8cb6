-- The world is named, if one of the lines names it.
use Rattle.std.proofs.Common.{◌∙◌, ap}
use Rattle.closing.specs.inner.Surveyed.{with_name}
use Rattle.closing.proofs.OnWorldLemmas.{keeps_world}
use Rattle.closing.proofs.survey.Survey.take_on_world.Goals as goal

pub returns-clause-takes : goal.returns-clause-takes
returns-clause-takes c before names rank comms places keep is =
    keeps_world before names rank c.args.lines.now c.args.self.now c.name.new.self comms c.name.ensures.same
    (c.name.ensures.named ∙ ap (λ place. with_name place c.args.self.now.named.items) (c.world_in-key.ensures places)) keep is
