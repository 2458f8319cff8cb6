use Rattle.watches.proofs.ViewLemmas.{sees_now}
use Rattle.left_right.specs.Sides.{view}
use Rattle.watches.proofs.watch.look.Goals as goal

pub enter_as-requires : goal.enter_as-requires
enter_as-requires c = sees_now c.args.reader.place.id (view c.args.reader.place)
