-- Nothing is put.
use Rattle.closing.specs.Sinks.{GoesOn}
use Rattle.std.proofs.Common.{[]}
use Rattle.closing.specs.declared.stop.Stop.TheVariants.{Memory}
use Rattle.closing.proofs.FollowLemmas.{nothing_put, residual}
use Rattle.closing.proofs.WaitingLemmas.{memory_stops}
use Rattle.closing.proofs.walk.Walk.takes_matched.Goals as goal

pub returns-in_err-take_matched-clause-takes : goal.returns-in_err-take_matched-clause-takes
returns-in_err-take_matched-clause-takes c = λ spot.
    memory_stops spot (GoesOn []) c.from_residual.result c.args.self.now.list c.args.self.now.list (residual c.from_residual.result Memory c.from_residual.ensures.1)

pub returns-clause-takes : goal.returns-clause-takes
returns-clause-takes c = λ spot. nothing_put (tt {0}) spot c.args.self.now.list
