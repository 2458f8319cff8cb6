use Rattle.std.proofs.Common.{refl, Err}
use Rattle.closing.specs.inner.Views.{awaited_view}
use Rattle.closing.specs.inner.Walks.{probes_at}
use Rattle.closing.proofs.FollowLemmas.{awaited_stops, awaited_goes}
use Rattle.closing.proofs.walk.Walk.probes.Goals as goal

pub returns-in-Err-clause-takes : goal.returns-in-Err-clause-takes
returns-in-Err-clause-takes c = λ spot is.
    awaited_stops spot c.args.at.now (awaited_view c.args.awaited.now) (probes_at spot) c.in-Err.stop c.awaited.result
    (Err c.in-Err.stop) c.args.self.now.list is c.in-Err.is refl c.awaited.ensures

pub returns-in-Ok-clause-takes : goal.returns-in-Ok-clause-takes
returns-in-Ok-clause-takes c = λ spot is.
    awaited_goes spot c.args.at.now (awaited_view c.args.awaited.now) (probes_at spot) c.in-Ok.comm c.in-Ok.message
    c.probes_for.result c.args.self.now.list c.probes_for.new.self.list is c.in-Ok.ensures
    (λ can. c.probes_for.ensures.takes spot is can)
