use Rattle.std.proofs.Common.{sym, refl, Err}
use Rattle.closing.specs.inner.Views.{awaited_view}
use Rattle.closing.proofs.FollowLemmas.{receives_at, awaited_stops, awaited_goes}
use Rattle.closing.proofs.walk.Walk.receives.Goals as goal

pub returns-in-Err-clause-takes : goal.returns-in-Err-clause-takes
returns-in-Err-clause-takes c = λ spot is.
    awaited_stops spot c.args.at.now (awaited_view c.args.awaited.now) (receives_at spot) c.in-Err.stop c.awaited.result
    (Err c.in-Err.stop) c.args.self.now.list is c.in-Err.is refl c.awaited.ensures

pub returns-in-Ok-clause-takes : goal.returns-in-Ok-clause-takes
returns-in-Ok-clause-takes c = λ spot is.
    awaited_goes spot c.args.at.now (awaited_view c.args.awaited.now) (receives_at spot) c.in-Ok.comm c.in-Ok.message
    c.receives_message.result c.args.self.now.list c.receives_message.new.self.list is c.in-Ok.ensures
    (λ can. c.receives_message.ensures.takes spot (sym is.is_past) can)
