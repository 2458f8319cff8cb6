use Rattle.std.proofs.Common.{[], ◌∷◌, ◌++◌, refl, Err}
use Rattle.closing.specs.inner.Views.{awaited_view, message_view}
use Rattle.closing.specs.Entry.{start_receive}
use Rattle.closing.specs.Steps.{Starts, Own}
use Rattle.closing.specs.inner.Walks.{probes_at}
use Rattle.closing.proofs.FollowLemmas.{residual, starts_own, awaited_stops, awaited_goes}
use Rattle.closing.proofs.StepsLemmas.{followed}
use Rattle.closing.proofs.EntryLemmas.{cut_by}
use Rattle.closing.proofs.walk.Walk.probes_matching.Goals as goal

pub returns-in-Err-clause-takes : goal.returns-in-Err-clause-takes
returns-in-Err-clause-takes c = λ spot is.
    awaited_stops spot c.args.at.now (awaited_view c.args.awaited.now) (λ comm it. probes_at spot comm it ++ Starts (Own c.args.own) (start_receive comm it) ∷ [])
    c.in-Err.stop c.awaited.result (Err c.in-Err.stop) c.args.self.now.list is c.in-Err.is
    refl c.awaited.ensures

pub returns-in_err-probes_for-in-Ok-clause-takes : goal.returns-in_err-probes_for-in-Ok-clause-takes
returns-in_err-probes_for-in-Ok-clause-takes c = λ spot is.
    awaited_goes spot c.args.at.now (awaited_view c.args.awaited.now) (λ comm it. probes_at spot comm it ++ Starts (Own c.args.own) (start_receive comm it) ∷ [])
    c.in-Ok.comm c.in-Ok.message c.from_residual.result c.args.self.now.list c.probes_for.new.self.list is c.in-Ok.ensures
    (λ can. cut_by spot (probes_at spot c.in-Ok.comm (message_view c.in-Ok.message))
    (Starts (Own c.args.own) (start_receive c.in-Ok.comm (message_view c.in-Ok.message)) ∷ []) c.in_err-probes_for-in-Ok.field-0.0
    c.probes_for.result c.from_residual.result c.args.self.now.list c.probes_for.new.self.list c.in_err-probes_for-in-Ok.was
    (residual c.from_residual.result c.in_err-probes_for-in-Ok.field-0.0 c.from_residual.ensures.1)
    (c.probes_for.ensures.takes spot is can))

pub returns-in_ok-probes_for-in-Ok-clause-takes : goal.returns-in_ok-probes_for-in-Ok-clause-takes
returns-in_ok-probes_for-in-Ok-clause-takes c = λ spot is.
    awaited_goes spot c.args.at.now (awaited_view c.args.awaited.now) (λ comm it. probes_at spot comm it ++ Starts (Own c.args.own) (start_receive comm it) ∷ [])
    c.in-Ok.comm c.in-Ok.message
    c.starts.result c.args.self.now.list c.starts.new.self is c.in-Ok.ensures
    (λ can. followed c.in_ok-probes_for-in-Ok.field-0 spot (probes_at spot c.in-Ok.comm (message_view c.in-Ok.message))
    (Starts (Own c.args.own) (start_receive c.in-Ok.comm (message_view c.in-Ok.message)) ∷ [])
    c.starts.result c.args.self.now.list c.probes_for.new.self.list c.starts.new.self
    (c.in_ok-probes_for-in-Ok.ensures.takes spot is can)
    (starts_own spot c.args.own c.start_of_receive.result (start_receive c.in-Ok.comm (message_view c.in-Ok.message)) c.starts.result
    c.probes_for.new.self.list c.starts.new.self (c.start_of_receive.ensures can) c.starts.ensures))
