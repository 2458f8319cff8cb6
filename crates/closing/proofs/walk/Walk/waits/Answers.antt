-- The waits are put, unless they stand for nothing.
use Rattle.std.proofs.Common.{◌∙◌, ap, sym, map}
use Rattle.closing.specs.Called.{naturals_in}
use Rattle.closing.specs.Entry.{ids_of, wait_for_all}
use Rattle.closing.specs.Steps.{Own}
use Rattle.closing.specs.inner.Walks.{waits_on}
use Rattle.closing.specs.declared.stop.Stop.TheVariants.{Memory}
use Rattle.closing.proofs.FollowLemmas.{residual}
use Rattle.closing.proofs.WaitingLemmas.{memory_stops, now_all, past_nothing, waits_put}
use Rattle.closing.proofs.walk.Walk.waits.Goals as goal

pub returns-then-at-clause-takes : goal.returns-then-at-clause-takes
returns-then-at-clause-takes c = λ spot is tells same.
    past_nothing (tt {0}) spot spot.is_past (wait_for_all spot.lines (naturals_in c.args.requests.now)) c.args.self.now.list (sym is.is_past ∙ c.if-at.true)

pub returns-in_err-find-clause-takes : goal.returns-in_err-find-clause-takes
returns-in_err-find-clause-takes c = λ spot is tells same.
    memory_stops spot (waits_on spot (naturals_in c.args.requests.now)) c.from_residual.result c.args.self.now.list c.args.self.now.list
    (residual c.from_residual.result Memory c.from_residual.ensures.1)

pub returns-clause-takes : goal.returns-clause-takes
returns-clause-takes c = λ spot is tells same.
    now_all spot spot.is_past (wait_for_all spot.lines (naturals_in c.args.requests.now)) c.waits_for.result c.args.self.now.list c.waits_for.new.self
    (sym is.is_past ∙ c.if-at.false)
    (waits_put spot c.as_slice.result.now (ids_of spot.lines (naturals_in c.args.requests.now)) c.waits_for.result c.args.self.now.list c.waits_for.new.self
    (ap (map Own) c.as_slice.ensures.value ∙ c.in_ok-find.ensures.told spot.lines tells same) c.waits_for.ensures)
