-- By whether it names a sink, and came back.
use Rattle.closing.specs.Called.{naturals_in}
use Rattle.closing.specs.Pending.{unknown}
use Rattle.closing.specs.inner.Sunk.{waits_pending, waits_sunk}
use Rattle.closing.specs.declared.stop.Stop.TheVariants.{Memory}
use Rattle.closing.proofs.FollowLemmas.{residual}
use Rattle.closing.proofs.SunkWaits.{ended_is, no_memory_sunk, waits_alone, waits_judged, waits_pend}
use Rattle.closing.proofs.walk.Walk.waits_for_sink.Goals as goal

pub returns-then-not-ends_at_sink-clause-takes : goal.returns-then-not-ends_at_sink-clause-takes
returns-then-not-ends_at_sink-clause-takes c = λ spot is tells same handed progress stands kept fits.
    waits_alone spot c.args.at.now.came_back (naturals_in c.args.requests.now) c.args.at.now.is_past c.ends_at_sink.result handed progress c.args.self.now is.is_past
    (c.ends_at_sink.ensures spot.lines progress.records kept.sinks tells same) stands kept (waits_pending spot.lines (naturals_in c.args.requests.now) progress) c.if-not-ends_at_sink.true

pub returns-then-at-clause-takes : goal.returns-then-at-clause-takes
returns-then-at-clause-takes c = λ spot is tells same handed progress stands kept fits.
    waits_judged spot c.args.at.now.came_back (naturals_in c.args.requests.now) c.args.at.now.is_past c.ends_at_sink.result handed progress c.args.self.now is.is_past
    (c.ends_at_sink.ensures spot.lines progress.records kept.sinks tells same) stands kept (waits_pending spot.lines (naturals_in c.args.requests.now) progress) unknown c.if-not-ends_at_sink.false c.if-at.true

pub returns-in_err-pends_for_requests-clause-takes : goal.returns-in_err-pends_for_requests-clause-takes
returns-in_err-pends_for_requests-clause-takes c = λ spot is tells same.
    no_memory_sunk spot.line c.args.at.now.came_back (waits_sunk spot c.args.at.now.came_back (naturals_in c.args.requests.now)) (waits_pending spot.lines (naturals_in c.args.requests.now)) (λ progress. unknown)
    c.from_residual.result c.args.self.now c.pends_for_requests.new.self (residual c.from_residual.result Memory c.from_residual.ensures.1)

pub returns-clause-takes : goal.returns-clause-takes
returns-clause-takes c = λ spot is tells same handed progress stands kept fits.
    waits_pend spot.lines c.args.requests.now c.args.self.now c.pends_for_requests.new.self handed progress tells same c.pends_for_requests.ensures.same stands kept
    spot.line c.args.at.now.came_back (waits_sunk spot c.args.at.now.came_back (naturals_in c.args.requests.now) progress.records) unknown
    (ended_is spot c.args.at.now.came_back (naturals_in c.args.requests.now) c.args.at.now.is_past c.ends_at_sink.result handed progress c.args.self.now is.is_past
    (c.ends_at_sink.ensures spot.lines progress.records kept.sinks tells same) stands kept c.if-not-ends_at_sink.false)
    c.if-at.false c.in_ok-pends_for_requests.ensures.pending
