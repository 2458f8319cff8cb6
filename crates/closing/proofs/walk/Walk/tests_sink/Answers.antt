-- By whether it names a sink, and came back.
use Rattle.closing.specs.Called.{naturals_in}
use Rattle.closing.specs.Pending.{unknown}
use Rattle.closing.proofs.SunkWaits.{tests_ended, waits_alone, waits_judged}
use Rattle.closing.proofs.walk.Walk.tests_sink.Goals as goal

pub returns-then-not-ends_at_sink-clause-takes : goal.returns-then-not-ends_at_sink-clause-takes
returns-then-not-ends_at_sink-clause-takes c = λ spot is tells same handed progress stands kept fits.
    waits_alone spot c.args.at.now.came_back (naturals_in c.args.requests.now) c.args.at.now.is_past c.ends_at_sink.result handed progress c.args.self.now is.is_past
    (c.ends_at_sink.ensures spot.lines progress.records kept.sinks tells same) stands kept unknown c.if-not-ends_at_sink.true

pub returns-then-at-clause-takes : goal.returns-then-at-clause-takes
returns-then-at-clause-takes c = λ spot is tells same handed progress stands kept fits.
    waits_judged spot c.args.at.now.came_back (naturals_in c.args.requests.now) c.args.at.now.is_past c.ends_at_sink.result handed progress c.args.self.now is.is_past
    (c.ends_at_sink.ensures spot.lines progress.records kept.sinks tells same) stands kept unknown unknown c.if-not-ends_at_sink.false c.if-at.true

pub returns-clause-takes : goal.returns-clause-takes
returns-clause-takes c = λ spot is tells same handed progress stands kept fits.
    tests_ended spot c.args.at.now.came_back (naturals_in c.args.requests.now) c.args.at.now.is_past c.ends_at_sink.result handed progress c.args.self.now is.is_past
    (c.ends_at_sink.ensures spot.lines progress.records kept.sinks tells same) stands kept unknown c.if-not-ends_at_sink.false c.if-at.false
