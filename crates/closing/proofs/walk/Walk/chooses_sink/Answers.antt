-- By the one that it names, or by those that were chosen of several.
use Rattle.std.proofs.Common.{◌≡◌, arith, length, Some, None}
use Rattle.closing.specs.Called.{naturals_in}
use Rattle.closing.proofs.SunkWaits.{chooses_nothing, chooses_one, chooses_some}
use Rattle.closing.proofs.WaitingLemmas.{chosen_stand}
use Rattle.closing.proofs.walk.Walk.chooses_sink.Goals as goal

pub returns-then-requests-eq1-clause-takes : goal.returns-then-requests-eq1-clause-takes
returns-then-requests-eq1-clause-takes c = λ spot is tells same chosen whole back.
    let one : length (naturals_in c.args.requests.now) ≡ 1 = omega (arith, whole, c.if-requests-eq1.true) in
    chooses_one spot c.args.at.now.came_back (naturals_in c.args.requests.now) c.waits_for_sink.result c.args.self.now c.waits_for_sink.new.self one
    (c.waits_for_sink.ensures.takes spot is tells same)

pub returns-in-Some-clause-takes : goal.returns-in-Some-clause-takes
returns-in-Some-clause-takes c = λ spot is tells same chosen whole back.
    let e : Some (naturals_in c.in-Some.chosen.now) ≡ spot.chose = rw c.in-Some.is at is.chose in
    chooses_some spot c.args.at.now.came_back (naturals_in c.args.requests.now) (naturals_in c.in-Some.chosen.now) c.waits_for_sink-in-Some.result c.args.self.now c.waits_for_sink-in-Some.new.self
    (λ one. c.if-requests-eq1.false (omega (arith, whole, one))) e back
    (c.waits_for_sink-in-Some.ensures.takes spot is tells (chosen_stand spot.lines c.args.self.now.requests spot.chose (naturals_in c.in-Some.chosen.now) e chosen))

pub returns-in-None-clause-takes : goal.returns-in-None-clause-takes
returns-in-None-clause-takes c = λ spot is tells same chosen whole back.
    let e : None ≡ spot.chose = rw c.in-None.is at is.chose in
    chooses_nothing spot c.args.at.now.came_back (naturals_in c.args.requests.now) c.chooses_none.result c.args.self.now c.chooses_none.new.self
    (λ one. c.if-requests-eq1.false (omega (arith, whole, one))) e
    (c.chooses_none.ensures.takes spot.lines spot.line _ tells same whole)
