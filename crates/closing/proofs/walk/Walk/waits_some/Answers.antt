-- A wait for one request, or for those that were chosen.
use Rattle.std.proofs.Common.{◌≡◌, subst, refl, arith, length, Some, None}
use Rattle.closing.specs.Called.{naturals_in}
use Rattle.closing.specs.inner.Walked.{Takes}
use Rattle.closing.proofs.WaitingLemmas.{some_known, some_of_one, some_unknown, chosen_stand}
use Rattle.closing.proofs.walk.Walk.waits_some.Goals as goal

pub returns-then-requests-eq1-clause-takes : goal.returns-then-requests-eq1-clause-takes
returns-then-requests-eq1-clause-takes c = λ spot is tells same chosen whole.
    let one : length (naturals_in c.args.requests.now) ≡ 1 = omega (arith, whole, c.if-requests-eq1.true) in
    subst (λ v. Takes {A = Unit {0}} spot v c.waits.result c.args.self.now.list c.waits.new.self.list) (some_of_one spot (naturals_in c.args.requests.now) one)
    (c.waits.ensures.takes spot is tells same)

pub returns-in-Some-clause-takes : goal.returns-in-Some-clause-takes
returns-in-Some-clause-takes c = λ spot is tells same chosen whole.
    let e : Some (naturals_in c.in-Some.chosen.now) ≡ spot.chose = rw c.in-Some.is at is.chose in
    some_known spot (naturals_in c.args.requests.now) (naturals_in c.in-Some.chosen.now) c.waits-in-Some.result c.args.self.now.list c.waits-in-Some.new.self.list
    (λ one. c.if-requests-eq1.false (omega (arith, whole, one))) e
    (c.waits-in-Some.ensures.takes spot is tells (chosen_stand spot.lines c.args.self.now.requests spot.chose (naturals_in c.in-Some.chosen.now) e chosen))

pub returns-in-None-clause-takes : goal.returns-in-None-clause-takes
returns-in-None-clause-takes c = λ spot is tells same chosen whole.
    let e : None ≡ spot.chose = rw c.in-None.is at is.chose in
    some_unknown spot (naturals_in c.args.requests.now) _ c.args.self.now.list (λ one. c.if-requests-eq1.false (omega (arith, whole, one))) e refl
