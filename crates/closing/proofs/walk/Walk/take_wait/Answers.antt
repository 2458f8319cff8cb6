-- Each call that is on no communicator does what its method does.
use Rattle.std.proofs.Common.{ap, refl}
use Rattle.closing.specs.Recordings.{choice_in}
use Rattle.closing.specs.declared.walk.Walk.{Walk}
use Rattle.closing.proofs.TakeLemmas.{messages_as, messages_nothing, late_as, late_nothing, meets_as, nothing_done, takes_as, takes_nothing, test_as, tests_as}
use Rattle.closing.proofs.WaitingLemmas.{both_ok, on_ok}
use Rattle.closing.proofs.walk.Walk.take_wait.Goals as goal

pub returns-in-ReceivesMatched-clause-takes : goal.returns-in-ReceivesMatched-clause-takes
returns-in-ReceivesMatched-clause-takes c = λ spot alone meets.
    let takes = rw c.natural.ensures at c.waits.ensures.takes in
    let here = meets_as spot c.args.lines.now c.args.self.now.requests c.args.at.now c.args.it.now _ c.in-ReceivesMatched.is meets in
    takes_as (choice_in c.args.self.now.choice) spot c.args.it.now _ c.waits.result c.args.self.now.list c.waits.new.self.list c.in-ReceivesMatched.is
    (takes spot here.at here.tells here.named)

pub returns-in-ReceivesMatched-clause-late : goal.returns-in-ReceivesMatched-clause-late
returns-in-ReceivesMatched-clause-late c = on_ok _ c.waits.result (λ spot alone meets.
    late_as (choice_in c.args.self.now.choice) spot c.args.it.now _ c.args.self.now.list c.args.self.now.late.items c.waits.new.self.late.items c.in-ReceivesMatched.is refl
    (ap (λ (walk : Walk). walk.late.items) c.waits.ensures.same))

pub returns-in-ReceivesMatched-clause-messages : goal.returns-in-ReceivesMatched-clause-messages
returns-in-ReceivesMatched-clause-messages c = on_ok _ c.waits.result (messages_as c.args.it.now _ c.args.self.now.requests c.waits.new.self.requests c.in-ReceivesMatched.is refl
    (ap (λ (walk : Walk). walk.requests) c.waits.ensures.same))

pub returns-in-Waits-clause-takes : goal.returns-in-Waits-clause-takes
returns-in-Waits-clause-takes c = λ spot alone meets.
    let here = meets_as spot c.args.lines.now c.args.self.now.requests c.args.at.now c.args.it.now _ c.in-Waits.is meets in
    takes_as (choice_in c.args.self.now.choice) spot c.args.it.now _ c.waits-in-Waits.result c.args.self.now.list c.waits-in-Waits.new.self.list c.in-Waits.is
    (c.waits-in-Waits.ensures.takes spot here.at here.tells here.named)

pub returns-in-Waits-clause-late : goal.returns-in-Waits-clause-late
returns-in-Waits-clause-late c = on_ok _ c.waits-in-Waits.result (λ spot alone meets.
    late_as (choice_in c.args.self.now.choice) spot c.args.it.now _ c.args.self.now.list c.args.self.now.late.items c.waits-in-Waits.new.self.late.items c.in-Waits.is refl
    (ap (λ (walk : Walk). walk.late.items) c.waits-in-Waits.ensures.same))

pub returns-in-Waits-clause-messages : goal.returns-in-Waits-clause-messages
returns-in-Waits-clause-messages c = on_ok _ c.waits-in-Waits.result (messages_as c.args.it.now _ c.args.self.now.requests c.waits-in-Waits.new.self.requests c.in-Waits.is refl
    (ap (λ (walk : Walk). walk.requests) c.waits-in-Waits.ensures.same))

pub returns-in-WaitsAny-clause-takes : goal.returns-in-WaitsAny-clause-takes
returns-in-WaitsAny-clause-takes c = λ spot alone meets.
    let here = meets_as spot c.args.lines.now c.args.self.now.requests c.args.at.now c.args.it.now _ c.in-WaitsAny.is meets in
    takes_as (choice_in c.args.self.now.choice) spot c.args.it.now _ c.waits_any.result c.args.self.now.list c.waits_any.new.self.list c.in-WaitsAny.is
    (c.waits_any.ensures.takes spot here.at here.tells here.named here.chosen here.fields)

pub returns-in-WaitsAny-clause-late : goal.returns-in-WaitsAny-clause-late
returns-in-WaitsAny-clause-late c = on_ok _ c.waits_any.result (λ spot alone meets.
    late_as (choice_in c.args.self.now.choice) spot c.args.it.now _ c.args.self.now.list c.args.self.now.late.items c.waits_any.new.self.late.items c.in-WaitsAny.is refl
    (ap (λ (walk : Walk). walk.late.items) c.waits_any.ensures.same))

pub returns-in-WaitsAny-clause-messages : goal.returns-in-WaitsAny-clause-messages
returns-in-WaitsAny-clause-messages c = on_ok _ c.waits_any.result (messages_as c.args.it.now _ c.args.self.now.requests c.waits_any.new.self.requests c.in-WaitsAny.is refl
    (ap (λ (walk : Walk). walk.requests) c.waits_any.ensures.same))

pub returns-in-WaitsSome-clause-takes : goal.returns-in-WaitsSome-clause-takes
returns-in-WaitsSome-clause-takes c = λ spot alone meets.
    let here = meets_as spot c.args.lines.now c.args.self.now.requests c.args.at.now c.args.it.now _ c.in-WaitsSome.is meets in
    takes_as (choice_in c.args.self.now.choice) spot c.args.it.now _ c.waits_some.result c.args.self.now.list c.waits_some.new.self.list c.in-WaitsSome.is
    (c.waits_some.ensures.takes spot here.at here.tells here.named here.chosen here.fields)

pub returns-in-WaitsSome-clause-late : goal.returns-in-WaitsSome-clause-late
returns-in-WaitsSome-clause-late c = on_ok _ c.waits_some.result (λ spot alone meets.
    late_as (choice_in c.args.self.now.choice) spot c.args.it.now _ c.args.self.now.list c.args.self.now.late.items c.waits_some.new.self.late.items c.in-WaitsSome.is refl
    (ap (λ (walk : Walk). walk.late.items) c.waits_some.ensures.same))

pub returns-in-WaitsSome-clause-messages : goal.returns-in-WaitsSome-clause-messages
returns-in-WaitsSome-clause-messages c = on_ok _ c.waits_some.result (messages_as c.args.it.now _ c.args.self.now.requests c.waits_some.new.self.requests c.in-WaitsSome.is refl
    (ap (λ (walk : Walk). walk.requests) c.waits_some.ensures.same))

pub returns-in-Cancels-clause-takes : goal.returns-in-Cancels-clause-takes
returns-in-Cancels-clause-takes c = λ spot alone meets.
    let here = meets_as spot c.args.lines.now c.args.self.now.requests c.args.at.now c.args.it.now _ c.in-Cancels.is meets in
    takes_as (choice_in c.args.self.now.choice) spot c.args.it.now _ c.cancels.result c.args.self.now.list c.cancels.new.self.list c.in-Cancels.is
    (c.cancels.ensures.takes spot here.tells)

pub returns-in-Cancels-clause-late : goal.returns-in-Cancels-clause-late
returns-in-Cancels-clause-late c = on_ok _ c.cancels.result (λ spot alone meets.
    late_as (choice_in c.args.self.now.choice) spot c.args.it.now _ c.args.self.now.list c.args.self.now.late.items c.cancels.new.self.late.items c.in-Cancels.is refl
    (ap (λ (walk : Walk). walk.late.items) c.cancels.ensures.same))

pub returns-in-Cancels-clause-messages : goal.returns-in-Cancels-clause-messages
returns-in-Cancels-clause-messages c = on_ok _ c.cancels.result (messages_as c.args.it.now _ c.args.self.now.requests c.cancels.new.self.requests c.in-Cancels.is refl
    (ap (λ (walk : Walk). walk.requests) c.cancels.ensures.same))

pub returns-in-StartsMatched-clause-takes : goal.returns-in-StartsMatched-clause-takes
returns-in-StartsMatched-clause-takes c = λ spot alone meets.
    takes_as (choice_in c.args.self.now.choice) spot c.args.it.now _ c.takes_matched.result c.args.self.now.list c.takes_matched.new.self.list c.in-StartsMatched.is
    (c.takes_matched.ensures.takes spot)

pub returns-in-StartsMatched-clause-late : goal.returns-in-StartsMatched-clause-late
returns-in-StartsMatched-clause-late c = on_ok _ c.takes_matched.result (λ spot alone meets.
    late_as (choice_in c.args.self.now.choice) spot c.args.it.now _ c.args.self.now.list c.args.self.now.late.items c.takes_matched.new.self.late.items c.in-StartsMatched.is refl
    (ap (λ (walk : Walk). walk.late.items) c.takes_matched.ensures.same))

pub returns-in-StartsMatched-clause-messages : goal.returns-in-StartsMatched-clause-messages
returns-in-StartsMatched-clause-messages c = rw c.in-StartsMatched.is c.takes_matched.ensures.messages

pub returns-in-Tests-clause-takes : goal.returns-in-Tests-clause-takes
returns-in-Tests-clause-takes c = λ spot alone meets.
    let here = meets_as spot c.args.lines.now c.args.self.now.requests c.args.at.now c.args.it.now _ c.in-Tests.is meets in
    tests_as (choice_in c.args.self.now.choice) spot c.args.it.now _ c.tests.result c.args.self.now.list c.tests.new.self.list c.in-Tests.is
    (c.tests.ensures.takes spot here.at here.tells here.named)

pub returns-in-Tests-clause-late : goal.returns-in-Tests-clause-late
returns-in-Tests-clause-late c = both_ok _ _ c.tests.result (λ late spot alone meets.
    let here = meets_as spot c.args.lines.now c.args.self.now.requests c.args.at.now c.args.it.now _ c.in-Tests.is meets in
    test_as (choice_in c.args.self.now.choice) spot c.args.it.now _ c.args.self.now.list c.args.self.now.late.items c.tests.new.self.late.items c.in-Tests.is
    (late spot here.tells here.named)) c.tests.ensures.late

pub returns-in-Tests-clause-messages : goal.returns-in-Tests-clause-messages
returns-in-Tests-clause-messages c = on_ok _ c.tests.result (messages_as c.args.it.now _ c.args.self.now.requests c.tests.new.self.requests c.in-Tests.is refl
    (ap (λ (walk : Walk). walk.requests) c.tests.ensures.same))

pub returns-in_default-clause-takes : goal.returns-in_default-clause-takes
returns-in_default-clause-takes c = λ spot alone meets.
    takes_nothing (tt {0}) (choice_in c.args.self.now.choice) spot c.args.it.now c.args.self.now.list
    (nothing_done (choice_in c.args.self.now.choice) spot c.args.it.now alone c.in_default.not-ReceivesMatched c.in_default.not-StartsMatched
    c.in_default.not-Waits c.in_default.not-Tests c.in_default.not-WaitsAny c.in_default.not-WaitsSome c.in_default.not-Cancels)

pub returns-in_default-clause-late : goal.returns-in_default-clause-late
returns-in_default-clause-late c = λ spot alone meets.
    late_nothing (choice_in c.args.self.now.choice) spot c.args.it.now c.args.self.now.list c.args.self.now.late.items
    (nothing_done (choice_in c.args.self.now.choice) spot c.args.it.now alone c.in_default.not-ReceivesMatched c.in_default.not-StartsMatched
    c.in_default.not-Waits c.in_default.not-Tests c.in_default.not-WaitsAny c.in_default.not-WaitsSome c.in_default.not-Cancels)

pub returns-in_default-clause-messages : goal.returns-in_default-clause-messages
returns-in_default-clause-messages c = messages_nothing c.args.it.now c.args.self.now.requests c.in_default.not-StartsMatched
