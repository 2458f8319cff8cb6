-- Each call does what its method does.
use Rattle.std.proofs.Common.{ap, refl}
use Rattle.closing.specs.RankComms.{makes_comm}
use Rattle.closing.specs.inner.Makers.{IsMaking}
use Rattle.closing.specs.inner.Views.{called_view, sent_view}
use Rattle.closing.specs.inner.Walked.{is_on_none}
use Rattle.closing.specs.Recordings.{choice_in}
use Rattle.closing.specs.declared.called.Called.{Called}
use Rattle.closing.specs.declared.walk.Walk.{Walk}
use Rattle.closing.proofs.TakeLemmas.{exchanges_as, receives_as, messages_as, late_as, others_on_none, takes_as}
use Rattle.closing.proofs.WaitingLemmas.{both_ok, on_ok}
use Rattle.closing.proofs.walk.Walk.take.Goals as goal

pub returns-in-StartsSend-clause-takes : goal.returns-in-StartsSend-clause-takes
returns-in-StartsSend-clause-takes c = λ spot meets makes.
    takes_as (choice_in c.args.self.now.choice) spot c.args.it.now _ c.starts_send.result c.args.self.now.list c.starts_send.new.self.list c.in-StartsSend.is
    (c.starts_send.ensures.takes spot meets.at meets.tells)

pub returns-in-StartsSend-clause-late : goal.returns-in-StartsSend-clause-late
returns-in-StartsSend-clause-late c = on_ok _ c.starts_send.result (λ spot meets.
    late_as (choice_in c.args.self.now.choice) spot c.args.it.now _ c.args.self.now.list c.args.self.now.late.items c.starts_send.new.self.late.items c.in-StartsSend.is refl
    (ap (λ (walk : Walk). walk.late.items) c.starts_send.ensures.same))

pub returns-in-StartsSend-clause-messages : goal.returns-in-StartsSend-clause-messages
returns-in-StartsSend-clause-messages c = on_ok _ c.starts_send.result (messages_as c.args.it.now _ c.args.self.now.requests c.starts_send.new.self.requests c.in-StartsSend.is refl
    (ap (λ (walk : Walk). walk.requests) c.starts_send.ensures.same))

pub returns-in-Receives-clause-takes : goal.returns-in-Receives-clause-takes
returns-in-Receives-clause-takes c = λ spot meets makes.
    takes_as (choice_in c.args.self.now.choice) spot c.args.it.now _ c.receives.result c.args.self.now.list c.receives.new.self.list c.in-Receives.is
    (c.receives.ensures.takes spot meets.at)

pub returns-in-Receives-clause-late : goal.returns-in-Receives-clause-late
returns-in-Receives-clause-late c = on_ok _ c.receives.result (λ spot meets.
    late_as (choice_in c.args.self.now.choice) spot c.args.it.now _ c.args.self.now.list c.args.self.now.late.items c.receives.new.self.late.items c.in-Receives.is refl
    (ap (λ (walk : Walk). walk.late.items) c.receives.ensures.same))

pub returns-in-Receives-clause-messages : goal.returns-in-Receives-clause-messages
returns-in-Receives-clause-messages c = on_ok _ c.receives.result (messages_as c.args.it.now _ c.args.self.now.requests c.receives.new.self.requests c.in-Receives.is refl
    (ap (λ (walk : Walk). walk.requests) c.receives.ensures.same))

pub returns-in-StartsReceive-clause-takes : goal.returns-in-StartsReceive-clause-takes
returns-in-StartsReceive-clause-takes c = λ spot meets makes.
    takes_as (choice_in c.args.self.now.choice) spot c.args.it.now _ c.starts_receive.result c.args.self.now.list c.starts_receive.new.self.list c.in-StartsReceive.is
    (receives_as spot _ _ _ c.starts_receive.result c.args.self.now.list c.starts_receive.new.self.list (c.unless_moved-awaited.ensures spot.lines meets.tells) (c.starts_receive.ensures.takes spot meets.at meets.lines meets.tells))

pub returns-in-StartsReceive-clause-late : goal.returns-in-StartsReceive-clause-late
returns-in-StartsReceive-clause-late c = on_ok _ c.starts_receive.result (λ spot meets.
    late_as (choice_in c.args.self.now.choice) spot c.args.it.now _ c.args.self.now.list c.args.self.now.late.items c.starts_receive.new.self.late.items c.in-StartsReceive.is refl
    (ap (λ (walk : Walk). walk.late.items) c.starts_receive.ensures.same))

pub returns-in-StartsReceive-clause-messages : goal.returns-in-StartsReceive-clause-messages
returns-in-StartsReceive-clause-messages c = on_ok _ c.starts_receive.result (messages_as c.args.it.now _ c.args.self.now.requests c.starts_receive.new.self.requests c.in-StartsReceive.is refl
    (ap (λ (walk : Walk). walk.requests) c.starts_receive.ensures.same))

pub returns-in-Waits-clause-takes : goal.returns-in-Waits-clause-takes
returns-in-Waits-clause-takes c = λ spot meets makes.
    c.take_wait.ensures.takes spot (ap (λ (it : Called). is_on_none (called_view it)) c.in-Waits.is) meets

pub returns-in-Waits-clause-late : goal.returns-in-Waits-clause-late
returns-in-Waits-clause-late c = both_ok _ _ c.take_wait.result (λ late spot meets.
    late spot (ap (λ (it : Called). is_on_none (called_view it)) c.in-Waits.is) meets) c.take_wait.ensures.late
