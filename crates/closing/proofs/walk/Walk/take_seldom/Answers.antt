-- Each call does what its method does.
use Rattle.std.proofs.Common.{ap, refl}
use Rattle.closing.specs.RankComms.{makes_comm}
use Rattle.closing.specs.inner.Makers.{IsMaking}
use Rattle.closing.specs.inner.Views.{called_view, sent_view}
use Rattle.closing.specs.Recordings.{choice_in}
use Rattle.closing.specs.declared.called.Called.{Called}
use Rattle.closing.specs.declared.walk.Walk.{Walk}
use Rattle.closing.proofs.TakeLemmas.{exchanges_as, receives_as, messages_as, late_as, others_on_none, takes_as}
use Rattle.closing.proofs.WaitingLemmas.{both_ok, on_ok}
use Rattle.closing.proofs.walk.Walk.take_seldom.Goals as goal

pub returns-in-Sends-clause-takes : goal.returns-in-Sends-clause-takes
returns-in-Sends-clause-takes c = λ spot meets makes.
    takes_as (choice_in c.args.self.now.choice) spot c.args.it.now _ c.sends.result c.args.self.now.list c.sends.new.self.list c.in-Sends.is
    (c.sends.ensures.takes spot meets.at)

pub returns-in-Sends-clause-late : goal.returns-in-Sends-clause-late
returns-in-Sends-clause-late c = on_ok _ c.sends.result (λ spot meets.
    late_as (choice_in c.args.self.now.choice) spot c.args.it.now _ c.args.self.now.list c.args.self.now.late.items c.sends.new.self.late.items c.in-Sends.is refl
    (ap (λ (walk : Walk). walk.late.items) c.sends.ensures.same))

pub returns-in-Sends-clause-messages : goal.returns-in-Sends-clause-messages
returns-in-Sends-clause-messages c = on_ok _ c.sends.result (messages_as c.args.it.now _ c.args.self.now.requests c.sends.new.self.requests c.in-Sends.is refl
    (ap (λ (walk : Walk). walk.requests) c.sends.ensures.same))

pub returns-in-StartsSend-clause-takes : goal.returns-in-StartsSend-clause-takes
returns-in-StartsSend-clause-takes c = λ spot meets makes.
    takes_as (choice_in c.args.self.now.choice) spot c.args.it.now _ c.starts_send.result c.args.self.now.list c.starts_send.new.self.list c.in-StartsSend.is
    (c.starts_send.ensures.takes spot meets.at meets.tells)

pub returns-in-StartsSend-clause-late : goal.returns-in-StartsSend-clause-late
returns-in-StartsSend-clause-late c = on_ok _ c.starts_send.result (λ spot meets.
    late_as (choice_in c.args.self.now.choice) spot c.args.it.now _ c.args.self.now.list c.args.self.now.late.items c.starts_send.new.self.late.items c.in-StartsSend.is refl
    (ap (λ (walk : Walk). walk.late.items) c.starts_send.ensures.same))

pub returns-in-StartsSend-clause-messages : goal.returns-in-StartsSend-clause-messages
returns-in-StartsSend-clause-messages c = on_ok _ c.starts_send.result (messages_as c.args.it.now _ c.args.self.now.requests c.starts_send.new.self.requests c.in-StartsSend.is refl
    (ap (λ (walk : Walk). walk.requests) c.starts_send.ensures.same))

pub returns-in-Receives-clause-takes : goal.returns-in-Receives-clause-takes
returns-in-Receives-clause-takes c = λ spot meets makes.
    takes_as (choice_in c.args.self.now.choice) spot c.args.it.now _ c.receives.result c.args.self.now.list c.receives.new.self.list c.in-Receives.is
    (c.receives.ensures.takes spot meets.at)

pub returns-in-Receives-clause-late : goal.returns-in-Receives-clause-late
returns-in-Receives-clause-late c = on_ok _ c.receives.result (λ spot meets.
    late_as (choice_in c.args.self.now.choice) spot c.args.it.now _ c.args.self.now.list c.args.self.now.late.items c.receives.new.self.late.items c.in-Receives.is refl
    (ap (λ (walk : Walk). walk.late.items) c.receives.ensures.same))

pub returns-in-Receives-clause-messages : goal.returns-in-Receives-clause-messages
returns-in-Receives-clause-messages c = on_ok _ c.receives.result (messages_as c.args.it.now _ c.args.self.now.requests c.receives.new.self.requests c.in-Receives.is refl
    (ap (λ (walk : Walk). walk.requests) c.receives.ensures.same))

pub returns-in-StartsReceive-clause-takes : goal.returns-in-StartsReceive-clause-takes
returns-in-StartsReceive-clause-takes c = λ spot meets makes.
    takes_as (choice_in c.args.self.now.choice) spot c.args.it.now _ c.starts_receive.result c.args.self.now.list c.starts_receive.new.self.list c.in-StartsReceive.is
    (receives_as spot _ _ _ c.starts_receive.result c.args.self.now.list c.starts_receive.new.self.list (c.unless_moved-awaited.ensures spot.lines meets.tells) (c.starts_receive.ensures.takes spot meets.at meets.lines meets.tells))

pub returns-in-StartsReceive-clause-late : goal.returns-in-StartsReceive-clause-late
returns-in-StartsReceive-clause-late c = on_ok _ c.starts_receive.result (λ spot meets.
    late_as (choice_in c.args.self.now.choice) spot c.args.it.now _ c.args.self.now.list c.args.self.now.late.items c.starts_receive.new.self.late.items c.in-StartsReceive.is refl
    (ap (λ (walk : Walk). walk.late.items) c.starts_receive.ensures.same))

pub returns-in-StartsReceive-clause-messages : goal.returns-in-StartsReceive-clause-messages
returns-in-StartsReceive-clause-messages c = on_ok _ c.starts_receive.result (messages_as c.args.it.now _ c.args.self.now.requests c.starts_receive.new.self.requests c.in-StartsReceive.is refl
    (ap (λ (walk : Walk). walk.requests) c.starts_receive.ensures.same))

pub returns-in-Exchanges-clause-takes : goal.returns-in-Exchanges-clause-takes
returns-in-Exchanges-clause-takes c = λ spot meets makes.
    takes_as (choice_in c.args.self.now.choice) spot c.args.it.now _ c.exchanges.result c.args.self.now.list c.exchanges.new.self.list c.in-Exchanges.is
    (c.exchanges.ensures.takes spot meets.at)

pub returns-in-Exchanges-clause-late : goal.returns-in-Exchanges-clause-late
returns-in-Exchanges-clause-late c = on_ok _ c.exchanges.result (λ spot meets.
    late_as (choice_in c.args.self.now.choice) spot c.args.it.now _ c.args.self.now.list c.args.self.now.late.items c.exchanges.new.self.late.items c.in-Exchanges.is refl
    (ap (λ (walk : Walk). walk.late.items) c.exchanges.ensures.same))

pub returns-in-Exchanges-clause-messages : goal.returns-in-Exchanges-clause-messages
returns-in-Exchanges-clause-messages c = on_ok _ c.exchanges.result (messages_as c.args.it.now _ c.args.self.now.requests c.exchanges.new.self.requests c.in-Exchanges.is refl
    (ap (λ (walk : Walk). walk.requests) c.exchanges.ensures.same))

pub returns-in-StartsExchange-clause-takes : goal.returns-in-StartsExchange-clause-takes
returns-in-StartsExchange-clause-takes c = λ spot meets makes.
    takes_as (choice_in c.args.self.now.choice) spot c.args.it.now _ c.starts_exchange.result c.args.self.now.list c.starts_exchange.new.self.list c.in-StartsExchange.is
    (exchanges_as spot _ _ (sent_view c.in-StartsExchange.sent) _ _ c.starts_exchange.result c.args.self.now.list c.starts_exchange.new.self.list (c.unless_moved-awaited-in-StartsExchange.ensures spot.lines meets.tells) (c.starts_exchange.ensures.takes spot meets.at meets.lines meets.tells))

pub returns-in-StartsExchange-clause-late : goal.returns-in-StartsExchange-clause-late
returns-in-StartsExchange-clause-late c = on_ok _ c.starts_exchange.result (λ spot meets.
    late_as (choice_in c.args.self.now.choice) spot c.args.it.now _ c.args.self.now.list c.args.self.now.late.items c.starts_exchange.new.self.late.items c.in-StartsExchange.is refl
    (ap (λ (walk : Walk). walk.late.items) c.starts_exchange.ensures.same))

pub returns-in-StartsExchange-clause-messages : goal.returns-in-StartsExchange-clause-messages
returns-in-StartsExchange-clause-messages c = on_ok _ c.starts_exchange.result (messages_as c.args.it.now _ c.args.self.now.requests c.starts_exchange.new.self.requests c.in-StartsExchange.is refl
    (ap (λ (walk : Walk). walk.requests) c.starts_exchange.ensures.same))

pub returns-in-Probes-clause-takes : goal.returns-in-Probes-clause-takes
returns-in-Probes-clause-takes c = λ spot meets makes.
    takes_as (choice_in c.args.self.now.choice) spot c.args.it.now _ c.probes.result c.args.self.now.list c.probes.new.self.list c.in-Probes.is
    (c.probes.ensures.takes spot meets.at)

pub returns-in-Probes-clause-late : goal.returns-in-Probes-clause-late
returns-in-Probes-clause-late c = on_ok _ c.probes.result (λ spot meets.
    late_as (choice_in c.args.self.now.choice) spot c.args.it.now _ c.args.self.now.list c.args.self.now.late.items c.probes.new.self.late.items c.in-Probes.is refl
    (ap (λ (walk : Walk). walk.late.items) c.probes.ensures.same))

pub returns-in-Probes-clause-messages : goal.returns-in-Probes-clause-messages
returns-in-Probes-clause-messages c = on_ok _ c.probes.result (messages_as c.args.it.now _ c.args.self.now.requests c.probes.new.self.requests c.in-Probes.is refl
    (ap (λ (walk : Walk). walk.requests) c.probes.ensures.same))

pub returns-in-ProbesMatching-clause-takes : goal.returns-in-ProbesMatching-clause-takes
returns-in-ProbesMatching-clause-takes c = λ spot meets makes.
    takes_as (choice_in c.args.self.now.choice) spot c.args.it.now _ c.probes_matching.result c.args.self.now.list c.probes_matching.new.self.list c.in-ProbesMatching.is
    (c.probes_matching.ensures.takes spot meets.at)

pub returns-in-ProbesMatching-clause-late : goal.returns-in-ProbesMatching-clause-late
returns-in-ProbesMatching-clause-late c = on_ok _ c.probes_matching.result (λ spot meets.
    late_as (choice_in c.args.self.now.choice) spot c.args.it.now _ c.args.self.now.list c.args.self.now.late.items c.probes_matching.new.self.late.items c.in-ProbesMatching.is refl
    (ap (λ (walk : Walk). walk.late.items) c.probes_matching.ensures.same))

pub returns-in-ProbesMatching-clause-messages : goal.returns-in-ProbesMatching-clause-messages
returns-in-ProbesMatching-clause-messages c = on_ok _ c.probes_matching.result (messages_as c.args.it.now _ c.args.self.now.requests c.probes_matching.new.self.requests c.in-ProbesMatching.is refl
    (ap (λ (walk : Walk). walk.requests) c.probes_matching.ensures.same))

pub returns-in-Collects-clause-takes : goal.returns-in-Collects-clause-takes
returns-in-Collects-clause-takes c = λ spot meets makes.
    takes_as (choice_in c.args.self.now.choice) spot c.args.it.now _ c.collects.result c.args.self.now.list c.collects.new.self.list c.in-Collects.is
    (c.collects.ensures.takes spot meets.at)

pub returns-in-Collects-clause-late : goal.returns-in-Collects-clause-late
returns-in-Collects-clause-late c = on_ok _ c.collects.result (λ spot meets.
    late_as (choice_in c.args.self.now.choice) spot c.args.it.now _ c.args.self.now.list c.args.self.now.late.items c.collects.new.self.late.items c.in-Collects.is refl
    (ap (λ (walk : Walk). walk.late.items) c.collects.ensures.same))

pub returns-in-Collects-clause-messages : goal.returns-in-Collects-clause-messages
returns-in-Collects-clause-messages c = on_ok _ c.collects.result (messages_as c.args.it.now _ c.args.self.now.requests c.collects.new.self.requests c.in-Collects.is refl
    (ap (λ (walk : Walk). walk.requests) c.collects.ensures.same))

pub returns-in-StartsCollective-clause-takes : goal.returns-in-StartsCollective-clause-takes
returns-in-StartsCollective-clause-takes c = λ spot meets makes.
    takes_as (choice_in c.args.self.now.choice) spot c.args.it.now _ c.starts_collective.result c.args.self.now.list c.starts_collective.new.self.list c.in-StartsCollective.is
    (c.starts_collective.ensures.takes spot meets.at meets.tells)

pub returns-in-StartsCollective-clause-late : goal.returns-in-StartsCollective-clause-late
returns-in-StartsCollective-clause-late c = on_ok _ c.starts_collective.result (λ spot meets.
    late_as (choice_in c.args.self.now.choice) spot c.args.it.now _ c.args.self.now.list c.args.self.now.late.items c.starts_collective.new.self.late.items c.in-StartsCollective.is refl
    (ap (λ (walk : Walk). walk.late.items) c.starts_collective.ensures.same))

pub returns-in-StartsCollective-clause-messages : goal.returns-in-StartsCollective-clause-messages
returns-in-StartsCollective-clause-messages c = on_ok _ c.starts_collective.result (messages_as c.args.it.now _ c.args.self.now.requests c.starts_collective.new.self.requests c.in-StartsCollective.is refl
    (ap (λ (walk : Walk). walk.requests) c.starts_collective.ensures.same))

pub returns-in-StartsDuplicate-clause-takes : goal.returns-in-StartsDuplicate-clause-takes
returns-in-StartsDuplicate-clause-takes c = λ spot meets makes.
    takes_as (choice_in c.args.self.now.choice) spot c.args.it.now _ c.starts_duplicate.result c.args.self.now.list c.starts_duplicate.new.self.list c.in-StartsDuplicate.is
    (c.starts_duplicate.ensures.takes spot meets.at meets.tells)

pub returns-in-StartsDuplicate-clause-late : goal.returns-in-StartsDuplicate-clause-late
returns-in-StartsDuplicate-clause-late c = on_ok _ c.starts_duplicate.result (λ spot meets.
    late_as (choice_in c.args.self.now.choice) spot c.args.it.now _ c.args.self.now.list c.args.self.now.late.items c.starts_duplicate.new.self.late.items c.in-StartsDuplicate.is refl
    (ap (λ (walk : Walk). walk.late.items) c.starts_duplicate.ensures.same))

pub returns-in-StartsDuplicate-clause-messages : goal.returns-in-StartsDuplicate-clause-messages
returns-in-StartsDuplicate-clause-messages c = on_ok _ c.starts_duplicate.result (messages_as c.args.it.now _ c.args.self.now.requests c.starts_duplicate.new.self.requests c.in-StartsDuplicate.is refl
    (ap (λ (walk : Walk). walk.requests) c.starts_duplicate.ensures.same))

pub returns-in-MakesOfGroup-clause-takes : goal.returns-in-MakesOfGroup-clause-takes
returns-in-MakesOfGroup-clause-takes c = λ spot meets makes.
    takes_as (choice_in c.args.self.now.choice) spot c.args.it.now _ c.makes_of_group.result c.args.self.now.list c.makes_of_group.new.self.list c.in-MakesOfGroup.is
    (c.makes_of_group.ensures.takes spot meets.at)

pub returns-in-MakesOfGroup-clause-late : goal.returns-in-MakesOfGroup-clause-late
returns-in-MakesOfGroup-clause-late c = on_ok _ c.makes_of_group.result (λ spot meets.
    late_as (choice_in c.args.self.now.choice) spot c.args.it.now _ c.args.self.now.list c.args.self.now.late.items c.makes_of_group.new.self.late.items c.in-MakesOfGroup.is refl
    (ap (λ (walk : Walk). walk.late.items) c.makes_of_group.ensures.same))

pub returns-in-MakesOfGroup-clause-messages : goal.returns-in-MakesOfGroup-clause-messages
returns-in-MakesOfGroup-clause-messages c = on_ok _ c.makes_of_group.result (messages_as c.args.it.now _ c.args.self.now.requests c.makes_of_group.new.self.requests c.in-MakesOfGroup.is refl
    (ap (λ (walk : Walk). walk.requests) c.makes_of_group.ensures.same))

pub returns-in-Duplicates-clause-takes : goal.returns-in-Duplicates-clause-takes
returns-in-Duplicates-clause-takes c = λ spot meets makes.
    let making : IsMaking spot c.args.run.now c.args.self.now.rank c.args.at.now c.args.it.now = makes (ap (λ (it : Called). makes_comm (called_view it)) c.in-Duplicates.is) in
    takes_as (choice_in c.args.self.now.choice) spot c.args.it.now _ c.makes.result c.args.self.now.list c.makes.new.self.list c.in-Duplicates.is
    (c.makes.ensures.takes spot making.run making.placed meets.at making.meets making.called making.maker)

pub returns-in-Duplicates-clause-late : goal.returns-in-Duplicates-clause-late
returns-in-Duplicates-clause-late c = on_ok _ c.makes.result (λ spot meets.
    late_as (choice_in c.args.self.now.choice) spot c.args.it.now _ c.args.self.now.list c.args.self.now.late.items c.makes.new.self.late.items c.in-Duplicates.is refl
    (ap (λ (walk : Walk). walk.late.items) c.makes.ensures.same))

pub returns-in-Duplicates-clause-messages : goal.returns-in-Duplicates-clause-messages
returns-in-Duplicates-clause-messages c = on_ok _ c.makes.result (messages_as c.args.it.now _ c.args.self.now.requests c.makes.new.self.requests c.in-Duplicates.is refl
    (ap (λ (walk : Walk). walk.requests) c.makes.ensures.same))

pub returns-in-Splits-clause-takes : goal.returns-in-Splits-clause-takes
returns-in-Splits-clause-takes c = λ spot meets makes.
    let making : IsMaking spot c.args.run.now c.args.self.now.rank c.args.at.now c.args.it.now = makes (ap (λ (it : Called). makes_comm (called_view it)) c.in-Splits.is) in
    takes_as (choice_in c.args.self.now.choice) spot c.args.it.now _ c.makes-in-Splits.result c.args.self.now.list c.makes-in-Splits.new.self.list c.in-Splits.is
    (c.makes-in-Splits.ensures.takes spot making.run making.placed meets.at making.meets making.called making.maker)

pub returns-in-Splits-clause-late : goal.returns-in-Splits-clause-late
returns-in-Splits-clause-late c = on_ok _ c.makes-in-Splits.result (λ spot meets.
    late_as (choice_in c.args.self.now.choice) spot c.args.it.now _ c.args.self.now.list c.args.self.now.late.items c.makes-in-Splits.new.self.late.items c.in-Splits.is refl
    (ap (λ (walk : Walk). walk.late.items) c.makes-in-Splits.ensures.same))

pub returns-in-Splits-clause-messages : goal.returns-in-Splits-clause-messages
returns-in-Splits-clause-messages c = on_ok _ c.makes-in-Splits.result (messages_as c.args.it.now _ c.args.self.now.requests c.makes-in-Splits.new.self.requests c.in-Splits.is refl
    (ap (λ (walk : Walk). walk.requests) c.makes-in-Splits.ensures.same))

pub returns-in-Makes-clause-takes : goal.returns-in-Makes-clause-takes
returns-in-Makes-clause-takes c = λ spot meets makes.
    let making : IsMaking spot c.args.run.now c.args.self.now.rank c.args.at.now c.args.it.now = makes (ap (λ (it : Called). makes_comm (called_view it)) c.in-Makes.is) in
    takes_as (choice_in c.args.self.now.choice) spot c.args.it.now _ c.makes-in-Makes.result c.args.self.now.list c.makes-in-Makes.new.self.list c.in-Makes.is
    (c.makes-in-Makes.ensures.takes spot making.run making.placed meets.at making.meets making.called making.maker)

pub returns-in-Makes-clause-late : goal.returns-in-Makes-clause-late
returns-in-Makes-clause-late c = on_ok _ c.makes-in-Makes.result (λ spot meets.
    late_as (choice_in c.args.self.now.choice) spot c.args.it.now _ c.args.self.now.list c.args.self.now.late.items c.makes-in-Makes.new.self.late.items c.in-Makes.is refl
    (ap (λ (walk : Walk). walk.late.items) c.makes-in-Makes.ensures.same))

pub returns-in-Makes-clause-messages : goal.returns-in-Makes-clause-messages
returns-in-Makes-clause-messages c = on_ok _ c.makes-in-Makes.result (messages_as c.args.it.now _ c.args.self.now.requests c.makes-in-Makes.new.self.requests c.in-Makes.is refl
    (ap (λ (walk : Walk). walk.requests) c.makes-in-Makes.ensures.same))

pub returns-in_default-clause-takes : goal.returns-in_default-clause-takes
returns-in_default-clause-takes c = λ spot meets makes.
    c.take_wait.ensures.takes spot (others_on_none c.args.it.now c.in_default.not-Sends c.in_default.not-StartsSend c.in_default.not-Receives c.in_default.not-StartsReceive c.in_default.not-Exchanges c.in_default.not-StartsExchange c.in_default.not-Probes c.in_default.not-ProbesMatching c.in_default.not-Collects c.in_default.not-StartsCollective c.in_default.not-StartsDuplicate c.in_default.not-MakesOfGroup c.in_default.not-Duplicates c.in_default.not-Splits c.in_default.not-Makes) meets

pub returns-in_default-clause-late : goal.returns-in_default-clause-late
returns-in_default-clause-late c = both_ok _ _ c.take_wait.result (λ late spot meets.
    late spot (others_on_none c.args.it.now c.in_default.not-Sends c.in_default.not-StartsSend c.in_default.not-Receives c.in_default.not-StartsReceive c.in_default.not-Exchanges c.in_default.not-StartsExchange c.in_default.not-Probes c.in_default.not-ProbesMatching c.in_default.not-Collects c.in_default.not-StartsCollective c.in_default.not-StartsDuplicate c.in_default.not-MakesOfGroup c.in_default.not-Duplicates c.in_default.not-Splits c.in_default.not-Makes) meets) c.take_wait.ensures.late
