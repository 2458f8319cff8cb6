-- Each call does what its method does.
use Rattle.closing.specs.inner.Views.{called_view, sent_view}
use Rattle.closing.proofs.SunkCalls.{sunk_exchange_as, sunk_receive_as, called_as, others_alone, others_are}
use Rattle.closing.proofs.TakeLemmas.{meets_as}
use Rattle.closing.proofs.walk.Walk.meets_sinks.Goals as goal

pub returns-in-Receives-clause-takes : goal.returns-in-Receives-clause-takes
returns-in-Receives-clause-takes c = λ spot meets line back.
    called_as spot c.args.at.now.came_back c.args.it.now _ c.blocks_sink.result c.args.self.now c.blocks_sink.new.self c.in-Receives.is
    (c.blocks_sink.ensures.takes spot meets.at line)

pub returns-in-StartsReceive-clause-takes : goal.returns-in-StartsReceive-clause-takes
returns-in-StartsReceive-clause-takes c = λ spot meets line back.
    called_as spot c.args.at.now.came_back c.args.it.now _ c.starts_receive_sink.result c.args.self.now c.starts_receive_sink.new.self c.in-StartsReceive.is
    (sunk_receive_as spot c.args.at.now.came_back _ _ _ c.starts_receive_sink.result c.args.self.now c.starts_receive_sink.new.self (c.unless_moved-awaited.ensures spot.lines meets.tells) (c.starts_receive_sink.ensures.takes spot meets.at line meets.lines meets.tells))

pub returns-in-Exchanges-clause-takes : goal.returns-in-Exchanges-clause-takes
returns-in-Exchanges-clause-takes c = λ spot meets line back.
    called_as spot c.args.at.now.came_back c.args.it.now _ c.exchanges_sink.result c.args.self.now c.exchanges_sink.new.self c.in-Exchanges.is
    (c.exchanges_sink.ensures.takes spot meets.at line)

pub returns-in-StartsExchange-clause-takes : goal.returns-in-StartsExchange-clause-takes
returns-in-StartsExchange-clause-takes c = λ spot meets line back.
    called_as spot c.args.at.now.came_back c.args.it.now _ c.starts_exchange_sink.result c.args.self.now c.starts_exchange_sink.new.self c.in-StartsExchange.is
    (sunk_exchange_as spot c.args.at.now.came_back _ _ (sent_view c.in-StartsExchange.sent) _ _ c.starts_exchange_sink.result c.args.self.now c.starts_exchange_sink.new.self (c.unless_moved-awaited-in-StartsExchange.ensures spot.lines meets.tells) (c.starts_exchange_sink.ensures.takes spot meets.at line meets.lines meets.tells))

pub returns-in-Probes-clause-takes : goal.returns-in-Probes-clause-takes
returns-in-Probes-clause-takes c = λ spot meets line back.
    called_as spot c.args.at.now.came_back c.args.it.now _ c.blocks_sink-in-Probes.result c.args.self.now c.blocks_sink-in-Probes.new.self c.in-Probes.is
    (c.blocks_sink-in-Probes.ensures.takes spot meets.at line)

pub returns-in-ProbesMatching-clause-takes : goal.returns-in-ProbesMatching-clause-takes
returns-in-ProbesMatching-clause-takes c = λ spot meets line back.
    called_as spot c.args.at.now.came_back c.args.it.now _ c.blocks_sink-in-ProbesMatching.result c.args.self.now c.blocks_sink-in-ProbesMatching.new.self c.in-ProbesMatching.is
    (c.blocks_sink-in-ProbesMatching.ensures.takes spot meets.at line)

pub returns-in-ReceivesMatched-clause-takes : goal.returns-in-ReceivesMatched-clause-takes
returns-in-ReceivesMatched-clause-takes c = λ spot meets line back.
    let takes = rw c.natural.ensures at c.waits_for_sink.ensures.takes in
    let here = meets_as spot c.args.lines.now c.args.self.now.requests c.args.at.now c.args.it.now _ c.in-ReceivesMatched.is meets in
    called_as spot c.args.at.now.came_back c.args.it.now _ c.waits_for_sink.result c.args.self.now c.waits_for_sink.new.self c.in-ReceivesMatched.is
    (takes spot here.at here.tells here.named)

pub returns-in-Waits-clause-takes : goal.returns-in-Waits-clause-takes
returns-in-Waits-clause-takes c = λ spot meets line back.
    let here = meets_as spot c.args.lines.now c.args.self.now.requests c.args.at.now c.args.it.now _ c.in-Waits.is meets in
    called_as spot c.args.at.now.came_back c.args.it.now _ c.waits_for_sink-in-Waits.result c.args.self.now c.waits_for_sink-in-Waits.new.self c.in-Waits.is
    (c.waits_for_sink-in-Waits.ensures.takes spot here.at here.tells here.named)

pub returns-in-Tests-clause-takes : goal.returns-in-Tests-clause-takes
returns-in-Tests-clause-takes c = λ spot meets line back.
    let here = meets_as spot c.args.lines.now c.args.self.now.requests c.args.at.now c.args.it.now _ c.in-Tests.is meets in
    called_as spot c.args.at.now.came_back c.args.it.now _ c.tests_sink.result c.args.self.now c.tests_sink.new.self c.in-Tests.is
    (c.tests_sink.ensures.takes spot here.at here.tells here.named)

pub returns-in-WaitsAny-clause-takes : goal.returns-in-WaitsAny-clause-takes
returns-in-WaitsAny-clause-takes c = λ spot meets line back.
    let here = meets_as spot c.args.lines.now c.args.self.now.requests c.args.at.now c.args.it.now _ c.in-WaitsAny.is meets in
    called_as spot c.args.at.now.came_back c.args.it.now _ c.chooses_sink.result c.args.self.now c.chooses_sink.new.self c.in-WaitsAny.is
    (c.chooses_sink.ensures.takes spot here.at here.tells here.named here.chosen here.fields back)

pub returns-in-WaitsSome-clause-takes : goal.returns-in-WaitsSome-clause-takes
returns-in-WaitsSome-clause-takes c = λ spot meets line back.
    let here = meets_as spot c.args.lines.now c.args.self.now.requests c.args.at.now c.args.it.now _ c.in-WaitsSome.is meets in
    called_as spot c.args.at.now.came_back c.args.it.now _ c.chooses_sink-in-WaitsSome.result c.args.self.now c.chooses_sink-in-WaitsSome.new.self c.in-WaitsSome.is
    (c.chooses_sink-in-WaitsSome.ensures.takes spot here.at here.tells here.named here.chosen here.fields back)

pub returns-in_default-clause-takes : goal.returns-in_default-clause-takes
returns-in_default-clause-takes c = λ spot meets line back.
    others_alone spot c.args.at.now.came_back (called_view c.args.it.now) c.args.self.now
    (others_are spot c.args.at.now.came_back c.args.it.now c.in_default.not-Receives c.in_default.not-StartsReceive c.in_default.not-Exchanges c.in_default.not-StartsExchange
    c.in_default.not-Probes c.in_default.not-ProbesMatching c.in_default.not-ReceivesMatched c.in_default.not-Waits c.in_default.not-Tests c.in_default.not-WaitsAny c.in_default.not-WaitsSome)
