use Rattle.std.proofs.Common.{length, ◌<◌, arith}
use Rattle.std.proofs.lemmas.List.{length-map}
use Rattle.rankfeed.specs.Rings.{taker_ring}
use Rattle.gather.proofs.CollectedLemmas.{step_collects}
use Rattle.gather.proofs.PassedLemmas.{step_passed, is_one_of}
use Rattle.gather.proofs.TakerLemmas.{takes_at}
use Rattle.watches.specs.Publishers.{published_by}
use Rattle.gather.proofs.collector.Collector.step.Goals as goal

pub invariant_of-self : goal.invariant_of-self
invariant_of-self c =
    let takers = c.args.self.now.takers.items in
    let entered = c.enter_next.ensures in
    let within : c.args.rank < length c.args.self.now.takers.items = omega (arith, c.requires, length-map c.args.self.now.takers.items taker_ring) in
    let takes = takes_at takers c.from.result c.args.rank c.index_mut-taker.result.now c.enter_next.new.taker entered.found c.from.ensures within c.index_mut-taker.ensures.value entered.name entered.receives entered.is_feed entered.left entered.never_empty in
    record {
      collects = step_collects c.args.rank entered.found c.enter_next.result takers _ c.args.self.now.ledger c.enter_next.new.ledger c.requires takes entered.enters c.args.self.now.collects;
      passed = step_passed c.args.rank entered.found c.enter_next.result c.args.self.now.ledger c.enter_next.new.ledger (published_by c.args.self.now.publisher) (is_one_of takers c.args.self.now.ledger c.args.rank c.args.self.now.collects c.requires) entered.enters c.args.self.now.passed;
    }

pub returns-clause-step : goal.returns-clause-step
returns-clause-step c =
    let entered = c.enter_next.ensures in
    let within : c.args.rank < length c.args.self.now.takers.items = omega (arith, c.requires, length-map c.args.self.now.takers.items taker_ring) in
    record {
      found = entered.found;
      takes = takes_at c.args.self.now.takers.items c.from.result c.args.rank c.index_mut-taker.result.now c.enter_next.new.taker entered.found c.from.ensures within c.index_mut-taker.ensures.value entered.name entered.receives entered.is_feed entered.left entered.never_empty;
      enters = entered.enters;
    }
