-- What the threads put is what the close answers by.
use Rattle.std.proofs.Common.{arith}
use Rattle.driver.proofs.HeldLemmas.{none_put, feeds_count, close_receipts, closes_well, closes_refusing}
use Rattle.driver.proofs.run.outcome_in_threads.Goals as goal

pub in_threads-collector-requires-clause-one_a_source : goal.in_threads-collector-requires-clause-one_a_source
in_threads-collector-requires-clause-one_a_source g c κs =
    let count = feeds_count c.args.head c.in-Ok-open.feeds.items c.args.sources.items c.requires.one_a_rank c.in-Ok-open.ensures.ranks in
    omega (arith, count, c.in-Ok-open.feeds.ok.0, c.args.sources.ok.0)

pub in_threads-collector-requires-clause-nothing_put : goal.in_threads-collector-requires-clause-nothing_put
in_threads-collector-requires-clause-nothing_put g c κs within = none_put c.args.capacity c.in-Ok-open.feeds.items c.in-Ok-open.ensures.feeds

pub close-requires : goal.close-requires
close-requires g c =
    close_receipts g.I.Input.left (g.G.Gate.may_answer c.args.gate.now) c.args.sources.items c.in-Ok-open.feeds.items c.in_threads-collector.result.1.items c.in-Ok-open.collector c.in_threads-collector.result.0 c.receipts_of.result.items c.args.reading c.args.head
    c.in_threads-collector.ensures.fed c.in-Ok-open.ensures.rings c.in_threads-collector.ensures.same c.receipts_of.ensures

pub returns-in-Ok-open-clause-ok : goal.returns-in-Ok-open-clause-ok
returns-in-Ok-open-clause-ok g c =
    closes_well g.I.Input.left (g.G.Gate.may_answer c.args.gate.now) c.args.sources.items c.in-Ok-open.feeds.items c.in_threads-collector.result.1.items c.in-Ok-open.collector c.in_threads-collector.result.0 c.receipts_of.result.items c.args.reading c.args.head c.close.result
    c.in_threads-collector.ensures.fed c.in-Ok-open.ensures.ranks c.in-Ok-open.ensures.kept c.in_threads-collector.ensures.same c.receipts_of.ensures c.close.ensures.answer

pub returns-in-Ok-open-clause-fault : goal.returns-in-Ok-open-clause-fault
returns-in-Ok-open-clause-fault g c =
    closes_refusing g.I.Input.left (g.G.Gate.may_answer c.args.gate.now) c.args.sources.items c.in-Ok-open.feeds.items c.in_threads-collector.result.1.items c.in-Ok-open.collector c.in_threads-collector.result.0 c.receipts_of.result.items c.args.reading c.args.head c.close.result
    c.in_threads-collector.ensures.fed c.requires.one_a_rank c.in-Ok-open.ensures.ranks c.in-Ok-open.ensures.kept c.in_threads-collector.ensures.same c.receipts_of.ensures c.close.ensures.answer
