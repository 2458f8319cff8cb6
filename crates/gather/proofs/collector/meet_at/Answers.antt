use Rattle.gather.proofs.DrainLemmas.{meets_at}
use Rattle.gather.proofs.collector.meet_at.Goals as goal

pub returns : goal.returns
returns c = meets_at c.args.takers.now.items c.from.result c.args.rank c.index_mut.result.now c.meet.new.self c.args.receipt c.from.ensures c.requires c.index_mut.ensures.value c.meet.ensures.name c.meet.ensures.received c.meet.ensures.left c.meet.ensures.whole c.meet.ensures.order
