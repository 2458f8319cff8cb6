use Rattle.arenalist.proofs.LinkLemmas.{grows}
use Rattle.arenalist.proofs.links.Links.add_cells.Goals as goal

pub loop-preserved : goal.loop-preserved
loop-preserved c = grows _ _ _ _ _ _ _ _ _ _ _ _ _ _ _ _ _ c.loop.invariant c.loop-test.true c.push_reserved.ensures.items c.push_reserved-in-loop.ensures.items c.push_reserved-in-loop-2.ensures.items c.push_reserved.ensures.capacity c.push_reserved-in-loop.ensures.capacity c.push_reserved-in-loop-2.ensures.capacity
