use Rattle.std.proofs.Common.{arith}
use Rattle.arenaqueue.proofs.CellLemmas.{long_nexts}
use Rattle.arenaqueue.proofs.CountingLemmas.{counting, counted_few, next_of, all_counted}
use Rattle.arenaqueue.proofs.cells.count.Goals as goal

pub loop-cell-init : goal.loop-cell-init
loop-cell-init g c = counting _ _ c.requires

pub overflow_add-counted : goal.overflow_add-counted
overflow_add-counted g c = omega (arith, counted_few _ _ _ _ c.loop-cell.invariant)

pub next-cell-requires : goal.next-cell-requires
next-cell-requires g c = omega (arith, (next_of _ _ _ _ c.loop-cell.invariant c.loop-cell-test.true).cell_in, long_nexts c.args.cells.now.items)

pub loop-cell-smaller : goal.loop-cell-smaller
loop-cell-smaller g c = omega (arith, (next_of _ _ _ _ c.loop-cell.invariant c.loop-cell-test.true).left)

pub loop-cell-preserved : goal.loop-cell-preserved
loop-cell-preserved g c = rw c.next-cell.ensures (next_of _ _ _ _ c.loop-cell.invariant c.loop-cell-test.true).next

pub returns : goal.returns
returns g c = all_counted _ _ _ _ c.loop-cell.invariant c.loop-cell-test.false
