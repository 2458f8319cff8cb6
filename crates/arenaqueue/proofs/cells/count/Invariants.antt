use Rattle.std.proofs.Common.{◌-◌, length}
use Rattle.arenaqueue.specs.inner.Cells.{nexts_of}
use Rattle.arenaqueue.specs.inner.Chains.{walked}
use Rattle.arenaqueue.proofs.CountingLemmas.{Counting}
use Rattle.arenaqueue.proofs.cells.count.Given as goal

abbrev pub invariant-loop-cell : goal.invariant-loop-cell
invariant-loop-cell g l = Counting (nexts_of l.cells.items) l.from l.counted l.cell

abbrev pub decreases-loop-cell : goal.decreases-loop-cell
decreases-loop-cell g l = length (walked (nexts_of l.cells.items) l.from) - l.counted
