use Rattle.std.proofs.Common.{◌-◌, length}
use Rattle.arenalist.specs.inner.Rings.{around}
use Rattle.arenalist.proofs.SpliceLemmas.{Giving}
use Rattle.arenalist.proofs.links.give.Given as goal

abbrev pub invariant-loop-cell : goal.invariant-loop-cell
invariant-loop-cell l = Giving l.nexts.items l.initial.owners.items l.owners.items l.head l.list l.given l.cell

abbrev pub decreases-loop-cell : goal.decreases-loop-cell
decreases-loop-cell l = length (around l.nexts.items l.head) - l.given
