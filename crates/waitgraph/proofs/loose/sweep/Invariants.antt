use Rattle.std.proofs.Common.{length}
use Rattle.waitgraph.specs.inner.Loose.{set_of, loosens}
use Rattle.waitgraph.proofs.SweepLemmas.{Swept}
use Rattle.waitgraph.proofs.loose.sweep.Given as goal

abbrev pub invariant-loop-rank : goal.invariant-loop-rank
invariant-loop-rank l = Swept (loosens (set_of l.opened) l.standings l.waits) (length l.standings) l.rank l.fn.marks.items l.marks.items l.more
