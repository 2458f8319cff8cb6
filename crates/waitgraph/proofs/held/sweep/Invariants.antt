use Rattle.std.proofs.Common.{length}
use Rattle.waitgraph.specs.inner.Among.{frees_among}
use Rattle.waitgraph.proofs.SweepLemmas.{Swept}
use Rattle.waitgraph.proofs.held.sweep.Given as goal

abbrev pub invariant-loop-rank : goal.invariant-loop-rank
invariant-loop-rank l = Swept (frees_among l.scene l.asked) (length l.scene.world.now.pairs.recording) l.rank l.fn.marks.items l.marks.items l.more
