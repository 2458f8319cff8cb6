use Rattle.std.proofs.Common.{length}
use Rattle.waitgraph.specs.inner.Scenes.{frees_in}
use Rattle.waitgraph.proofs.SweepLemmas.{Swept}
use Rattle.waitgraph.proofs.free.sweep.Given as goal

abbrev pub invariant-loop-rank : goal.invariant-loop-rank
invariant-loop-rank l = Swept (frees_in l.scene) (length l.scene.world.now.pairs.recording) l.rank l.fn.marks.items l.marks.items l.more
