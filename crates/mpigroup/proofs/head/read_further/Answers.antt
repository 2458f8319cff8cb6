use Rattle.mpigroup.proofs.ReadingLemmas.{AreRead-push}
use Rattle.mpigroup.proofs.head.read_further.Goals as goal

pub loop-line-preserved : goal.loop-line-preserved
loop-line-preserved c =
    let so_far = rw c.in-Some.ensures at c.loop-line.invariant in
    rw c.in_ok-push.ensures.items (AreRead-push _ _ _ _ _ _ _ so_far c.in_ok-read_group.ensures.ok)
