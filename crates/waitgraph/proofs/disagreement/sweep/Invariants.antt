use Rattle.std.proofs.Common.{◌≡◌, ◌<◌, ℕ, false, length}
use Rattle.waitgraph.specs.inner.Agreed.{SweptOn}
use Rattle.waitgraph.proofs.disagreement.sweep.Given as goal

-- the ranks below were looked at
abbrev pub invariant-loop-rank : goal.invariant-loop-rank
invariant-loop-rank l = SweptOn l.world l.rank l.fn.stands.items l.stands.items l.more
