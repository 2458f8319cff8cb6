use Rattle.std.proofs.Common.{◌-◌, length}
use Rattle.moves.specs.Runs.{total}
use Rattle.moves.specs.Stands.{call_count}
use Rattle.waitgraph.specs.inner.Agreed.{Moved}
use Rattle.waitgraph.proofs.disagreement.move_on.Given as goal

abbrev pub invariant-loop-stands : goal.invariant-loop-stands
invariant-loop-stands l = Moved l.world l.fn.stands.items l.stands.items l.has_moved

-- the calls that are left
abbrev pub decreases-loop-stands : goal.decreases-loop-stands
decreases-loop-stands l = call_count l.world.pairs.recording - total l.stands.items
