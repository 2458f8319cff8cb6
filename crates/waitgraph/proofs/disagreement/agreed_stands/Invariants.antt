use Rattle.std.proofs.Common.{◌-◌, length}
use Rattle.moves.specs.Runs.{IsReached, total}
use Rattle.moves.specs.Stands.{call_count}
use Rattle.waitgraph.specs.inner.Agreed.{rule_of}
use Rattle.waitgraph.proofs.disagreement.agreed_stands.Given as goal

abbrev pub invariant-loop-stands : goal.invariant-loop-stands
invariant-loop-stands l = IsReached (rule_of l.world) (length l.world.pairs.recording) l.stands.items

-- the calls that are left
abbrev pub decreases-loop-stands : goal.decreases-loop-stands
decreases-loop-stands l = call_count l.world.pairs.recording - total l.stands.items
