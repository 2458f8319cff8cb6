use Rattle.std.proofs.Common.{◌≡◌, ◌<◌, ◌≤◌, ℕ, Some, true}
use Rattle.mpigroup.specs.Groups.{world_rank_of}
use Rattle.moves.specs.Needs.{member_need, is_met}
use Rattle.moves.proofs.progress.next_missing.Given as goal

-- each member so far has reached its call
abbrev pub invariant-loop-g : goal.invariant-loop-g
invariant-loop-g l = (g member : ℕ) → l.from ≤ g → g < l.g → world_rank_of l.pairs.groups l.comm g ≡ Some member → is_met l.stands (member_need l.pairs.recording l.comm l.wave member) ≡ true
