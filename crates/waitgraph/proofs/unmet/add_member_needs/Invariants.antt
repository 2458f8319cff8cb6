use Rattle.std.proofs.Common.{◌≡◌, ◌++◌, map, take}
use Rattle.std.specs.List.{filter}
use Rattle.mpigroup.specs.Groups.{group_of}
use Rattle.moves.specs.Needs.{member_need}
use Rattle.waitgraph.specs.inner.Stuck.{is_unmet}
use Rattle.waitgraph.proofs.unmet.add_member_needs.Given as goal

-- what the wave still needs of each member so far
abbrev pub invariant-loop-g : goal.invariant-loop-g
invariant-loop-g l = l.unmet.items ≡ l.fn.unmet.items ++ filter (is_unmet l.stands) (map (member_need l.pairs.recording l.comm l.wave) (take l.g (group_of l.pairs.groups l.comm)))
