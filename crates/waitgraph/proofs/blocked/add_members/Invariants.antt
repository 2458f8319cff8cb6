use Rattle.std.proofs.Common.{◌≡◌, ◌++◌, map, take}
use Rattle.mpigroup.specs.Groups.{group_of}
use Rattle.moves.specs.Needs.{member_need}
use Rattle.waitgraph.specs.PendingNeeds.{blocked}
use Rattle.waitgraph.specs.inner.Scenes.{comes}
use Rattle.waitgraph.proofs.blocked.add_members.Given as goal

-- what of the wave's needs of the members so far doesn't come
abbrev pub invariant-loop-g : goal.invariant-loop-g
invariant-loop-g l = l.needs.items ≡ l.fn.needs.items ++ blocked (comes l.scene l.marks) (map (member_need l.scene.world.now.pairs.recording l.comm l.wave) (take l.g (group_of l.scene.world.now.pairs.groups l.comm)))
