use Rattle.std.proofs.Common.{sym}
use Rattle.mpigroup.proofs.World.{group_of-world, groups_are_sound}
use Rattle.mpigroup.proofs.head.Head.groups_are_sound.Goals as goal

pub returns-clause-world : goal.returns-clause-world
returns-clause-world c = group_of-world c.args.self.now c.self.inside.ranks c.self.inside.further.items (sym c.self.view_is)

pub returns-clause-each : goal.returns-clause-each
returns-clause-each c =
    λ comm within. groups_are_sound c.args.self.now c.self.inside.ranks c.self.inside.further.items comm (sym c.self.view_is) c.self.invariant.least c.self.invariant.groups within
