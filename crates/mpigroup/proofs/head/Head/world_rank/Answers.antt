use Rattle.std.proofs.Common.{sym, arith}
use Rattle.mpigroup.proofs.World.{world_rank_of-member, world_rank_of-past}
use Rattle.mpigroup.proofs.head.Head.world_rank.Goals as goal

pub returns-then-g-self : goal.returns-then-g-self
returns-then-g-self c =
    sym (world_rank_of-member c.args.self.now c.self.inside.ranks _ c.args.comm c.args.g (sym c.self.view_is) (omega arith) (omega arith))

pub returns-else-g-self : goal.returns-else-g-self
returns-else-g-self c =
    sym (world_rank_of-past c.args.self.now c.self.inside.ranks _ c.args.comm c.args.g (sym c.self.view_is) (omega arith) (omega arith))
