use Rattle.std.proofs.Common.{sym, arith}
use Rattle.mpigroup.proofs.World.{group_rank_of-member, group_rank_of-past}
use Rattle.mpigroup.proofs.head.Head.group_rank.Goals as goal

pub returns-then-world-self : goal.returns-then-world-self
returns-then-world-self c =
    sym (group_rank_of-member c.args.self.now c.self.inside.ranks _ c.args.comm c.args.world (sym c.self.view_is) (omega arith) (omega arith))

pub returns-else-world-self : goal.returns-else-world-self
returns-else-world-self c =
    sym (group_rank_of-past c.args.self.now c.self.inside.ranks _ c.args.comm c.args.world (sym c.self.view_is) (omega arith) (omega arith))
