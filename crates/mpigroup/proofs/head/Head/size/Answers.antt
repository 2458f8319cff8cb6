use Rattle.std.proofs.Common.{sym, arith}
use Rattle.mpigroup.proofs.World.{size_of-world}
use Rattle.mpigroup.proofs.head.Head.size.Goals as goal

pub returns-then-comm-eq0 : goal.returns-then-comm-eq0
returns-then-comm-eq0 c = sym (size_of-world c.args.self.now c.self.inside.ranks _ c.args.comm (sym c.self.view_is) (omega arith))
