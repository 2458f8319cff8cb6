use Rattle.std.proofs.Common.{sym}
use Rattle.mpigroup.proofs.World.{ranks_of-world}
use Rattle.mpigroup.proofs.head.Head.ranks.Goals as goal

pub returns-clause-value : goal.returns-clause-value
returns-clause-value c = sym (ranks_of-world c.args.self.now c.self.inside.ranks _ (sym c.self.view_is))
