use Rattle.std.proofs.Common.{arith}
use Rattle.mpigroup.specs.declared.limits.TheConstants.{DECIDING_BYTES}
use Rattle.mpigroup.proofs.FrontLemmas.{read_head-front}
use Rattle.mpigroup.proofs.head.front_decides.Goals as goal

pub returns : goal.returns
returns c = read_head-front c.args.text.now DECIDING_BYTES (omega arith)
