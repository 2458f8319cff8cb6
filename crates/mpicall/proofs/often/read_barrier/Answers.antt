-- The line of a barrier.
use Rattle.std.proofs.Common.{arith}
use Rattle.mpicall.proofs.OftenLemmas.{barrier_spelled}
use Rattle.mpicall.proofs.often.read_barrier.Goals as goal

pub returns : goal.returns
returns c = barrier_spelled _ _ _ c.requires (c.begin_with.ensures c.if-not-begin_with.false) c.in_ok-comm.ensures (omega arith)
