-- A number that some request had is kept as one that is free again.
use Rattle.std.proofs.Common.{refl}
use Rattle.closing.proofs.FreedLemmas.{freed}
use Rattle.closing.proofs.list.List.free_number.Goals as goal

-- src/list.rt
pub returns-clause-frees : goal.returns-clause-frees
returns-clause-frees c = λ active are has. freed active c.args.self.now _ (record { 0 = c.args.number }) are has c.in_ok-push.ensures.permutation c.in_ok-push.ensures.heap_order refl
