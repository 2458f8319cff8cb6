-- The number that was free again is the least.
use Rattle.std.proofs.Common.{refl}
use Rattle.closing.proofs.FreeLemmas.{popped}
use Rattle.closing.proofs.list.List.pick_number.Goals as goal

-- src/list.rt
pub returns-in-Some-clause-takes : goal.returns-in-Some-clause-takes
returns-in-Some-clause-takes c = λ kept few. popped c.args.self.now _ c.in-Some.field-0 kept c.in-Some.ensures.permutation c.in-Some.ensures.heap_order refl
