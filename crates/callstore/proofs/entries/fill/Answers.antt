use Rattle.std.proofs.Common.{◌∙◌, List, ap, arith}
use Rattle.callstore.specs.declared.mark.Pair.{Pair}
use Rattle.callstore.specs.inner.Entries.{entries_of}
use Rattle.callstore.proofs.EntryLemmas.{filled}
use Rattle.callstore.proofs.entries.fill.Goals as goal

pub loop-pair-preserved : goal.loop-pair-preserved
loop-pair-preserved c = record {
  same = λ slots. ap (λ (pairs : List Pair). entries_of slots pairs) c.push_reserved.ensures.items ∙ filled slots c.loop-pair.pairs.items ∙ c.loop-pair.invariant.same slots;
  count = omega (arith, c.push_reserved.ensures.len, c.loop-pair.invariant.count);
  room = c.push_reserved.ensures.capacity ∙ c.loop-pair.invariant.room;
}
