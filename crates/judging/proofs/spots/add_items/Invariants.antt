-- The calls of the items so far.
use Rattle.std.proofs.Common.{◌≡◌, take}
use Rattle.std.specs.List.{flat_map}
use Rattle.judging.specs.KnownCalls.{calls_of_item}
use Rattle.judging.specs.inner.Spots.{with_calls}
use Rattle.judging.proofs.spots.add_items.Given as goal

abbrev pub invariant-loop-item : goal.invariant-loop-item
invariant-loop-item l = l.spots.keys ≡ with_calls l.fn.spots.keys (flat_map (calls_of_item l.analyser.recording l.rank) (take l.item-index l.items))
