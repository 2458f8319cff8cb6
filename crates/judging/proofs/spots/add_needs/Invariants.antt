-- The calls of the needs so far.
use Rattle.std.proofs.Common.{◌≡◌, take}
use Rattle.std.specs.List.{flat_map}
use Rattle.judging.specs.NamedCalls.{calls_needed}
use Rattle.judging.specs.inner.Spots.{with_calls}
use Rattle.judging.proofs.spots.add_needs.Given as goal

abbrev pub invariant-loop-need : goal.invariant-loop-need
invariant-loop-need l = l.spots.keys ≡ with_calls l.fn.spots.keys (flat_map calls_needed (take l.need-index l.needs))
