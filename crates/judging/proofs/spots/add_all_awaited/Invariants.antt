-- The calls of what is awaited so far.
use Rattle.std.proofs.Common.{◌≡◌, take}
use Rattle.std.specs.List.{flat_map}
use Rattle.judging.specs.KnownCalls.{calls_awaited}
use Rattle.judging.specs.inner.Spots.{with_calls}
use Rattle.judging.proofs.spots.add_all_awaited.Given as goal

abbrev pub invariant-loop-awaited : goal.invariant-loop-awaited
invariant-loop-awaited l = l.spots.keys ≡ with_calls l.fn.spots.keys (flat_map calls_awaited (take l.awaited-index l.all))
