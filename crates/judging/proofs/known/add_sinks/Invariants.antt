-- The sinks so far.
use Rattle.std.proofs.Common.{◌≡◌, ◌++◌, map, take}
use Rattle.judging.specs.KnownCalls.{sink_as}
use Rattle.judging.proofs.known.add_sinks.Given as goal

abbrev pub invariant-loop-sink : goal.invariant-loop-sink
invariant-loop-sink l = l.all.items ≡ l.fn.all.items ++ map (sink_as l.rank) (take l.sink-index l.sinks)
