-- What is known of the ranks so far.
use Rattle.std.proofs.Common.{◌≡◌, map}
use Rattle.std.specs.List.{flat_map, range_with_len}
use Rattle.closing.specs.Pending.{pending_of, sinks_of}
use Rattle.closing.specs.Recording.{list_of}
use Rattle.waitgraph.specs.Pending.{view_of}
use Rattle.judging.specs.KnownCalls.{call_as, sink_as}
use Rattle.judging.specs.inner.Turns.{IsDone}
use Rattle.judging.proofs.known.known_of.Given as goal

abbrev pub invariant-loop-rank : goal.invariant-loop-rank
invariant-loop-rank l = record {
  pending : IsDone l.recording → map view_of l.pending.items ≡ map (λ rank. call_as (pending_of l.recording.run l.recording.choice rank)) (range_with_len 0 l.rank);
  sinks : IsDone l.recording → l.sinks.items ≡ flat_map (λ rank. map (sink_as rank) (sinks_of (list_of l.recording.run l.recording.choice rank))) (range_with_len 0 l.rank);
}
