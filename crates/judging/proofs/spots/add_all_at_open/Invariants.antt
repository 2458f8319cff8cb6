-- The calls of the ranks so far.
use Rattle.std.proofs.Common.{◌≡◌}
use Rattle.std.specs.Prelude.{slice_index}
use Rattle.std.specs.List.{flat_map, range_with_len}
use Rattle.moves.specs.Stands.{stands_of}
use Rattle.judging.specs.KnownCalls.{calls_at_open}
use Rattle.judging.specs.inner.Known.{known_in}
use Rattle.judging.specs.inner.Spots.{with_calls}
use Rattle.judging.proofs.spots.add_all_at_open.Given as goal

abbrev pub invariant-loop-rank : goal.invariant-loop-rank
invariant-loop-rank l = l.spots.keys ≡ with_calls l.fn.spots.keys
    (flat_map (λ rank. calls_at_open l.analyser.recording (known_in l.known) l.graph.at_open rank (slice_index (stands_of l.analyser.reading l.analyser.groups l.analyser.recording) rank)) (range_with_len 0 l.rank))
