use Rattle.std.proofs.Common.{◌≡◌, ℕ, ◌<◌, length, flat_map}
use Rattle.std.specs.List.{range_with_len}
use Rattle.waitgraph.specs.Pending.{spares_by}
use Rattle.waitgraph.specs.inner.Buckets.{bucket}
use Rattle.waitgraph.proofs.spares.spares.Given as goal

abbrev pub invariant-loop-sender : goal.invariant-loop-sender
invariant-loop-sender l = record {
  len : length l.spares.items ≡ length l.pairs.recording;
  more : (rank : ℕ) → rank < length l.pairs.recording → bucket l.spares.items rank ≡ flat_map (spares_by l.pairs.groups l.pairs.recording rank) (range_with_len 0 l.sender);
}
