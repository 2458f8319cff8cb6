use Rattle.std.proofs.Common.{◌≡◌, ℕ, ◌<◌, ◌++◌, length}
use Rattle.std.specs.List.{filter_map, range_with_len}
use Rattle.waitgraph.specs.Pending.{spare_to}
use Rattle.waitgraph.specs.inner.Buckets.{bucket}
use Rattle.waitgraph.proofs.spares.add_of_rank.Given as goal

abbrev pub invariant-loop-place : goal.invariant-loop-place
invariant-loop-place l = record {
  len : length l.spares.items ≡ length l.fn.spares.items;
  more : (rank : ℕ) → rank < length l.fn.spares.items → bucket l.spares.items rank ≡ bucket l.fn.spares.items rank ++ filter_map (spare_to l.pairs.groups l.pairs.recording rank l.sender) (range_with_len 0 l.place);
}
