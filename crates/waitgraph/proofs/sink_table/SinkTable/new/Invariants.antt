use Rattle.std.proofs.Common.{◌≡◌, ◌==◌, ◌<◌, ℕ, length, take}
use Rattle.std.specs.List.{filter}
use Rattle.waitgraph.specs.inner.Buckets.{bucket}
use Rattle.waitgraph.proofs.sink_table.SinkTable.new.Given as goal

-- those of each rank so far
abbrev pub invariant-loop-sink : goal.invariant-loop-sink
invariant-loop-sink l = (rank : ℕ) → rank < length l.by_rank.items → bucket l.by_rank.items rank ≡ filter (λ sink. sink.rank == rank) (take l.sink-index l.all)
