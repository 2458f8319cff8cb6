use Rattle.std.proofs.Common.{◌≡◌, ℕ, []}
use Rattle.waitgraph.specs.inner.Buckets.{bucket}
use Rattle.waitgraph.proofs.sink_table.no_sinks.Given as goal

abbrev pub invariant-loop-rank : goal.invariant-loop-rank
invariant-loop-rank l = (rank : ℕ) → bucket l.by_rank.items rank ≡ []
