use Rattle.std.proofs.Common.{◌≡◌, ℕ, [], length}
use Rattle.waitgraph.specs.inner.Buckets.{bucket}
use Rattle.waitgraph.proofs.spares.no_spares.Given as goal

abbrev pub invariant-loop-rank : goal.invariant-loop-rank
invariant-loop-rank l = record {
  len : length l.spares.items ≡ l._rank;
  none : (rank : ℕ) → bucket l.spares.items rank ≡ [];
}
