-- Sinks by their ranks.
use Rattle.mpicall.specs.Names.{Rank}
use Rattle.std.specs.Prelude.{◌≡◌, ◌==◌, ℕ, ◌<◌, Bool, true, find, List, length, Vec}
use Rattle.std.specs.List.{filter, list_any}
use Rattle.waitgraph.specs.declared.pending.Sink.{Sink}
use Rattle.waitgraph.specs.inner.Buckets.{bucket}

-- those of each rank are in its own list
abbrev pub AreByRank : {Z : Type 0} → List Sink → List (Vec Sink Z) → Type 0
AreByRank all by_rank = (rank : ℕ) → rank < length by_rank → bucket by_rank rank ≡ filter (λ sink. sink.rank == rank) all

-- whoever looks for a sink of the rank finds the same in both lists
abbrev pub HasThoseOf : Rank → List Sink → List Sink → Type 0
HasThoseOf rank some all =
    (p : Sink → Bool) → ((sink : Sink) → p sink ≡ true → sink.rank ≡ rank) →
    (find p some ≡ find p all) × (list_any p some ≡ list_any p all)
