-- The needs of all ranks in one list, in which each rank has its span.
use Rattle.std.specs.Prelude.{ℕ, ◌≤◌, List}
use Rattle.std.specs.List.{slice_range}
use Rattle.moves.specs.declared.need.Need.{Need}
use Rattle.waitgraph.specs.declared.waits.Span.{Span}

-- the needs in a span
abbrev pub needs_at : List Need → Span → List Need
needs_at needs span = slice_range needs span.start span.end

-- the span lies within the first so many needs
abbrev pub LiesWithin : ℕ → Span → Type 0
LiesWithin count span = (span.start ≤ span.end) × (span.end ≤ count)
