-- Spare sends by the rank to which they go, and sinks by their rank.
use Rattle.mpicall.specs.Names.{Rank}
use Rattle.std.specs.Prelude.{List, [], slice_get, vec_items, Vec}
use Rattle.std.specs.Option.{option_map_or}

-- those of the rank
abbrev pub bucket : {A Z : Type 0} → List (Vec A Z) → Rank → List A
bucket all rank = option_map_or vec_items (slice_get all rank) []
