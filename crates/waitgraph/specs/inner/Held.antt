-- Held ranks as the search finds them: those stuck ones that aren't loose.
use Rattle.moves.specs.declared.reading.Reading.{Reading}
use Rattle.std.specs.Prelude.{ℕ, Bool, Option, Some, List, length, map, slice_get, slice_index}
use Rattle.std.specs.List.{filter, range_with_len}
use Rattle.mpicall.specs.declared.call.Call.{Call}
use Rattle.mpicall.specs.declared.call.Call.TheVariants.{Finalize, Open}
use Rattle.mpigroup.specs.Groups.{Groups}
use Rattle.callstore.specs.Recordings.{Lists, calls_of}
use Rattle.moves.specs.Runs.{State}
use Rattle.moves.specs.Stands.{stands_of}
use Rattle.pairing.specs.LeftOpen.{is_left_open}
use Rattle.waitgraph.specs.Held.{Set}
use Rattle.waitgraph.specs.inner.Loose.{set_of, are_held}
use Rattle.waitgraph.specs.inner.Waits.{waits_at}
use Rattle.waitgraph.specs.declared.standing.Standing.{Standing}
use Rattle.waitgraph.specs.declared.standing.Standing.TheVariants.{AtFinalize, AtOpen, Stuck}

-- of each rank, whether its list was left open
abbrev pub left_open_in : Lists → List Bool
left_open_in recording = map (is_left_open recording) (range_with_len 0 (length recording))

-- the ranks whose lists were left open
abbrev pub opened_of : Lists → Set
opened_of recording = set_of (left_open_in recording)

-- where a rank with this present call stands
abbrev pub standing_by : Option Call → Standing
standing_by (Some Finalize) = AtFinalize
standing_by (Some Open) = AtOpen
standing_by _ = Stuck

abbrev pub standing_at : Lists → State → ℕ → Standing
standing_at recording stands rank = standing_by (slice_get (calls_of recording rank) (slice_index stands rank))

-- and each rank
abbrev pub standings_at : Lists → State → List Standing
standings_at recording stands = map (standing_at recording stands) (range_with_len 0 (length recording))

-- a rank is held in a state
abbrev pub is_held_in : Reading → Groups → Lists → State → ℕ → Bool
is_held_in reading groups recording stands = are_held (opened_of recording) (standings_at recording stands) (waits_at reading groups recording stands)

-- the held ranks in a state, the lowest first
abbrev pub held_at : Reading → Groups → Lists → State → List ℕ
held_at reading groups recording stands = filter (is_held_in reading groups recording stands) (range_with_len 0 (length recording))

-- a rank is held if it is so at the stands
abbrev pub is_held : Reading → Groups → Lists → ℕ → Bool
is_held reading groups recording = is_held_in reading groups recording (stands_of reading groups recording)

-- the held ranks
abbrev pub held_of : Reading → Groups → Lists → List ℕ
held_of reading groups recording = held_at reading groups recording (stands_of reading groups recording)
