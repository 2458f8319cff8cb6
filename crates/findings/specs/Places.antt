-- The calls of a recording, by rank and place, and what is listed of all of them in order.
use Rattle.mpicall.specs.Names.{Rank, Place, Comm, Wave}
use Rattle.std.specs.Prelude.{ℕ, Option, option_and_then, List, flat_map, length, slice_get}
use Rattle.std.specs.List.{range_with_len}
use Rattle.mpicall.specs.declared.call.Call.{Call}
use Rattle.mpigroup.specs.Groups.{Groups, world_rank_of}
use Rattle.callstore.specs.Recordings.{Lists, calls_of}
use Rattle.callstore.specs.Waves.{place_in_wave}

-- the call at a place of a rank
abbrev pub call_at : Lists → Rank → Place → Option Call
call_at recording rank place = slice_get (calls_of recording rank) place

-- the call of a rank in a wave of the communicator
abbrev pub call_in_wave : Lists → Comm → Wave → Rank → Option Call
call_in_wave recording comm wave rank = option_and_then (call_at recording rank) (place_in_wave recording comm wave rank)

-- the call in a wave of the member with rank `g` in the communicator's group
abbrev pub call_of_member : Groups → Lists → Comm → Wave → Rank → Option Call
call_of_member groups recording comm wave g =
    option_and_then (call_in_wave recording comm wave) (world_rank_of groups comm g)

-- what is listed of the places of a rank, in order
abbrev pub over_places : {A : Type 0} → (ℕ → List A) → Lists → Rank → List A
over_places listed recording rank = flat_map listed (range_with_len 0 (length (calls_of recording rank)))

-- what is listed of the places of all ranks, rank by rank
abbrev pub over_ranks : {A : Type 0} → (ℕ → ℕ → List A) → Lists → List A
over_ranks listed recording = flat_map (λ rank. over_places (listed rank) recording rank) (range_with_len 0 (length recording))
