-- Waves. All members of a communicator call its collectives in one order (MPI 4.0, section 6.14), so the
-- n-th one of each member belongs together: they are a wave. Blocking and nonblocking ones, and those that
-- make a communicator, are counted together, which is the strict reading of that section.
use Rattle.mpicall.specs.Names.{Rank, Place, Comm, Wave}
use Rattle.std.specs.Prelude.{◌≡◌, ℕ, ◌==◌, Bool, false, Option, Some, None, option_map, option_and_then, is_some, slice_get}
use Rattle.std.specs.List.{list_all}
use Rattle.std.specs.Option.{option_map_or}
use Rattle.mpicall.specs.declared.call.Call.{Call}
use Rattle.mpicall.specs.Effect.{effect_of}
use Rattle.mpicall.specs.declared.effect.Effect.{Effect}
use Rattle.mpicall.specs.declared.effect.Effect.TheVariants.{Joins}
use Rattle.mpigroup.specs.Groups.{Groups, group_of, world_rank_of}
use Rattle.callstore.specs.Recordings.{Lists, calls_of, GoesOn}
use Rattle.callstore.specs.Places.{places, count_before}

-- the communicator whose members all make the call
abbrev pub joins : Call → Option Comm
joins call = by_what (effect_of call)
  where
    by_what : Effect → Option ℕ
    by_what (Joins comm root made) = Some comm
    by_what _ = None

abbrev pub does_join : Comm → Call → Bool
does_join comm call = option_map_or (λ joined. joined == comm) (joins call) false

-- the place of the rank's call in a wave of the communicator, by the wave's number from 0
abbrev pub place_in_wave : Lists → Comm → Wave → Rank → Option Place
place_in_wave recording comm wave rank = slice_get (places (does_join comm) (calls_of recording rank)) wave

-- the communicator and number of the wave that the call at the place joins
abbrev pub wave_of : Lists → Rank → Place → Option (Comm × Wave)
wave_of recording rank place =
    option_and_then (λ call. option_map (λ comm. (comm, count_before (does_join comm) (calls_of recording rank) place)) (joins call))
    (slice_get (calls_of recording rank) place)

-- the place of a wave's call of the member with rank `g` in the communicator's group
abbrev pub member_of : Groups → Lists → Comm → Wave → Rank → Option Place
member_of groups recording comm wave g = option_and_then (place_in_wave recording comm wave) (world_rank_of groups comm g)

-- each member of the communicator has its call of the wave
abbrev pub is_full : Groups → Lists → Comm → Wave → Bool
is_full groups recording comm wave = list_all (λ rank. is_some (place_in_wave recording comm wave rank)) (group_of groups comm)

-- Law: a wave has at most one call of each rank. Two calls of a rank in one wave are one call.
abbrev pub AWaveHasOneCallOfEachRank : Type 0
AWaveHasOneCallOfEachRank =
    (recording : Lists) (rank : Rank) (place place' : Place) (comm : Comm) (wave : Wave) →
    wave_of recording rank place ≡ Some (comm, wave) → wave_of recording rank place' ≡ Some (comm, wave) → place ≡ place'

-- Law: the call of a rank in a wave is the one that joins it.
abbrev pub TheCallInAWaveJoinsIt : Type 0
TheCallInAWaveJoinsIt =
    (recording : Lists) (rank : Rank) (place : Place) (comm : Comm) (wave : Wave) →
    wave_of recording rank place ≡ Some (comm, wave) → place_in_wave recording comm wave rank ≡ Some place

-- Law: and no other call is in the wave.
abbrev pub NoOtherCallIsInAWave : Type 0
NoOtherCallIsInAWave =
    (recording : Lists) (rank : Rank) (place : Place) (comm : Comm) (wave : Wave) →
    place_in_wave recording comm wave rank ≡ Some place → wave_of recording rank place ≡ Some (comm, wave)

-- Law: waves stay. What is in a wave over a recording is in it over each longer one.
abbrev pub WavesStay : Type 0
WavesStay =
    (recording longer : Lists) (comm wave rank place : ℕ) → GoesOn recording longer →
    place_in_wave recording comm wave rank ≡ Some place → place_in_wave longer comm wave rank ≡ Some place
