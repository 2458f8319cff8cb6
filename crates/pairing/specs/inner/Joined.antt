-- Places of collectives: a rank has a list of them for the world, and one for each other communicator on which it
-- has called a collective.
use Rattle.std.specs.Prelude.{◌≡◌, ℕ, ◌+◌, ◌==◌, Bool, ◌&&◌, nat_lt, if◌then◌else◌, Option, Some, option_map, position, IfSome, List, []}
use Rattle.std.specs.Option.{option_map_or}
use Rattle.mpicall.specs.declared.call.Call.{Call}
use Rattle.pairing.specs.declared.made_comms.Holding.{Holding}
use Rattle.callstore.specs.Recordings.{Lists, calls_of}
use Rattle.callstore.specs.Places.{places}
use Rattle.callstore.specs.Waves.{joins, does_join}
use Rattle.callstore.specs.Seats.{Seats, list_in, HasRoomIn}

-- The lists: first those of the world, one for each of its ranks, and after them one for each of the keys.
pub record Joinings : Type 0 where
  pub ranks : ℕ
  pub keys : List Holding
  pub lists : Seats

-- the key is that rank with that communicator
abbrev pub is_key : ℕ → ℕ → Holding → Bool
is_key rank comm key = rank == key.rank && comm == key.comm

-- the number of the list that the rank has for the communicator
abbrev pub list_number : Joinings → ℕ → ℕ → Option ℕ
list_number waves rank comm =
    if comm == 0 && nat_lt rank waves.ranks then Some rank
    else option_map (λ number. waves.ranks + number) (position (is_key rank comm) waves.keys)

-- the places in that list; none where there is no list
abbrev pub list_of : Joinings → ℕ → ℕ → List ℕ
list_of waves rank comm = option_map_or (list_in waves.lists.places) (list_number waves rank comm) []

-- the table has the places of the recording's collectives
abbrev pub IsJoined : Lists → Joinings → Type 0
IsJoined recording waves =
    (rank comm : ℕ) → list_of waves rank comm ≡ places (does_join comm) (calls_of recording rank)

-- the number is that of the list for the wave that the rank's call joins; there is none where it joins none
abbrev pub IsListFor : ℕ → Call → Joinings → Option ℕ → Type 0
IsListFor rank call waves list = option_map (λ number. Some number) list ≡ option_map (list_number waves rank) (joins call)

-- and that list has room for the place of the call
pub record HasRoomToJoin (rank : ℕ) (call : Call) (list : Option ℕ) (waves : Joinings) : Type 0 where
  pub is_list : IsListFor rank call waves list
  pub room : IfSome list (HasRoomIn waves.lists)
