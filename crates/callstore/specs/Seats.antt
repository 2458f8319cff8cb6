-- Lists of places by numbers.
use Rattle.mpicall.specs.Names.{Place}
use Rattle.std.specs.Prelude.{ℕ, ◌<◌, unwrap_or, List, [], ◌∷◌, ◌++◌, length, slice_get, slice_set}
use Rattle.mpigroup.specs.Groups.{or_empty}

-- the places of each list, and for how many each has room
pub record Seats : Type 0 where
  pub places : List (List ℕ)
  pub rooms : List ℕ

-- the places in the list of that number
abbrev pub list_in : List (List ℕ) → ℕ → List Place
list_in lists index = or_empty lists index

-- the lists once a place is put at the end of one, if there is such a list
abbrev pub with_place_in : List (List ℕ) → ℕ → Place → List (List ℕ)
with_place_in lists index place = slice_set lists index (list_in lists index ++ place ∷ [])

-- there is a list of that number, and it has room for one more place
abbrev pub HasRoomIn : Seats → ℕ → Type 0
HasRoomIn seats index = length (list_in seats.places index) < unwrap_or (slice_get seats.rooms index) 0
