-- The table that finds the members of a group: for each rank of the world its place among them.
use Rattle.std.specs.Prelude.{ℕ, ◌≡◌, ◌≤◌, Bool, false, ◌&&◌, ◌==◌, Option, Some, None, if◌then◌else◌, List, length, position, slice_get}
use Rattle.mpicall.specs.Number.{is_canonical, value_of}
use Rattle.mpigroup.specs.declared.limits.TheConstants.{MOST_RANKS}
use Rattle.mpigroup.specs.declared.group.TheConstants.{NO_PLACE}

-- the place that an entry has, if there is such an entry and it has one
abbrev pub told_place : Option ℕ → Option ℕ
told_place None = None
told_place (Some entry) = if entry == NO_PLACE then None else Some entry

-- the table has each rank's place among the members, of whom there are no more than ranks may be
pub record IsPlaced (members places : List ℕ) : Type 0 where
  pub few : length members ≤ MOST_RANKS
  pub told : (rank : ℕ) → told_place (slice_get places rank) ≡ position (λ member. member == rank) members

-- the table has an entry for the rank, and that has no place
abbrev pub is_free : Option ℕ → Bool
is_free None = false
is_free (Some entry) = entry == NO_PLACE

-- the rank that a field names, if it is a canonical number and names a rank of the run that has no place yet
abbrev pub new_member : List ℕ → List ℕ → Option ℕ
new_member places field =
    if is_canonical field && is_free (slice_get places (value_of field)) then Some (value_of field) else None
