-- Recordings. A recording gives each rank of the world its trace: the list of its recorded calls. A call's
-- place is its index in its rank's list, from 0.
use Rattle.mpicall.specs.Names.{Rank}
use Rattle.std.specs.Prelude.{◌≡◌, ◌<◌, ◌-◌, Bool, true, false, List, [], ◌∷◌, ◌++◌, length, slice_get, slice_set}
use Rattle.std.specs.List.{list_any}
use Rattle.std.specs.Option.{option_map_or}
use Rattle.mpicall.specs.Ending.{ends_list}
use Rattle.mpicall.specs.declared.call.Call.{Call}
use Rattle.mpigroup.specs.Groups.{or_empty}

-- each rank's list of calls
abbrev pub Lists : Type 0
Lists = List (List Call)

-- the calls of a rank
abbrev pub calls_of : Lists → Rank → List Call
calls_of recording rank = or_empty recording rank

-- the recording with one more call at the end of the rank's list
abbrev pub appended : Lists → Rank → Call → Lists
appended recording rank call = slice_set recording rank (calls_of recording rank ++ call ∷ [])

-- some call of the list ends it
abbrev pub has_end : List Call → Bool
has_end calls = list_any ends_list calls

-- the last call of the list ends it
abbrev pub is_ended : List Call → Bool
is_ended calls = option_map_or ends_list (slice_get calls (length calls - 1)) false

-- a rank's list is closed if its last call ends it and no other does (MPI 4.0, section 11.2.2: each
-- process calls MPI_Finalize once, as its last call)
pub record IsClosedList (calls : List Call) : Type 0 where
  pub before : List Call
  pub last : Call
  pub is_all : calls ≡ before ++ last ∷ []
  pub is_the_end : ends_list last ≡ true
  pub has_no_other : has_end before ≡ false

-- a recording is closed if each rank's list is
abbrev pub IsClosed : Lists → Type 0
IsClosed recording = (rank : Rank) → rank < length recording → IsClosedList (calls_of recording rank)

-- the longer recording goes on from the other: it has the same ranks, and each list may go on
pub record GoesOn (recording longer : Lists) : Type 0 where
  pub same_ranks : length recording ≡ length longer
  pub more : Rank → List Call
  pub goes_on : (rank : Rank) → calls_of longer rank ≡ calls_of recording rank ++ more rank
