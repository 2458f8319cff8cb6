-- The table of the active requests with the places that started them.
use Rattle.std.specs.Option.{option_or}
use Rattle.std.specs.Prelude.{◌≡◌, ◌<◌, ◌+◌, ◌*◌, ◌%◌, ◌==◌, ◌&&◌, nat_lt, if◌then◌else◌, ℕ, Bool, true, false, Option, None, Some, is_some, length, slice_index_or}
use Rattle.mpicall.specs.declared.call.Call.{Call}
use Rattle.indexmap.specs.IndexMap.{get, spare}
use Rattle.callstore.specs.Recordings.{Lists, calls_of}
use Rattle.callstore.specs.Requests.{starts, started_in}
use Rattle.pairing.specs.declared.active.TheConstants.{REQUEST_CELLS}
use Rattle.pairing.specs.declared.active.Request.{Request}
use Rattle.pairing.specs.declared.active.ActiveRequest.{ActiveRequest}
use Rattle.pairing.specs.declared.active.Active.{Active}
use Rattle.pairing.specs.contracts.active.RequestPartialEq.TheImpl as request_eq

-- two requests are the same
abbrev pub is_same_request : Request → Request → Bool
is_same_request = (request_eq.ghosts).eq

-- the number of the cell of the rank's request
abbrev pub cell_no : ℕ → ℕ → ℕ
cell_no rank req = rank * REQUEST_CELLS + req % REQUEST_CELLS

-- what is in that cell
abbrev pub cell_in : Active → ℕ → ℕ → Option ActiveRequest
cell_in active rank req = slice_index_or active.cells.items (cell_no rank req) None

-- the place that a cell has for the request
abbrev pub place_at : ℕ → Option ActiveRequest → Option ℕ
place_at req None = None
place_at req (Some start) = if start.req == req then Some start.place else None

-- the place of the rank's request, where it found another one in its cell
abbrev pub other_in : Active → ℕ → ℕ → Option ℕ
other_in active rank req = get is_same_request active.others (record { rank = rank; req = req })

-- the place that the table has for the rank's request
abbrev pub place_in : Active → ℕ → ℕ → Option ℕ
place_in active rank req = option_or (place_at req (cell_in active rank req)) (other_in active rank req)

-- the table has the rank's request
abbrev pub has_place : Active → ℕ → ℕ → Bool
has_place active rank req = is_some (place_in active rank req)

-- the table has just the requests that are active after the calls of each rank, with what started them
abbrev pub IsActive : Lists → Active → Type 0
IsActive recording active =
    (rank req : ℕ) → place_in active rank req ≡ started_in (calls_of recording rank) req

-- nothing else is in the cell of the request
abbrev pub is_free : ℕ → Option ActiveRequest → Bool
is_free req None = true
is_free req (Some start) = start.req == req

-- there is a cell for the rank's request
abbrev pub has_cell : Active → ℕ → ℕ → Bool
has_cell active rank req = nat_lt (cell_no rank req) (length active.cells.items) && is_free req (cell_in active rank req)

-- what the call starts can be put into the table without memory
abbrev pub HasRoomToStart : Active → ℕ → Call → Type 0
HasRoomToStart active rank call = (req : ℕ) → starts call ≡ Some req → has_cell active rank req ≡ false → 0 < spare active.others
