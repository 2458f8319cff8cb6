-- Requests (MPI 4.0, section 3.7). A nonblocking call starts a request, and a wait completes it. A number
-- may stand for another request once it was completed. All this follows from the rank's own list.
use Rattle.mpicall.specs.Names.{Rank, Place, Request}
use Rattle.std.specs.Prelude.{◌≡◌, ℕ, ◌+◌, ◌-◌, ◌==◌, Bool, true, false, Option, Some, None, option_and_then, is_some, if◌then◌else◌, List, [], ◌∷◌, length, take, drop, slice_get}
use Rattle.std.specs.List.{list_any}
use Rattle.std.specs.Option.{option_map_or}
use Rattle.mpicall.specs.declared.call.Call.{Call}
use Rattle.mpicall.specs.declared.call.Call.TheVariants.{Isend, Irecv, Wait, Waitall, Waitany, Icoll}
use Rattle.callstore.specs.Recordings.{Lists, calls_of}
use Rattle.callstore.specs.Places.{places}

-- the request that the call starts (MPI 4.0, sections 3.7.2 and 6.12)
abbrev pub starts : Call → Option Request
starts (Isend req mode comm dest tag bytes) = Some req
starts (Irecv req comm source tag) = Some req
starts (Icoll req comm kind) = Some req
starts _ = None

-- the requests that a wait names
abbrev pub waits_for : Call → List Request
waits_for (Wait req) = req ∷ []
waits_for (Waitall reqs) = reqs
waits_for (Waitany chosen reqs) = reqs
waits_for _ = []

-- the requests that a wait completes: MPI_Waitany the recorded one alone (MPI 4.0, section 3.7.5)
abbrev pub completes : Call → List Request
completes (Wait req) = req ∷ []
completes (Waitall reqs) = reqs
completes (Waitany chosen reqs) = take 1 (drop chosen reqs)
completes _ = []

-- the number stands in the list
abbrev pub is_among : ℕ → List ℕ → Bool
is_among number numbers = list_any (λ other. other == number) numbers

abbrev pub does_start : Request → Call → Bool
does_start req call = option_map_or (λ started. started == req) (starts call) false

abbrev pub does_complete : Request → Call → Bool
does_complete req call = is_among req (completes call)

-- the last of the numbers
abbrev pub last_of : List ℕ → Option Place
last_of numbers = slice_get numbers (length numbers - 1)

-- the place, unless a later call completes the request
abbrev pub unless_completed : List Call → Request → Place → Option Place
unless_completed calls req place = if list_any (does_complete req) (drop (place + 1) calls) then None else Some place

-- The place that started the request as it stands after the calls: the last of the calls that starts it,
-- unless a later call completes it.
abbrev pub started_in : List Call → Request → Option Place
started_in calls req = option_and_then (unless_completed calls req) (last_of (places (does_start req) calls))

-- the request is active after the calls: it was started, and not completed since
abbrev pub is_active : List Call → Request → Bool
is_active calls req = is_some (started_in calls req)

-- some request is active after its rank's calls
pub record HasActive (recording : Lists) : Type 0 where
  pub rank : Rank
  pub req : Request
  pub is_it : is_active (calls_of recording rank) req ≡ true

-- the place that started a request as it stands when the rank comes to the place
abbrev pub started_before : Lists → Rank → Place → Request → Option Place
started_before recording rank place req = started_in (take place (calls_of recording rank)) req

-- the request is named by the wait at the place
abbrev pub is_named_at : Lists → Rank → Place → Request → Bool
is_named_at recording rank place req = option_map_or (λ call. is_among req (waits_for call)) (slice_get (calls_of recording rank) place) false

-- the place that started the request that the wait at the place names
abbrev pub started_of : Lists → Rank → Place → Request → Option Place
started_of recording rank place req = if is_named_at recording rank place req then started_before recording rank place req else None
