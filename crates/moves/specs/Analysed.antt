-- What an analyser has of a run whose records are still coming.
use Rattle.std.specs.Prelude.{ℕ, ◌+◌, ◌*◌, if◌then◌else◌, List, [], ◌∷◌, length, map, slice_get, slice_index}
use Rattle.mpicall.specs.declared.call.Call.{Call}
use Rattle.moves.specs.declared.reading.Reading.{Reading}
use Rattle.mpigroup.specs.Groups.{Groups}
use Rattle.callstore.specs.Recordings.{Lists, calls_of}
use Rattle.callstore.specs.Requests.{waits_for}
use Rattle.arenaqueue.specs.Numbers.{sum_to}
use Rattle.moves.specs.Needs.{may_pass}
use Rattle.moves.specs.Runs.{State, total}
use Rattle.moves.specs.Stands.{call_count}

-- the reading of the sends, the groups of a run's communicators, the calls of each rank that were accepted, the ranks'
-- stands, how much was done in the arena in which waiting ranks are linked (1 each time that a rank is put into a list
-- or taken out of one, as the arena counts it), and the touches: that, and how often it was noted how far a
-- communicator's waves are
pub record Analysed : Type 0 where
  pub reading : Reading
  pub groups : Groups
  pub recording : Lists
  pub stands : State
  pub work : ℕ
  pub touches : ℕ

-- how many requests the waits of a list name, each as often as it is named
abbrev pub requests_of : List Call → ℕ
requests_of [] = 0
requests_of (call ∷ calls) = length (waits_for call) + requests_of calls

-- the same of all lists of a recording
abbrev pub requests_in : Lists → ℕ
requests_in recording = total (map requests_of recording)

-- the most touches: 24 for each call that was accepted, and for each request that a wait among them names
abbrev pub most_touches : Lists → ℕ
most_touches recording = 24 * (call_count recording + requests_in recording)

-- how many ranks wait: each has a call where it stands, and not the one that ends its list
abbrev pub ranks_waiting : Lists → State → ℕ
ranks_waiting recording stands =
    sum_to (length recording) (λ rank. if may_pass (slice_get (calls_of recording rank) (slice_index stands rank)) then 1 else 0)
