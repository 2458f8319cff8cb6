-- A rank's list as it grows: its records, and the numbers of its requests.
use Rattle.std.specs.Prelude.{ℕ, zero, suc, ◌+◌, ◌==◌, max, Bool, false, not, Option, Some, None, unwrap_or, if◌then◌else◌, List, [], ◌∷◌, ◌++◌, length, map, take, drop, filter, position}
use Rattle.std.specs.List.{list_any, find, range_with_len}
use Rattle.mpicall.specs.declared.limits.TheConstants.{MOST_REQUESTS}
use Rattle.mpicall.specs.declared.call.Call.{Call}
use Rattle.mpicall.specs.declared.call.Call.TheVariants.{Wait, Waitall, Waitany}
use Rattle.closing.specs.declared.pending.Wanted.{Wanted}

-- what a request of the trace stands for: a request or message of the journal, by its own number; what the blocking
-- call of a line started, of an exchange the send or the receive; or a sink, with its request or message of the journal,
-- if it has one, what it may take, and whether it was reported what it took
pub data Id : Type 0 where
  Own : ℕ → Id
  Whole : ℕ → Id
  ReceiveHalf : ℕ → Id
  Sink : Option ℕ → Wanted → Bool → Id

abbrev pub same_id : Id → Id → Bool
same_id (Own request) (Own request') = request == request'
same_id (Whole line) (Whole line') = line == line'
same_id (ReceiveHalf line) (ReceiveHalf line') = line == line'
same_id _ _ = false

-- a record of the trace, the number of its entry's line, and what it starts
pub record Written : Type 0 where
  pub call : Call
  pub line : ℕ
  pub starts : Option Id

pub record Progress : Type 0 where
  pub records : List Written
  -- the active requests with their numbers
  pub active : List (Id × ℕ)
  -- those that are waited for right before the end
  pub late : List Id

pub data Step : Type 0 where
  -- this record
  Does : Call → Step
  -- a record that starts a request, by the request's number
  Starts : Id → (ℕ → Call) → Step
  -- waits for all of these that stand in the trace
  WaitsForAll : List Id → Step
  -- a wait for any of some that completed one of them
  WaitsForOne : Id → List Id → Step
  -- these are waited for right before the end; here is that wait
  PutsOff : List Id → Step
  WaitsForLate : Step

-- ---- Numbers of requests ----

abbrev pub number_in : List (Id × ℕ) → Id → Option ℕ
number_in [] id = None
number_in ((other, number) ∷ others) id = if same_id other id then Some number else number_in others id

abbrev pub without : ℕ → List (Id × ℕ) → List (Id × ℕ)
without number active = filter (λ one. not (one.1 == number)) active

abbrev pub without_all : List ℕ → List (Id × ℕ) → List (Id × ℕ)
without_all [] active = active
without_all (number ∷ numbers) active = without_all numbers (without number active)

abbrev pub put_number : Option ℕ → List (Id × ℕ) → (List (Id × ℕ) → List ℕ) → List ℕ
put_number None active others = others active
put_number (Some number) active others = number ∷ others (without number active)

-- the numbers of these requests, each once; of those that don't stand in the trace none
abbrev pub numbers_of : List (Id × ℕ) → List Id → List ℕ
numbers_of active [] = []
numbers_of active (id ∷ ids) = put_number (number_in active id) active (λ left. numbers_of left ids)

-- some request has the number
abbrev pub has_number : List (Id × ℕ) → ℕ → Bool
has_number active number = list_any (λ one. one.1 == number) active

abbrev pub is_free : List (Id × ℕ) → ℕ → Bool
is_free active number = not (has_number active number)

-- one more than the greatest
abbrev pub above : List (Id × ℕ) → ℕ
above [] = 0
above (one ∷ others) = max (one.1 + 1) (above others)

-- the least number that is free
abbrev pub least_free : List (Id × ℕ) → ℕ
least_free active = unwrap_or (find (is_free active) (range_with_len 0 (above active))) (above active)

-- ---- Waits ----

abbrev pub wait_for : List ℕ → List Call
wait_for [] = []
wait_for (number ∷ []) = Wait number ∷ []
wait_for numbers = Waitall numbers ∷ []

-- the waits for these, of which each names as many as it may; no more than `most` are needed
abbrev pub waits_for : ℕ → List ℕ → List Call
waits_for zero numbers = []
waits_for (suc most) numbers = wait_for (take MOST_REQUESTS numbers) ++ waits_for most (drop MOST_REQUESTS numbers)

-- the wait for any of these that completed one; where that isn't among them, a wait for it alone
abbrev pub chosen_at : ℕ → List ℕ → Option ℕ → Call
chosen_at number numbers None = Wait number
chosen_at number numbers (Some place) = Waitany place numbers

abbrev pub wait_for_one : ℕ → List ℕ → Call
wait_for_one number numbers = chosen_at number numbers (position (λ other. other == number) numbers)

-- ---- Steps ----

-- these records of a line, which start nothing
abbrev pub plain : ℕ → List Call → List Written
plain line calls = map (λ call. record { call = call; line = line; starts = None }) calls

-- waits that complete these
abbrev pub wait_with : Progress → ℕ → List ℕ → List Call → Progress
wait_with progress line numbers calls =
    record progress { records = progress.records ++ plain line calls; active = without_all numbers progress.active }

abbrev pub wait_all : Progress → ℕ → List ℕ → Progress
wait_all progress line numbers = wait_with progress line numbers (waits_for (length numbers) numbers)

abbrev pub wait_one : Progress → ℕ → Option ℕ → List ℕ → Progress
wait_one progress line None numbers = progress
wait_one progress line (Some number) numbers = wait_with progress line (number ∷ []) (wait_for_one number numbers ∷ [])

abbrev pub start : Progress → ℕ → Id → (ℕ → Call) → ℕ → Progress
start progress line id call number = record progress {
  records = progress.records ++ record { call = call number; line = line; starts = Some id } ∷ [];
  active = (id, number) ∷ progress.active;
}

abbrev pub after_step : Progress → ℕ → Step → Progress
after_step progress line (Does call) = record progress { records = progress.records ++ plain line (call ∷ []) }
after_step progress line (Starts id call) = start progress line id call (least_free progress.active)
after_step progress line (WaitsForAll ids) = wait_all progress line (numbers_of progress.active ids)
after_step progress line (WaitsForOne id ids) =
    wait_one progress line (number_in progress.active id) (take MOST_REQUESTS (numbers_of progress.active ids))
after_step progress line (PutsOff ids) = record progress { late = progress.late ++ ids }
after_step progress line WaitsForLate = wait_all progress line (numbers_of progress.active progress.late)

-- after the steps of an entry
abbrev pub after_steps : Progress → ℕ → List Step → Progress
after_steps progress line [] = progress
after_steps progress line (step ∷ steps) = after_steps (after_step progress line step) line steps
