-- What a recording says of a call stays as the lists go on: the call itself, its wave, and what started a
-- request that it waits for. Where no further call is reached, what is reached was there before.
use Rattle.std.proofs.Common.{◌≡◌, ℕ, ◌+◌, ◌-◌, ◌<◌, ◌≤◌, ◌++◌, Bool, true, false, Option, Some, None, List, length, take, drop, refl, sym, ap, ◌∙◌, ⊎_elim, arith}
use Rattle.std.specs.List.{slice_get, list_any}
use Rattle.std.specs.Option.{option_and_then}
use Rattle.std.proofs.lemmas.List.{take-append-le, length-take}
use Rattle.std.proofs.lemmas.Option.{none-some, same_Some}
use Rattle.std.proofs.lemmas.Bool.{cases_Bool}
use Rattle.mpicall.specs.declared.call.Call.{Call}
use Rattle.callstore.specs.Recordings.{Lists, calls_of, GoesOn}
use Rattle.callstore.specs.Places.{places}
use Rattle.callstore.specs.Requests.{does_start, does_complete, last_of, unless_completed, started_in, started_before}
use Rattle.callstore.specs.Waves.{wave_of}
use Rattle.callstore.proofs.PlaceLemmas.{nth_place, place_nth, slice_get-front}
use Rattle.callstore.proofs.RequestLemmas.{place_within}

pub first_calls_stay : (recording longer : Lists) (rank place : ℕ) → GoesOn recording longer → place ≤ length (calls_of recording rank) → take place (calls_of longer rank) ≡ take place (calls_of recording rank)
first_calls_stay recording longer rank place goes_on within =
    rw (goes_on.goes_on rank) (take-append-le place (calls_of recording rank) (goes_on.more rank) within)

pub call_stays : (recording longer : Lists) (rank place : ℕ) → GoesOn recording longer → place < length (calls_of recording rank) → slice_get (calls_of longer rank) place ≡ slice_get (calls_of recording rank) place
call_stays recording longer rank place goes_on within =
    rw (goes_on.goes_on rank) (slice_get-front (calls_of recording rank) (goes_on.more rank) place within)

-- a call joins the same wave
pub wave_stays : (recording longer : Lists) (rank place : ℕ) → GoesOn recording longer → place < length (calls_of recording rank) → wave_of longer rank place ≡ wave_of recording rank place
wave_stays recording longer rank place goes_on within =
    rw (call_stays recording longer rank place goes_on within, first_calls_stay recording longer rank place goes_on (omega (arith, within))) refl

-- a request was started at the same place
pub start_stays : (recording longer : Lists) (rank place req : ℕ) → GoesOn recording longer → place ≤ length (calls_of recording rank) → started_before longer rank place req ≡ started_before recording rank place req
start_stays recording longer rank place req goes_on within =
    ap (λ (calls : List Call). started_in calls req) (first_calls_stay recording longer rank place goes_on within)

-- what started a request is one of the calls
start_within : (calls : List Call) (req start : ℕ) (last : Option ℕ) → last_of (places (does_start req) calls) ≡ last → option_and_then (unless_completed calls req) last ≡ Some start → start < length calls
start_within calls req start None h found = absurd (none-some start found)
start_within calls req start (Some place) h found =
    let within : place < length calls = place_within (does_start req) calls (length (places (does_start req) calls) - 1) place h in
    ⊎_elim
    (λ (completed : list_any (does_complete req) (drop (place + 1) calls) ≡ true). absurd (none-some start (rw completed at found)))
    (λ (active : list_any (does_complete req) (drop (place + 1) calls) ≡ false). rw (← same_Some place start (rw active at found)) within)
    (cases_Bool (list_any (does_complete req) (drop (place + 1) calls)))

pub start_is_a_call : (recording : Lists) (rank place req start : ℕ) → started_before recording rank place req ≡ Some start → start < length (calls_of recording rank)
start_is_a_call recording rank place req start h =
    let within = start_within (take place (calls_of recording rank)) req start (last_of (places (does_start req) (take place (calls_of recording rank)))) refl h in
    omega (arith, within, length-take place (calls_of recording rank))

-- a place among the first of a list is the one with its number there too
pub place_before : {A : Type 0} (test : A → Bool) (xs ys : List A) (k p : ℕ) → slice_get (places test (xs ++ ys)) k ≡ Some p → p < length xs → slice_get (places test xs) k ≡ Some p
place_before test xs ys k p h within =
    let nth = nth_place 0 test (xs ++ ys) k p h in
    let same : nth.index ≡ p = omega (arith, nth.place) in
    let first : nth.index < length xs = omega (arith, same, within) in
    let there : slice_get xs nth.index ≡ Some nth.element = sym (slice_get-front xs ys nth.index first) ∙ nth.stands_there in
    let number : length (places test (take nth.index xs)) ≡ k = rw (take-append-le nth.index xs ys (omega (arith, first))) at nth.before in
    rw number at (place_nth 0 test xs nth.index nth.element there nth.passes) ∙ ap (λ (m : ℕ). Some m) (omega (arith, same))
