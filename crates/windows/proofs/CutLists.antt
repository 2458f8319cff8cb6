-- What the calls before a cut become in the two windows: each is in the first one as it was, or it is in front of the
-- second one, if a test tells it at all.
use Rattle.std.proofs.Common.{◌≡◌, ℕ, zero, suc, ◌+◌, ◌<◌, Bool, true, false, Option, Some, None, if◌then◌else◌, List, [], ◌∷◌, ◌++◌, length, take, drop, refl, sym, ap, ◌∙◌, ⊎_elim, arith, length-append}
use Rattle.std.specs.List.{slice_get, list_any}
use Rattle.std.specs.Option.{option_map_or}
use Rattle.std.proofs.lemmas.Option.{none-some, same_Some, slice_get_within}
use Rattle.std.proofs.lemmas.Bool.{cases_Bool, and_parts, false≢true, or_left, or_right, or_parts}
use Rattle.mpicall.specs.declared.call.Mode.TheVariants.{Standard}
use Rattle.mpicall.specs.declared.call.Peer.TheVariants.{Null}
use Rattle.mpicall.specs.declared.call.Call.{Call}
use Rattle.mpicall.specs.declared.call.Call.TheVariants.{Isend, Irecv}
use Rattle.callstore.specs.Places.{places_from}
use Rattle.windows.specs.Cuts.{left_active, starts_receive, is_moved, without_peer, first_calls, started_again, front_calls}
use Rattle.windows.proofs.PlaceCuts.{count, count-append, places_count}

-- a call in the place that a call before the cut has in the first window
abbrev pub as_first : (ℕ → Bool) → Call → List Call → Call
as_first moves call rest = if is_moved moves call rest then without_peer call else call

-- what stands in front of the second window for the first calls of a list
abbrev pub front_before : (ℕ → Bool) → ℕ → List Call → List Call
front_before moves zero calls = []
front_before moves (suc place) [] = []
front_before moves (suc place) (call ∷ rest) = started_again moves call rest ++ front_before moves place rest

-- the test fails at starts that meet nobody
pub record FailsAlone (test : Call → Bool) : Type 0 where
  pub sends : (req : ℕ) → test (Isend req Standard 0 Null 0 None) ≡ false
  pub receives : (req comm : ℕ) → test (Irecv req comm Null 0) ≡ false

pub first_length : (moves : ℕ → Bool) (calls : List Call) → length (first_calls moves calls) ≡ length calls
first_length moves [] = refl
first_length moves (call ∷ rest) = ap (λ (n : ℕ). suc n) (first_length moves rest)

pub first_get : (moves : ℕ → Bool) (calls : List Call) (place : ℕ) (call : Call) → slice_get calls place ≡ Some call → slice_get (first_calls moves calls) place ≡ Some (as_first moves call (drop (suc place) calls))
first_get moves [] place call h = absurd (none-some call h)
first_get moves (first ∷ rest) zero call h = rw (same_Some first call h) refl
first_get moves (first ∷ rest) (suc place) call h = first_get moves rest place call h

-- ---- Which calls are moved ----

pub moved_receives : (moves : ℕ → Bool) (call : Call) (rest : List Call) → is_moved moves call rest ≡ true → starts_receive call ≡ true
moved_receives moves call rest h = (and_parts (starts_receive call) (option_map_or moves (left_active call rest) false) h).0

-- a moved call is left active
pub moved_active : (moves : ℕ → Bool) (call : Call) (rest : List Call) → is_moved moves call rest ≡ true → (req : ℕ) × (left_active call rest ≡ Some req)
moved_active moves call rest h =
    by_active (left_active call rest) refl (and_parts (starts_receive call) (option_map_or moves (left_active call rest) false) h).1
  where
    by_active : (o : Option ℕ) → left_active call rest ≡ o → option_map_or moves o false ≡ true → (req : ℕ) × (left_active call rest ≡ Some req)
    by_active None is passes = absurd (false≢true passes)
    by_active (Some req) is passes = (req, is)

-- a receive that is moved fails each test as it stands in the first window
without_fails : (test : Call → Bool) (call : Call) → FailsAlone test → starts_receive call ≡ true → test (without_peer call) ≡ false
without_fails test (Irecv req comm source tag) fails is = fails.receives req comm
without_fails test _ fails is = absurd (false≢true is)

-- in front of the second window stands a moved receive itself
pub anew_moved : (moves : ℕ → Bool) (call : Call) (rest : List Call) → is_moved moves call rest ≡ true → started_again moves call rest ≡ call ∷ []
anew_moved moves call rest h =
    let active = moved_active moves call rest h in
    rw (h, active.1) refl

-- a call counts once: as it stands in the first window, or in front of the second
pub counts_once : (test : Call → Bool) (moves : ℕ → Bool) (call : Call) (rest : List Call) → FailsAlone test → count test (call ∷ []) ≡ count test (as_first moves call rest ∷ []) + count test (started_again moves call rest)
counts_once test moves call rest fails =
    ⊎_elim
    (λ (is : is_moved moves call rest ≡ true).
    let none : test (without_peer call) ≡ false = without_fails test call fails (moved_receives moves call rest is) in
    rw (anew_moved moves call rest is, is, none) (omega arith))
    (λ (no : is_moved moves call rest ≡ false).
    let none = stays (left_active call rest) in
    rw no (omega (arith, none)))
    (cases_Bool (is_moved moves call rest))
  where
    stays : (o : Option ℕ) → count test (option_map_or (λ req. (if false then call else Isend req Standard 0 Null 0 None) ∷ []) o []) ≡ 0
    stays None = refl
    stays (Some req) = rw (fails.sends req) refl

count-one : (test : Call → Bool) (call : Call) (rest : List Call) → count test (call ∷ rest) ≡ count test (call ∷ []) + count test rest
count-one test call rest = omega arith

-- so do the first calls of a list
pub counts_split : (test : Call → Bool) (moves : ℕ → Bool) (place : ℕ) (calls : List Call) → FailsAlone test → count test (take place calls) ≡ count test (take place (first_calls moves calls)) + count test (front_before moves place calls)
counts_split test moves zero calls fails = omega arith
counts_split test moves (suc place) [] fails = omega arith
counts_split test moves (suc place) (call ∷ rest) fails =
    let here = counts_once test moves call rest fails in
    let later = counts_split test moves place rest fails in
    let front = count-append test (started_again moves call rest) (front_before moves place rest) in
    omega (arith, here, later, front)

front_whole : (moves : ℕ → Bool) (calls : List Call) → front_before moves (length calls) calls ≡ front_calls moves calls
front_whole moves [] = refl
front_whole moves (call ∷ rest) = ap (λ (more : List Call). started_again moves call rest ++ more) (front_whole moves rest)

-- and all of them
pub counts_all : (test : Call → Bool) (moves : ℕ → Bool) (calls : List Call) → FailsAlone test → count test calls ≡ count test (first_calls moves calls) + count test (front_calls moves calls)
counts_all test moves [] fails = omega arith
counts_all test moves (call ∷ rest) fails =
    let here = counts_once test moves call rest fails in
    let later = counts_all test moves rest fails in
    let front = count-append test (started_again moves call rest) (front_calls moves rest) in
    omega (arith, here, later, front)

-- ---- Places in front of the second window ----

pub behind_first : {A : Type 0} (xs ys : List A) (n : ℕ) → slice_get (xs ++ ys) (length xs + n) ≡ slice_get ys n
behind_first [] ys n = let same : 0 + n ≡ n = omega arith in rw same refl
behind_first (x ∷ xs) ys n = let same : suc (length xs) + n ≡ suc (length xs + n) = omega arith in rw same (behind_first xs ys n)

pub take_behind : {A : Type 0} (xs ys : List A) (n : ℕ) → take (length xs + n) (xs ++ ys) ≡ xs ++ take n ys
take_behind [] ys n = let same : 0 + n ≡ n = omega arith in rw same refl
take_behind {A} (x ∷ xs) ys n = let same : suc (length xs) + n ≡ suc (length xs + n) = omega arith in rw same (ap (λ (zs : List A). x ∷ zs) (take_behind xs ys n))

-- what is left of an active request stands there
pub front_get : (moves : ℕ → Bool) (calls : List Call) (place req : ℕ) (call : Call) → slice_get calls place ≡ Some call → left_active call (drop (suc place) calls) ≡ Some req → slice_get (front_calls moves calls) (length (front_before moves place calls)) ≡ Some (if is_moved moves call (drop (suc place) calls) then call else Isend req Standard 0 Null 0 None)
front_get moves [] place req call h active = absurd (none-some call h)
front_get moves (first ∷ rest) zero req call h active =
    let same : first ≡ call = same_Some first call h in
    rw (same, active) refl
front_get moves (first ∷ rest) (suc place) req call h active =
    rw (length-append (started_again moves first rest) (front_before moves place rest))
    (behind_first (started_again moves first rest) (front_calls moves rest) (length (front_before moves place rest)) ∙ front_get moves rest place req call h active)

-- and before it what is left of the calls before
pub front_take : (moves : ℕ → Bool) (calls : List Call) (place : ℕ) → take (length (front_before moves place calls)) (front_calls moves calls) ≡ front_before moves place calls
front_take moves calls zero = refl
front_take moves [] (suc place) = refl
front_take moves (call ∷ rest) (suc place) =
    rw (length-append (started_again moves call rest) (front_before moves place rest))
    (take_behind (started_again moves call rest) (front_calls moves rest) (length (front_before moves place rest))
    ∙ ap (λ (more : List Call). started_again moves call rest ++ more) (front_take moves rest place))

-- ---- Receives that are in turn ----

-- behind a moved call that passes the test no call passes the other as it stands in the first window
abbrev pub InTurn : (Call → Bool) → (Call → Bool) → (ℕ → Bool) → List Call → Type 0
InTurn test later moves [] = Unit {0}
InTurn test later moves (call ∷ rest) =
    (is_moved moves call rest ≡ true → test call ≡ true → list_any later (first_calls moves rest) ≡ false) × InTurn test later moves rest

pub none_counted : (test : Call → Bool) (calls : List Call) → list_any test calls ≡ false → count test calls ≡ 0
none_counted test [] h = refl
none_counted test (call ∷ rest) h =
    let parts = or_parts (test call) (list_any test rest) h in
    rw parts.0 (omega (arith, none_counted test rest parts.1))

pub any_there : {A : Type 0} (test : A → Bool) (calls : List A) (place : ℕ) (call : A) → slice_get calls place ≡ Some call → test call ≡ true → list_any test calls ≡ true
any_there test [] place call h passes = absurd (none-some call h)
any_there test (first ∷ rest) zero call h passes = or_left (test first) (list_any test rest) (ap test (same_Some first call h) ∙ passes)
any_there test (first ∷ rest) (suc place) call h passes = or_right (test first) (list_any test rest) (any_there test rest place call h passes)

-- a call that isn't moved, and passes the second test, has in front of the second window none before it that passes the first
pub none_in_front : (test later : Call → Bool) (moves : ℕ → Bool) (calls : List Call) (place : ℕ) (call : Call) → FailsAlone test → InTurn test later moves calls → slice_get calls place ≡ Some call → is_moved moves call (drop (suc place) calls) ≡ false → later call ≡ true → count test (front_before moves place calls) ≡ 0
none_in_front test later moves [] place call fails in_turn h stays passes = absurd (none-some call h)
none_in_front test later moves (first ∷ rest) zero call fails in_turn h stays passes = refl
none_in_front test later moves (first ∷ rest) (suc place) call fails in_turn h stays passes =
    let rest_is = none_in_front test later moves rest place call fails in_turn.1 h stays passes in
    let front = count-append test (started_again moves first rest) (front_before moves place rest) in
    let there : slice_get (first_calls moves rest) place ≡ Some call = rw stays at (first_get moves rest place call h) in
    let here : count test (started_again moves first rest) ≡ 0 =
    ⊎_elim
    (λ (is : is_moved moves first rest ≡ true).
    ⊎_elim
    (λ (tested : test first ≡ true).
    absurd (false≢true (sym (in_turn.0 is tested) ∙ any_there later (first_calls moves rest) place call there passes)))
    (λ (untested : test first ≡ false). rw (anew_moved moves first rest is, untested) refl)
    (cases_Bool (test first)))
    (λ (no : is_moved moves first rest ≡ false).
    let once = counts_once test moves first rest fails in
    let same : count test (as_first moves first rest ∷ []) ≡ count test (first ∷ []) = rw no refl in
    omega (arith, once, same))
    (cases_Bool (is_moved moves first rest)) in
    omega (arith, rest_is, front, here)

-- where no call passes the wider test, none passes the other
none_pass : (test later : Call → Bool) → ((c : Call) → test c ≡ true → later c ≡ true) → (calls : List Call) → list_any later calls ≡ false → list_any test calls ≡ false
none_pass test later implies [] h = refl
none_pass test later implies (one ∷ more) h =
    let parts = or_parts (later one) (list_any later more) h in
    ⊎_elim
    (λ (yes : test one ≡ true). absurd (false≢true (sym parts.0 ∙ implies one yes)))
    (λ (no : test one ≡ false). rw no (none_pass test later implies more parts.1))
    (cases_Bool (test one))

-- behind a moved call that passes, none passes in the first window
pub none_behind_moved : (test later : Call → Bool) (moves : ℕ → Bool) (calls : List Call) (place : ℕ) (call : Call) → FailsAlone test → InTurn test later moves calls → ((c : Call) → test c ≡ true → later c ≡ true) → slice_get calls place ≡ Some call → is_moved moves call (drop (suc place) calls) ≡ true → test call ≡ true → count test (first_calls moves calls) ≡ count test (take place (first_calls moves calls))
none_behind_moved test later moves [] place call fails in_turn implies h is passes = absurd (none-some call h)
none_behind_moved test later moves (first ∷ rest) zero call fails in_turn implies h is passes =
    let same : first ≡ call = same_Some first call h in
    let moved : is_moved moves first rest ≡ true = rw same is in
    let none : test (without_peer first) ≡ false = without_fails test first fails (moved_receives moves first rest moved) in
    let behind = in_turn.0 moved (ap test same ∙ passes) in
    let zero_behind = none_counted test (first_calls moves rest) (none_pass test later implies (first_calls moves rest) behind) in
    rw (moved, none) (omega (arith, zero_behind))
none_behind_moved test later moves (first ∷ rest) (suc place) call fails in_turn implies h is passes =
    let rest_is = none_behind_moved test later moves rest place call fails in_turn.1 implies h is passes in
    omega (arith, rest_is)

-- so the places in the first window are the first of those in the whole list
pub first_prefix : (test later : Call → Bool) (moves : ℕ → Bool) (n : ℕ) (calls : List Call) (k p : ℕ) → FailsAlone test → InTurn test later moves calls → ((c : Call) → test c ≡ true → later c ≡ true) → slice_get (places_from n test (first_calls moves calls)) k ≡ Some p → slice_get (places_from n test calls) k ≡ Some p
first_prefix test later moves n [] k p fails in_turn implies h = h
first_prefix test later moves n (call ∷ rest) k p fails in_turn implies h =
    ⊎_elim
    (λ (is : is_moved moves call rest ≡ true).
    let none : test (without_peer call) ≡ false = without_fails test call fails (moved_receives moves call rest is) in
    ⊎_elim
    (λ (tested : test call ≡ true).
    let nothing = none_counted test (first_calls moves rest) (none_pass test later implies (first_calls moves rest) (in_turn.0 is tested)) in
    let within : k < length (places_from (n + 1) test (first_calls moves rest)) = slice_get_within (places_from (n + 1) test (first_calls moves rest)) k p (rw (is, none) at h) in
    absurd (omega (arith, within, nothing, places_count (n + 1) test (first_calls moves rest))))
    (λ (untested : test call ≡ false). rw untested (first_prefix test later moves (n + 1) rest k p fails in_turn.1 implies (rw (is, none) at h)))
    (cases_Bool (test call)))
    (λ (no : is_moved moves call rest ≡ false).
    ⊎_elim
    (λ (tested : test call ≡ true). rw tested (first k (rw (no, tested) at h) (λ j. first_prefix test later moves (n + 1) rest j p fails in_turn.1 implies)))
    (λ (untested : test call ≡ false). rw untested (first_prefix test later moves (n + 1) rest k p fails in_turn.1 implies (rw (no, untested) at h)))
    (cases_Bool (test call)))
    (cases_Bool (is_moved moves call rest))
  where
    first : (k : ℕ) → slice_get (n ∷ places_from (n + 1) test (first_calls moves rest)) k ≡ Some p → ((j : ℕ) → slice_get (places_from (n + 1) test (first_calls moves rest)) j ≡ Some p → slice_get (places_from (n + 1) test rest) j ≡ Some p) → slice_get (n ∷ places_from (n + 1) test rest) k ≡ Some p
    first zero is later_on = is
    first (suc k) is later_on = later_on k is
