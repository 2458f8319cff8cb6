-- Requests of lawful lists.
use Rattle.std.proofs.Common.{inl, inr, ◌≡◌, ℕ, zero, suc, ◌+◌, ◌-◌, ◌<◌, ◌≤◌, ◌⊎◌, Bool, true, false, eqb, Option, Some, None, List, [], ◌∷◌, ◌++◌, if◌then◌else◌, length, take, refl, sym, ap, subst, ◌∙◌, ⊎_elim, arith, length-take-le}
use Rattle.std.specs.List.{slice_get, list_any, list_all}
use Rattle.std.specs.Option.{is_some}
use Rattle.std.proofs.lemmas.List.{take_more, take_all}
use Rattle.std.proofs.lemmas.Option.{slice_get_within, none-some, same_Some, get_or_from_slice_get}
use Rattle.std.proofs.lemmas.Bool.{false≢true, cases_Bool, eqb-true}
use Rattle.mpicall.specs.declared.call.Call.{Call}
use Rattle.callstore.specs.Recordings.{calls_of}
use Rattle.callstore.specs.Requests.{starts, waits_for, does_start, does_complete, is_among, started_in, is_active}
use Rattle.pairing.specs.Faults.{starts_afresh, IsLawfulList, EachWaitHasItsStarts, NoTwoStartsAreActive}
use Rattle.mpigroup.specs.Groups.{Groups}
use Rattle.pairing.proofs.ActiveLemmas.{started-push}
use Rattle.callstore.proofs.OptionLemmas.{is_it}
use Rattle.callstore.proofs.PlaceLemmas.{slice_get_there}
use Rattle.callstore.proofs.RequestLemmas.{started}
use Rattle.pairing.proofs.FaultLemmas.{fault_none, not_true}

-- an element of a list's front, or of what is left of it, is one of the list
pub get_take : {A : Type 0} (n : ℕ) (xs : List A) (i : ℕ) (x : A) → slice_get (take n xs) i ≡ Some x → (i < n) × (slice_get xs i ≡ Some x)
get_take zero xs i x h = absurd (none-some x h)
get_take (suc n) [] i x h = absurd (none-some x h)
get_take (suc n) (y ∷ ys) zero x h = (omega arith, h)
get_take (suc n) (y ∷ ys) (suc i) x h =
    let rest = get_take n ys i x h in
    (omega (arith, rest.0), rest.1)

-- where some element passes, it is somewhere
pub record Found {A : Type 0} (test : A → Bool) (xs : List A) : Type 0 where
  pub index : ℕ
  pub element : A
  pub stands_there : slice_get xs index ≡ Some element
  pub passes : test element ≡ true

found_later : {A : Type 0} (test : A → Bool) (x : A) (xs : List A) → Found test xs → Found test (x ∷ xs)
found_later test x xs found = record { index = suc found.index; element = found.element; stands_there = found.stands_there; passes = found.passes }

pub find_any : {A : Type 0} (test : A → Bool) (xs : List A) → list_any test xs ≡ true → Found test xs
find_any test [] h = absurd (false≢true h)
find_any test (x ∷ xs) h =
    ⊎_elim
    (λ (here : test x ≡ true). record { index = 0; element = x; stands_there = refl; passes = here })
    (λ (fails : test x ≡ false). found_later test x xs (find_any test xs (rw fails at h)))
    (cases_Bool (test x))

-- what passes for all numbers passes for one among them
all_among : (test : ℕ → Bool) (number : ℕ) (numbers : List ℕ) → list_all test numbers ≡ true → is_among number numbers ≡ true → test number ≡ true
all_among test number [] all among = absurd (false≢true among)
all_among test number (other ∷ others) all among =
    ⊎_elim
    (λ (passes : test other ≡ true).
    ⊎_elim
    (λ (same : eqb other number ≡ true). rw (eqb-true other number same) at passes)
    (λ (differs : eqb other number ≡ false). all_among test number others (rw passes at all) (rw differs at among))
    (cases_Bool (eqb other number)))
    (λ (fails : test other ≡ false). absurd (false≢true (rw fails at all)))
    (cases_Bool (test other))

pub some_parts : {A : Type 0} (o : Option A) → is_some o ≡ true → (x : A) × (o ≡ Some x)
some_parts None h = absurd (false≢true h)
some_parts (Some x) h = (x, refl)

pub each_wait_has_its_starts : EachWaitHasItsStarts
each_wait_has_its_starts groups recording rank place call req lawful here among =
    let calls : List Call = calls_of recording rank in
    let active = (fault_none groups rank (take place calls) call (lawful place call here)).active in
    let found = some_parts (started_in (take place calls) req) (all_among (is_active (take place calls)) req (waits_for call) active among) in
    let start = started (take place calls) req found.0 found.1 in
    let there = get_take place calls found.0 start.starter start.stands_there in (
      found.0,
      rw (here, among) found.1,
      there.0,
      (start.starter, there.1, start.starts_it),
    )

-- a request that may be started isn't active
not_active : (calls : List Call) (req : ℕ) (restarter : Call) → starts_afresh calls restarter ≡ true → does_start req restarter ≡ true → is_active calls req ≡ false
not_active calls req restarter afresh here = not_true (is_active calls req) (rw (is_it req (starts restarter) here) at afresh)

-- what started a request once the call at the place is made
after_call : (calls : List Call) (place req : ℕ) (call : Call) → slice_get calls place ≡ Some call → started_in (take (place + 1) calls) req ≡ (if does_start req call then Some place else if does_complete req call then None else started_in (take place calls) req)
after_call calls place req call here =
    let within = slice_get_within calls place call here in
    let count : length (take place calls) ≡ place = length-take-le place calls (omega (arith, within)) in
    ap (λ (front : List Call). started_in front req) (take_more calls place call within ∙ ap (λ (x : Call). take place calls ++ x ∷ []) (get_or_from_slice_get calls place call call here))
    ∙ started-push (take place calls) call req
    ∙ ap (λ (n : ℕ). if does_start req call then Some n else if does_complete req call then None else started_in (take place calls) req) count

-- a call before the end completes the request as the call at `start` started it
pub record IsCompleted (calls : List Call) (req start end : ℕ) : Type 0 where
  pub wait : ℕ
  pub call : Call
  pub behind : start < wait
  pub before : wait < end
  pub stands_there : slice_get calls wait ≡ Some call
  pub completes_it : does_complete req call ≡ true
  pub started_there : started_in (take wait calls) req ≡ Some start

-- after a start its request stays active, up to the call that completes it
stays_or_ends : (groups : Groups) (rank : ℕ) (calls : List Call) (req start place : ℕ) (call : Call) → IsLawfulList groups rank calls → start < place → slice_get calls place ≡ Some call → started_in (take place calls) req ≡ Some start → (started_in (take (place + 1) calls) req ≡ Some start) ⊎ IsCompleted calls req start (place + 1)
stays_or_ends groups rank calls req start place call lawful behind here active =
    ⊎_elim
    (λ (starts_it : does_start req call ≡ true).
    let afresh = (fault_none groups rank (take place calls) call (lawful place call here)).afresh in
    absurd (false≢true (sym (not_active (take place calls) req call afresh starts_it) ∙ ap is_some active)))
    (λ (no_start : does_start req call ≡ false).
    ⊎_elim
    (λ (ends : does_complete req call ≡ true).
    inr (record { wait = place; call = call; behind = behind; before = omega arith; stands_there = here; completes_it = ends; started_there = active }))
    (λ (stays : does_complete req call ≡ false). inl (after_call calls place req call here ∙ rw (no_start, stays) active))
    (cases_Bool (does_complete req call)))
    (cases_Bool (does_start req call))

onward : (groups : Groups) (rank : ℕ) (calls : List Call) (req start more : ℕ) (starter : Call) → IsLawfulList groups rank calls → slice_get calls start ≡ Some starter → does_start req starter ≡ true → start + 1 + more ≤ length calls → (started_in (take (start + 1 + more) calls) req ≡ Some start) ⊎ IsCompleted calls req start (start + 1 + more)
onward groups rank calls req start zero starter lawful here starts_it within =
    let same : start + 1 ≡ start + 1 + 0 = omega arith in
    inl (subst (λ (n : ℕ). started_in (take n calls) req ≡ Some start) same (after_call calls start req starter here ∙ rw starts_it refl))
onward groups rank calls req start (suc more) starter lawful here starts_it within =
    let next = slice_get_there calls (start + 1 + more) (omega arith) in
    let same : start + 1 + more + 1 ≡ start + 1 + suc more = omega arith in
    ⊎_elim
    (λ (active : started_in (take (start + 1 + more) calls) req ≡ Some start).
    subst (λ (n : ℕ). (started_in (take n calls) req ≡ Some start) ⊎ IsCompleted calls req start n) same
    (stays_or_ends groups rank calls req start (start + 1 + more) next.0 lawful (omega arith) next.1 active))
    (λ (completed : IsCompleted calls req start (start + 1 + more)).
    inr (record {
      wait = completed.wait;
      call = completed.call;
      behind = completed.behind;
      before = omega (arith, completed.before);
      stands_there = completed.stands_there;
      completes_it = completed.completes_it;
      started_there = completed.started_there;
    }))
    (onward groups rank calls req start more starter lawful here starts_it (omega arith))

completed_before : (groups : Groups) (rank : ℕ) (calls : List Call) (req start end : ℕ) (starter : Call) → IsLawfulList groups rank calls → slice_get calls start ≡ Some starter → does_start req starter ≡ true → start < end → end ≤ length calls → (started_in (take end calls) req ≡ Some start → ⊥) → IsCompleted calls req start end
completed_before groups rank calls req start end starter lawful here starts_it less within inactive =
    let same : start + 1 + (end - (start + 1)) ≡ end = omega arith in
    ⊎_elim
    (λ (active : started_in (take end calls) req ≡ Some start). absurd (inactive active))
    (λ (completed : IsCompleted calls req start end). completed)
    (subst (λ (n : ℕ). (started_in (take n calls) req ≡ Some start) ⊎ IsCompleted calls req start n) same
    (onward groups rank calls req start (end - (start + 1)) starter lawful here starts_it (omega arith)))

pub no_two_starts_are_active : NoTwoStartsAreActive
no_two_starts_are_active groups rank calls req start later starter restarter lawful less here starts_it there restarts_it =
    let afresh = (fault_none groups rank (take later calls) restarter (lawful later restarter there)).afresh in
    let within = slice_get_within calls later restarter there in
    let completed = completed_before groups rank calls req start later starter lawful here starts_it less (omega (arith, within))
    (λ active. false≢true (sym (not_active (take later calls) req restarter afresh restarts_it) ∙ ap is_some active)) in
    (completed.wait, completed.behind, completed.before, (completed.call, completed.stands_there, completed.completes_it))

-- a start that isn't active after the calls was completed
pub start_is_completed : (groups : Groups) (rank : ℕ) (calls : List Call) (req start : ℕ) (starter : Call) → IsLawfulList groups rank calls → slice_get calls start ≡ Some starter → does_start req starter ≡ true → (started_in calls req ≡ Some start → ⊥) → IsCompleted calls req start (length calls)
start_is_completed groups rank calls req start starter lawful here starts_it inactive =
    completed_before groups rank calls req start (length calls) starter lawful here starts_it (slice_get_within calls start starter here) (omega arith)
    (λ active. inactive (ap (λ (front : List Call). started_in front req) (sym (take_all (length calls) calls (omega arith))) ∙ active))

-- and after a call that completes a request only a later start of it is active
later_start : (calls : List Call) (req wait start : ℕ) (call : Call) (more : ℕ) → slice_get calls wait ≡ Some call → does_complete req call ≡ true → wait + 1 + more ≤ length calls → started_in (take (wait + 1 + more) calls) req ≡ Some start → wait ≤ start
later_start calls req wait start call zero here completes_it within active =
    let same : wait + 1 + 0 ≡ wait + 1 = omega arith in
    at_start (does_start req call) (sym (after_call calls wait req call here) ∙ rw same at active)
  where
    at_start : (b : Bool) → (if b then Some wait else if does_complete req call then None else started_in (take wait calls) req) ≡ Some start → wait ≤ start
    at_start true h = omega (arith, same_Some wait start h)
    at_start false h = absurd (none-some start (rw completes_it at h))
later_start calls req wait start call (suc more) here completes_it within active =
    let next = slice_get_there calls (wait + 1 + more) (omega arith) in
    let same : wait + 1 + suc more ≡ wait + 1 + more + 1 = omega arith in
    at_next (does_start req next.0) (does_complete req next.0) (later_start calls req wait start call more here completes_it (omega arith)) (sym (after_call calls (wait + 1 + more) req next.0 next.1) ∙ rw same at active)
  where
    at_next : (b d : Bool) → (started_in (take (wait + 1 + more) calls) req ≡ Some start → wait ≤ start) → (if b then Some (wait + 1 + more) else if d then None else started_in (take (wait + 1 + more) calls) req) ≡ Some start → wait ≤ start
    at_next true d rest h = omega (arith, same_Some (wait + 1 + more) start h)
    at_next false true rest h = absurd (none-some start h)
    at_next false false rest h = rest h

pub completed_is_over : (calls : List Call) (req wait start : ℕ) (call : Call) → slice_get calls wait ≡ Some call → does_complete req call ≡ true → started_in (take wait calls) req ≡ Some start → started_in calls req ≡ Some start → ⊥
completed_is_over calls req wait start call here completes_it started_there active =
    let it = started (take wait calls) req start started_there in
    let before = (get_take wait calls start it.starter it.stands_there).0 in
    let within = slice_get_within calls wait call here in
    let all : take (wait + 1 + (length calls - (wait + 1))) calls ≡ calls = take_all (wait + 1 + (length calls - (wait + 1))) calls (omega (arith, within)) in
    let least = later_start calls req wait start call (length calls - (wait + 1)) here completes_it (omega (arith, within)) (ap (λ (front : List Call). started_in front req) all ∙ active) in
    omega (arith, before, least)
