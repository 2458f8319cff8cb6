-- What one more call changes about a request, and where an active one was started.
use Rattle.std.proofs.Common.{◌≡◌, ℕ, ◌+◌, ◌-◌, ◌<◌, Bool, true, false, Option, Some, None, List, [], ◌∷◌, ◌++◌, length, drop, refl, ap, subst, ◌∙◌, ⊎_elim, arith, length-append}
use Rattle.std.specs.List.{slice_get, list_any}
use Rattle.std.specs.Option.{option_and_then}
use Rattle.std.proofs.lemmas.List.{drop-append-le, drop_all}
use Rattle.std.proofs.lemmas.List.Folds.{list_any-append}
use Rattle.std.proofs.lemmas.Option.{slice_get_within, none-some, same_Some}
use Rattle.std.proofs.lemmas.Bool.{cases_Bool}
use Rattle.mpicall.specs.declared.call.Call.{Call}
use Rattle.mpigroup.proofs.ListLemmas.{get_end}
use Rattle.callstore.specs.Places.{places}
use Rattle.callstore.specs.Requests.{does_start, does_complete, last_of, unless_completed, started_in}
use Rattle.callstore.proofs.OptionLemmas.{and_then_parts}
use Rattle.callstore.proofs.PlaceLemmas.{nth_place}
use Rattle.callstore.proofs.PlacesLemmas.{places_push, places_push_not}

-- the last one of a list that one is added to
last_of-push : (numbers : List ℕ) (number : ℕ) → last_of (numbers ++ number ∷ []) ≡ Some number
last_of-push numbers number =
    let end : length numbers ≡ length (numbers ++ number ∷ []) - 1 = omega (arith, length-append numbers (number ∷ [])) in
    subst (λ (i : ℕ). slice_get (numbers ++ number ∷ []) i ≡ Some number) end (get_end numbers number)

drop_past : (calls : List Call) (call : Call) → drop (length calls + 1) (calls ++ call ∷ []) ≡ []
drop_past calls call = drop_all (length calls + 1) (calls ++ call ∷ []) (omega (arith, length-append calls (call ∷ [])))

unless_last : (calls : List Call) (call : Call) (req : ℕ) → unless_completed (calls ++ call ∷ []) req (length calls) ≡ Some (length calls)
unless_last calls call req = rw (drop_past calls call) refl

-- the call starts the request
pub starts_it : (calls : List Call) (call : Call) (req : ℕ) → does_start req call ≡ true → started_in (calls ++ call ∷ []) req ≡ Some (length calls)
starts_it calls call req here =
    ap (λ (numbers : List ℕ). option_and_then (unless_completed (calls ++ call ∷ []) req) (last_of numbers)) (places_push 0 (does_start req) calls call here)
    ∙ ap (λ (o : Option ℕ). option_and_then (unless_completed (calls ++ call ∷ []) req) o) (last_of-push (places (does_start req) calls) (0 + length calls))
    ∙ ap (λ (place : ℕ). unless_completed (calls ++ call ∷ []) req place) (omega arith)
    ∙ unless_last calls call req

-- a place that is among those of a test is within the list
pub place_within : (test : Call → Bool) (calls : List Call) (k place : ℕ) → slice_get (places test calls) k ≡ Some place → place < length calls
place_within test calls k place h =
    let nth = nth_place 0 test calls k place h in
    let within = slice_get_within calls nth.index nth.element nth.stands_there in
    omega (arith, nth.place, within)

-- the place stays unless the call completes the request
unless_more : (calls : List Call) (call : Call) (req place : ℕ) → place < length calls → does_complete req call ≡ false → unless_completed (calls ++ call ∷ []) req place ≡ unless_completed calls req place
unless_more calls call req place within fails =
    rw (drop-append-le (place + 1) calls (call ∷ []) (omega (arith, within)), list_any-append (does_complete req) (drop (place + 1) calls) (call ∷ [])) (
    ⊎_elim
    (λ (e : list_any (does_complete req) (drop (place + 1) calls) ≡ true). rw e refl)
    (λ (e : list_any (does_complete req) (drop (place + 1) calls) ≡ false). rw (e, fails) refl)
    (cases_Bool (list_any (does_complete req) (drop (place + 1) calls)))
    )

unless_none : (calls : List Call) (call : Call) (req place : ℕ) → place < length calls → does_complete req call ≡ true → unless_completed (calls ++ call ∷ []) req place ≡ None
unless_none calls call req place within passes =
    rw (drop-append-le (place + 1) calls (call ∷ []) (omega (arith, within)), list_any-append (does_complete req) (drop (place + 1) calls) (call ∷ [])) (
    ⊎_elim
    (λ (e : list_any (does_complete req) (drop (place + 1) calls) ≡ true). rw e refl)
    (λ (e : list_any (does_complete req) (drop (place + 1) calls) ≡ false). rw (e, passes) refl)
    (cases_Bool (list_any (does_complete req) (drop (place + 1) calls)))
    )

none_after : (calls : List Call) (call : Call) (req k : ℕ) (o : Option ℕ) → slice_get (places (does_start req) calls) k ≡ o → does_complete req call ≡ true → option_and_then (unless_completed (calls ++ call ∷ []) req) o ≡ None
none_after calls call req k None e passes = refl
none_after calls call req k (Some place) e passes =
    unless_none calls call req place (place_within (does_start req) calls k place e) passes

same_after : (calls : List Call) (call : Call) (req k : ℕ) (o : Option ℕ) → slice_get (places (does_start req) calls) k ≡ o → does_complete req call ≡ false → option_and_then (unless_completed (calls ++ call ∷ []) req) o ≡ option_and_then (unless_completed calls req) o
same_after calls call req k None e fails = refl
same_after calls call req k (Some place) e fails =
    unless_more calls call req place (place_within (does_start req) calls k place e) fails

-- the call completes the request
pub completes_it : (calls : List Call) (call : Call) (req : ℕ) → does_start req call ≡ false → does_complete req call ≡ true → started_in (calls ++ call ∷ []) req ≡ None
completes_it calls call req fails passes =
    rw (places_push_not 0 (does_start req) calls call fails)
    (none_after calls call req (length (places (does_start req) calls) - 1) (last_of (places (does_start req) calls)) refl passes)

-- the call does neither
pub leaves_it : (calls : List Call) (call : Call) (req : ℕ) → does_start req call ≡ false → does_complete req call ≡ false → started_in (calls ++ call ∷ []) req ≡ started_in calls req
leaves_it calls call req fails stays =
    rw (places_push_not 0 (does_start req) calls call fails)
    (same_after calls call req (length (places (does_start req) calls) - 1) (last_of (places (does_start req) calls)) refl stays)

unless_parts : (calls : List Call) (req place start : ℕ) → unless_completed calls req place ≡ Some start → place ≡ start
unless_parts calls req place start h =
    ⊎_elim
    (λ (e : list_any (does_complete req) (drop (place + 1) calls) ≡ true). absurd (none-some start (rw e at h)))
    (λ (e : list_any (does_complete req) (drop (place + 1) calls) ≡ false). same_Some place start (rw e at h))
    (cases_Bool (list_any (does_complete req) (drop (place + 1) calls)))

-- what is where an active request was started
pub record Started (calls : List Call) (req start : ℕ) : Type 0 where
  pub starter : Call
  pub stands_there : slice_get calls start ≡ Some starter
  pub starts_it : does_start req starter ≡ true

pub started : (calls : List Call) (req start : ℕ) → started_in calls req ≡ Some start → Started calls req start
started calls req start h =
    let parts = and_then_parts (unless_completed calls req) (last_of (places (does_start req) calls)) start h in
    let same = unless_parts calls req parts.0 start parts.2 in
    let nth = nth_place 0 (does_start req) calls (length (places (does_start req) calls) - 1) parts.0 parts.1 in
    let there : nth.index ≡ start = omega (arith, nth.place, same) in
    record {
      starter = nth.element;
      stands_there = subst (λ (x : ℕ). slice_get calls x ≡ Some nth.element) there nth.stands_there;
      starts_it = nth.passes;
    }
