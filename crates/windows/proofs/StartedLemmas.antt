-- Where a request was started, by the calls of a list one after another, and of lists that are put together.
use Rattle.std.proofs.Common.{◌≡◌, ℕ, suc, ◌+◌, ◌-◌, Bool, true, false, not, ◌&&◌, ◌||◌, Option, Some, None, if◌then◌else◌, List, [], ◌∷◌, ◌++◌, length, drop, refl, sym, ap, ◌∙◌, ⊎_elim, arith}
use Rattle.std.specs.List.{slice_get, list_any}
use Rattle.std.specs.Option.{option_map, option_and_then}
use Rattle.std.proofs.lemmas.List.Folds.{list_any-append}
use Rattle.std.proofs.lemmas.Option.{none-some, same_Some}
use Rattle.std.proofs.lemmas.Bool.{cases_Bool, false≢true, or_parts}
use Rattle.mpicall.specs.declared.call.Call.{Call}
use Rattle.callstore.specs.Places.{places_from, places}
use Rattle.callstore.proofs.OptionLemmas.{map_parts}
use Rattle.callstore.specs.Requests.{starts, completes, does_start, does_complete, last_of, unless_completed, started_in}
use Rattle.windows.proofs.PlaceCuts.{get-shift, places_count}

-- the same, told one call after another: by the calls that follow, if one of them starts it, else by the first call
abbrev pub started_from : Call → List Call → ℕ → Option ℕ
started_from call rest req =
    if list_any (does_start req) rest then option_map (λ place. suc place) (started_in rest req)
    else (if does_start req call && not (list_any (does_complete req) rest) then Some 0 else None)

-- the last of numbers that one is put before
last_behind : (number next : ℕ) (numbers : List ℕ) → last_of (number ∷ next ∷ numbers) ≡ last_of (next ∷ numbers)
last_behind number next numbers =
    let same : suc (suc (length numbers)) - 1 ≡ suc (suc (length numbers) - 1) = omega arith in
    rw same refl

-- the places of a list that begins at 1
last_shift : (test : Call → Bool) (calls : List Call) → last_of (places_from 1 test calls) ≡ option_map (λ place. 1 + place) (last_of (places test calls))
last_shift test calls =
    let same : length (places_from 1 test calls) ≡ length (places test calls) = places_count 1 test calls ∙ sym (places_count 0 test calls) in
    let start : 1 + 0 ≡ 1 = refl in
    rw same (get-shift 1 0 test calls (length (places test calls) - 1))

-- some call starts it exactly if there is a place of a start
none_at_all : (n : ℕ) (test : Call → Bool) (calls : List Call) → list_any test calls ≡ false → places_from n test calls ≡ []
none_at_all n test [] h = refl
none_at_all n test (call ∷ rest) h =
    let parts = or_parts (test call) (list_any test rest) h in
    rw parts.0 (none_at_all (n + 1) test rest parts.1)

some_place : (n : ℕ) (test : Call → Bool) (calls : List Call) → list_any test calls ≡ true → (first : ℕ) × (more : List ℕ) × (places_from n test calls ≡ first ∷ more)
some_place n test [] h = absurd (false≢true h)
some_place n test (call ∷ rest) h =
    ⊎_elim
    (λ (here : test call ≡ true). (n, places_from (n + 1) test rest, rw here refl))
    (λ (fails : test call ≡ false). let later = some_place (n + 1) test rest (rw fails at h) in (later.0, later.1, rw fails later.2))
    (cases_Bool (test call))

pub none_started : (calls : List Call) (req : ℕ) → list_any (does_start req) calls ≡ false → started_in calls req ≡ None
none_started calls req h = rw (none_at_all 0 (does_start req) calls h) refl

unless_behind : (call : Call) (rest : List Call) (req : ℕ) (o : Option ℕ) → option_and_then (unless_completed (call ∷ rest) req) (option_map (λ place. 1 + place) o) ≡ option_map (λ place. suc place) (option_and_then (unless_completed rest req) o)
unless_behind call rest req None = refl
unless_behind call rest req (Some place) =
    let next : 1 + place + 1 ≡ suc (place + 1) = omega arith in
    let number : 1 + place ≡ suc place = omega arith in
    rw (next, number)
    (⊎_elim
    (λ (is : list_any (does_complete req) (drop (place + 1) rest) ≡ true). rw is refl)
    (λ (no : list_any (does_complete req) (drop (place + 1) rest) ≡ false). rw no refl)
    (cases_Bool (list_any (does_complete req) (drop (place + 1) rest))))

pub started-cons : (call : Call) (rest : List Call) (req : ℕ) → started_in (call ∷ rest) req ≡ started_from call rest req
started-cons call rest req =
    ⊎_elim
    (λ (later : list_any (does_start req) rest ≡ true).
    let places_are = some_place 1 (does_start req) rest later in
    let last : last_of (places (does_start req) (call ∷ rest)) ≡ last_of (places_from 1 (does_start req) rest) =
    ⊎_elim
    (λ (here : does_start req call ≡ true). rw (here, places_are.2) (last_behind 0 places_are.0 places_are.1))
    (λ (fails : does_start req call ≡ false). rw fails refl)
    (cases_Bool (does_start req call)) in
    rw (last, last_shift (does_start req) rest, later) (unless_behind call rest req (last_of (places (does_start req) rest))))
    (λ (none : list_any (does_start req) rest ≡ false).
    rw (none_at_all 1 (does_start req) rest none, none)
    (⊎_elim
    (λ (here : does_start req call ≡ true).
    rw here
    (⊎_elim
    (λ (is : list_any (does_complete req) rest ≡ true). rw is refl)
    (λ (no : list_any (does_complete req) rest ≡ false). rw no refl)
    (cases_Bool (list_any (does_complete req) rest))))
    (λ (fails : does_start req call ≡ false). rw fails refl)
    (cases_Bool (does_start req call))))
    (cases_Bool (list_any (does_start req) rest))

-- ---- Lists that are put together ----

abbrev pub started_after : List Call → List Call → ℕ → Option ℕ
started_after calls more req =
    if list_any (does_start req) more then option_map (λ place. length calls + place) (started_in more req)
    else (if list_any (does_complete req) more then None else started_in calls req)

map_zero : (o : Option ℕ) → option_map (λ place. 0 + place) o ≡ o
map_zero None = refl
map_zero (Some place) = ap (λ (n : ℕ). Some n) (omega arith)

map_next : (n : ℕ) (o : Option ℕ) → option_map (λ place. suc place) (option_map (λ place. n + place) o) ≡ option_map (λ place. suc n + place) o
map_next n None = refl
map_next n (Some place) = ap (λ (m : ℕ). Some m) (omega arith)

pub started-append : (calls more : List Call) (req : ℕ) → started_in (calls ++ more) req ≡ started_after calls more req
started-append [] more req =
    ⊎_elim
    (λ (is : list_any (does_start req) more ≡ true). rw is (sym (map_zero (started_in more req))))
    (λ (no : list_any (does_start req) more ≡ false).
    rw (no, none_started more req no)
    (⊎_elim
    (λ (ends : list_any (does_complete req) more ≡ true). rw ends refl)
    (λ (stays : list_any (does_complete req) more ≡ false). rw stays refl)
    (cases_Bool (list_any (does_complete req) more))))
    (cases_Bool (list_any (does_start req) more))
started-append (call ∷ rest) more req =
    rw (started-cons call (rest ++ more) req, started-cons call rest req, started-append rest more req, list_any-append (does_start req) rest more, list_any-append (does_complete req) rest more)
    (by_more (list_any (does_start req) more) (list_any (does_start req) rest) (list_any (does_complete req) more) (list_any (does_complete req) rest) (started_in more req) (started_in rest req) (does_start req call))
  where
    by_more : (starts_more starts_rest completes_more completes_rest : Bool) (in_more in_rest : Option ℕ) (here : Bool) →
        (if starts_rest || starts_more then option_map (λ place. suc place) (if starts_more then option_map (λ place. length rest + place) in_more else (if completes_more then None else in_rest))
        else (if here && not (completes_rest || completes_more) then Some 0 else None))
        ≡ (if starts_more then option_map (λ place. suc (length rest) + place) in_more
        else (if completes_more then None else (if starts_rest then option_map (λ place. suc place) in_rest else (if here && not completes_rest then Some 0 else None))))
    by_more true true completes_more completes_rest in_more in_rest here = map_next (length rest) in_more
    by_more true false completes_more completes_rest in_more in_rest here = map_next (length rest) in_more
    by_more false true true completes_rest in_more in_rest here = refl
    by_more false true false completes_rest in_more in_rest here = refl
    by_more false false true true in_more in_rest true = refl
    by_more false false true true in_more in_rest false = refl
    by_more false false true false in_more in_rest true = refl
    by_more false false true false in_more in_rest false = refl
    by_more false false false true in_more in_rest true = refl
    by_more false false false true in_more in_rest false = refl
    by_more false false false false in_more in_rest true = refl
    by_more false false false false in_more in_rest false = refl

-- ---- Lists whose calls start and complete alike ----

abbrev pub AreAlike : List Call → List Call → Type 0
AreAlike [] [] = Unit {0}
AreAlike (call ∷ rest) (other ∷ more) = (starts call ≡ starts other) × (completes call ≡ completes other) × AreAlike rest more
AreAlike _ _ = ⊥

any_starts : (calls others : List Call) (req : ℕ) → AreAlike calls others → list_any (does_start req) calls ≡ list_any (does_start req) others
any_starts [] [] req h = refl
any_starts [] (other ∷ more) req h = absurd h
any_starts (call ∷ rest) [] req h = absurd h
any_starts (call ∷ rest) (other ∷ more) req h = rw (h.0, any_starts rest more req h.2) refl

any_completes : (calls others : List Call) (req : ℕ) → AreAlike calls others → list_any (does_complete req) calls ≡ list_any (does_complete req) others
any_completes [] [] req h = refl
any_completes [] (other ∷ more) req h = absurd h
any_completes (call ∷ rest) [] req h = absurd h
any_completes (call ∷ rest) (other ∷ more) req h = rw (h.1, any_completes rest more req h.2) refl

pub started_alike : (calls others : List Call) (req : ℕ) → AreAlike calls others → started_in calls req ≡ started_in others req
started_alike [] [] req h = refl
started_alike [] (other ∷ more) req h = absurd h
started_alike (call ∷ rest) [] req h = absurd h
started_alike (call ∷ rest) (other ∷ more) req h =
    started-cons call rest req
    ∙ rw (any_starts rest more req h.2, any_completes rest more req h.2, started_alike rest more req h.2, h.0) refl
    ∙ sym (started-cons other more req)

-- what an active request's start is followed by
pub record StartedAt (calls : List Call) (req place : ℕ) : Type 0 where
  pub call : Call
  pub stands_there : slice_get calls place ≡ Some call
  pub starts_it : does_start req call ≡ true
  pub stays : list_any (does_complete req) (drop (suc place) calls) ≡ false

pub started_at : (calls : List Call) (req place : ℕ) → started_in calls req ≡ Some place → StartedAt calls req place
started_at [] req place h = absurd (none-some place h)
started_at (call ∷ rest) req place h =
    let at_cons : started_from call rest req ≡ Some place = sym (started-cons call rest req) ∙ h in
    ⊎_elim
    (λ (later : list_any (does_start req) rest ≡ true).
    let parts = map_parts (λ place. suc place) (started_in rest req) place (rw later at at_cons) in
    let behind = started_at rest req parts.0 parts.1 in
    rw (← parts.2) (record { call = behind.call; stands_there = behind.stands_there; starts_it = behind.starts_it; stays = behind.stays }))
    (λ (none : list_any (does_start req) rest ≡ false).
    by_first (does_start req call) (list_any (does_complete req) rest) refl refl (rw none at at_cons))
    (cases_Bool (list_any (does_start req) rest))
  where
    by_first : (here ends : Bool) → does_start req call ≡ here → list_any (does_complete req) rest ≡ ends → (if here && not ends then Some 0 else None) ≡ Some place → StartedAt (call ∷ rest) req place
    by_first false ends is are found = absurd (none-some place found)
    by_first true true is are found = absurd (none-some place found)
    by_first true false is are found =
        rw (← same_Some 0 place found) (record { call = call; stands_there = refl; starts_it = is; stays = are })
