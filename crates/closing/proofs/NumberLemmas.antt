-- The numbers of communicators as they are given.
use Rattle.std.proofs.Common.{◌≡◌, refl, sym, ap, subst, ◌∙◌, ℕ, zero, suc, ◌+◌, ◌-◌, ◌≤◌, ◌<◌, inl, inr, arith, Bool, true, false, ◌||◌, ◌==◌, nat_lt, if◌then◌else◌, lt-ltb, le-ltb, append_assoc, take, filter, List, [], ◌∷◌, ◌++◌, length, drop, set, Option, Some, None, is_some}
use Rattle.std.specs.Prelude.{slice_get}
use Rattle.std.proofs.lemmas.Bool.{cases_Bool, cases_eq, cases_lt, false≢true}
use Rattle.std.proofs.lemmas.List.{length_push}
use Rattle.journals.specs.Known.{is_among}
use Rattle.mpicall.specs.declared.limits.TheConstants.{GREATEST_COMM}
use Rattle.closing.specs.inner.Given.{AreBelow, IsNumbered, SameLeft, is_named_at, with_place, numbered_places, places_once, with_place_if, with_places, got_between, as_places, or_none, places_from}
use Rattle.closing.proofs.NumberLists.{among_found, among_place, drop_here, get_append, get_second, get_last, get_push, get_set_other, get_set_same, or_true, push_cases}

-- a place has a number exactly if it is among those that have
pub number_test : (numbers : List (Option ℕ)) (numbered : List ℕ) (place : ℕ) (it : Option ℕ) → IsNumbered numbers numbered → slice_get numbers place ≡ Some it → is_some it ≡ is_among place numbered
number_test numbers numbered place (Some number) h e = sym (among_found numbered number place (h.given place number e))
number_test numbers numbered place None h e = elim (cases_Bool (is_among place numbered)) [
  | inl holds ↦ let at = among_place numbered place holds in absurd (cc (h.back place at.0 at.1, e))
  | inr fails ↦ sym fails
]

-- one past them has none
pub number_past : (numbers : List (Option ℕ)) (numbered : List ℕ) (place : ℕ) → IsNumbered numbers numbered → slice_get numbers place ≡ None → false ≡ is_among place numbered
number_past numbers numbered place h e = elim (cases_Bool (is_among place numbered)) [
  | inl holds ↦ let at = among_place numbered place holds in absurd (cc (h.back place at.0 at.1, e))
  | inr fails ↦ sym fails
]

-- nothing has a number
pub numbered_none : (numbers : List (Option ℕ)) → ((place number : ℕ) → slice_get numbers place ≡ Some (Some number) → ⊥) → IsNumbered numbers []
numbered_none numbers h = record { given = λ place number e. absurd (h place number e); back = λ place number e. absurd (cc (e)); few = omega arith }

given_push : (numbers : List (Option ℕ)) (numbered : List ℕ) (place : ℕ) → IsNumbered numbers numbered → place < length numbers → (other number : ℕ) → slice_get (set numbers place (Some (length numbered))) other ≡ Some (Some number) → slice_get (numbered ++ place ∷ []) number ≡ Some other
given_push numbers numbered place h inside other number e = elim (cases_eq place other) [
  | inl same ↦
      let there = get_set_same numbers place (Some (length numbered)) inside in
      let P : ℕ → Type 0 = λ k. slice_get (set numbers place (Some (length numbered))) k ≡ Some (Some number) in
      let here : slice_get (set numbers place (Some (length numbered))) place ≡ Some (Some number) = subst P (sym same) e in
      let k : number ≡ length numbered = cc (there, here) in
      get_last numbered place number k ∙ ap Some same
  | inr other_one ↦ get_push numbered place number other (h.given other number (sym (get_set_other numbers place other (Some (length numbered)) other_one) ∙ e))
]

back_push : (numbers : List (Option ℕ)) (numbered : List ℕ) (place : ℕ) → IsNumbered numbers numbered → is_among place numbered ≡ false → place < length numbers → (other number : ℕ) → slice_get (numbered ++ place ∷ []) number ≡ Some other → slice_get (set numbers place (Some (length numbered))) other ≡ Some (Some number)
back_push numbers numbered place h fails inside other number e = elim (push_cases numbered place number other e) [
  | inl old ↦
      let apart : place ≡ other → ⊥ = λ same. let f = among_found numbered number other old in false≢true (sym fails ∙ ap (λ k. is_among k numbered) same ∙ f) in
      get_set_other numbers place other (Some (length numbered)) apart ∙ h.back other number old
  | inr new ↦
      let P : ℕ → Type 0 = λ k. slice_get (set numbers place (Some (length numbered))) k ≡ Some (Some number) in
      let there = get_set_same numbers place (Some (length numbered)) inside in
      subst P (sym new.1) (there ∙ ap (λ k. Some (Some k)) (sym new.0))
]

-- one gets the next number
pub numbered_push : (numbers : List (Option ℕ)) (numbered : List ℕ) (place : ℕ) → IsNumbered numbers numbered → is_among place numbered ≡ false → length numbered ≤ GREATEST_COMM → place < length numbers → IsNumbered (set numbers place (Some (length numbered))) (numbered ++ place ∷ [])
numbered_push numbers numbered place h fails few inside = record {
  given = given_push numbers numbered place h inside;
  back = back_push numbers numbered place h fails inside;
  few = omega (arith, length_push numbered place);
}

-- the next of some places
pub places_step : (named : List Bool) (numbered places : List ℕ) (n place : ℕ) (all : List ℕ) → slice_get places n ≡ Some place → with_places named numbered (drop n places) ≡ all → with_places named (with_place_if (is_named_at named place) numbered place) (drop (n + 1) places) ≡ all
places_step named numbered places n place all e h = sym (ap (λ xs. with_places named numbered xs) (drop_here places n place e)) ∙ h

pub given_step : (named : List Bool) (cur new keys : List ℕ) (n key : ℕ) (all : List ℕ) → slice_get keys n ≡ Some key → is_named_at named key ≡ true → new ≡ with_place cur key → with_places named cur (drop n keys) ≡ all → with_places named new (drop (n + 1) keys) ≡ all
given_step named cur new keys n key all e holds put h =
    ap (λ xs. with_places named xs (drop (n + 1) keys)) (put ∙ sym (ap (λ b. with_place_if b cur key) holds))
    ∙ places_step named cur keys n key all e h

pub skip_step : (named : List Bool) (cur keys : List ℕ) (n key : ℕ) (all : List ℕ) → slice_get keys n ≡ Some key → is_named_at named key ≡ false → with_places named cur (drop n keys) ≡ all → with_places named cur (drop (n + 1) keys) ≡ all
skip_step named cur keys n key all e fails h =
    ap (λ xs. with_places named xs (drop (n + 1) keys)) (sym (ap (λ b. with_place_if b cur key) fails))
    ∙ places_step named cur keys n key all e h

-- ---- Ranks one after the other ----

pub places_append : (named : List Bool) (numbered first others : List ℕ) → with_places named numbered (first ++ others) ≡ with_places named (with_places named numbered first) others
places_append named numbered [] others = refl
places_append named numbered (place ∷ first) others = places_append named (with_place_if (is_named_at named place) numbered place) first others

pub below_first : (count : ℕ) (first others : List ℕ) → AreBelow count (first ++ others) → AreBelow count first
below_first count first others h n place e = h n place (get_append first others n place e)

pub below_others : (count : ℕ) (first others : List ℕ) → AreBelow count (first ++ others) → AreBelow count others
below_others count first others h n place e = h (length first + n) place (get_second first others (length first + n) n refl ∙ e)

-- a rank's keys are given numbers: those that it got, and what others report
pub rank_given : (named : List Bool) (first all got inferred left cur mid new : List ℕ) (count : ℕ) → SameLeft named first all cur (got ++ inferred ++ left) count → (AreBelow count got → mid ≡ with_places named cur got) → (AreBelow count inferred → new ≡ with_places named mid inferred) → SameLeft named first all new left count
rank_given named first all got inferred left cur mid new count h one two =
    let both : AreBelow count (got ++ inferred) = below_first count (got ++ inferred) left h.below in
    let a = one (below_first count got inferred both) in
    let b = two (below_others count got inferred both) in
    record {
      same =
          ap (λ xs. with_places named xs left) (b ∙ ap (λ xs. with_places named xs inferred) a ∙ sym (places_append named cur got inferred))
          ∙ sym (places_append named cur (got ++ inferred) left) ∙ h.same;
      below = below_others count (got ++ inferred) left h.below;
    }

pub rank_step : (named : List Bool) (first all got : List ℕ) (inferred : List (Option ℕ)) (ends : List ℕ) (rank start end : ℕ) (cur mid new : List ℕ) (count : ℕ) → slice_get ends rank ≡ Some end → SameLeft named first all cur (places_from got inferred rank start (drop rank ends)) count → (AreBelow count (got_between got start end) → mid ≡ with_places named cur (got_between got start end)) → (AreBelow count (as_places (or_none (slice_get inferred rank))) → new ≡ with_places named mid (as_places (or_none (slice_get inferred rank)))) → SameLeft named first all new (places_from got inferred (rank + 1) end (drop (rank + 1) ends)) count
rank_step named first all got inferred ends rank start end cur mid new count e h one two =
    let P : List ℕ → Type 0 = λ xs. SameLeft named first all cur (places_from got inferred rank start xs) count in
    rank_given named first all (got_between got start end) (as_places (or_none (slice_get inferred rank))) (places_from got inferred (rank + 1) end (drop (rank + 1) ends)) cur mid new count (subst P (drop_here ends rank end e) h) one two

-- ---- What is given ----

-- one that has a number gets none
pub place_had : (numbered : List ℕ) (place : ℕ) → is_among place numbered ≡ true → with_place numbered place ≡ numbered
place_had numbered place holds = ap (λ b. if b || nat_lt GREATEST_COMM (length numbered) then numbered else numbered ++ place ∷ []) holds

-- nor does one where all are given
pub place_late : (numbered : List ℕ) (place : ℕ) → GREATEST_COMM < length numbered → with_place numbered place ≡ numbered
place_late numbered place late =
    let holds : (is_among place numbered || nat_lt GREATEST_COMM (length numbered)) ≡ true =
    ap (λ b. is_among place numbered || b) (lt-ltb GREATEST_COMM (length numbered) late) ∙ or_true (is_among place numbered) in
    ap (λ b. if b then numbered else numbered ++ place ∷ []) holds

pub place_new : (numbered : List ℕ) (place : ℕ) → is_among place numbered ≡ false → length numbered ≤ GREATEST_COMM → with_place numbered place ≡ numbered ++ place ∷ []
place_new numbered place new few =
    let fails : (is_among place numbered || nat_lt GREATEST_COMM (length numbered)) ≡ false =
    ap (λ b. b || nat_lt GREATEST_COMM (length numbered)) new ∙ le-ltb GREATEST_COMM (length numbered) few in
    ap (λ b. if b then numbered else numbered ++ place ∷ []) fails

late_if : (numbered : List ℕ) (place : ℕ) (b : Bool) → GREATEST_COMM < length numbered → with_place_if b numbered place ≡ numbered
late_if numbered place true late = place_late numbered place late
late_if numbered place false late = refl

all_late : (named : List Bool) (numbered places : List ℕ) → GREATEST_COMM < length numbered → with_places named numbered places ≡ numbered
all_late named numbered [] late = refl
all_late named numbered (place ∷ places) late =
    ap (λ xs. with_places named xs places) (late_if numbered place (is_named_at named place) late) ∙ all_late named numbered places late

take_none : (n : ℕ) → take {A = ℕ} n [] ≡ []
take_none zero = refl
take_none (suc n) = refl

append_none : (xs : List ℕ) → xs ++ [] ≡ xs
append_none [] = refl
append_none (x ∷ xs) = ap (λ ys. x ∷ ys) (append_none xs)

or_swap : (a b : Bool) → (a || (b || false)) ≡ (b || a)
or_swap true true = refl
or_swap true false = refl
or_swap false true = refl
or_swap false false = refl

or_assoc : (a b c : Bool) → ((a || b) || c) ≡ (a || (b || c))
or_assoc true b c = refl
or_assoc false b c = refl

among_append : (other place : ℕ) (xs : List ℕ) → is_among other (xs ++ place ∷ []) ≡ (is_among other xs || ((place == other) || false))
among_append other place [] = refl
among_append other place (x ∷ xs) = ap (λ b. (x == other) || b) (among_append other place xs) ∙ sym (or_assoc (x == other) (is_among other xs) ((place == other) || false))

same_more : (numbered before : List ℕ) (place : ℕ) → ((other : ℕ) → is_among other numbered ≡ is_among other before) → (other : ℕ) → is_among other (numbered ++ place ∷ []) ≡ is_among other (place ∷ before)
same_more numbered before place same other =
    among_append other place numbered ∙ or_swap (is_among other numbered) (place == other) ∙ ap (λ b. (place == other) || b) (same other)

filter_no : (named : List Bool) (place : ℕ) (places : List ℕ) → is_named_at named place ≡ false → filter (is_named_at named) (place ∷ places) ≡ filter (is_named_at named) places
filter_no named place places fails = rw fails refl

filter_yes : (named : List Bool) (place : ℕ) (places : List ℕ) → is_named_at named place ≡ true → filter (is_named_at named) (place ∷ places) ≡ place ∷ filter (is_named_at named) places
filter_yes named place places holds = rw holds refl

-- one that is named, before others
given_named : (named : List Bool) (numbered before : List ℕ) (place : ℕ) (places : List ℕ) → ((other : ℕ) → is_among other numbered ≡ is_among other before) → length numbered ≤ GREATEST_COMM + 1
    → with_places named numbered places ≡ numbered ++ take (GREATEST_COMM + 1 - length numbered) (places_once before (filter (is_named_at named) places))
    → (GREATEST_COMM < length numbered → with_places named numbered places ≡ numbered)
    → (length numbered ≤ GREATEST_COMM → with_places named (numbered ++ place ∷ []) places ≡ (numbered ++ place ∷ []) ++ take (GREATEST_COMM + 1 - length (numbered ++ place ∷ [])) (places_once (place ∷ before) (filter (is_named_at named) places)))
    → with_places named (with_place numbered place) places ≡ numbered ++ take (GREATEST_COMM + 1 - length numbered) (places_once before (place ∷ filter (is_named_at named) places))
given_named named numbered before place places same few had late fits =
    let rest = filter (is_named_at named) places in
    elim (cases_Bool (is_among place before)) [
      | inl holds ↦
          ap (λ xs. with_places named xs places) (place_had numbered place (same place ∙ holds)) ∙ had
          ∙ ap (λ xs. numbered ++ take (GREATEST_COMM + 1 - length numbered) xs) (sym (ap (λ b. if b then places_once before rest else place ∷ places_once (place ∷ before) rest) holds))
      | inr fails ↦
          let once : places_once before (place ∷ rest) ≡ place ∷ places_once (place ∷ before) rest = ap (λ b. if b then places_once before rest else place ∷ places_once (place ∷ before) rest) fails in
          elim (cases_lt GREATEST_COMM (length numbered)) [
            | inl full ↦
                let none : GREATEST_COMM + 1 - length numbered ≡ 0 = omega arith in
                ap (λ xs. with_places named xs places) (place_late numbered place full) ∙ late full
                ∙ sym (ap (λ n. numbered ++ take n (places_once before (place ∷ rest))) none ∙ append_none numbered)
            | inr room ↦
                let more : GREATEST_COMM + 1 - length numbered ≡ suc (GREATEST_COMM + 1 - length (numbered ++ place ∷ [])) = omega (arith, length_push numbered place) in
                ap (λ xs. with_places named xs places) (place_new numbered place (same place ∙ fails) room) ∙ fits room
                ∙ append_assoc numbered (place ∷ []) (take (GREATEST_COMM + 1 - length (numbered ++ place ∷ [])) (places_once (place ∷ before) rest))
                ∙ sym (ap (λ xs. numbered ++ take (GREATEST_COMM + 1 - length numbered) xs) once ∙ ap (λ n. numbered ++ take n (place ∷ places_once (place ∷ before) rest)) more)
          ]
    ]

-- each that is named gets the next number where it comes first, as far as there are numbers
given_is : (named : List Bool) (numbered before places : List ℕ) → ((other : ℕ) → is_among other numbered ≡ is_among other before) → length numbered ≤ GREATEST_COMM + 1 → with_places named numbered places ≡ numbered ++ take (GREATEST_COMM + 1 - length numbered) (places_once before (filter (is_named_at named) places))
given_is named numbered before [] same few = sym (ap (λ xs. numbered ++ xs) (take_none (GREATEST_COMM + 1 - length numbered)) ∙ append_none numbered)
given_is named numbered before (place ∷ places) same few = elim (cases_Bool (is_named_at named place)) [
  | inr fails ↦
      ap (λ b. with_places named (with_place_if b numbered place) places) fails
      ∙ given_is named numbered before places same few
      ∙ ap (λ xs. numbered ++ take (GREATEST_COMM + 1 - length numbered) (places_once before xs)) (sym (filter_no named place places fails))
  | inl holds ↦
      ap (λ b. with_places named (with_place_if b numbered place) places) holds
      ∙ given_named named numbered before place places same few (given_is named numbered before places same few) (λ late. all_late named numbered places late) (λ fits. given_is named (numbered ++ place ∷ []) (place ∷ before) places (same_more numbered before place same) (omega (arith, length_push numbered place)))
      ∙ ap (λ xs. numbered ++ take (GREATEST_COMM + 1 - length numbered) (places_once before xs)) (sym (filter_yes named place places holds))
]

-- from the world on
pub numbered_is : (named : List Bool) (places : List ℕ) → with_places named (0 ∷ []) places ≡ numbered_places named places
numbered_is named places = given_is named (0 ∷ []) (0 ∷ []) places (λ other. refl) (omega arith)
