-- The numbers of communicators as they are given, by places of keys.
use Rattle.std.specs.Prelude.{◌≡◌, ℕ, ◌+◌, ◌<◌, ◌≤◌, Bool, true, false, ◌||◌, nat_lt, Option, Some, None, unwrap_or, if◌then◌else◌, List, [], ◌∷◌, ◌++◌, length, take, filter, slice_get, slice_range}
use Rattle.journals.specs.Known.{is_among}
use Rattle.mpicall.specs.declared.limits.TheConstants.{GREATEST_COMM}
use Rattle.closing.specs.declared.numbers.Numbering.{Numbering}
use Rattle.closing.specs.declared.numbers.Named.{Named}

-- these places have numbers, each that by which it stands in the list
pub record IsNumbered (numbers : List (Option ℕ)) (numbered : List ℕ) : Type 0 where
  pub given : (place number : ℕ) → slice_get numbers place ≡ Some (Some number)
      → slice_get numbered number ≡ Some place
  pub back : (place number : ℕ) → slice_get numbered number ≡ Some place
      → slice_get numbers place ≡ Some (Some number)
  pub few : length numbered ≤ GREATEST_COMM + 1

abbrev pub IsNumbering : Numbering → Type 0
IsNumbering it = IsNumbered it.numbers.items it.numbered.items

-- these are below a count
abbrev pub AreBelow : ℕ → List ℕ → Type 0
AreBelow count places = (n place : ℕ) → slice_get places n ≡ Some place → place < count

-- the places that have numbers, after one more: it gets the next, unless it has one or all are given
abbrev pub with_place : List ℕ → ℕ → List ℕ
with_place numbered place =
    if is_among place numbered || nat_lt GREATEST_COMM (length numbered)
    then numbered
    else numbered ++ place ∷ []

-- calls name the communicator of the key at a place
abbrev pub is_named_at : List Bool → ℕ → Bool
is_named_at named place = unwrap_or (slice_get named place) false

abbrev pub with_place_if : Bool → List ℕ → ℕ → List ℕ
with_place_if true numbered place = with_place numbered place
with_place_if false numbered place = numbered

-- after those of some places that calls name
abbrev pub with_places : List Bool → List ℕ → List ℕ → List ℕ
with_places named numbered [] = numbered
with_places named numbered (place ∷ places) =
    with_places named (with_place_if (is_named_at named place) numbered place) places

-- those of which there is one
abbrev pub as_places : Option ℕ → List ℕ
as_places None = []
as_places (Some place) = place ∷ []

-- what stands from one place up to another, if there are as many
abbrev pub got_between : List ℕ → ℕ → ℕ → List ℕ
got_between got start end = if nat_lt (length got) end then [] else slice_range got start end

-- what stands at a place, where anything does
abbrev pub or_none : {A : Type 0} → Option (Option A) → Option A
or_none None = None
or_none (Some it) = it

-- the number of a communicator, if it has one
abbrev pub number_in : Option Named → Option ℕ
number_in None = None
number_in (Some it) = it.number

-- the places that ranks got, by where those of each rank end, and what others report of each
abbrev pub places_from : List ℕ → List (Option ℕ) → ℕ → ℕ → List ℕ → List ℕ
places_from got inferred rank start [] = []
places_from got inferred rank start (end ∷ ends) =
    got_between got start end ++ as_places (or_none (slice_get inferred rank))
    ++ places_from got inferred (rank + 1) end ends

-- ---- What that is ----

-- each place once, where it stands first, but those that stood before
abbrev pub places_once : List ℕ → List ℕ → List ℕ
places_once before [] = []
places_once before (place ∷ places) =
    if is_among place before then places_once before places else place ∷ places_once (place ∷ before) places

-- the world's place, and then those that are named, each once, as far as there are numbers
abbrev pub numbered_places : List Bool → List ℕ → List ℕ
numbered_places named places =
    0 ∷ take GREATEST_COMM (places_once (0 ∷ []) (filter (is_named_at named) places))

-- to give those that are left numbers after others is to give all of them; those are below a count
pub record SameLeft (named : List Bool) (first all numbered left : List ℕ) (count : ℕ) : Type 0 where
  pub same : with_places named numbered left ≡ with_places named first all
  pub below : AreBelow count left
