-- The keys of a run, and the groups that they name, as they are kept: each by its place.
use Rattle.std.specs.Prelude.{ℕ, Option, Some, None, unwrap_or, List, [], slice_get}
use Rattle.closing.specs.declared.keys.Key.{Key}
use Rattle.closing.specs.declared.keys.Key.TheVariants as code

pub record Table : Type 0 where
  pub codes : List Key
  pub groups : List (List ℕ)

abbrev pub group_or_none : List (List ℕ) → ℕ → List ℕ
group_or_none groups place = unwrap_or (slice_get groups place) []

-- the place of the group of a key
abbrev pub group_place : Key → ℕ
group_place code.World = 0
group_place (code.Alone rank group) = group
group_place (code.Made wave group) = group
group_place (code.Duplicated wave group) = group
group_place (code.OfGroup group times) = group
group_place (code.Apart group times) = group

abbrev pub group_by_code : List (List ℕ) → Option Key → List ℕ
group_by_code groups None = []
group_by_code groups (Some it) = group_or_none groups (group_place it)

-- the group of the key at a place; none beyond all
abbrev pub group_at : Table → ℕ → List ℕ
group_at table place = group_by_code table.groups (slice_get table.codes place)
