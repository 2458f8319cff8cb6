-- The keys of a run as they are kept: each by its place, with its parent and its group by theirs.
use Rattle.std.specs.Prelude.{◌≡◌, ◌⊎◌, ℕ, ◌<◌, Option, Some, None, unwrap_or, List, [], ◌∷◌, ◌++◌, length, slice_get}
use Rattle.std.specs.List.{range_with_len}
use Rattle.closing.specs.Keys.{Key, World, Alone, Made, Duplicated, OfGroup, Apart}
use Rattle.closing.specs.RankComms.{Wave}
use Rattle.closing.specs.Table.{Table, group_or_none}
use Rattle.closing.specs.declared.keys.Key.{Key as KeyCode}
use Rattle.closing.specs.declared.keys.Key.TheVariants as code
use Rattle.closing.specs.declared.keys.Wave.{Wave as WaveCode}

-- ---- The keys ----

abbrev pub key_or_world : List Key → ℕ → Key
key_or_world keys place = unwrap_or (slice_get keys place) World

-- what a key of the code is, by these groups and these keys
abbrev pub key_of : List (List ℕ) → List Key → KeyCode → Key
key_of groups keys code.World = World
key_of groups keys (code.Alone rank group) = Alone rank
key_of groups keys (code.Made wave group) = Made (key_or_world keys wave.parent) wave.count (group_or_none groups group)
key_of groups keys (code.Duplicated wave group) = Duplicated (key_or_world keys wave.parent) wave.count (group_or_none groups group)
key_of groups keys (code.OfGroup group count) = OfGroup (group_or_none groups group) count
key_of groups keys (code.Apart group count) = Apart (group_or_none groups group) count

-- these keys, and then those that keys of the code are, each by those before it
abbrev pub keys_from : List (List ℕ) → List Key → List KeyCode → List Key
keys_from groups keys [] = keys
keys_from groups keys (it ∷ codes) = keys_from groups (keys ++ key_of groups keys it ∷ []) codes

-- the keys in the order of their places
unfoldable pub keys_in : Table → List Key
keys_in table = keys_from table.groups [] table.codes

abbrev pub HasKey : Table → ℕ → Key → Type 0
HasKey table place key = slice_get (keys_in table) place ≡ Some key

abbrev pub HasGroup : Table → ℕ → List ℕ → Type 0
HasGroup table place group = slice_get table.groups place ≡ Some group

-- how many ranks the world has, whose group is the first
abbrev pub ranks_in : Table → ℕ
ranks_in table = length (group_or_none table.groups 0)

-- ---- What is true of it ----

-- the group of the key has a place, and its parent one of so many
abbrev pub IsPlaced : List (List ℕ) → ℕ → KeyCode → Type 0
IsPlaced groups count code.World = Unit {0}
IsPlaced groups count (code.Alone rank group) = slice_get groups group ≡ Some (rank ∷ [])
IsPlaced groups count (code.Made wave group) = (wave.parent < count) × (group < length groups)
IsPlaced groups count (code.Duplicated wave group) = (wave.parent < count) × (group < length groups)
IsPlaced groups count (code.OfGroup group times) = group < length groups
IsPlaced groups count (code.Apart group times) = group < length groups

-- no two places have the same
abbrev pub IsEachOnce : {A : Type 0} → List A → Type 0
IsEachOnce {A} things = (place other : ℕ) (it : A) → slice_get things place ≡ Some it → slice_get things other ≡ Some it → place ≡ other

-- the things are what they were, or one more that wasn't there
abbrev pub IsSameOrMore : {A : Type 0} → A → List A → List A → Type 0
IsSameOrMore it old new = (new ≡ old) ⊎ ((new ≡ old ++ it ∷ []) × ((place : ℕ) → slice_get old place ≡ Some it → ⊥))

pub record IsTable (table : Table) : Type 0 where
  pub long : length (keys_in table) ≡ length table.codes
  pub world : HasKey table 0 World
  pub ranks : HasGroup table 0 (range_with_len 0 (ranks_in table))
  pub placed : (place : ℕ) (it : KeyCode) → slice_get table.codes place ≡ Some it → IsPlaced table.groups place it
  pub read : (place : ℕ) (it : KeyCode) → slice_get table.codes place ≡ Some it → HasKey table place (key_of table.groups (keys_in table) it)
  pub keys_once : IsEachOnce (keys_in table)
  pub groups_once : IsEachOnce table.groups

-- what stood at a place of a table stands there still
pub record Grows (old new : Table) : Type 0 where
  pub table : IsTable new
  pub codes : (place : ℕ) (it : KeyCode) → slice_get old.codes place ≡ Some it → slice_get new.codes place ≡ Some it
  pub keys : (place : ℕ) (key : Key) → HasKey old place key → HasKey new place key
  pub groups : (place : ℕ) (group : List ℕ) → HasGroup old place group → HasGroup new place group
  pub ranks : ranks_in new ≡ ranks_in old

-- ---- Places of what is there, if it is ----

-- both are none, or the place is that of the key
abbrev pub IsPlaceOf : Table → Option ℕ → Option Key → Type 0
IsPlaceOf table None None = Unit {0}
IsPlaceOf table (Some place) (Some key) = HasKey table place key
IsPlaceOf table _ _ = ⊥

-- both are none, or the parent's place is that of the parent and the counts are the same
abbrev pub IsWaveOf : Table → Option WaveCode → Option Wave → Type 0
IsWaveOf table None None = Unit {0}
IsWaveOf table (Some it) (Some wave) = HasKey table it.parent wave.parent × (it.count ≡ wave.count)
IsWaveOf table _ _ = ⊥
