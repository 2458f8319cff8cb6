-- The communicators of a run as they are kept, by places of keys, are those of its journals.
use Rattle.std.specs.Prelude.{◌≡◌, ℕ, ◌<◌, ◌&&◌, ◌==◌, Bool, true, false, Option, None, Some, List, ◌∷◌, length, map, slice_get}
use Rattle.std.specs.List.{AllZip, filter_map, flat_map, list_any}
use Rattle.std.specs.HashSet.{contains_by}
use Rattle.closing.specs.Keys.{Key, World, group_of_key, is_key_among}
use Rattle.closing.specs.Entries.{Run, entries_at, is_window, ranks_of}
use Rattle.closing.specs.FitComms.{HasFitComms}
use Rattle.closing.specs.Made.{inferred_key}
use Rattle.closing.specs.Numbers.{number_of, numbered_keys, preface_lines}
use Rattle.closing.specs.inner.Given.{IsNumbered, or_none}
use Rattle.closing.specs.inner.Prefaces.{AreRanks, IsPreface, Seated}
use Rattle.closing.specs.inner.Surveyed.{keys_got}
use Rattle.closing.specs.Table.{Table, group_at}
use Rattle.closing.specs.inner.Table.{HasKey, IsPlaceOf, IsTable, ranks_in}
use Rattle.closing.specs.declared.keys.Key.{Key as KeyCode}
use Rattle.closing.specs.declared.keys.Key.TheVariants as code
use Rattle.closing.specs.declared.keys.Wave.{Wave as WaveCode}
use Rattle.closing.specs.declared.numbers.Communicators.{Communicators}
use Rattle.closing.specs.declared.numbers.Named.{Named}
use Rattle.closing.specs.declared.numbers.Preface.{Preface}

-- ---- Of the run ----

-- it is the world's, or a rank gets it by its lines
abbrev pub is_known : Run → Key → Bool
is_known run key = is_key_among key (World ∷ flat_map (keys_got run) (ranks_of run))

-- ---- By places of keys ----

-- of each place the size and the number
pub record AreNamed (table : Table) (given : List (Option ℕ)) (named : List Named) : Type 0 where
  pub numbers : map (λ it. it.number) named ≡ given
  pub keys : (place : ℕ) (it : Named) → slice_get named place ≡ Some it → it.key ≡ place
  pub sizes : (place : ℕ) (it : Named) → slice_get named place ≡ Some it → it.size ≡ length (group_at table place)

abbrev pub same_wave : WaveCode → WaveCode → Bool
same_wave wave other = wave.parent == other.parent && wave.count == other.count

-- the wave whose calls make it
abbrev pub wave_made : KeyCode → Option WaveCode
wave_made (code.Made wave group) = Some wave
wave_made it = None

abbrev pub is_same_wave : Option WaveCode → WaveCode → Bool
is_same_wave None other = false
is_same_wave (Some wave) other = same_wave wave other

-- the calls of the wave make it
abbrev pub is_of_wave : WaveCode → Option KeyCode → Bool
is_of_wave wave (Some (code.Made other group)) = same_wave other wave
is_of_wave wave it = false

-- they make one of those that stand at some places
abbrev pub brings_at : Table → List ℕ → WaveCode → Bool
brings_at table places wave = list_any (λ place. is_of_wave wave (slice_get table.codes place)) places

-- the groups of the keys at some places have only ranks of so many as members
abbrev pub AreGroupsOf : Table → ℕ → List ℕ → Type 0
AreGroupsOf table ranks places = (n place : ℕ) → slice_get places n ≡ Some place → AreRanks ranks (group_at table place)

-- ---- What is kept ----

abbrev pub named_as : Run → ℕ → Key → Named
named_as run place key = record { key = place; size = length (group_of_key (length run) key); number = number_of run key }

-- a known key has a place, and what is kept of it is its size and its number
pub record IsKept (run : Run) (it : Communicators) (key : Key) : Type 0 where
  pub place : ℕ
  pub has : HasKey it.keys place key
  pub named : slice_get it.named.items place ≡ Some (named_as run place key)

-- a communicator of the preface is that of a key
pub record IsSeatOf (run : Run) (it : Seated) (key : Key) : Type 0 where
  pub group : it.group ≡ group_of_key (length run) key
  pub number : number_of run key ≡ Some it.comm

pub record HasPreface (run : Run) (it : Preface) (count : ℕ) : Type 0 where
  pub lines : List (List Seated)
  pub ranks : it.ranks ≡ length run
  pub is : IsPreface it count lines
  pub same : AllZip (AllZip (IsSeatOf run)) lines (preface_lines run)

-- what is kept is what the journals say, also where the table has grown since
pub record IsNumberedRun (run : Run) (it : Communicators) : Type 0 where
  pub fit : HasFitComms run
  pub window : it.is_window ≡ is_window run
  pub table : IsTable it.keys
  pub ranks : ranks_in it.keys ≡ length run
  pub numbered : AllZip (HasKey it.keys) it.numbered.items (numbered_keys run)
  pub numbers : IsNumbered (map (λ one. one.number) it.named.items) it.numbered.items
  pub kept : (key : Key) → is_known run key ≡ true → IsKept run it key
  pub bringing : (wave : WaveCode) → contains_by (same_wave wave) it.bringing ≡ brings_at it.keys it.numbered.items wave
  pub inferred : (rank : ℕ) → rank < length run
      → IsPlaceOf it.keys (or_none (slice_get it.inferred.items rank)) (slice_get (filter_map (inferred_key run) (entries_at run rank)) 0)
  pub preface : HasPreface run it.preface (length it.numbered.items)
