-- What a rank has, as it is kept: by places of keys and of groups.
use Rattle.std.specs.Prelude.{◌≡◌, ℕ, ◌==◌, nat_eq, Bool, true, false, Option, Some, None, unwrap_or, option_map, option_and_then, List, [], ◌∷◌, ◌++◌, slice_get}
use Rattle.std.specs.List.{AllZip, count_by}
use Rattle.std.specs.HashMap.{HashMap, get}
use Rattle.journals.specs.Lines.{Line}
use Rattle.journals.specs.declared.field.Field.{Field}
use Rattle.journals.specs.declared.field.Field.TheVariants.{Natural}
use Rattle.journals.specs.declared.word.ReportWord.{ReportWord}
use Rattle.journals.specs.declared.word.ReportWord.TheVariants as report
use Rattle.journals.specs.declared.word.Word.TheVariants.{Report}
use Rattle.closing.specs.Called.{Called, comm_of, naturals_in}
use Rattle.closing.specs.Keys.{Key}
use Rattle.closing.specs.RankComms.{RankComms, Wave, key_under, under, with_some, with_made, with_duplicated, with_apart}
use Rattle.closing.specs.Table.{Table}
use Rattle.closing.specs.inner.Table.{HasKey, HasGroup, IsTable, IsPlaceOf, IsWaveOf}
use Rattle.closing.specs.declared.rank_comms.RankComms.{RankComms as CommsCode}
use Rattle.closing.specs.declared.rank_numbers.RankNumbers.{RankNumbers}

-- a key in the list, or else in the map
abbrev pub key_or : Option (Option ℕ) → Option ℕ → Option ℕ
key_or (Some (Some key)) far = Some key
key_or _ far = far

-- the place of the key of a number
abbrev pub key_kept : RankNumbers → ℕ → Option ℕ
key_kept numbers number = key_or (slice_get numbers.near.items number) (get nat_eq numbers.far number)

-- how often a place stood
abbrev pub times_in : {S : Type 0} → HashMap ℕ ℕ S → ℕ → ℕ
times_in counts place = unwrap_or (get nat_eq counts place) 0

-- the counts of these places, at which these things stand
pub record IsCounted {A S : Type 0} (Stands : ℕ → A → Type 0) (counts : HashMap ℕ ℕ S) (things : List A) : Type 0 where
  pub places : List ℕ
  pub counted : (place : ℕ) → times_in counts place ≡ count_by (λ other. other == place) places
  pub stand : AllZip Stands places things

-- what is kept is what the rank has, with this table
pub record HasComms (table : Table) (it : CommsCode) (comms : RankComms) : Type 0 where
  pub table_is : IsTable table
  pub numbers : (number : ℕ) → IsPlaceOf table (key_kept it.numbers number) (under number comms.numbers)
  pub waves : IsCounted (HasKey table) it.waves comms.waves
  pub duplicates : (request : ℕ) → IsWaveOf table (get nat_eq it.duplicates request) (under request comms.duplicates)
  pub groups : IsCounted (HasGroup table) it.groups comms.groups
  pub apart : IsCounted (HasGroup table) it.apart comms.apart
  pub wave : IsWaveOf table it.wave comms.wave
  pub own : IsPlaceOf table it.own comms.own

-- the key of the communicator that a call is on
abbrev pub key_on : RankComms → Called → Option Key
key_on comms it = option_and_then (key_under comms) (comm_of it)

-- those on which it made calls of all members, with that of a next call
abbrev pub waves_with : RankComms → Option Wave → List Key
waves_with comms wave = with_some comms.waves (option_map (λ wave. wave.parent) wave)

-- a line that reports this
abbrev pub reported_line : ReportWord → List Field → Line
reported_line word fields = record { word = Report word; fields = fields }

-- what the rank has after a communicator of what no call line says
unfoldable pub apart_taken : RankComms → ℕ → List ℕ → RankComms
apart_taken comms number group = with_apart comms number group

-- a report with the word may bring the rank a communicator
abbrev pub brings : ReportWord → Bool
brings report.Comm = true
brings report.Idup = true
brings report.Apart = true
brings word = false

-- what the rank has after a report, by its fields
abbrev pub report_taken : RankComms → ReportWord → List Field → RankComms
report_taken comms report.Comm (Natural number ∷ members) = with_made comms number (naturals_in members) comms.own
report_taken comms report.Idup (Natural number ∷ Natural request ∷ members) = with_duplicated comms number request (naturals_in members)
report_taken comms report.Apart (Natural number ∷ members) = apart_taken comms number (naturals_in members)
report_taken comms word fields = comms

-- the key at the place, if there is one, is what the rank got
abbrev pub IsGot : Table → Option ℕ → List Key → List Key → Type 0
IsGot table None before after = after ≡ before
IsGot table (Some place) before after = (key : Key) × HasKey table place key × (after ≡ before ++ key ∷ [])
