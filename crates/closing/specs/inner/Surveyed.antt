-- What the survey of the journals of a run keeps of its communicators.
use Rattle.std.specs.Prelude.{◌≡◌, ℕ, ◌+◌, ◌<◌, ◌≤◌, ◌&&◌, ◌==◌, not, Bool, Option, None, Some, unwrap_or, option_map, option_and_then, if◌then◌else◌, true, false, List, [], ◌∷◌, ◌++◌, length, map, slice_get, slice_set, filter, replicate}
use Rattle.std.specs.List.{AllZip, filter_map, find, flat_map, list_all, list_any, range_with_len}
use Rattle.std.specs.Option.{option_map_or}
use Rattle.mpicall.specs.Word.{or_else}
use Rattle.journals.specs.Lines.{Line}
use Rattle.journals.specs.Known.{is_among}
use Rattle.journals.specs.Taking.{word_at, fields_at}
use Rattle.journals.specs.declared.field.Field.{Field}
use Rattle.journals.specs.declared.word.Word.{Word}
use Rattle.journals.specs.declared.word.Word.TheVariants.{Call, Report}
use Rattle.journals.specs.Journal.{Journal}
use Rattle.journals.specs.JournalAnswers.{heading_in}
use Rattle.journals.specs.declared.journal.Journal.{Journal as JournalCode}
use Rattle.closing.specs.Called.{called, comm_of}
use Rattle.closing.specs.Keys.{Key, Made, same_key, has_member, is_key_among}
use Rattle.closing.specs.RankComms.{RankComms, Wave, key_next, comms_first, comms_after, after_line}
use Rattle.closing.specs.Entries.{Run, Placed, lines_at, entries_at, ranks_of}
use Rattle.closing.specs.Made.{wave_at, may_give, inferred_key}
use Rattle.closing.specs.Numbers.{is_named}
use Rattle.closing.specs.inner.Holds.{HasComms, brings, key_on}
use Rattle.closing.specs.inner.Words.{is_bare, is_plain}
use Rattle.closing.specs.Table.{Table}
use Rattle.closing.specs.inner.Table.{Grows, HasKey, IsTable, IsPlaceOf, IsWaveOf, ranks_in}
use Rattle.closing.specs.declared.keys.Wave.{Wave as WaveCode}
use Rattle.closing.specs.declared.rank_comms.RankComms.{RankComms as CommsCode}
use Rattle.closing.specs.declared.survey.Survey.{Survey}

abbrev pub journal_of_code : JournalCode → Journal
journal_of_code it = record { heading = heading_in it.header; lines = it.lines }

-- the run whose journals these are
abbrev pub run_of_journals : List (Option JournalCode) → Run
run_of_journals journals = map (option_map journal_of_code) journals

-- the keys that a rank got by its lines
abbrev pub keys_got : Run → ℕ → List Key
keys_got run rank = (comms_after rank (lines_at run rank)).keys

-- where the keys of each end, all in one list
abbrev pub ends_from : ℕ → List (List Key) → List ℕ
ends_from start [] = []
ends_from start (keys ∷ others) = (start + length keys) ∷ ends_from (start + length keys) others

-- the wave of an entry's call, where that may have made a communicator, and never came back
abbrev pub waits_for : Placed → Option Wave
waits_for placed = if may_give placed.called && not placed.came_back then wave_at placed else None

abbrev pub as_list : {A : Type 0} → Option A → List A
as_list None = []
as_list (Some it) = it ∷ []

-- a rank waits for the wave that its last entry waits for, if there is one
pub record IsWaiting (run : Run) (it : Survey) (rank : ℕ) : Type 0 where
  pub wave : Option WaveCode
  pub stands : slice_get it.waiting.items rank ≡ Some wave
  pub is : IsWaveOf it.keys wave (slice_get (filter_map waits_for (entries_at run rank)) 0)

-- what a rank's last call made stands by the place of its key
pub record IsInferred (run : Run) (it : Survey) (rank : ℕ) : Type 0 where
  pub place : Option ℕ
  pub stands : slice_get it.inferred.items rank ≡ Some place
  pub is : AllZip (HasKey it.keys) (as_list place) (filter_map (inferred_key run) (entries_at run rank))

-- what is kept is what the journals say
pub record IsSurveyed (run : Run) (it : Survey) : Type 0 where
  pub table : IsTable it.keys
  pub ranks : ranks_in it.keys ≡ length run
  pub got : AllZip (HasKey it.keys) it.got.items (flat_map (keys_got run) (ranks_of run))
  pub ends : it.ends.items ≡ ends_from 0 (map (keys_got run) (ranks_of run))
  pub named : (place : ℕ) (key : Key) → HasKey it.keys place key → unwrap_or (slice_get it.named.items place) false ≡ is_named run key
  pub waiting : (rank : ℕ) → rank < length run → IsWaiting run it rank
  pub inferred : (rank : ℕ) → rank < length run → IsInferred run it rank

-- the call of the line at a place may give its rank a communicator
abbrev pub gives_by : Option Word → List Field → Bool
gives_by (Some (Call word)) fields = may_give (called word fields)
gives_by _ fields = false

abbrev pub gives_at : List Line → ℕ → Bool
gives_at lines place = gives_by (word_at lines place) (fields_at lines place)

-- ---- While the lines of a rank are taken ----

-- the keys that a line names, of a rank that had this before it
abbrev pub names_by : RankComms → Word → List Field → List Key
names_by comms (Call word) fields = as_list (or_else (key_next comms (called word fields)) (key_on comms (called word fields)))
names_by comms (Report word) fields = []

abbrev pub names_from : RankComms → List Line → List Key
names_from comms [] = []
names_from comms (line ∷ lines) = names_by comms line.word line.fields ++ names_from (after_line comms line) lines

-- the keys that the calls of a rank name
abbrev pub names_at : Run → ℕ → List Key
names_at run rank = names_from (comms_first rank) (lines_at run rank)

-- the flag of each key says whether it is among these, each of which has a place
pub record HaveFlags (table : Table) (flags : List Bool) (names : List Key) : Type 0 where
  pub named : (place : ℕ) (key : Key) → HasKey table place key → unwrap_or (slice_get flags place) false ≡ is_key_among key names
  pub there : (key : Key) → is_key_among key names ≡ true → (place : ℕ) × HasKey table place key

-- these keys were got so far, and these were named
pub record HasGot (gots names : List Key) (it : Survey) : Type 0 where
  pub table : IsTable it.keys
  pub got : AllZip (HasKey it.keys) it.got.items gots
  pub named : HaveFlags it.keys it.named.items names
  pub few : length it.named.items ≤ length it.keys.codes

-- a rank has this, after others got keys
pub record HasRank (before names : List Key) (comms : RankComms) (it : Survey) (kept : CommsCode) : Type 0 where
  pub has : HasGot (before ++ comms.keys) names it
  pub room : length it.named.items ≡ length it.keys.codes
  pub has_comms : HasComms it.keys kept comms

pub record Keeps (before names : List Key) (comms : RankComms) (old new : Survey) (kept : CommsCode) : Type 0 where
  pub is : HasRank before names comms new kept
  pub grows : Grows old.keys new.keys

-- with the flag of a key
abbrev pub with_name : Option ℕ → List Bool → List Bool
with_name None flags = flags
with_name (Some place) flags = slice_set flags place true

-- ---- Journals that name the world alone ----

-- the world, or no communicator
abbrev pub is_world_if_any : Option ℕ → Bool
is_world_if_any None = true
is_world_if_any (Some comm) = comm == 0

abbrev pub is_world : Option ℕ → Bool
is_world None = false
is_world (Some comm) = comm == 0

-- a line brings no communicator, counts on none, and names none but the world
abbrev pub keeps_to_world : Word → List Field → Bool
keeps_to_world (Call word) fields = if is_plain word then is_world_if_any (comm_of (called word fields)) else is_bare word
keeps_to_world (Report word) fields = not (brings word)

abbrev pub names_world : Word → List Field → Bool
names_world (Call word) fields = is_plain word && is_world (comm_of (called word fields))
names_world (Report word) fields = false

abbrev pub keep_to_world : List Line → Bool
keep_to_world lines = list_all (λ line. keeps_to_world line.word line.fields) lines

abbrev pub name_world : List Line → Bool
name_world lines = list_any (λ line. names_world line.word line.fields) lines

-- the place of the world's key, where that is so
abbrev pub world_place : Bool → Option ℕ
world_place true = Some 0
world_place false = None

-- the same of the line at a place; no line does neither
abbrev pub keeps_at : List Line → ℕ → Bool
keeps_at lines place = option_map_or (λ line. keeps_to_world line.word line.fields) (slice_get lines place) true

abbrev pub names_at_place : List Line → ℕ → Bool
names_at_place lines place = option_map_or (λ line. names_world line.word line.fields) (slice_get lines place) false

-- what the journals of the first ranks say
pub record IsSurveyedTo (run : Run) (rank : ℕ) (it : Survey) : Type 0 where
  pub has : HasGot (flat_map (keys_got run) (range_with_len 0 rank)) (flat_map (names_at run) (range_with_len 0 rank)) it
  pub ranks : ranks_in it.keys ≡ length run
  pub ends : it.ends.items ≡ ends_from 0 (map (keys_got run) (range_with_len 0 rank))
  pub count : length it.waiting.items ≡ rank
  pub waiting : (other : ℕ) → other < rank → IsWaiting run it other
  pub inferred : it.inferred.items ≡ replicate (length run) None

-- what is kept after the journal of a rank, and the wave that its last call waits for
pub record TakesRank (run : Run) (rank : ℕ) (before names : List Key) (old new : Survey) (wave : Option WaveCode) : Type 0 where
  pub has : HasGot (before ++ keys_got run rank) (names ++ names_at run rank) new
  pub grows : Grows old.keys new.keys
  pub waits : IsWaveOf new.keys wave (slice_get (filter_map waits_for (entries_at run rank)) 0)

-- ---- What others report ----

-- a call of the wave made it
abbrev pub is_made_by : Wave → Key → Bool
is_made_by wave (Made parent count group) = same_key wave.parent parent && wave.count == count
is_made_by wave _ = false

-- the first of some keys that a call of the wave made, with this rank in its group
abbrev pub found_in : ℕ → ℕ → List Key → Wave → Option Key
found_in ranks rank keys wave = find (has_member ranks rank) (filter (is_made_by wave) keys)

-- a rank waits for this wave, by places
abbrev pub waits_by : Option (Option WaveCode) → WaveCode → Bool
waits_by (Some (Some it)) wave = it.parent == wave.parent && it.count == wave.count
waits_by _ wave = false

abbrev pub waits_at : List (Option WaveCode) → ℕ → WaveCode → Bool
waits_at waiting rank wave = waits_by (slice_get waiting rank) wave

-- each rank waits for its wave
abbrev pub Await : Survey → ℕ → (ℕ → Option Wave) → Type 0
Await it ranks wave = (rank : ℕ) → rank < ranks →
    (waiting : Option WaveCode) × (slice_get it.waiting.items rank ≡ Some waiting) × IsWaveOf it.keys waiting (wave rank)

-- nothing is inferred so far
abbrev pub HaveNone : Survey → ℕ → Type 0
HaveNone it ranks = (rank : ℕ) → rank < ranks → slice_get it.inferred.items rank ≡ Some None

-- a place is put where nothing is, if it is to be
abbrev pub put_if : Bool → ℕ → Option (Option ℕ) → Option (Option ℕ)
put_if true place (Some None) = Some (Some place)
put_if _ place it = it

-- what is inferred for a rank, after the key at a place for these members of its group
abbrev pub inferred_with : List (Option WaveCode) → List (Option ℕ) → List ℕ → ℕ → WaveCode → ℕ → Option (Option ℕ)
inferred_with waiting inferred members place wave rank =
    put_if (is_among rank members && waits_at waiting rank wave) place (slice_get inferred rank)

-- what is inferred for a rank by these keys
pub record IsFound (it : Survey) (ranks : ℕ) (keys : List Key) (wave : Option Wave) (rank : ℕ) : Type 0 where
  pub place : Option ℕ
  pub stands : slice_get it.inferred.items rank ≡ Some place
  pub is : IsPlaceOf it.keys place (option_and_then (found_in ranks rank keys) wave)
