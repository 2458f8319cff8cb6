-- What a rank has after some lines of its journal: its communicators, and the calls that tell two of them from
-- each other.
use Rattle.std.specs.Prelude.{ℕ, ◌==◌, Bool, true, false, Option, Some, None, option_map, option_and_then, if◌then◌else◌, List, [], ◌∷◌, ◌++◌}
use Rattle.journals.specs.Lines.{Line}
use Rattle.journals.specs.Entries.{group_in}
use Rattle.journals.specs.declared.field.Field.{Field}
use Rattle.journals.specs.declared.field.Field.TheVariants.{Natural}
use Rattle.journals.specs.declared.word.Word.{Word}
use Rattle.journals.specs.declared.word.Word.TheVariants.{Call, Report}
use Rattle.journals.specs.declared.word.ReportWord.{ReportWord}
use Rattle.journals.specs.declared.word.ReportWord.TheVariants as report
use Rattle.closing.specs.Called.{Called, Duplicates, Splits, Makes, StartsDuplicate, MakesOfGroup, called, wave_comm}
use Rattle.closing.specs.Keys.{Key, World, Alone, Made, Duplicated, OfGroup, Apart, key_count, group_count}

-- one call of all members of a communicator: how many such calls the rank made on it before
pub record Wave : Type 0 where
  pub parent : Key
  pub count : ℕ

pub record RankComms : Type 0 where
  -- its communicators by its own numbers
  pub numbers : List (ℕ × Key)
  -- all but the world in the order in which it got them
  pub keys : List Key
  -- those on which it made calls of all members, one for each call
  pub waves : List Key
  -- the waves of its nonblocking duplicates, by request
  pub duplicates : List (ℕ × Wave)
  -- the groups of which members made a communicator, and those of what no call line says
  pub groups : List (List ℕ)
  pub apart : List (List ℕ)
  -- of its last call: the wave, where its communicator isn't reported so far; that which it made of a group
  pub wave : Option Wave
  pub own : Option Key

abbrev pub comms_first : ℕ → RankComms
comms_first rank = record {
  numbers = (0, World) ∷ (1, Alone rank) ∷ [];
  keys = Alone rank ∷ [];
  waves = [];
  duplicates = [];
  groups = [];
  apart = [];
  wave = None;
  own = None;
}

-- what stands under a number
abbrev pub under : {A : Type 0} → ℕ → List (ℕ × A) → Option A
under number [] = None
under number ((other, it) ∷ others) = if other == number then Some it else under number others

-- the communicator with the rank's own number
abbrev pub key_under : RankComms → ℕ → Option Key
key_under comms number = under number comms.numbers

-- ---- A call ----

-- all members make such a call, which may give some of them a communicator
abbrev pub makes_comm : Called → Bool
makes_comm (Duplicates comm) = true
makes_comm (Splits comm colour key) = true
makes_comm (Makes comm) = true
makes_comm _ = false

-- the wave of the next call
abbrev pub wave_on : RankComms → Key → Wave
wave_on comms key = record { parent = key; count = key_count key comms.waves }

abbrev pub wave_next : RankComms → Called → Option Wave
wave_next comms it = option_map (wave_on comms) (option_and_then (key_under comms) (wave_comm it))

-- the communicator that the next call makes of a group: the rank has it from the call on
abbrev pub key_next : RankComms → Called → Option Key
key_next comms (MakesOfGroup group) = Some (OfGroup group (group_count group comms.groups))
key_next comms it = None

abbrev pub with_some : {A : Type 0} → List A → Option A → List A
with_some things None = things
with_some things (Some it) = things ++ it ∷ []

abbrev pub with_duplicate : List (ℕ × Wave) → Called → Option Wave → List (ℕ × Wave)
with_duplicate duplicates (StartsDuplicate request comm) (Some wave) = (request, wave) ∷ duplicates
with_duplicate duplicates it wave = duplicates

abbrev pub with_group : List (List ℕ) → Called → List (List ℕ)
with_group groups (MakesOfGroup group) = groups ++ group ∷ []
with_group groups it = groups

abbrev pub after_call : RankComms → Called → RankComms
after_call comms it = record comms {
  keys = with_some comms.keys (key_next comms it);
  waves = with_some comms.waves (option_map (λ wave. wave.parent) (wave_next comms it));
  duplicates = with_duplicate comms.duplicates it (wave_next comms it);
  groups = with_group comms.groups it;
  wave = if makes_comm it then wave_next comms it else None;
  own = key_next comms it;
}

-- ---- A report ----

abbrev pub with_key : RankComms → ℕ → Option Key → RankComms
with_key comms number None = comms
with_key comms number (Some key) = record comms { numbers = (number, key) ∷ comms.numbers; keys = comms.keys ++ key ∷ [] }

-- the communicator that a call of a wave made
abbrev pub made_in : List ℕ → Wave → Key
made_in group wave = Made wave.parent wave.count group

abbrev pub duplicated_in : List ℕ → Wave → Key
duplicated_in group wave = Duplicated wave.parent wave.count group

-- that of the last call: what it made of a group gets a number, another is got with it
abbrev pub with_made : RankComms → ℕ → List ℕ → Option Key → RankComms
with_made comms number group (Some key) = record comms { numbers = (number, key) ∷ comms.numbers }
with_made comms number group None = record (with_key comms number (option_map (made_in group) comms.wave)) { wave = None }

abbrev pub with_duplicated : RankComms → ℕ → ℕ → List ℕ → RankComms
with_duplicated comms number request group = with_key comms number (option_map (duplicated_in group) (under request comms.duplicates))

abbrev pub with_apart : RankComms → ℕ → List ℕ → RankComms
with_apart comms number group =
    with_key (record comms { apart = comms.apart ++ group ∷ [] }) number (Some (Apart group (group_count group comms.apart)))

abbrev pub after_report : RankComms → ReportWord → List Field → List ℕ → RankComms
after_report comms report.Comm (Natural number ∷ fields) group = with_made comms number group comms.own
after_report comms report.Idup (Natural number ∷ Natural request ∷ fields) group = with_duplicated comms number request group
after_report comms report.Apart (Natural number ∷ fields) group = with_apart comms number group
after_report comms word fields group = comms

-- ---- Lines ----

abbrev pub after_word : RankComms → Word → List Field → List ℕ → RankComms
after_word comms (Call word) fields group = after_call comms (called word fields)
after_word comms (Report word) fields group = after_report comms word fields group

abbrev pub after_line : RankComms → Line → RankComms
after_line comms line = after_word comms line.word line.fields (group_in line)

-- what a rank that had this has after some more lines
abbrev pub after_lines : RankComms → List Line → RankComms
after_lines comms [] = comms
after_lines comms (line ∷ lines) = after_lines (after_line comms line) lines

-- what the rank has after these lines of its journal
abbrev pub comms_after : ℕ → List Line → RankComms
comms_after rank lines = after_lines (comms_first rank) lines
