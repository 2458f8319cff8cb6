-- What is true of the communicators of each run whose journals were read.
use Rattle.std.specs.Prelude.{◌≡◌, ℕ, ◌<◌, ◌≤◌, Bool, true, false, Some, List, ◌∷◌, length, slice_get}
use Rattle.std.specs.List.{flat_map, list_all}
use Rattle.journals.specs.Lines.{Line}
use Rattle.journals.specs.declared.field.Field.{Field}
use Rattle.journals.specs.declared.field.Field.TheVariants.{Natural}
use Rattle.journals.specs.declared.word.Word.{Word}
use Rattle.journals.specs.declared.word.Word.TheVariants.{Report}
use Rattle.journals.specs.declared.word.ReportWord.TheVariants as report
use Rattle.closing.specs.Keys.{Key, World, group_of_key, is_key_among}
use Rattle.closing.specs.Entries.{Run, lines_at, ranks_of}
use Rattle.closing.specs.Made.{keys_at}

-- the members are ranks of a run of so many, and no more than a run may have
pub record IsFitGroup (ranks : ℕ) (group : List ℕ) : Type 0 where
  pub members : (place member : ℕ) → slice_get group place ≡ Some member → member < ranks
  pub few : length group ≤ 1024

abbrev pub begins_with_number : List Field → Bool
begins_with_number (Natural number ∷ fields) = true
begins_with_number fields = false

-- a report of a communicator gives its number
abbrev pub comm_is_numbered : Word → List Field → Bool
comm_is_numbered (Report report.Comm) fields = begins_with_number fields
comm_is_numbered word fields = true

abbrev pub comms_are_numbered : List Line → Bool
comms_are_numbered lines = list_all (λ line. comm_is_numbered line.word line.fields) lines

pub record HasFitComms (run : Run) : Type 0 where
  pub numbered : (rank : ℕ) → comms_are_numbered (lines_at run rank) ≡ true
  pub groups : (key : Key) → is_key_among key (World ∷ flat_map (keys_at run) (ranks_of run)) ≡ true
      → IsFitGroup (length run) (group_of_key (length run) key)
