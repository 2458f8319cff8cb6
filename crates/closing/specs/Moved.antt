-- The receives of a rank's journal that are moved into the next one, by the numbers of the lines that start them.
use Rattle.std.specs.Prelude.{ℕ, ◌-◌, nat_le, Option, Some, None, option_and_then, if◌then◌else◌, List, slice_get}
use Rattle.journals.specs.Lines.{Line}
use Rattle.journals.specs.declared.field.Field.{Field}
use Rattle.journals.specs.declared.word.Word.{Word}
use Rattle.journals.specs.declared.word.Word.TheVariants.{Call}
use Rattle.closing.specs.Called.{Called, StartsReceive, StartsExchange, called}
use Rattle.closing.specs.Reported.{is_moved}

-- the source and the tag of the receive that a call starts, where it is moved
abbrev pub moved_by : List Line → Called → Option (Field × Field)
moved_by lines (StartsReceive request it) = if is_moved lines request then Some (it.source, it.tag) else None
moved_by lines (StartsExchange request received sent it) = if is_moved lines received then Some (it.source, it.tag) else None
moved_by lines it = None

abbrev pub moved_in : List Line → Word → List Field → Option (Field × Field)
moved_in lines (Call word) fields = moved_by lines (called word fields)
moved_in lines word fields = None

-- those of the receive that the line with a number starts
abbrev pub moved_at : List Line → ℕ → Option (Field × Field)
moved_at lines number =
    if nat_le 2 number then option_and_then (λ line. moved_in lines line.word line.fields) (slice_get lines (number - 2)) else None
