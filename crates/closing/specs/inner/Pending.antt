-- The key of the communicator that a rank's last call made, as the reports after it bring it.
use Rattle.std.specs.Prelude.{ℕ, Option, Some, None, option_map, option_and_then, List, ◌∷◌}
use Rattle.journals.specs.Entries.{group_in}
use Rattle.journals.specs.Lines.{Line}
use Rattle.journals.specs.declared.field.Field.{Field}
use Rattle.journals.specs.declared.field.Field.TheVariants.{Natural}
use Rattle.journals.specs.declared.word.ReportWord.{ReportWord}
use Rattle.journals.specs.declared.word.ReportWord.TheVariants as report
use Rattle.closing.specs.Called.{naturals_in}
use Rattle.closing.specs.Keys.{Key}
use Rattle.closing.specs.Made.{made_with}
use Rattle.closing.specs.RankComms.{RankComms, Wave}
use Rattle.closing.specs.inner.Noted.{first_report, reports_in}

-- that of the group, unless the call made one of its own
abbrev pub pending_by : Option Key → Option Wave → Option (List ℕ) → Option Key
pending_by (Some own) wave group = None
pending_by None wave group = option_and_then (made_with wave) group

abbrev pub group_to_come : List Line → Option (List ℕ)
group_to_come lines = option_map group_in (first_report report.Comm (reports_in lines))

-- the key that the reports before the next call line bring
abbrev pub pending : RankComms → List Line → Option Key
pending comms lines = pending_by comms.own comms.wave (group_to_come lines)

-- that which a report brings, by its fields
abbrev pub key_told : RankComms → ReportWord → List Field → Option Key
key_told comms report.Comm (Natural number ∷ members) = pending_by comms.own comms.wave (Some (naturals_in members))
key_told comms word fields = None
