-- What is kept of the reports of a journal's requests: a map from requests.
use Rattle.std.specs.Prelude.{ℕ, ◌+◌, ◌==◌, Option, Some, None, if◌then◌else◌, List, [], ◌∷◌}
use Rattle.journals.specs.Lines.{Line}
use Rattle.journals.specs.declared.field.Field.{Field}
use Rattle.journals.specs.declared.field.Field.TheVariants.{Natural}
use Rattle.journals.specs.declared.word.Word.{Word}
use Rattle.journals.specs.declared.word.Word.TheVariants.{Report}
use Rattle.journals.specs.declared.word.ReportWord.{ReportWord}
use Rattle.journals.specs.declared.word.ReportWord.TheVariants as report
pub use Rattle.closing.specs.ToldOutcomes.{kept_at, or_before, outcome_at, is_gone, is_moved, is_left_out, is_settled, message_after, message_by}
use Rattle.closing.specs.declared.outcomes.Outcome.{Outcome}
use Rattle.closing.specs.declared.outcomes.Outcome.TheVariants.{Done, Gone, Kept, Moved}

-- the outcome that a report says, by the place of its line
abbrev pub outcome_in : ReportWord → ℕ → Option Outcome
outcome_in report.Done line = Some (Done line)
outcome_in report.Gone line = Some Gone
outcome_in report.Kept line = Some Kept
outcome_in report.Moved line = Some Moved
outcome_in word line = None

-- what came of a request after a report at a place
abbrev pub outcome_by : ReportWord → List Field → ℕ → ℕ → Outcome → Outcome
outcome_by word (Natural request ∷ fields) place other before =
    if request == other then or_before before (outcome_in word place) else before
outcome_by word fields place other before = before

-- after a line
abbrev pub outcome_with : Word → List Field → ℕ → ℕ → Outcome → Outcome
outcome_with (Report word) fields place request before = outcome_by word fields place request before
outcome_with word fields place request before = before

-- after the line at a place, if there is one
abbrev pub outcome_at_line : Option Line → ℕ → ℕ → Outcome → Outcome
outcome_at_line None place request before = before
outcome_at_line (Some line) place request before = outcome_with line.word line.fields place request before

-- after lines, the first of which has this place
abbrev pub outcome_after : List Line → ℕ → ℕ → Outcome → Outcome
outcome_after [] place request before = before
outcome_after (line ∷ lines) place request before =
    outcome_after lines (place + 1) request (outcome_with line.word line.fields place request before)
