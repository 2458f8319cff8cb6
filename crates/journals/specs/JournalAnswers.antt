-- What the reading of a journal answers, if its text is known.
use Rattle.std.specs.Prelude.{◌≡◌, ℕ, ◌+◌, Option, Some, None, Result, Ok, Err, List, length, ⊤}
use Rattle.journals.specs.Text.{whole_lines}
use Rattle.journals.specs.Header.{Heading}
use Rattle.journals.specs.Journal.{Fault, journal_of_lines}
use Rattle.std.specs.Io.KnownBytes.{Consumes}
use Rattle.journals.specs.declared.fault.JournalFault.{JournalFault}
use Rattle.journals.specs.declared.header.Header.{Header}
use Rattle.journals.specs.declared.journal.Journal.{Journal as JournalRead}
use Rattle.journals.specs.declared.journal.JournalError.{JournalError}
use Rattle.journals.specs.declared.journal.JournalError.TheVariants as error

-- what a header that is held says
abbrev pub heading_in : Header → Heading
heading_in header = record { ranks = header.ranks; run = header.run.items; is_outside = header.is_outside }

abbrev pub fault_in : JournalFault → Fault
fault_in fault = record { line = fault.line; kind = fault.kind }

-- what came of the text until a read failed has so many whole lines
pub record IsCut (old left : Option (List ℕ)) (count : ℕ) : Type 0 where
  pub came : List ℕ
  pub text : Consumes old left came
  pub lines : length (whole_lines came) ≡ count

-- a read failed: the reported line has the number of the first one, plus the whole lines that came
abbrev pub FailsFrom : {X : Type 0} → ℕ → Option (List ℕ) → Option (List ℕ) → Result X JournalError → Type 0
FailsFrom number old left (Err (error.ReadFailed line)) =
    (count : ℕ) × (line ≡ number + count) × IsCut old left count
FailsFrom number old left _ = ⊤

-- what is answered is the journal of a text that is known, or its first fault
abbrev pub AnswersJournal : ℕ → Option Heading → Option (List ℕ) → Result JournalRead JournalError → Type 0
AnswersJournal rank first None result = ⊤
AnswersJournal rank first (Some text) (Ok journal) =
    journal_of_lines rank first (whole_lines text)
    ≡ Ok (record { heading = heading_in journal.header; lines = journal.lines })
AnswersJournal rank first (Some text) (Err (error.Fault fault)) =
    journal_of_lines rank first (whole_lines text) ≡ Err (fault_in fault)
AnswersJournal rank first (Some text) (Err (error.ReadFailed line)) = ⊤
AnswersJournal rank first (Some text) (Err error.Memory) = ⊤
