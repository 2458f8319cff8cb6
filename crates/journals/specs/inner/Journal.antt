-- A journal: what its header and its lines say, or its first fault.
use Rattle.std.specs.Prelude.{ℕ, Option, Result, List}
use Rattle.journals.specs.Text.{text_of, whole_lines}
use Rattle.journals.specs.Header.{Heading}
use Rattle.journals.specs.Journal.{Fault, Journal, journal_of_lines}

-- the same of a journal's bytes
unfoldable pub journal_of : ℕ → Option Heading → List ℕ → Result Journal Fault
journal_of rank first bytes = journal_of_lines rank first (whole_lines (text_of bytes))
