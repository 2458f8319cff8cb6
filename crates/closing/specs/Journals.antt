-- The journals of a run, by the texts of its files: that of rank 0, and those of other ranks, which may not be there.
use Rattle.std.specs.Prelude.{ℕ, ◌-◌, Option, Some, None, Result, Ok, Err, option_map, List, [], ◌∷◌, map}
use Rattle.std.specs.List.{range_with_len}
use Rattle.journals.specs.Header.{Heading}
use Rattle.journals.specs.Text.{text_of, whole_lines}
use Rattle.journals.specs.Journal.{Journal, Fault, journal_of_lines}
use Rattle.journals.specs.JournalAnswers.{heading_in}
use Rattle.journals.specs.declared.journal.Journal.{Journal as JournalRead}
use Rattle.closing.specs.Entries.{Run}

pub record RankFault : Type 0 where
  pub rank : ℕ
  pub fault : Fault

-- the journal of a rank whose file has these bytes
unfoldable pub journal_of : ℕ → Option Heading → List ℕ → Result Journal Fault
journal_of rank first bytes = journal_of_lines rank first (whole_lines (text_of bytes))

abbrev pub journal_if : ℕ → Result Journal Fault → Result (Option Journal) RankFault
journal_if rank (Ok journal) = Ok (Some journal)
journal_if rank (Err fault) = Err (record { rank = rank; fault = fault })

abbrev pub journal_from : Heading → ℕ → Option (List ℕ) → Result (Option Journal) RankFault
journal_from first rank None = Ok None
journal_from first rank (Some text) = journal_if rank (journal_of rank (Some first) text)

-- a journal before others, whose fault comes first
abbrev pub put_first : Result (Option Journal) RankFault → Result Run RankFault → Result Run RankFault
put_first (Err fault) others = Err fault
put_first (Ok journal) (Err fault) = Err fault
put_first (Ok journal) (Ok others) = Ok (journal ∷ others)

abbrev pub journals_from : Heading → (ℕ → Option (List ℕ)) → List ℕ → Result Run RankFault
journals_from first texts [] = Ok []
journals_from first texts (rank ∷ ranks) =
    put_first (journal_from first rank (texts rank)) (journals_from first texts ranks)

abbrev pub after_first : Result Journal Fault → (ℕ → Option (List ℕ)) → Result Run RankFault
after_first (Err fault) texts = Err (record { rank = 0; fault = fault })
after_first (Ok journal) texts =
    put_first (Ok (Some journal)) (journals_from journal.heading texts (range_with_len 1 (journal.heading.ranks - 1)))

-- the journals, or the first fault of the lowest rank that has one
unfoldable pub run_of : List ℕ → (ℕ → Option (List ℕ)) → Result Run RankFault
run_of first texts = after_first (journal_of 0 None first) texts

-- ---- Journals that were read ----

abbrev pub journal_in : JournalRead → Journal
journal_in it = record { heading = heading_in it.header; lines = it.lines }

-- the run whose journals these are
abbrev pub run_in : List (Option JournalRead) → Run
run_in journals = map (option_map journal_in) journals
