-- What the reading of one journal answers, by what is known of its file.
use Rattle.std.specs.Prelude.{◌≡◌, ◌<◌, ℕ, ◌+◌, min, Option, Some, None, option_map, IfSome, Result, Ok, Err, List, ◌∷◌, ⊤}
use Rattle.journals.specs.Header.{Heading}
use Rattle.journals.specs.Journal.{Journal}
use Rattle.journals.specs.Text.{text_of}
use Rattle.journals.specs.JournalAnswers.{heading_in, fault_in, IsCut}
use Rattle.journals.specs.declared.journal.Journal.{Journal as JournalRead}
use Rattle.journals.specs.declared.journal.JournalError.{JournalError}
use Rattle.journals.specs.declared.journal.JournalError.TheVariants as error
use Rattle.journals.specs.declared.limits.TheConstants.{MOST_RANKS}
use Rattle.closing.specs.Journals.{RankFault, journal_of, journal_if, journal_in}
use Rattle.judging.specs.JournalTexts.{bytes_in}
use Rattle.judging.specs.declared.read.ReadFault.{ReadFault}
use Rattle.judging.specs.declared.read.ReadFault.TheVariants.{Open, Refused, ReadFailed, Memory}

abbrev pub fault_as : ℕ → JournalError → ReadFault
fault_as rank (error.Fault fault) = Refused rank fault
fault_as rank (error.ReadFailed line) = ReadFailed rank line
fault_as rank error.Memory = Memory

-- what these bytes of a rank's file say
abbrev pub said : ℕ → Option Heading → List ℕ → Result (Option Journal) RankFault
said rank first bytes = journal_if rank (journal_of rank first bytes)

-- what came of a file until a read failed at a line
abbrev pub IsCutBefore : Option (Option (List ℕ)) → ℕ → Type 0
IsCutBefore known line =
    (count : ℕ) × (line ≡ 1 + count) × ((left : Option (List ℕ)) × IsCut (option_map text_of (bytes_in known)) left count)

abbrev pub AnswersOne : Option (Option (List ℕ)) → ℕ → Option Heading → Result (Option JournalRead) ReadFault → Type 0
AnswersOne known rank first (Ok journal) =
    IfSome (bytes_in known) (λ bytes. said rank first bytes ≡ Ok (option_map journal_in journal))
    × (known ≡ Some None → 0 < rank → journal ≡ None)
AnswersOne known rank first (Err (Open other)) = (other ≡ rank) × (bytes_in known ≡ None) × (0 < rank → known ≡ None)
AnswersOne known rank first (Err (Refused other fault)) =
    (other ≡ rank) × IfSome (bytes_in known) (λ bytes. said rank first bytes ≡ Err (record { rank = rank; fault = fault_in fault }))
    × (known ≡ Some None → 0 < rank → ⊥)
AnswersOne known rank first (Err (ReadFailed other line)) = (other ≡ rank) × IsCutBefore known line
AnswersOne known rank first (Err Memory) = ⊤

-- the header of the first journal, and how many ranks the run has by it
abbrev pub first_heading : List (Option JournalRead) → Option Heading
first_heading (Some journal ∷ others) = Some (heading_in journal.header)
first_heading _ = None

abbrev pub ranks_by : Option Heading → ℕ
ranks_by None = 1
ranks_by (Some heading) = min heading.ranks MOST_RANKS
