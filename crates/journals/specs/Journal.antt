-- A journal: what its header and its lines say, or its first fault. Where no line has a fault by the lines before it,
-- the first report of a moved receive that the journal as a whole can't have is one.
use Rattle.std.specs.Prelude.{ℕ, ◌+◌, if◌then◌else◌, Option, Some, None, Result, Ok, Err, List, [], ◌∷◌, ◌++◌, length}
use Rattle.journals.specs.Text.{is_too_long}
use Rattle.journals.specs.Lines.{Line, line_of}
use Rattle.journals.specs.Header.{Heading, heading_of, is_of_run}
use Rattle.journals.specs.Faults.{Owner, fault_of_line, is_moved_wrongly}
use Rattle.journals.specs.declared.fault.JournalFaultKind.{JournalFaultKind}
use Rattle.journals.specs.declared.fault.JournalFaultKind.TheVariants.{Header, OutOfPlace, TooLong}

-- the number of a line, the header being line 1, and its fault
pub record Fault : Type 0 where
  pub line : ℕ
  pub kind : JournalFaultKind

pub record Journal : Type 0 where
  pub heading : Heading
  pub lines : List Line

-- the line that a text says, or its first fault by the lines before it
abbrev pub unless_fault : Option JournalFaultKind → Line → Result Line JournalFaultKind
unless_fault None line = Ok line
unless_fault (Some kind) line = Err kind

abbrev pub checked_line : Owner → List Line → Result Line JournalFaultKind → Result Line JournalFaultKind
checked_line owner before (Err kind) = Err kind
checked_line owner before (Ok line) = unless_fault (fault_of_line owner before line) line

abbrev pub line_after : Owner → List Line → List ℕ → Result Line JournalFaultKind
line_after owner before text =
    if is_too_long text then Err TooLong else checked_line owner before (line_of owner.ranks text)

-- goes on after a line that was read, or ends with its fault
abbrev pub read_on : List Line → Result Line JournalFaultKind → (List Line → Result (List Line) Fault)
    → Result (List Line) Fault
read_on before (Err kind) others = Err (record { line = length before + 2; kind = kind })
read_on before (Ok line) others = others (before ++ line ∷ [])

-- all lines of a journal of which some were read, or the first fault: each line by those before it
abbrev pub lines_after : Owner → List Line → List (List ℕ) → Result (List Line) Fault
lines_after owner before [] = Ok before
lines_after owner before (text ∷ texts) =
    read_on before (line_after owner before text) (λ lines. lines_after owner lines texts)

-- the place of the first report of a moved receive that the lines can't have, among those from a place on
abbrev pub first_moved_wrongly : List Line → ℕ → List Line → Option ℕ
first_moved_wrongly lines place [] = None
first_moved_wrongly lines place (line ∷ others) =
    if is_moved_wrongly lines line then Some place else first_moved_wrongly lines (place + 1) others

abbrev pub unless_place : List Line → Option ℕ → Result (List Line) Fault
unless_place lines None = Ok lines
unless_place lines (Some place) = Err (record { line = place + 2; kind = OutOfPlace })

-- each receive that the lines report to be moved may be
abbrev pub unless_moved_wrongly : Result (List Line) Fault → Result (List Line) Fault
unless_moved_wrongly (Err fault) = Err fault
unless_moved_wrongly (Ok lines) = unless_place lines (first_moved_wrongly lines 0 lines)

abbrev pub with_heading : Heading → Result (List Line) Fault → Result Journal Fault
with_heading heading (Err fault) = Err fault
with_heading heading (Ok lines) = Ok (record { heading = heading; lines = lines })

abbrev pub no_header : Result Journal Fault
no_header = Err (record { line = 1; kind = Header })

abbrev pub after_header : ℕ → Option Heading → Option Heading → List (List ℕ) → Result Journal Fault
after_header rank first None texts = no_header
after_header rank first (Some heading) texts =
    if is_of_run first heading
    then with_heading heading (unless_moved_wrongly (lines_after (record { ranks = heading.ranks; rank = rank }) [] texts))
    else no_header

-- the journal of a rank that whole lines spell, or its first fault; `first` is the header of rank 0's
-- journal, if this is another's
abbrev pub journal_of_lines : ℕ → Option Heading → List (List ℕ) → Result Journal Fault
journal_of_lines rank first [] = no_header
journal_of_lines rank first (header ∷ texts) =
    if is_too_long header then Err (record { line = 1; kind = TooLong })
    else after_header rank first (heading_of rank header) texts
