-- What each step of the reading of a journal answers, if its text is known.
use Rattle.std.specs.Prelude.{◌≡◌, ℕ, ◌+◌, ◌-◌, Bool, true, false, Option, Some, None, option_map, Result, Ok, Err, List, [], ◌∷◌, ◌++◌, length, take, drop, ⊤}
use Rattle.journals.specs.Text.{whole_lines}
use Rattle.journals.specs.Lines.{Line}
use Rattle.journals.specs.Header.{Heading, is_of_run}
use Rattle.journals.specs.Faults.{Owner}
use Rattle.journals.specs.Journal.{Fault, line_after, lines_after}
use Rattle.std.specs.Io.KnownBytes.{Consumes, prepend_known}
use Rattle.journals.specs.inner.Reader.{coming, ComesNext, NoneComes, LongComes, CutsLine}
use Rattle.journals.specs.declared.fault.JournalFaultKind.TheVariants as kind
use Rattle.journals.specs.declared.header.Header.{Header}
use Rattle.journals.specs.declared.journal.JournalError.{JournalError}
use Rattle.journals.specs.declared.journal.JournalError.TheVariants as error
use Rattle.journals.specs.declared.line.LineFault.{LineFault}
use Rattle.journals.specs.declared.line.LineFault.TheVariants.{Journal as Wrong, Memory as OutOfMemory}
use Rattle.journals.specs.JournalAnswers.{heading_in, fault_in}

-- a fault of a line, with its number
abbrev pub fault_as : ℕ → LineFault → JournalError
fault_as number (Wrong it) = error.Fault (record { line = number; kind = it })
fault_as number OutOfMemory = error.Memory

-- so many whole lines of the text were read, and what came after them is still to come
pub record Passes (old new : Option (List ℕ)) (count : ℕ) : Type 0 where
  pub came : List ℕ
  pub text : Consumes old new came
  pub lines : (more : List ℕ) → length (whole_lines (came ++ more)) ≡ count + length (whole_lines more)

-- the read of the line of a number failed
abbrev pub CutsAt : {X : Type 0} → ℕ → Option (List ℕ) → Option (List ℕ) → Result X JournalError → Type 0
CutsAt number old left (Err (error.ReadFailed line)) = (line ≡ number) × CutsLine old left
CutsAt number old left _ = ⊤

-- the found line is the next that passes
abbrev pub PassesFound : Option (List ℕ) → List ℕ → Option (List ℕ) → Result (Option ℕ) JournalError → Type 0
PassesFound old held left (Ok (Some count)) = Passes old (prepend_known (drop count held) left) 1
PassesFound old held left _ = ⊤

abbrev pub PassesNext : Option (List ℕ) → Option (List ℕ) → Result Bool JournalError → Type 0
PassesNext old new (Ok true) = Passes old new 1
PassesNext old new _ = ⊤

-- the next line has the next number
abbrev pub CountsNext : ℕ → ℕ → Result Bool JournalError → Type 0
CountsNext old new (Ok true) = new ≡ old + 1
CountsNext old new _ = ⊤

-- what was found is the next of the lines to come, this one's number being `number`
abbrev pub FindsLine : ℕ → Option (List (List ℕ)) → List ℕ → Option (List ℕ) → Result (Option ℕ) JournalError
    → Type 0
FindsLine number old held left (Ok (Some count)) =
    ComesNext old (take (count - 1) held) (coming (drop count held) left)
FindsLine number old held left (Ok None) = NoneComes old
FindsLine number old held left (Err (error.Fault fault)) =
    LongComes old × (fault_in fault ≡ record { line = number; kind = kind.TooLong })
FindsLine number old held left (Err (error.ReadFailed line)) = line ≡ number
FindsLine number old held left (Err error.Memory) = ⊤

-- the header isn't one of this run
abbrev pub IsNoHeader : Option Heading → Option Heading → Type 0
IsNoHeader first None = ⊤
IsNoHeader first (Some heading) = is_of_run first heading ≡ false

-- the first line is the header that was read, or isn't one of this run
abbrev pub HeadsJournal : Option Heading → Option Heading → Result Header JournalError → Type 0
HeadsJournal first said (Ok header) =
    (said ≡ Some (heading_in header)) × (is_of_run first (heading_in header) ≡ true)
HeadsJournal first said (Err (error.Fault fault)) =
    IsNoHeader first said × (fault_in fault ≡ record { line = 1; kind = kind.Header })
HeadsJournal first said (Err (error.ReadFailed line)) = ⊥
HeadsJournal first said (Err error.Memory) = ⊤

-- no read failed
abbrev pub IsNoFailedRead : JournalError → Type 0
IsNoFailedRead (error.ReadFailed line) = ⊥
IsNoFailedRead failed = ⊤

-- the lines after some that were read are these, or their first fault is this
abbrev pub AnswersLines : Result (List Line) Fault → Result (List Line) JournalError → Type 0
AnswersLines said (Ok lines) = said ≡ Ok lines
AnswersLines said (Err (error.Fault fault)) = said ≡ Err (fault_in fault)
AnswersLines said (Err (error.ReadFailed line)) = ⊤
AnswersLines said (Err error.Memory) = ⊤

abbrev pub lines_to_come : Owner → List Line → Option (List (List ℕ)) → Option (Result (List Line) Fault)
lines_to_come owner lines texts = option_map (lines_after owner lines) texts

abbrev pub AnswersComing : Option (Result (List Line) Fault) → Result (List Line) JournalError → Type 0
AnswersComing None result = ⊤
AnswersComing (Some said) result = AnswersLines said result

-- the next line's text was taken as a line, or has this fault
abbrev pub TakesText : Owner → ℕ → List Line → List Line → List ℕ → Result Unit JournalError → Type 0
TakesText owner number old new text (Ok done) =
    (line : Line) × (line_after owner old text ≡ Ok line) × (new ≡ old ++ line ∷ [])
TakesText owner number old new text (Err (error.Fault fault)) =
    (line_after owner old text ≡ Err fault.kind) × (fault.line ≡ number)
TakesText owner number old new text (Err (error.ReadFailed line)) = ⊥
TakesText owner number old new text (Err error.Memory) = ⊤

-- one line was read: the lines still to come say what they did before it was
abbrev pub GoesOn : Option (Result (List Line) Fault) → Option (Result (List Line) Fault) → Type 0
GoesOn None new = ⊤
GoesOn (Some said) new = new ≡ Some said

abbrev pub ReadsNext : Option (Result (List Line) Fault) → Option (Result (List Line) Fault) → List Line
    → Result Bool JournalError → Type 0
ReadsNext old new lines (Ok true) = GoesOn old new
ReadsNext old new lines (Ok false) = AnswersComing old (Ok lines)
ReadsNext old new lines (Err error) = AnswersComing old (Err error)
