-- How the program ends, by what its words ask for: its status, and what is written on the two outputs.
use Rattle.std.specs.Prelude.{◌≡◌, ◌⊎◌, ℕ, Bool, true, false, Option, Some, List, map, string_bytes}
use Rattle.clap.specs.Walk.{Text}
use Rattle.waitgraph.specs.declared.verdict.Verdict.{Verdict}
use Rattle.cli.specs.CommandLine.{Answers}
use Rattle.cli.specs.Faults.{status_of_fault}
use Rattle.cli.specs.FaultTexts.{line_of_fault}
use Rattle.cli.specs.Outputs.{Written, Nothing, Whole, Broken, Becomes, lint_report}
use Rattle.cli.specs.JournalFolders.{known_in}
use Rattle.cli.specs.Journals.{IsFaultOfClose, IsFaultOfJudge}
use Rattle.cli.specs.Lints.{IsCountOf, IsFaultOfLint}
use Rattle.cli.specs.Openings.{Fate}
use Rattle.cli.specs.Statuses.{status_of_verdict}
use Rattle.cli.specs.Texts.{IsFaultOfCheck, IsReportOf, IsVerdictOfTexts}
use Rattle.closing.specs.Entry.{Choice}
use Rattle.closing.specs.Recordings.{choice_in}
use Rattle.judging.specs.Closing.{IsWritten}
use Rattle.judging.specs.JournalTexts.{Known}
use Rattle.judging.specs.Judging.{IsJudgedReport}
use Rattle.judging.specs.declared.close.FileName.{FileName}
use Rattle.judging.specs.declared.judge.Manner.{Manner}
use Rattle.cli.specs.declared.options.Options.{Options}
use Rattle.cli.specs.declared.fault.Fault.{Fault as FaultOf}
use Rattle.cli.specs.declared.fault.Fault.TheVariants.{Memory, Write}
use Rattle.cli.specs.declared.status.Status.{Status}
use Rattle.cli.specs.declared.status.Status.TheVariants.{Free, Refused, Usage}
use Rattle.cli.specs.declared.command_line.CommandLine.{CommandLine}
use Rattle.cli.specs.declared.command_line.CommandLine.TheVariants.{Check, Lint, Judge, Close, Said, NoMemory}

-- the verdict is that of the texts of the files by the options' reading, where all of these are known
abbrev pub IsVerdictWhereTold : Options → Option Text → List (Option Text) → Verdict → Type 0
IsVerdictWhereTold options head files verdict =
    (text : Text) (texts : List Text) → head ≡ Some text → files ≡ map Some texts → IsVerdictOfTexts options.reading text texts verdict

-- a run was checked: its report is on standard output alone, in its format; report and verdict are those of
-- the files' texts, and the status is that of the verdict
pub record EndsInReport (options : Options) (head : Option Text) (files : List (Option Text)) (status : Status) (out err : Written) : Type 0 where
  pub verdict : Verdict
  pub report : Text
  pub is_report : IsReportOf options head files verdict report
  pub is_verdict : IsVerdictWhereTold options head files verdict
  pub status_is : status ≡ status_of_verdict verdict
  pub output : out ≡ Whole report
  pub errors : err ≡ Nothing

-- a trace was read alone: the number of its calls is on standard output alone
pub record EndsInCount (text : Option Text) (status : Status) (out err : Written) : Type 0 where
  pub count : ℕ
  pub is_count : IsCountOf text count
  pub status_is : status ≡ Free
  pub output : out ≡ Whole (lint_report count)
  pub errors : err ≡ Nothing

-- journals were judged: their report is on standard output alone, in its format, and the status is that of its verdict.
-- It is that of a closed recording: where the files are known, that of the run which they hold
pub record EndsInJudged (known : Known) (manner : Manner) (status : Status) (out err : Written) : Type 0 where
  pub verdict : Verdict
  pub report : Text
  pub is_report : IsJudgedReport known manner verdict report
  pub status_is : status ≡ status_of_verdict verdict
  pub output : out ≡ Whole report
  pub errors : err ≡ Nothing

-- the recording of journals was written into a folder, and nothing is on either output. Where the files of journals are
-- known, they hold a run, and the files of the folder, as far as their texts are known, are its recording
pub record EndsInFiles (known : Known) (choice : Choice) (empty : Option Text) (text : FileName → Option Text) (status : Status) (out err : Written) : Type 0 where
  pub is_written : IsWritten known choice empty text
  pub status_is : status ≡ Free
  pub output : out ≡ Nothing
  pub errors : err ≡ Nothing

-- the text was written, whole unless a write failed
abbrev pub IsTried : Text → Written → Type 0
IsTried text written = (written ≡ Whole text) ⊎ (written ≡ Broken text)

-- a text was asked for, and is on standard output alone; or the words were wrong, which standard error says
-- alone
abbrev pub EndsInText : Text → Status → Written → Written → Type 0
EndsInText text status out err = (status ≡ Free) × (out ≡ Whole text) × (err ≡ Nothing)

abbrev pub EndsInUsage : Text → Status → Written → Written → Type 0
EndsInUsage text status out err = (status ≡ Usage) × (out ≡ Nothing) × IsTried text err

-- standard output at a fault that isn't reported there: only a write that failed left anything there
abbrev pub IsLeftAt : FaultOf → Written → Type 0
IsLeftAt Write out = (text : Text) × (out ≡ Broken text)
IsLeftAt fault out = out ≡ Nothing

-- with this status the line of a fault is written: a refusal's on standard output alone, any other's on
-- standard error
abbrev pub TellsLine : Status → FaultOf → Written → Written → Type 0
TellsLine Refused fault out err = (out ≡ Whole (line_of_fault fault)) × (err ≡ Nothing)
TellsLine _ fault out err = IsLeftAt fault out × IsTried (line_of_fault fault) err

-- a fault was reported, by its status and its line
abbrev pub EndsInFault : FaultOf → Status → Written → Written → Type 0
EndsInFault fault status out err = (status ≡ status_of_fault fault) × TellsLine status fault out err

-- what a maker says of the texts of files when they are made, and of the file with a name in the folder with a path
pub record Made : Type 0 where
  pub empty : Option Text
  pub text : Text → FileName → Option Text

abbrev pub made_by : {M : Type 0} → (M → Option Text) → (M → Text → FileName → Option Text) → M → M → Made
made_by empty text old new = record { empty = empty old; text = text new }

-- what the words ask for was done, and reported
abbrev pub IsDone : (Text → Option Text) → (Text → Option Bool) → Made → CommandLine → Status → Written → Written → Type 0
IsDone told named made (Check head files options progress) = EndsInReport options (told head.now) (map (λ file. told file.now) files.items)
IsDone told named made (Lint file) = EndsInCount (told file.now)
IsDone told named made (Judge folder manner progress) = EndsInJudged (known_in told named folder.now) manner
IsDone told named made (Close folder out choice) = EndsInFiles (known_in told named folder.now) (choice_in choice) made.empty (made.text out.now)
IsDone told named made (Said text false) = EndsInText (string_bytes text)
IsDone told named made (Said text true) = EndsInUsage (string_bytes text)
IsDone told named made NoMemory = λ status out err. ⊥

-- the faults with which that may end
abbrev pub IsFaultOf : (Text → Fate → Type 0) → (Text → Option Text) → (Text → Option Bool) → CommandLine → FaultOf → Type 0
IsFaultOf fate told named (Check head files options progress) fault = IsFaultOfCheck fate told head.now files.items fault
IsFaultOf fate told named (Lint file) fault = IsFaultOfLint told file.now fault
IsFaultOf fate told named (Judge folder manner progress) fault = IsFaultOfJudge (known_in told named folder.now) manner.choice folder.now fault
IsFaultOf fate told named (Close folder out choice) fault = IsFaultOfClose (known_in told named folder.now) folder.now out.now fault
IsFaultOf fate told named (Said text is_error) fault = (fault ≡ Write) × (is_error ≡ false)
IsFaultOf fate told named NoMemory fault = fault ≡ Memory

-- what the words ask for was done, or a fault was reported
abbrev pub EndsBy : (Text → Fate → Type 0) → (Text → Option Text) → (Text → Option Bool) → Made → CommandLine → Status → Written → Written → Type 0
EndsBy fate told named made words status out err = IsDone told named made words status out err ⊎ ((fault : FaultOf) × IsFaultOf fate told named words fault × EndsInFault fault status out err)

-- standard output and standard error, each by what was written to it and how many writes failed, and as it was
-- and as it is; what may become of files, their texts, and which there are, where that is known; and what is known of those
-- that are made
module _ {O E : Type 0} (written : O → Option Text) (failures : O → ℕ) (written_errors : E → Option Text) (failed_errors : E → ℕ) (fate : Text → Fate → Type 0) (told : Text → Option Text) (named : Text → Option Bool) (made : Made) (old new : O) (old_errors new_errors : E) where
  -- the words ask for something, and the program ends by that
  pub record Ends (words : List Text) (status : Status) : Type 0 where
    pub asked : CommandLine
    pub answers : Answers words asked
    pub out : Written
    pub err : Written
    pub by : EndsBy fate told named made asked status out err
    pub output : Becomes written failures old new out
    pub errors : Becomes written_errors failed_errors old_errors new_errors err
