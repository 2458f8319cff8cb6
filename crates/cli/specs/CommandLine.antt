-- What a command line asks for, by clap's own definitions: what it makes of words, with
-- the program's command.
use Rattle.std.specs.Prelude.{◌≡◌, ◌⊎◌, ◌<◌, Bool, true, false, Option, Some, None, List, [], ◌∷◌, codes, length, map, option_and_then, option_map, bytes_eq, string_bytes, if◌then◌else◌}
use Rattle.clap.specs.Lexer.{usize_max}
use Rattle.clap.specs.Walk.{Row, Rule, Text, first_of, all_of}
use Rattle.clap.specs.Simple.{App, new_rule, new_shape, new_app, with_rule, with_subcommand, subcommand_of}
use Rattle.clap.specs.Faults.{fault_of}
use Rattle.clap.specs.Kinds.{IsAmong}
use Rattle.clap.specs.declared.error.kind.ErrorKind.{ErrorKind}
use Rattle.clap.specs.declared.error.kind.ErrorKind.TheVariants.{DisplayHelp, DisplayVersion}
use Rattle.closing.specs.declared.choice.Choice.{Choice}
use Rattle.judging.specs.declared.judge.Manner.{Manner}
use Rattle.cli.specs.Choices.{choice_of, choice_rules, manner_of, manner_rules}
use Rattle.cli.specs.Options.{option_rules, options_of}
use Rattle.cli.specs.declared.options.Options.{Options}
use Rattle.cli.specs.declared.command_line.CommandLine.{CommandLine}
use Rattle.cli.specs.declared.command_line.CommandLine.TheVariants.{Check, Lint, Judge, Close, Said, NoMemory}

-- a head, and traces of which there is one at least
abbrev pub head_rule : Rule
head_rule = record (new_rule (codes "HEAD")) { required = true }

abbrev pub traces_rule : Rule
traces_rule = record (new_rule (codes "FILE")) {
  required = true;
  range = Some (record { start_inclusive = 1; end_inclusive = usize_max });
}

-- one trace
abbrev pub trace_rule : Rule
trace_rule = record (new_rule (codes "FILE")) { required = true }

-- the folder of some journals, and the one that is made for their recording
abbrev pub folder_rule : Rule
folder_rule = record (new_rule (codes "FOLDER")) { required = true }

abbrev pub out_rule : Rule
out_rule = record (new_rule (codes "OUT")) { required = true }

-- a command with a version
abbrev pub versioned : Text → App
versioned name = record (new_app name) { top = record (new_shape name) { has_version = true } }

-- a command with these rules too, in turn
abbrev pub with_rules : App → List Rule → App
with_rules app [] = app
with_rules app (rule ∷ rules) = with_rules (with_rule app rule) rules

-- the commands
abbrev pub check : App
check = with_rules (versioned (codes "check")) (head_rule ∷ traces_rule ∷ option_rules)

abbrev pub lint : App
lint = with_rule (versioned (codes "lint")) trace_rule

abbrev pub judge : App
judge = with_rules (versioned (codes "judge")) (folder_rule ∷ manner_rules)

abbrev pub close : App
close = with_rules (versioned (codes "close")) (folder_rule ∷ out_rule ∷ choice_rules)

-- the program
unfoldable pub program : App
program = with_subcommand (with_subcommand (with_subcommand (with_subcommand (record (new_app (codes "mpiwait")) {
  top = record (new_shape (codes "mpiwait")) {
    no_binary_name = true;
    has_version = true;
    subcommand_required = true;
    disable_help_subcommand = true;
  };
}) check.top) lint.top) judge.top) close.top

-- what a command line can ask the program to do: to check a run, of a head and its traces, one a rank, with
-- options; to read one trace alone; to judge the journals in a folder; to write their recording into another one
pub data Task : Type 0 where
  CheckRun : Text → List Text → Options → Task
  LintTrace : Text → Task
  JudgeJournals : Text → Manner → Task
  CloseJournals : Text → Text → Choice → Task

-- a run to check, if there are a head, a trace and options
abbrev pub run_of : Option Text → Option (List Text) → Option Options → Option Task
run_of (Some head) (Some (trace ∷ traces)) (Some options) = Some (CheckRun head (trace ∷ traces) options)
run_of _ _ _ = None

-- the task that clap finds in what follows `check`, and in what follows `lint`
abbrev pub check_of : List Row → Option Task
check_of rows = run_of (first_of (codes "HEAD") rows) (all_of (codes "FILE") rows) (options_of rows)

abbrev pub lint_of : List Row → Option Task
lint_of rows = option_map LintTrace (first_of (codes "FILE") rows)

-- that in what follows `judge`, and in what follows `close`
abbrev pub judging_of : Option Text → Option Manner → Option Task
judging_of (Some folder) (Some manner) = Some (JudgeJournals folder manner)
judging_of _ _ = None

abbrev pub judge_of : List Row → Option Task
judge_of rows = judging_of (first_of (codes "FOLDER") rows) (manner_of rows)

abbrev pub closing_of : Option Text → Option Text → Option Choice → Option Task
closing_of (Some folder) (Some out) (Some choice) = Some (CloseJournals folder out choice)
closing_of _ _ _ = None

abbrev pub close_of : List Row → Option Task
close_of rows = closing_of (first_of (codes "FOLDER") rows) (first_of (codes "OUT") rows) (choice_of rows)

-- the task of a command and of what follows it
abbrev pub task_of : Text → List Row → Option Task
task_of name rows =
    if bytes_eq name (codes "check") then check_of rows
    else (if bytes_eq name (codes "lint") then lint_of rows
    else (if bytes_eq name (codes "judge") then judge_of rows
    else (if bytes_eq name (codes "close") then close_of rows else None)))

-- the task that clap finds in words that it takes
unfoldable pub task_in : List Text → Option Task
task_in words = option_and_then (λ found. task_of found.0 found.1) (subcommand_of program words)

-- clap takes the words, and the task is what it finds in them
abbrev pub Asks : List Text → Task → Type 0
Asks words task = (fault_of program words ≡ []) × (task_in words ≡ Some task)

-- clap answers with its help or with the version
abbrev pub is_text : ErrorKind → Bool
is_text DisplayHelp = true
is_text DisplayVersion = true
is_text _ = false

-- the words ask for the help or for the version
abbrev pub AsksForText : List Text → Type 0
AsksForText words = (kind : ErrorKind) × IsAmong kind (fault_of program words) × (is_text kind ≡ true)

-- the words are wrong: clap finds a fault in them, or takes them and finds no task
abbrev pub AreWrong : List Text → Type 0
AreWrong words =
    ((kind : ErrorKind) × IsAmong kind (fault_of program words) × (is_text kind ≡ false))
    ⊎ ((fault_of program words ≡ []) × (task_in words ≡ None))

-- a text is said of words that ask for it, or of words that are wrong
abbrev pub SaysRightly : List Text → Bool → Type 0
SaysRightly words true = AreWrong words
SaysRightly words false = AsksForText words

-- the answer has the task for which the words ask, or a text where they ask for none, which isn't empty
abbrev pub Answers : List Text → CommandLine → Type 0
Answers words (Check head files options progress) = Asks words (CheckRun head.now (map (λ file. file.now) files.items) options)
Answers words (Lint file) = Asks words (LintTrace file.now)
Answers words (Judge folder manner progress) = Asks words (JudgeJournals folder.now manner)
Answers words (Close folder out choice) = Asks words (CloseJournals folder.now out.now choice)
Answers words (Said text is_error) = (0 < length (string_bytes text)) × SaysRightly words is_error
Answers words NoMemory = Unit {0}
