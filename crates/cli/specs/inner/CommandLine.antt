-- What proofs and private contracts cite, in addition to the definitions of `specs/Asked.antt`.
use Rattle.std.specs.Prelude.{◌≡◌, ◌<◌, Bool, true, Option, Some, None, length, map, string_bytes, not}
use Rattle.clap.specs.declared.error.kind.ErrorKind.{ErrorKind}
use Rattle.cli.specs.declared.command_line.CommandLine.{CommandLine}
use Rattle.cli.specs.declared.command_line.CommandLine.TheVariants.{Check, Lint, Judge, Close, Said, NoMemory}
use Rattle.cli.specs.CommandLine.{Task, is_text, CheckRun, LintTrace, JudgeJournals, CloseJournals}

-- the answer has the task, says in some text that there is none, or has no memory
abbrev pub Names : Option Task → CommandLine → Type 0
Names task (Check head files options progress) = task ≡ Some (CheckRun head.now (map (λ file. file.now) files.items) options)
Names task (Lint file) = task ≡ Some (LintTrace file.now)
Names task (Judge folder manner progress) = task ≡ Some (JudgeJournals folder.now manner)
Names task (Close folder out choice) = task ≡ Some (CloseJournals folder.now out.now choice)
Names task (Said text is_error) = (0 < length (string_bytes text)) × (task ≡ None) × (is_error ≡ true)
Names task NoMemory = Unit {0}

-- some text is said, or there is no memory for it
abbrev pub Says : Bool → CommandLine → Type 0
Says is_error (Check head files options progress) = ⊥
Says is_error (Lint file) = ⊥
Says is_error (Judge folder manner progress) = ⊥
Says is_error (Close folder out choice) = ⊥
Says is_error (Said text is_said) = (0 < length (string_bytes text)) × (is_said ≡ is_error)
Says is_error NoMemory = Unit {0}

-- some text is said of an error of this kind, or there is no memory for it
abbrev pub SaysError : ErrorKind → CommandLine → Type 0
SaysError kind (Check head files options progress) = ⊥
SaysError kind (Lint file) = ⊥
SaysError kind (Judge folder manner progress) = ⊥
SaysError kind (Close folder out choice) = ⊥
SaysError kind (Said text is_error) = (0 < length (string_bytes text)) × (is_text kind ≡ not is_error)
SaysError kind NoMemory = Unit {0}
