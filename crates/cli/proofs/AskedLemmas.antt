-- How the answers to a command line follow from what clap finds in it.
use Rattle.std.proofs.Common.{◌≡◌, ◌<◌, ℕ, true, false, Option, Some, None, List, [], ◌∷◌, length, map, option_and_then, All, ap, ◌∙◌, sym, refl, arith, Bor, inl, inr}
use Rattle.std.proofs.lemmas.Bool.{or_from}
use Rattle.std.proofs.lemmas.List.Elements.{All-head, All-tail}
use Rattle.clap.specs.Built.{AddsArg, AddsInTurn}
use Rattle.clap.specs.declared.builder.arg.Arg.{Arg}
use Rattle.clap.specs.declared.builder.command.Command.{Command}
use Rattle.clap.specs.declared.builder.command.Command.TheViews.{out-Command}
use Rattle.clap.specs.Walk.{Row, Text, rule_of}
use Rattle.clap.specs.Simple.{App, app_of, is_simple, subcommand_of}
use Rattle.clap.specs.Faults.{fault_of, is_simple_and_free}
use Rattle.clap.specs.Kinds.{HasKind}
use Rattle.clap.specs.Values.{kind_of}
use Rattle.clap.specs.declared.error.Error.{Error}
use Rattle.clap.specs.declared.error.kind.ErrorKind.TheVariants.{OutOfMemory}
use Rattle.cli.specs.declared.options.Options.{Options}
use Rattle.cli.specs.declared.command_line.CommandLine.{CommandLine}
use Rattle.cli.specs.declared.command_line.CommandLine.TheVariants.{Check, Lint, Judge, Close, Said, NoMemory}
use Rattle.closing.specs.declared.choice.Choice.{Choice}
use Rattle.cli.specs.CommandLine.{Answers, CheckRun, Task, closing_of, judging_of, program, run_of, task_in, task_of, with_rules}
use Rattle.cli.specs.inner.CommandLine.{Names, Says, SaysError}

pub said_where_none : (task : Option Task) (said : CommandLine) → task ≡ None → Says true said → Names task said
said_where_none task (Check head files options progress) none says = absurd says
said_where_none task (Lint file) none says = absurd says
said_where_none task (Judge folder manner progress) none says = absurd says
said_where_none task (Close folder out choice) none says = absurd says
said_where_none task (Said text is_error) none says = (says.0, none, says.1)
said_where_none task NoMemory none says = tt

pub run_of_some : (head : Text) (files : List (Bor Text)) (options : Options) → 0 < length files →
    run_of (Some head) (Some (map (λ file. file.now) files)) (Some options) ≡ Some (CheckRun head (map (λ file. file.now) files) options)
run_of_some head [] options some = absurd (omega arith)
run_of_some head (file ∷ files) options some = refl

pub run_of_none : (head : Option Text) (options : Option Options) → run_of head None options ≡ None
run_of_none None options = refl
run_of_none (Some head) options = refl

pub run_of_no_options : (head : Option Text) (files : Option (List Text)) → run_of head files None ≡ None
run_of_no_options None files = refl
run_of_no_options (Some head) None = refl
run_of_no_options (Some head) (Some []) = refl
run_of_no_options (Some head) (Some (file ∷ files)) = refl

pub judging_of_none : (folder : Option Text) → judging_of folder None ≡ None
judging_of_none None = refl
judging_of_none (Some folder) = refl

pub closing_of_no_out : (folder : Option Text) (choice : Option Choice) → closing_of folder None choice ≡ None
closing_of_no_out None choice = refl
closing_of_no_out (Some folder) choice = refl

pub closing_of_no_choice : (folder out : Option Text) → closing_of folder out None ≡ None
closing_of_no_choice None out = refl
closing_of_no_choice (Some folder) None = refl
closing_of_no_choice (Some folder) (Some out) = refl

pub ruleset asked_steps = (said_where_none, run_of_some, run_of_none, run_of_no_options, judging_of_none, closing_of_no_out, closing_of_no_choice)

-- an argument that isn't global
abbrev IsLocal : Arg → Type 0
IsLocal argument = argument.global ≡ false

-- a command to which arguments are added in turn that aren't global has their rules too
pub rules_added : (old : Command) (arguments : List Arg) (new : Command) → AddsInTurn AddsArg old arguments new → All (λ argument. argument.global ≡ false) arguments → app_of new ≡ with_rules (app_of old) (map rule_of arguments)
rules_added old [] new adds local = sym (ap app_of adds)
rules_added old (argument ∷ arguments) new adds local =
    rules_added adds.0 arguments new adds.2 (All-tail IsLocal argument arguments local) ∙ ap (λ (app : App). with_rules app (map rule_of arguments)) (adds.1.shape (All-head IsLocal argument arguments local))

-- a command without a global argument, to which one is added that isn't global either, has none
pub no_global_added : (old : Command) (argument : Arg) (new : Command) → AddsArg old argument new → (out-Command old).has_globals ≡ false → argument.global ≡ false → (out-Command new).has_globals ≡ false
no_global_added old argument new adds none local = adds.globals ∙ or_from _ _ none local

-- nor has one to which such arguments are added in turn
pub no_globals_added : (old : Command) (arguments : List Arg) (new : Command) → AddsInTurn AddsArg old arguments new → All (λ argument. argument.global ≡ false) arguments → (out-Command old).has_globals ≡ false → (out-Command new).has_globals ≡ false
no_globals_added old [] new adds local none = ap (λ (command : Command). (out-Command command).has_globals) (sym adds) ∙ none
no_globals_added old (argument ∷ arguments) new adds local none =
    no_globals_added adds.0 arguments new adds.2 (All-tail IsLocal argument arguments local) (no_global_added old argument adds.0 adds.1 none (All-head IsLocal argument arguments local))

pub program_is_simple : is_simple program ≡ true
unfolding program
program_is_simple = refl

pub program_is_free : is_simple_and_free program ≡ true
unfolding program
program_is_free = refl

pub answers_named : (words : List Text) (found : Option (Text × List Row)) (asked : CommandLine) → found ≡ subcommand_of program words → fault_of program words ≡ [] → Names (option_and_then (λ rows. task_of rows.0 rows.1) found) asked → Answers words asked
unfolding task_in
answers_named words found (Check head files options progress) is taken names = (taken, sym (ap (option_and_then (λ (rows : Text × List Row). task_of rows.0 rows.1)) is) ∙ names)
answers_named words found (Lint file) is taken names = (taken, sym (ap (option_and_then (λ (rows : Text × List Row). task_of rows.0 rows.1)) is) ∙ names)
answers_named words found (Judge folder manner progress) is taken names = (taken, sym (ap (option_and_then (λ (rows : Text × List Row). task_of rows.0 rows.1)) is) ∙ names)
answers_named words found (Close folder out choice) is taken names = (taken, sym (ap (option_and_then (λ (rows : Text × List Row). task_of rows.0 rows.1)) is) ∙ names)
answers_named words found (Said text false) is taken names = let e : false ≡ true = names.2 in cc
answers_named words found (Said text true) is taken names = (names.0, inr (taken, sym (ap (option_and_then (λ (rows : Text × List Row). task_of rows.0 rows.1)) is) ∙ names.1))
answers_named words found NoMemory is taken names = tt

pub answers_error : (words : List Text) (error : Error) (asked : CommandLine) → HasKind (fault_of program words) error → SaysError (kind_of error) asked → (kind_of error ≡ OutOfMemory → asked ≡ NoMemory) → Answers words asked
answers_error words error (Check head files options progress) has says memory = absurd says
answers_error words error (Lint file) has says memory = absurd says
answers_error words error (Judge folder manner progress) has says memory = absurd says
answers_error words error (Close folder out choice) has says memory = absurd says
answers_error words error (Said text false) has says memory = elim has [
  | inl out ↦ let e : Said text false ≡ NoMemory = memory out in cc
  | inr among ↦ (says.0, (kind_of error, among, says.1))
]
answers_error words error (Said text true) has says memory = elim has [
  | inl out ↦ let e : Said text true ≡ NoMemory = memory out in cc
  | inr among ↦ (says.0, inl (kind_of error, among, says.1))
]
answers_error words error NoMemory has says memory = tt
