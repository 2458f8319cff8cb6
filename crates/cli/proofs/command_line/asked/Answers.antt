use Rattle.std.proofs.Common.{◌≡◌, Option, Some, List, option_and_then, sym, subst, rules}
use Rattle.clap.specs.Matches.{found_of}
use Rattle.clap.specs.Simple.{subcommand_rows_of}
use Rattle.clap.specs.Walk.{Row, Text, rows_of}
use Rattle.cli.specs.CommandLine.{task_of}
use Rattle.cli.specs.inner.CommandLine.{Names}
use Rattle.cli.proofs.command_line.asked.Goals as goal

pub returns-in-Some : goal.returns-in-Some
returns-in-Some c =
    let rows : subcommand_rows_of c.args.matches.now ≡ Some (c.in-Some.name.now, rows_of (found_of c.in-Some.found.now)) = search rules in
    subst (λ (o : Option (Text × List Row)). Names (option_and_then (λ found. task_of found.0 found.1) o) c.task_of.result) (sym rows) c.task_of.ensures
