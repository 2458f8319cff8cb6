-- The options of a check: what clap is asked to read of each, and their values.
use Rattle.std.specs.Prelude.{ℕ, Bool, true, false, Option, Some, None, List, [], ◌∷◌, codes, option_and_then, bytes_eq, if◌then◌else◌}
use Rattle.std.specs.Option.{option_map_or}
use Rattle.clap.specs.Walk.{Row, Rule, Text, first_of}
use Rattle.clap.specs.Simple.{new_rule}
use Rattle.clap.specs.declared.builder.action.ArgAction.TheVariants.{SetTrue}
use Rattle.report.specs.declared.write.Format.{Format}
use Rattle.report.specs.declared.write.Format.TheVariants as format
use Rattle.moves.specs.declared.reading.Reading.{Reading}
use Rattle.cli.specs.Capacities.{capacity_in, capacity_parser}
use Rattle.cli.specs.Limits.{limit_parser, reading_in}
use Rattle.cli.specs.declared.options.Options.{Options}

-- a flag, which clap notes as `true` where it is given
abbrev pub json_rule : Rule
json_rule = record (new_rule (codes "json")) {
  long = Some (codes "json");
  action = Some SetTrue;
}

-- an option with a number from 1 to 1024, which is 64 where it isn't given
abbrev pub capacity_rule : Rule
capacity_rule = record (new_rule (codes "capacity")) {
  long = Some (codes "capacity");
  value_names = 1;
  defaults = codes "64" ∷ [];
  parser = Some capacity_parser;
}

-- an option with a number of bytes, which has no value where it isn't given
abbrev pub eager_rule : Rule
eager_rule = record (new_rule (codes "eager")) {
  long = Some (codes "eager");
  value_names = 1;
  parser = Some limit_parser;
}

-- a flag for a check that is shown
abbrev pub progress_rule : Rule
progress_rule = record (new_rule (codes "progress")) {
  long = Some (codes "progress");
  action = Some SetTrue;
}

-- all options
abbrev pub option_rules : List Rule
option_rules = json_rule ∷ capacity_rule ∷ eager_rule ∷ progress_rule ∷ []

-- the flag is noted as given
abbrev pub is_given : Option Text → Bool
is_given flag = option_map_or (λ value. bytes_eq value (codes "true")) flag false

-- JSON where the flag is given, and else text
abbrev pub format_of : Option Text → Format
format_of flag = if is_given flag then format.Json else format.Text

-- the number of records that the option names
abbrev pub capacity_of : Option Text → Option ℕ
capacity_of number = option_and_then capacity_in number

-- the options, if each has a value of its form
abbrev pub given : Option Reading → Format → Option ℕ → Option Options
given (Some reading) format (Some capacity) = Some (record { reading = reading; format = format; capacity = capacity })
given _ format _ = None

-- the options that clap finds
abbrev pub options_of : List Row → Option Options
options_of rows =
    given (reading_in (first_of (codes "eager") rows)) (format_of (first_of (codes "json") rows)) (capacity_of (first_of (codes "capacity") rows))
