-- How many records of a rank may wait to be judged: the number that a text spells, from 1 to 1024.
use Rattle.std.specs.Prelude.{ℕ, Option}
use Rattle.clap.specs.Walk.{Text}
use Rattle.clap.specs.declared.builder.value_parser.ValueParser.{ValueParser}
use Rattle.clap.specs.declared.builder.value_parser.ValueParser.TheVariants.{Unsigned}
use Rattle.cli.specs.Numbers.{number_within}

-- what clap takes for such a number
abbrev pub capacity_parser : ValueParser
capacity_parser = Unsigned 1 1024

abbrev pub capacity_in : Text → Option ℕ
capacity_in text = number_within 1 1024 text
