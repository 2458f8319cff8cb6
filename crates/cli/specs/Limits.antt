-- The reading that a command line asks for: the one with the limit that a text spells, in bytes and from 0 to
-- 2147483647; strict where there is no text.
use Rattle.std.specs.Prelude.{Option, Some, None, option_map}
use Rattle.mpicall.specs.declared.limits.TheConstants.{GREATEST_BYTES}
use Rattle.moves.specs.declared.reading.Reading.{Reading}
use Rattle.moves.specs.declared.reading.Reading.TheVariants.{Strict, Eager}
use Rattle.clap.specs.Walk.{Text}
use Rattle.clap.specs.declared.builder.value_parser.ValueParser.{ValueParser}
use Rattle.clap.specs.declared.builder.value_parser.ValueParser.TheVariants.{Unsigned}
use Rattle.cli.specs.Numbers.{number_within}

-- what clap takes for a limit
abbrev pub limit_parser : ValueParser
limit_parser = Unsigned 0 GREATEST_BYTES

abbrev pub reading_in : Option Text → Option Reading
reading_in (Some limit) = option_map Eager (number_within 0 GREATEST_BYTES limit)
reading_in None = Some Strict
