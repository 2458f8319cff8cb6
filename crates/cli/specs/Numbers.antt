-- Numbers among the words of the command line, as clap reads them.
use Rattle.std.specs.Prelude.{ℕ, false, Option, Some, None, if◌then◌else◌}
use Rattle.std.specs.Str.Parse.{digits_value, without_leading_plus}
use Rattle.clap.specs.Walk.{Text}
use Rattle.clap.specs.ValueTests.{accepts}
use Rattle.clap.specs.declared.builder.value_parser.ValueParser.TheVariants.{Unsigned}

-- the number from `least` to `most` that a word spells, if clap takes the word for one
abbrev pub number_within : ℕ → ℕ → Text → Option ℕ
number_within least most word = if accepts false (Unsigned least most) word then Some (digits_value 10 (without_leading_plus word)) else None
