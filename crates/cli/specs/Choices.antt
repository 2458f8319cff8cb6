-- The options of `judge` and `close`: what clap is asked to read of each, and their values.
use Rattle.std.specs.Prelude.{ℕ, ◌==◌, Bool, true, false, Option, Some, None, is_none, List, [], ◌∷◌, codes, map, replicate, option_and_then, bytes_eq, if◌then◌else◌}
use Rattle.std.specs.List.{list_any, range_with_len}
use Rattle.std.specs.Option.{option_map_or}
use Rattle.clap.specs.Walk.{Row, Rule, Text, first_of, all_of}
use Rattle.clap.specs.Simple.{new_rule}
use Rattle.clap.specs.declared.builder.action.ArgAction.TheVariants.{Append, SetTrue}
use Rattle.clap.specs.declared.builder.value_parser.ValueParser.TheVariants.{Unsigned}
use Rattle.closing.specs.declared.choice.Calls.{Calls}
use Rattle.closing.specs.declared.choice.Calls.TheVariants.{Strict, Went}
use Rattle.closing.specs.declared.choice.Choice.{Choice}
use Rattle.closing.specs.declared.choice.Tests.{Tests}
use Rattle.closing.specs.declared.choice.Tests.TheVariants.{Wait, Pass}
use Rattle.closing.specs.declared.choice.Unreported.TheVariants.{Ends}
use Rattle.judging.specs.declared.judge.Manner.{Manner}
use Rattle.moves.specs.declared.reading.Reading.{Reading}
use Rattle.report.specs.declared.write.Format.{Format}
use Rattle.report.specs.declared.write.Format.TheVariants.{Json}
use Rattle.report.specs.declared.write.Format.TheVariants as format
use Rattle.cli.specs.Limits.{reading_in}
use Rattle.cli.specs.Numbers.{number_within}
use Rattle.cli.specs.Options.{json_rule, eager_rule, progress_rule, format_of, is_given}

-- options with a word, which is this one where it isn't given
abbrev pub tests_rule : Rule
tests_rule = record (new_rule (codes "tests")) {
  long = Some (codes "tests");
  value_names = 1;
  defaults = codes "wait" ∷ [];
}

abbrev pub calls_rule : Rule
calls_rule = record (new_rule (codes "calls")) {
  long = Some (codes "calls");
  value_names = 1;
  defaults = codes "strict" ∷ [];
}

-- a flag for the report to say which ranks are held, and an option with a rank that is asked for, which may come again
abbrev pub held_rule : Rule
held_rule = record (new_rule (codes "held")) {
  long = Some (codes "held");
  action = Some SetTrue;
}

abbrev pub held_rank_rule : Rule
held_rank_rule = record (new_rule (codes "held-rank")) {
  long = Some (codes "held-rank");
  value_names = 1;
  action = Some Append;
  parser = Some (Unsigned 0 1023);
}

-- those of `close`, and those of `judge`
abbrev pub choice_rules : List Rule
choice_rules = tests_rule ∷ calls_rule ∷ []

abbrev pub manner_rules : List Rule
manner_rules = json_rule ∷ eager_rule ∷ progress_rule ∷ held_rule ∷ held_rank_rule ∷ choice_rules

abbrev pub tests_in : Text → Option Tests
tests_in word = if bytes_eq word (codes "wait") then Some Wait else (if bytes_eq word (codes "pass") then Some Pass else None)

abbrev pub calls_in : Text → Option Calls
calls_in word = if bytes_eq word (codes "strict") then Some Strict else (if bytes_eq word (codes "went") then Some Went else None)

-- how journals are closed, if each word is one of its option's
abbrev pub choice_by : Option Tests → Option Calls → Option Choice
choice_by (Some tests) (Some calls) = Some (record { tests = tests; calls = calls; unreported = Ends })
choice_by _ _ = None

abbrev pub choice_of : List Row → Option Choice
choice_of rows =
    choice_by (option_and_then tests_in (first_of (codes "tests") rows)) (option_and_then calls_in (first_of (codes "calls") rows))

-- the rank is the number that the text spells
abbrev pub is_rank : ℕ → Text → Bool
is_rank rank text = option_map_or (λ number. number == rank) (number_within 0 1023 text) false

-- it is named
abbrev pub is_named : List Text → ℕ → Bool
is_named texts rank = list_any (is_rank rank) texts

-- the ranks that are asked for, by a mark for each: those that are named, or all where the flag is given alone
abbrev pub asked_by : Bool → Option (List Text) → Option (List Bool)
asked_by is_held (Some texts) = Some (map (is_named texts) (range_with_len 0 1024))
asked_by true None = Some (replicate 1024 true)
asked_by false None = None

-- only a JSON report says which ranks are held
abbrev pub can_say : Format → Option (List Bool) → Bool
can_say Json asked = true
can_say format.Text asked = is_none asked

-- how journals are judged, if each option has a value of its form
abbrev pub manner_by : Option Choice → Option Reading → Format → Option (List Bool) → Option Manner
manner_by (Some choice) (Some reading) format held =
    if can_say format held then Some (record { choice = choice; reading = reading; format = format; held = held }) else None
manner_by _ _ format held = None

abbrev pub manner_of : List Row → Option Manner
manner_of rows =
    manner_by (choice_of rows) (reading_in (first_of (codes "eager") rows)) (format_of (first_of (codes "json") rows))
    (asked_by (is_given (first_of (codes "held") rows)) (all_of (codes "held-rank") rows))
