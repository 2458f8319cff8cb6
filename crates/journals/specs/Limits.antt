-- The limits of a journal.
use Rattle.std.specs.Prelude.{◌≡◌}
use Rattle.journals.specs.declared.limits.TheConstants.{MOST_LINE_BYTES, MOST_RANKS, GREATEST}

-- Law: the limits of a journal, in numbers.
pub record TheLimitsOfAJournal : Type 0 where
  pub most_line_bytes : MOST_LINE_BYTES ≡ 32768
  pub most_ranks : MOST_RANKS ≡ 1024
  pub greatest : GREATEST ≡ 2147483647
