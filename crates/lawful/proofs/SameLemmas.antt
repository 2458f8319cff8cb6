-- Communicators have one number exactly if they are the same.
use Rattle.std.proofs.Common.{◌≡◌, ℕ, Option, Some, None, ap, ◌∙◌}
use Rattle.std.specs.Prelude.{option_and_then}
use Rattle.std.proofs.lemmas.Option.{none-some}
use Rattle.closing.specs.Keys.{Key}
use Rattle.closing.specs.Entries.{Run}
use Rattle.closing.specs.Numbers.{named_key, number_of}
use Rattle.lawful.specs.Same.{OneNumberExactlyIfTheSame, CallsAreOnOneNumberExactlyIfOnOne, EachNumberHasItsGroup}
use Rattle.lawful.proofs.KeyLemmas.{one_number_is_one_communicator}
use Rattle.lawful.proofs.NameLemmas.{numbered_group}

pub one_number_exactly_if_the_same : OneNumberExactlyIfTheSame
one_number_exactly_if_the_same run key other number is = (
  λ h. one_number_is_one_communicator run other key number h is,
  λ same. ap (number_of run) same ∙ is,
)

-- two that may name a communicator, with one number
named_same : (run : Run) (a b : Option Key) (number : ℕ) → option_and_then (number_of run) a ≡ Some number → option_and_then (number_of run) b ≡ Some number → b ≡ a
named_same run None b number is h = absurd (none-some number is)
named_same run (Some key) None number is h = absurd (none-some number h)
named_same run (Some key) (Some other) number is h =
    ap (λ (k : Key). Some k) (one_number_is_one_communicator run other key number h is)

pub calls_are_on_one_number_exactly_if_on_one : CallsAreOnOneNumberExactlyIfOnOne
calls_are_on_one_number_exactly_if_on_one run placed other number is = (
  λ h. named_same run (named_key placed) (named_key other) number is h,
  λ same. ap (λ (o : Option Key). option_and_then (number_of run) o) same ∙ is,
)

pub each_number_has_its_group : EachNumberHasItsGroup
each_number_has_its_group run key number h = numbered_group run key number h
