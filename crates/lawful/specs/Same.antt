-- Laws of the numbers of communicators: which calls of different ranks are on one communicator.
use Rattle.std.specs.Prelude.{◌≡◌, ◌↔◌, ℕ, Some, length, slice_get}
use Rattle.closing.specs.Keys.{Key, group_of_key}
use Rattle.closing.specs.Entries.{Run, Placed}
use Rattle.closing.specs.Endings.{number_at}
use Rattle.closing.specs.Numbers.{named_key, number_of, groups_of}

-- Law: a communicator has the number of another exactly if the two are the same.
abbrev pub OneNumberExactlyIfTheSame : Type 0
OneNumberExactlyIfTheSame =
    (run : Run) (key other : Key) (number : ℕ) → number_of run key ≡ Some number →
    (number_of run other ≡ Some number) ↔ (other ≡ key)

-- Law: the calls of two entries, of one rank or of two, are on one number exactly if they name one
-- communicator.
abbrev pub CallsAreOnOneNumberExactlyIfOnOne : Type 0
CallsAreOnOneNumberExactlyIfOnOne =
    (run : Run) (placed other : Placed) (number : ℕ) → number_at run placed ≡ Some number →
    (number_at run other ≡ Some number) ↔ (named_key other ≡ named_key placed)

-- Law: the group that the head gives for a communicator's number is the communicator's.
abbrev pub EachNumberHasItsGroup : Type 0
EachNumberHasItsGroup =
    (run : Run) (key : Key) (number : ℕ) → number_of run key ≡ Some number →
    slice_get (groups_of run) number ≡ Some (group_of_key (length run) key)
