-- The place of the first line feed of held bytes, by a search after those that were searched.
use Rattle.std.proofs.Common.{◌≡◌, ℕ, ◌+◌, ◌-◌, ◌≤◌, ◌<◌, true, List, length, get_or, take, drop, sym, ap, ◌∙◌, arith, Some, None, inl, inr}
use Rattle.std.proofs.lemmas.Bool.Decides.{nat_tests}
use Rattle.std.proofs.lemmas.Bool.{cases_lt}
use Rattle.std.proofs.lemmas.List.{take_all, length-drop, get_or-drop}
use Rattle.memchr.specs.Find.{IsFirstByte, is_byte}
use Rattle.mpicall.specs.Spelling.{line_feed}
use Rattle.journals.specs.inner.LineWindow.{NoFeedBelow, FirstFeed}

rest_is : (bytes : List ℕ) (from : ℕ) → from ≤ length bytes → take (length bytes - from) (drop from bytes) ≡ drop from bytes
rest_is bytes from within = take_all (length bytes - from) (drop from bytes) (omega (arith, length-drop from bytes))

is_feed : (byte : ℕ) → is_byte line_feed byte ≡ true → byte ≡ line_feed
is_feed byte h = grind (arith, nat_tests)

feed_is : (byte : ℕ) → byte ≡ line_feed → is_byte line_feed byte ≡ true
feed_is byte h = grind (arith, nat_tests)

-- no feed below `from`, and none of the `count` bytes after it
none_further : (bytes : List ℕ) (from count : ℕ) → NoFeedBelow bytes from → ((j : ℕ) → j < count → is_byte line_feed (get_or (drop from bytes) j 0) ≡ true → ⊥) → NoFeedBelow bytes (from + count)
none_further bytes from count before none k below is =
    elim (cases_lt k from) [
      | inl low ↦ before k low is
      | inr high ↦ (
          let place : from + (k - from) ≡ k = omega arith in
          none (k - from) (omega arith) (feed_is _ (get_or-drop from bytes (k - from) 0 ∙ ap (λ n. get_or bytes n 0) place ∙ is)))
    ]

pub feed_found : (bytes : List ℕ) (from at : ℕ) → from ≤ length bytes → NoFeedBelow bytes from → IsFirstByte (is_byte line_feed) (take (length bytes - from) (drop from bytes)) (Some at) → FirstFeed bytes (from + at)
feed_found bytes from at within before first =
    let found = rw (rest_is bytes from within) at first in
    record {
      within = omega (arith, found.0.high, length-drop from bytes);
      feed = sym (get_or-drop from bytes at 0) ∙ is_feed _ found.1;
      before = none_further bytes from at before (λ j below. found.0.before j (omega arith) below);
    }

pub feed_missing : (bytes : List ℕ) (from : ℕ) → from ≤ length bytes → NoFeedBelow bytes from → IsFirstByte (is_byte line_feed) (take (length bytes - from) (drop from bytes)) None → NoFeedBelow bytes (length bytes)
feed_missing bytes from within before first =
    let nowhere = rw (rest_is bytes from within) at first in
    let count : from + length (drop from bytes) ≡ length bytes = omega (arith, length-drop from bytes) in
    rw count at (none_further bytes from (length (drop from bytes)) before (λ j below. nowhere j (omega arith) below))
