-- Bytes that are held ahead of an input.
use Rattle.std.specs.Prelude.{◌≡◌, ◌≢◌, ℕ, ◌+◌, ◌-◌, ◌<◌, ◌⊎◌, Option, List, ◌++◌, length, take, drop, slice_index}
use Rattle.std.specs.Io.KnownBytes.{IsAtEnd}
use Rattle.mpicall.specs.Spelling.{line_feed}
use Rattle.mpicall.specs.Lines.{most_bytes}

-- `count` more bytes are held
abbrev pub Fills : List ℕ → List ℕ → ℕ → Type 0
Fills old new count = (more : List ℕ) × (new ≡ old ++ more) × (length more ≡ count)

-- the bytes of a buffer from one place up to another
abbrev pub buffered_between : ℕ → ℕ → List ℕ → List ℕ
buffered_between start end buffer = take (end - start) (drop start buffer)

-- none of the first `n` bytes is a line feed
abbrev pub NoFeedBelow : List ℕ → ℕ → Type 0
NoFeedBelow bytes n = (k : ℕ) → k < n → slice_index bytes k ≢ line_feed

-- the first line feed is at this place
pub record FirstFeed (bytes : List ℕ) (place : ℕ) : Type 0 where
  pub within : place < length bytes
  pub feed : slice_index bytes place ≡ line_feed
  pub before : NoFeedBelow bytes place

-- the held bytes have no line feed, and are too long for a line or all that there is
pub record HasNoFeed (bytes : List ℕ) (left : Option (List ℕ)) : Type 0 where
  pub none : NoFeedBelow bytes (length bytes)
  pub last : (most_bytes < length bytes) ⊎ IsAtEnd left

-- the next line has `n` of the held bytes: those through the first line feed, or all
abbrev pub EndsLine : List ℕ → Option (List ℕ) → ℕ → Type 0
EndsLine buffered left n =
    ((place : ℕ) × (n ≡ place + 1) × FirstFeed buffered place) ⊎ ((n ≡ length buffered) × HasNoFeed buffered left)
