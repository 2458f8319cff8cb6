-- The next line of a text: what is held of it, and which of the whole lines to come it is.
use Rattle.std.specs.Prelude.{◌≡◌, ℕ, ◌-◌, ◌<◌, ◌≤◌, true, Option, Some, None, option_map, List, [], ◌∷◌, length, take, drop, ⊤}
use Rattle.std.specs.Io.KnownBytes.{Keeps, prepend_known, Consumes}
use Rattle.journals.specs.Text.{whole_lines, is_too_long}
use Rattle.journals.specs.inner.LineWindow.{NoFeedBelow, FirstFeed}
use Rattle.journals.specs.declared.limits.TheConstants.{MOST_LINE_BYTES}
use Rattle.journals.specs.declared.reader.NextLine.{NextLine}
use Rattle.journals.specs.declared.reader.NextLine.TheVariants.{Whole, TooLong, End}

-- a line of so many of the held bytes, its line feed last and counted
pub record IsLine (held : List ℕ) (count : ℕ) : Type 0 where
  pub some : 1 ≤ count
  pub within : count ≤ length held
  pub short : count ≤ MOST_LINE_BYTES
  pub feed : FirstFeed held (count - 1)

abbrev pub IsHeld : List ℕ → NextLine → Type 0
IsHeld held (Whole count) = IsLine held count
IsHeld held TooLong = ⊤
IsHeld held End = ⊤

-- nothing of the text is lost while its next line is held
abbrev pub KeepsText : Option (List ℕ) → List ℕ → Option (List ℕ) → NextLine → Type 0
KeepsText old held left (Whole count) = Keeps old (prepend_known held left)
KeepsText old held left TooLong = ⊤
KeepsText old held left End = ⊤

-- the whole lines to come, of the bytes that are held and those that are left, if these are known
abbrev pub coming : List ℕ → Option (List ℕ) → Option (List (List ℕ))
coming held left = option_map whole_lines (prepend_known held left)

-- the lines that were to come are this one and those still to come
abbrev pub ComesNext : Option (List (List ℕ)) → List ℕ → Option (List (List ℕ)) → Type 0
ComesNext None line rest = ⊤
ComesNext (Some lines) line None = ⊥
ComesNext (Some lines) line (Some rest) = lines ≡ line ∷ rest

-- no line was to come
abbrev pub NoneComes : Option (List (List ℕ)) → Type 0
NoneComes None = ⊤
NoneComes (Some lines) = lines ≡ []

-- the next line that was to come is too long
abbrev pub LongComes : Option (List (List ℕ)) → Type 0
LongComes None = ⊤
LongComes (Some lines) =
    (line : List ℕ) × (rest : List (List ℕ)) × (lines ≡ line ∷ rest) × (is_too_long line ≡ true)

-- what was found is the next of the lines that were to come
abbrev pub Finds : Option (List (List ℕ)) → List ℕ → Option (List ℕ) → NextLine → Type 0
Finds old held left (Whole count) = ComesNext old (take (count - 1) held) (coming (drop count held) left)
Finds old held left TooLong = LongComes old
Finds old held left End = NoneComes old

-- a read failed: what came of the bytes that were to come has no whole line
abbrev pub CutsLine : Option (List ℕ) → Option (List ℕ) → Type 0
CutsLine old left = (came : List ℕ) × Consumes old left came × (whole_lines came ≡ [])

-- what came of the text is too much for a line, and has no line feed
pub record PassesOver (old left : Option (List ℕ)) : Type 0 where
  pub came : List ℕ
  pub text : Consumes old left came
  pub none : NoFeedBelow came (length came)
  pub long : MOST_LINE_BYTES < length came
