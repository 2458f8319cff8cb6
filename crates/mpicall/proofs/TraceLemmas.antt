-- How the first line of a text is found among the bytes that are held of it.
use Rattle.std.proofs.Common.{◌≡◌, ◌≢◌, ℕ, true, false, ◌==◌, List, [], ◌∷◌, ◌++◌, length, take, drop, refl, arith, zero, suc}
use Rattle.std.proofs.lemmas.Bool.Decides.{nat_tests}
use Rattle.std.specs.List.{onto_first}
use Rattle.mpicall.specs.Spelling.{line_feed}
use Rattle.mpicall.specs.inner.Window.{NoFeedBelow, FirstFeed}
use Rattle.mpicall.specs.Lines.{lines_of}

no_feed : (byte : ℕ) → byte ≢ line_feed → (byte == line_feed) ≡ false
no_feed byte h = grind (arith, nat_tests)

feed : (byte : ℕ) → byte ≡ line_feed → (byte == line_feed) ≡ true
feed byte h = grind (arith, nat_tests)

-- no feed in the tail either
none_in_tail : (byte : ℕ) (bytes : List ℕ) (n : ℕ) → NoFeedBelow (byte ∷ bytes) (suc n) → NoFeedBelow bytes n
none_in_tail byte bytes n none k below is = none (suc k) (omega arith) is

-- the first line is the bytes through the first line feed
pub line_at_feed : (buffered left : List ℕ) (place : ℕ) → FirstFeed buffered place → lines_of (buffered ++ left) ≡ take (suc place) buffered ∷ lines_of (drop (suc place) buffered ++ left)
line_at_feed [] left place f = absurd (omega (arith, f.within))
line_at_feed (byte ∷ bytes) left zero f = rw (feed byte f.feed) refl
line_at_feed (byte ∷ bytes) left (suc place) f =
    let here : byte ≢ line_feed = f.before 0 (omega arith) in
    let deeper = line_at_feed bytes left place (record { within = omega (arith, f.within); feed = f.feed; before = none_in_tail byte bytes place f.before }) in
    rw (no_feed byte here, deeper) refl

-- bytes without a line feed in front of the first of some lines
abbrev pub onto_line : List ℕ → List (List ℕ) → List (List ℕ)
onto_line buffered [] = buffered ∷ []
onto_line buffered (line ∷ lines) = (buffered ++ line) ∷ lines

onto_both : (byte : ℕ) (bytes : List ℕ) (lines : List (List ℕ)) → onto_first byte (onto_line bytes lines) ≡ onto_line (byte ∷ bytes) lines
onto_both byte bytes [] = refl
onto_both byte bytes (line ∷ lines) = refl

onto_one : (byte : ℕ) (lines : List (List ℕ)) → onto_first byte lines ≡ onto_line (byte ∷ []) lines
onto_one byte [] = refl
onto_one byte (line ∷ lines) = refl

pub line_without_feed : (byte : ℕ) (bytes left : List ℕ) → NoFeedBelow (byte ∷ bytes) (length (byte ∷ bytes)) → lines_of ((byte ∷ bytes) ++ left) ≡ onto_line (byte ∷ bytes) (lines_of left)
line_without_feed byte [] left none =
    let here : byte ≢ line_feed = none 0 (omega arith) in
    rw (no_feed byte here) (onto_one byte (lines_of left))
line_without_feed byte (next ∷ bytes) left none =
    let here : byte ≢ line_feed = none 0 (omega arith) in
    let deeper = line_without_feed next bytes left (none_in_tail byte (next ∷ bytes) (length (next ∷ bytes)) none) in
    rw (no_feed byte here, deeper) (onto_both byte (next ∷ bytes) (lines_of left))
