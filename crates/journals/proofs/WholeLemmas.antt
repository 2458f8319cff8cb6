-- The whole lines of a text, by the line feeds among the bytes that are held of it.
use Rattle.std.proofs.Common.{◌≡◌, ℕ, zero, suc, ◌+◌, ◌-◌, ◌<◌, Bool, true, false, nat_lt, List, [], ◌∷◌, ◌++◌, length, get_or, take, drop, map, sym, ap, ◌∙◌, refl, arith, append-nil, length-append}
use Rattle.std.specs.List.{filter}
use Rattle.std.proofs.lemmas.Bool.Decides.{nat_tests}
use Rattle.std.proofs.lemmas.List.{length-take, take-take, get_or-take, get_or-append_right}
use Rattle.mpicall.specs.Spelling.{line_feed}
use Rattle.mpicall.specs.Lines.{lines_of, has_line_feed, body_of}
use Rattle.mpicall.proofs.TraceLemmas.{line_at_feed, line_without_feed}
use Rattle.mpicall.proofs.GivesLemmas.{last_is_feed}
use Rattle.journals.specs.Text.{whole_lines}
use Rattle.journals.specs.inner.LineWindow.{NoFeedBelow, FirstFeed}

-- ---- The first whole line ----

lt_true : (a b : ℕ) → a < b → nat_lt a b ≡ true
lt_true a b h = grind (arith, nat_tests)

ends_with_feed : (held : List ℕ) (place : ℕ) → FirstFeed held place → has_line_feed (take (suc place) held) ≡ true
ends_with_feed held place f =
    let last : length (take (suc place) held) - 1 ≡ place = omega (arith, length-take (suc place) held, f.within) in
    let some : nat_lt 0 (length (take (suc place) held)) ≡ true = lt_true 0 _ (omega (arith, length-take (suc place) held, f.within)) in
    let is : get_or (take (suc place) held) place 0 ≡ line_feed = get_or-take (suc place) held place 0 (omega arith) ∙ f.feed in
    rw (some, last, is) refl

body_before_feed : (held : List ℕ) (place : ℕ) → place < length held → body_of (take (suc place) held) ≡ take place held
body_before_feed held place within =
    let last : length (take (suc place) held) - 1 ≡ place = omega (arith, length-take (suc place) held) in
    rw last (take-take place (suc place) held (omega arith))

one_whole : (line : List ℕ) (lines : List (List ℕ)) (body : List ℕ) → has_line_feed line ≡ true → body_of line ≡ body → map body_of (filter has_line_feed (line ∷ lines)) ≡ body ∷ map body_of (filter has_line_feed lines)
one_whole line lines body ends is = rw (ends, is) refl

-- the bytes before the first line feed are the first whole line
pub first_whole : (held left : List ℕ) (place : ℕ) → FirstFeed held place → whole_lines (held ++ left) ≡ take place held ∷ whole_lines (drop (suc place) held ++ left)
first_whole held left place f =
    let lines = line_at_feed held left place (record { within = f.within; feed = f.feed; before = f.before }) in
    ap (λ (ls : List (List ℕ)). map body_of (filter has_line_feed ls)) lines
    ∙ one_whole (take (suc place) held) (lines_of (drop (suc place) held ++ left)) (take place held) (ends_with_feed held place f) (body_before_feed held place f.within)

-- ---- Bytes without a line feed ----

last_no_feed : (bytes : List ℕ) (ends : Bool) → has_line_feed bytes ≡ ends → NoFeedBelow bytes (length bytes) → has_line_feed bytes ≡ false
last_no_feed bytes true is none = absurd (last_is_feed bytes is none)
last_no_feed bytes false is none = is

no_whole : (line : List ℕ) (lines : List (List ℕ)) → has_line_feed line ≡ false → map body_of (filter has_line_feed (line ∷ lines)) ≡ map body_of (filter has_line_feed lines)
no_whole line lines ends = rw ends refl

-- they are no whole line
pub none_whole : (bytes : List ℕ) → NoFeedBelow bytes (length bytes) → whole_lines bytes ≡ []
none_whole [] none = refl
none_whole (byte ∷ bytes) none =
    let text = byte ∷ bytes in
    let lines : lines_of text ≡ text ∷ [] = ap lines_of (sym (append-nil text)) ∙ line_without_feed byte bytes [] none in
    ap (λ (ls : List (List ℕ)). map body_of (filter has_line_feed ls)) lines
    ∙ no_whole text [] (last_no_feed text (has_line_feed text) refl none)

-- nor have two of them one
pub none_in_both : (xs ys : List ℕ) → NoFeedBelow xs (length xs) → NoFeedBelow ys (length ys) → NoFeedBelow (xs ++ ys) (length (xs ++ ys))
none_in_both [] ys nx ny k below is = ny k below is
none_in_both (x ∷ xs) ys nx ny zero below is = nx 0 (omega arith) is
none_in_both (x ∷ xs) ys nx ny (suc k) below is = none_in_both xs ys (λ j h e. nx (suc j) (omega arith) e) ny k (omega arith) is

before_both : (xs ys : List ℕ) (place : ℕ) → NoFeedBelow xs (length xs) → FirstFeed ys place → (k : ℕ) → k < length xs + place → get_or (xs ++ ys) k 0 ≡ line_feed → ⊥
before_both [] ys place none f k below is = f.before k (omega arith) is
before_both (x ∷ xs) ys place none f zero below is = none 0 (omega arith) is
before_both (x ∷ xs) ys place none f (suc k) below is = before_both xs ys place (λ j h e. none (suc j) (omega arith) e) f k (omega arith) is

-- the first line feed after bytes that have none
pub feed_after : (xs ys : List ℕ) (place : ℕ) → NoFeedBelow xs (length xs) → FirstFeed ys place → FirstFeed (xs ++ ys) (length xs + place)
feed_after xs ys place none f =
    let at : length xs + place - length xs ≡ place = omega arith in
    let here : get_or (xs ++ ys) (length xs + place) 0 ≡ get_or ys (length xs + place - length xs) 0 = get_or-append_right xs ys (length xs) (length xs + place) 0 refl (omega arith) in
    record {
      within = omega (arith, length-append xs ys, f.within);
      feed = here ∙ ap (λ n. get_or ys n 0) at ∙ f.feed;
      before = before_both xs ys place none f;
    }
