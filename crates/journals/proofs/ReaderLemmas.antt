-- Which of the whole lines to come was found, and what came of a text before a read failed.
use Rattle.std.proofs.Common.{◌≡◌, ◌≢◌, ℕ, suc, ◌+◌, ◌-◌, ◌<◌, ◌≤◌, true, false, is_some, MatchOption, OnErr, Result, Ok, Err, List, [], ◌∷◌, ◌++◌, length, get_or, take, drop, sym, ap, ◌∙◌, refl, arith, subst, append_assoc, append-nil, length-append, Option, Some, None, option_map, inl, inr}
use Rattle.std.specs.Io.KnownBytes.{Keeps, prepend_known, Consumes, IsAtEnd}
use Rattle.std.proofs.KnownBytes.{Consumes-trans}
use Rattle.std.proofs.lemmas.Bool.Decides.{nat_tests}
use Rattle.std.proofs.lemmas.List.{length-take, nil_from_length}
use Rattle.mpicall.specs.Spelling.{line_feed}
use Rattle.journals.specs.Text.{whole_lines, is_too_long}
use Rattle.journals.specs.inner.LineWindow.{Fills, NoFeedBelow, FirstFeed, EndsLine}
use Rattle.journals.specs.inner.Reader.{IsLine, coming, ComesNext, NoneComes, LongComes, CutsLine, PassesOver}
use Rattle.journals.proofs.WholeLemmas.{first_whole, none_whole, none_in_both, feed_after}

-- ---- A line that is held ----

pub line_held : (held : List ℕ) (left : Option (List ℕ)) (count : ℕ) → EndsLine held left count → 0 < count → get_or held (count - 1) 0 ≡ line_feed → count ≤ 32768 → IsLine held count
line_held held left count (inl (place, is, first)) some feed short =
    let same : place ≡ count - 1 = omega arith in
    record { some = omega arith; within = omega (arith, first.within); short = short; feed = rw same at first }
line_held held left count (inr (is, none)) some feed short = absurd (none.none (count - 1) (omega arith) feed)

pub finds_whole : (old left : Option (List ℕ)) (held : List ℕ) (count : ℕ) → Keeps old (prepend_known held left) → IsLine held count → ComesNext (option_map whole_lines old) (take (count - 1) held) (coming (drop count held) left)
finds_whole None left held count keeps line = tt
finds_whole (Some text) None held count keeps line = absurd keeps
finds_whole (Some text) (Some left) held count keeps line =
    let same : suc (count - 1) ≡ count = omega (arith, line.some) in
    ap whole_lines (sym keeps) ∙ subst (λ n. whole_lines (held ++ left) ≡ take (count - 1) held ∷ whole_lines (drop n held ++ left)) same (first_whole held left (count - 1) line.feed)

-- ---- A line that is too long ----

too_long : (line : List ℕ) → 32768 ≤ length line → is_too_long line ≡ true
too_long line h = grind (arith, nat_tests)

pub finds_long : (old left : Option (List ℕ)) (held : List ℕ) (count : ℕ) → Keeps old (prepend_known held left) → EndsLine held left count → get_or held (count - 1) 0 ≡ line_feed → 32768 < count → LongComes (option_map whole_lines old)
finds_long None left held count keeps ends feed long = tt
finds_long (Some text) None held count keeps ends feed long = absurd keeps
finds_long (Some text) (Some left) held count keeps (inl (place, is, first)) feed long =
    (take place held, whole_lines (drop (suc place) held ++ left), ap whole_lines (sym keeps) ∙ first_whole held left place first, too_long (take place held) (omega (arith, length-take place held, first.within)))
finds_long (Some text) (Some left) held count keeps (inr (is, none)) feed long = absurd (none.none (count - 1) (omega arith) feed)

-- ---- No further line ----

pub finds_end : (old left : Option (List ℕ)) (held : List ℕ) (count : ℕ) → Keeps old (prepend_known held left) → EndsLine held left count → (0 < count → get_or held (count - 1) 0 ≢ line_feed) → count ≤ 32768 → NoneComes (option_map whole_lines old)
finds_end None left held count keeps ends feed short = tt
finds_end (Some text) None held count keeps ends feed short = absurd keeps
finds_end (Some text) (Some left) held count keeps (inl (place, is, first)) feed short =
    let same : place ≡ count - 1 = omega arith in
    absurd (feed (omega arith) (rw same at first.feed))
finds_end (Some text) (Some left) held count keeps (inr (is, none)) feed short =
    elim none.last [
      | inl long ↦ absurd (omega arith)
      | inr end ↦ (
          let whole : text ≡ held = sym keeps ∙ ap (λ (rest : List ℕ). held ++ rest) end ∙ append-nil held in
          ap whole_lines whole ∙ none_whole held none.none)
    ]

-- ---- Bytes that are passed over ----

pub no_feed_held : (held : List ℕ) (left : Option (List ℕ)) (count : ℕ) → EndsLine held left count → (0 < count → get_or held (count - 1) 0 ≢ line_feed) → (count ≡ length held) × NoFeedBelow held (length held)
no_feed_held held left count (inl (place, is, first)) feed =
    let same : place ≡ count - 1 = omega arith in
    absurd (feed (omega arith) (rw same at first.feed))
no_feed_held held left count (inr (is, none)) feed = (is, none.none)

consumes_held : (old left : Option (List ℕ)) (held : List ℕ) → Keeps old (prepend_known held left) → Consumes old left held
consumes_held None left held keeps = tt
consumes_held (Some text) None held keeps = absurd keeps
consumes_held (Some text) (Some left) held keeps = sym keeps

same_kept : (known : Option (List ℕ)) → Keeps known known
same_kept None = tt
same_kept (Some xs) = refl

pub passes_held : (left : Option (List ℕ)) (held : List ℕ) → NoFeedBelow held (length held) → 32768 < length held → PassesOver (prepend_known held left) left
passes_held left held none long =
    record { came = held; text = consumes_held (prepend_known held left) left held (same_kept (prepend_known held left)); none = none; long = long }

given : (old left : Option (List ℕ)) (held : List ℕ) → Keeps (prepend_known [] old) (prepend_known held left) → Consumes old left held
given None left held keeps = tt
given (Some xs) None held keeps = absurd keeps
given (Some xs) (Some ys) held keeps = sym keeps

pub passes_more : (first old left : Option (List ℕ)) (held : List ℕ) → PassesOver first old → Keeps (prepend_known [] old) (prepend_known held left) → NoFeedBelow held (length held) → PassesOver first left
passes_more first old left held p keeps none =
    record {
      came = p.came ++ held;
      text = Consumes-trans first old left p.came held p.text (given old left held keeps);
      none = none_in_both p.came held p.none none;
      long = omega (arith, length-append p.came held, p.long);
    }

none_in_nothing : NoFeedBelow [] 0
none_in_nothing k below is = absurd (omega arith)

passes_nothing : (first old left : Option (List ℕ)) (held : List ℕ) → PassesOver first old → Keeps (prepend_known [] old) (prepend_known held left) → held ≡ [] → PassesOver first left
passes_nothing first old left [] p keeps is = passes_more first old left [] p keeps none_in_nothing
passes_nothing first old left (byte ∷ held) p keeps is = cc

passes_all : (first left : Option (List ℕ)) → PassesOver first left → IsAtEnd left → NoneComes (option_map whole_lines first)
passes_all None left p end = tt
passes_all (Some text) None p end = absurd p.text
passes_all (Some text) (Some left) p end =
    let whole : text ≡ p.came = p.text ∙ ap (λ (rest : List ℕ). p.came ++ rest) end ∙ append-nil p.came in
    ap whole_lines whole ∙ none_whole p.came p.none

-- the text ends without a line feed
pub passes_end : (first old left : Option (List ℕ)) (held : List ℕ) → PassesOver first old → Keeps (prepend_known [] old) (prepend_known held left) → held ≡ [] → IsAtEnd left → NoneComes (option_map whole_lines first)
passes_end first old left held p keeps is end = passes_all first left (passes_nothing first old left held p keeps is) end

-- a read failed
pub passes_cut : (first old left : Option (List ℕ)) (held : List ℕ) → PassesOver first old → Keeps (prepend_known [] old) (prepend_known held left) → held ≡ [] → CutsLine first left
passes_cut first old left held p keeps is =
    let q = passes_nothing first old left held p keeps is in
    (q.came, q.text, none_whole q.came q.none)

text_is : (text came xs held ys : List ℕ) → text ≡ came ++ xs → held ++ ys ≡ xs → text ≡ came ++ held ++ ys
text_is text came xs held ys e k = e ∙ ap (λ (rest : List ℕ). came ++ rest) (sym k) ∙ sym (append_assoc came held ys)

-- the line feed came
pub passes_long : (first old left : Option (List ℕ)) (held : List ℕ) (place : ℕ) → PassesOver first old → Keeps (prepend_known [] old) (prepend_known held left) → FirstFeed held place → LongComes (option_map whole_lines first)
passes_long None old left held place p keeps found = tt
passes_long (Some text) None left held place p keeps found = absurd p.text
passes_long (Some text) (Some xs) None held place p keeps found = absurd keeps
passes_long (Some text) (Some xs) (Some ys) held place p keeps found =
    let both = p.came ++ held in
    let at_feed = feed_after p.came held place p.none found in
    let whole = text_is text p.came xs held ys p.text keeps in
    (take (length p.came + place) both, whole_lines (drop (suc (length p.came + place)) both ++ ys), ap whole_lines whole ∙ first_whole both ys (length p.came + place) at_feed, too_long (take (length p.came + place) both) (omega (arith, length-take (length p.came + place) both, at_feed.within, p.long)))

-- ---- A read into an empty window ----

from_empty : (old : Option (List ℕ)) (new : Option (List ℕ)) (empty : List ℕ) → empty ≡ [] → Keeps (prepend_known empty old) new → Keeps (prepend_known [] old) new
from_empty old new empty is keeps = subst (λ (xs : List ℕ). Keeps (prepend_known xs old) new) is keeps

pub skip_cut : (first old left : Option (List ℕ)) (empty held : List ℕ) → empty ≡ [] → PassesOver first old → Keeps (prepend_known empty old) (prepend_known held left) → held ≡ empty → CutsLine first left
skip_cut first old left empty held is p keeps same =
    passes_cut first old left held p (from_empty old (prepend_known held left) empty is keeps) (same ∙ is)

filled_none : (empty held : List ℕ) (count : ℕ) → empty ≡ [] → Fills empty held count → count ≡ 0 → held ≡ []
filled_none empty held count is fills none =
    let nothing : fills.0 ≡ [] = nil_from_length fills.0 (fills.2 ∙ none) in
    fills.1 ∙ ap (λ (xs : List ℕ). xs ++ fills.0) is ∙ nothing

pub skip_end : (first old left : Option (List ℕ)) (empty held : List ℕ) (count : ℕ) → empty ≡ [] → PassesOver first old → Keeps (prepend_known empty old) (prepend_known held left) → Fills empty held count → count ≡ 0 → IsAtEnd left → NoneComes (option_map whole_lines first)
skip_end first old left empty held count is p keeps fills none end =
    passes_end first old left held p (from_empty old (prepend_known held left) empty is keeps) (filled_none empty held count is fills none) end

at_feed : (o : Option ℕ) (seen held : List ℕ) → seen ≡ held → is_some o ≡ true → MatchOption o (NoFeedBelow seen (length seen)) (FirstFeed seen) → (place : ℕ) × FirstFeed held place
at_feed None seen held same some m = cc
at_feed (Some place) seen held same some m = (place, subst (λ (xs : List ℕ). FirstFeed xs place) same m)

pub skip_found : (first old left : Option (List ℕ)) (empty held seen : List ℕ) (o : Option ℕ) → empty ≡ [] → PassesOver first old → Keeps (prepend_known empty old) (prepend_known held left) → seen ≡ held → is_some o ≡ true → MatchOption o (NoFeedBelow seen (length seen)) (FirstFeed seen) → LongComes (option_map whole_lines first)
skip_found first old left empty held seen o is p keeps same some m =
    let found = at_feed o seen held same some m in
    passes_long first old left held found.0 p (from_empty old (prepend_known held left) empty is keeps) found.1

no_feed_seen : (o : Option ℕ) (seen held : List ℕ) → seen ≡ held → is_some o ≡ false → MatchOption o (NoFeedBelow seen (length seen)) (FirstFeed seen) → NoFeedBelow held (length held)
no_feed_seen None seen held same some m = subst (λ (xs : List ℕ). NoFeedBelow xs (length xs)) same m
no_feed_seen (Some place) seen held same some m = cc

pub skip_more : (first old left : Option (List ℕ)) (empty held seen : List ℕ) (o : Option ℕ) → empty ≡ [] → PassesOver first old → Keeps (prepend_known empty old) (prepend_known held left) → seen ≡ held → is_some o ≡ false → MatchOption o (NoFeedBelow seen (length seen)) (FirstFeed seen) → PassesOver first left
skip_more first old left empty held seen o is p keeps same some m =
    passes_more first old left held p (from_empty old (prepend_known held left) empty is keeps) (no_feed_seen o seen held same some m)

-- ---- What is answered ----

pub on_err : {T E : Type 0} (r : Result T E) {P : Type 0} → P → OnErr r P
on_err (Ok x) p = tt
on_err (Err e) p = p

-- ---- The same of a text that is partly held by now ----

pub long_before : (old now : Option (List ℕ)) → Keeps old now → LongComes (option_map whole_lines now) → LongComes (option_map whole_lines old)
long_before None now keeps h = tt
long_before (Some xs) None keeps h = absurd keeps
long_before (Some xs) (Some ys) keeps h = subst (λ (text : List ℕ). LongComes (Some (whole_lines text))) keeps h

pub none_before : (old now : Option (List ℕ)) → Keeps old now → NoneComes (option_map whole_lines now) → NoneComes (option_map whole_lines old)
none_before None now keeps h = tt
none_before (Some xs) None keeps h = absurd keeps
none_before (Some xs) (Some ys) keeps h = ap whole_lines (sym keeps) ∙ h

consumes_before : (old now left : Option (List ℕ)) (came : List ℕ) → Keeps old now → Consumes now left came → Consumes old left came
consumes_before None now left came keeps h = tt
consumes_before (Some xs) None left came keeps h = absurd keeps
consumes_before (Some xs) (Some ys) None came keeps h = absurd h
consumes_before (Some xs) (Some ys) (Some zs) came keeps h = sym keeps ∙ h

pub cut_before : (old now left : Option (List ℕ)) → Keeps old now → CutsLine now left → CutsLine old left
cut_before old now left keeps h = (h.0, consumes_before old now left h.0 keeps h.1, h.2)

pub cut_held : (old left : Option (List ℕ)) (held : List ℕ) → Keeps old (prepend_known held left) → NoFeedBelow held (length held) → CutsLine old left
cut_held old left held keeps none = (held, consumes_held old left held keeps, none_whole held none)
