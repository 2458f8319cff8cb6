-- Where the lists of a recording end before their ends, rank by rank.
use Rattle.std.proofs.Common.{◌≡◌, ◌∙◌, ◌≤◌, ℕ, ◌+◌, zero, suc, All, Option, Some, None, List, [], ◌∷◌, ◌++◌, length, map, refl, sym, ap, subst, arith, append_assoc}
use Rattle.std.specs.Prelude.{option_map}
use Rattle.std.specs.List.{flat_map, range_with_len}
use Rattle.std.proofs.lemmas.List.{append-nil, map-append}
use Rattle.std.proofs.lemmas.List.FromFn.{length-map-range_with_len, map-range_with_len_more}
use Rattle.closing.specs.Entries.{Run}
use Rattle.closing.specs.Entry.{Choice}
use Rattle.closing.specs.Recording.{Listed, list_of, recording_of}
use Rattle.closing.specs.Recordings.{left_in}
use Rattle.closing.specs.Left.{Left, left_by, left_if, left_from, left_of}
use Rattle.closing.specs.declared.walk.Left.{Left as LeftFound}
use Rattle.closing.specs.declared.why.Why.{Why}
use Rattle.report.specs.declared.judged.LeftAt.{LeftAt}
use Rattle.report.specs.declared.judged.TheConstants.{MOST_WORDS}
use Rattle.std.proofs.lemmas.List.Elements.{All-append}
use Rattle.judging.specs.Judging.{LeftWords, left_said, left_words, words_of}

-- those of one list
abbrev pub left_one : ℕ → Listed → List Left
left_one rank list = flat_map (left_by rank list) list.records ++ left_if rank list.line list.why

left_snoc : (rank : ℕ) (lists : List Listed) (list : Listed) → left_from rank (lists ++ list ∷ []) ≡ left_from rank lists ++ left_one (rank + length lists) list
left_snoc rank [] list =
    let own : rank ≡ rank + 0 = omega arith in
    append-nil (left_one rank list) ∙ ap (λ (n : ℕ). left_one n list) own
left_snoc rank (first ∷ lists) list =
    let own : (rank + 1) + length lists ≡ rank + suc (length lists) = omega arith in
    ap (λ (ls : List Left). left_one rank first ++ ls) (left_snoc (rank + 1) lists list)
    ∙ sym (append_assoc (left_one rank first) (left_from (rank + 1) lists) (left_one ((rank + 1) + length lists) list))
    ∙ ap (λ (n : ℕ). (left_one rank first ++ left_from (rank + 1) lists) ++ left_one n list) own

-- those of the first ranks
abbrev pub left_ranks : Run → Choice → ℕ → List Left
left_ranks run choice count = left_from 0 (map (list_of run choice) (range_with_len 0 count))

left_next : (run : Run) (choice : Choice) (rank : ℕ) → left_ranks run choice (rank + 1) ≡ left_ranks run choice rank ++ left_one rank (list_of run choice rank)
left_next run choice rank =
    let count : 0 + length (map (list_of run choice) (range_with_len 0 rank)) ≡ rank = omega (arith, length-map-range_with_len (list_of run choice) 0 rank) in
    ap (left_from 0) (map-range_with_len_more (list_of run choice) 0 rank rank (omega arith))
    ∙ left_snoc 0 (map (list_of run choice) (range_with_len 0 rank)) (list_of run choice rank)
    ∙ ap (λ (n : ℕ). left_ranks run choice rank ++ left_one n (list_of run choice rank)) count

-- what is said of where a rank's list ends
abbrev pub said_of : ℕ → Option LeftFound → List LeftWords
said_of rank None = []
said_of rank (Some left) = record { rank = rank; line = left.line; words = words_of left.why } ∷ []

said_if : (rank : ℕ) (it : Listed) → map left_words (left_if rank it.line it.why) ≡ said_of rank (left_in it)
said_if rank it = by it.line it.why
  where
    by : (line : ℕ) (why : Option Why) → map left_words (left_if rank line why) ≡ said_of rank (option_map (λ w. record { line = line; why = w }) why)
    by line None = refl
    by line (Some why) = refl

-- with its entries that stand in no line of their own
said_one : (rank : ℕ) (it : Listed) → map left_words (left_one rank it) ≡ map left_words (flat_map (left_by rank it) it.records) ++ said_of rank (left_in it)
said_one rank it =
    map-append left_words (flat_map (left_by rank it) it.records) (left_if rank it.line it.why)
    ∙ ap (λ (ws : List LeftWords). map left_words (flat_map (left_by rank it) it.records) ++ ws) (said_if rank it)

pub left_here : (run : Run) (choice : Choice) (rank : ℕ) (outs : List Left) (found : Option LeftFound) (before : List LeftWords) → before ≡ map left_words (left_ranks run choice rank) →
    outs ≡ flat_map (left_by rank (list_of run choice rank)) (list_of run choice rank).records → found ≡ left_in (list_of run choice rank) →
    (before ++ map left_words outs) ++ said_of rank found ≡ map left_words (left_ranks run choice (rank + 1))
left_here run choice rank outs found before so_far outs_are is =
    let it : Listed = list_of run choice rank in
    ap (λ (ws : List LeftWords). (ws ++ map left_words outs) ++ said_of rank found) so_far
    ∙ append_assoc (map left_words (left_ranks run choice rank)) (map left_words outs) (said_of rank found)
    ∙ ap (λ (ls : List Left). map left_words (left_ranks run choice rank) ++ (map left_words ls ++ said_of rank found)) outs_are
    ∙ ap (λ (f : Option LeftFound). map left_words (left_ranks run choice rank) ++ (map left_words (flat_map (left_by rank it) it.records) ++ said_of rank f)) is
    ∙ ap (λ (ws : List LeftWords). map left_words (left_ranks run choice rank) ++ ws) (sym (said_one rank it))
    ∙ sym (map-append left_words (left_ranks run choice rank) (left_one rank it))
    ∙ ap (λ (ls : List Left). map left_words ls) (sym (left_next run choice rank))

pub left_whole : (run : Run) (choice : Choice) → left_ranks run choice (length run) ≡ left_of (recording_of run choice).lists
unfolding recording_of
left_whole run choice = refl

-- ---- Those that were found so far ----

-- a rank's entries that stand in no line of their own were put, and then where its list ends
module _ (run : Run) (choice : Choice) (rank : ℕ) (old mid : List LeftAt) (outs : List Left) (found : Option LeftFound) (from : found ≡ left_in (list_of run choice rank)) (are : outs ≡ flat_map (left_by rank (list_of run choice rank)) (list_of run choice rank).records) (put : map left_said mid ≡ map left_said old ++ map left_words outs) (so_far : map left_said old ≡ map left_words (left_ranks run choice rank)) where
  pub left_pushed : (new : List LeftAt) (left : LeftFound) (at : LeftAt) → new ≡ mid ++ at ∷ [] → left_said at ≡ left_words (record { rank = rank; line = left.line; why = left.why }) → found ≡ Some left →
      map left_said new ≡ map left_words (left_ranks run choice (rank + 1))
  left_pushed new left at is said some =
      ap (λ (ls : List LeftAt). map left_said ls) is ∙ map-append left_said mid (at ∷ [])
      ∙ ap (λ (w : LeftWords). map left_said mid ++ w ∷ []) said
      ∙ ap (λ (ws : List LeftWords). ws ++ said_of rank (Some left)) put
      ∙ left_here run choice rank outs (Some left) (map left_said old) so_far are (sym some ∙ from)

  pub left_none : found ≡ None → map left_said mid ≡ map left_words (left_ranks run choice (rank + 1))
  left_none none =
      put ∙ sym (append-nil (map left_said old ++ map left_words outs))
      ∙ left_here run choice rank outs None (map left_said old) so_far are (sym none ∙ from)

pub none_found : (found : Option LeftFound) → ((left : LeftFound) → found ≡ Some left → ⊥) → found ≡ None
none_found None other = refl
none_found (Some left) other = absurd (other left refl)

pub left_whole_at : (run : Run) (choice : Choice) (rank : ℕ) (all : List LeftAt) → rank ≡ length run → map left_said all ≡ map left_words (left_ranks run choice rank) →
    map left_said all ≡ map left_words (left_of (recording_of run choice).lists)
left_whole_at run choice rank all is so_far =
    so_far ∙ ap (λ (n : ℕ). map left_words (left_ranks run choice n)) is ∙ ap (λ (ls : List Left). map left_words ls) (left_whole run choice)

pub short_pushed : (old new : List LeftAt) (at : LeftAt) → All (λ one. length one.why.now ≤ MOST_WORDS) old → length at.why.now ≤ MOST_WORDS → new ≡ old ++ at ∷ [] →
    All (λ one. length one.why.now ≤ MOST_WORDS) new
short_pushed old new at short own is =
    subst (λ (ls : List LeftAt). All (λ one. length one.why.now ≤ MOST_WORDS) ls) (sym is)
    (All-append (λ one. length one.why.now ≤ MOST_WORDS) old (at ∷ []) short one_short)
  where
    one_short : All (λ one. length one.why.now ≤ MOST_WORDS) (at ∷ [])
    one_short zero d within = own
    one_short (suc k) d within = absurd (omega (arith, within))
