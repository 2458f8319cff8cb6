-- Whether a journal ends with a cut, by its last call line.
use Rattle.std.proofs.Common.{◌≡◌, refl, sym, ap, subst, ◌∙◌, arith, ℕ, zero, suc, ◌+◌, ◌≤◌, Bool, true, false, ◌||◌, ◌&&◌, true≢false, Option, Some, None, option_map, List, [], ◌∷◌, drop, length, slice_get}
use Rattle.journals.specs.Entries.{Entry, entries_of, last_entry, last_of, listing_of, put_line}
use Rattle.journals.specs.Faults.{ends_with_cut, is_cut, is_entry_cut}
use Rattle.journals.specs.Lines.{Line}
use Rattle.journals.specs.Taking.{word_at}
use Rattle.journals.specs.Words.{is_call}
use Rattle.journals.specs.declared.field.Field.{Field}
use Rattle.journals.specs.declared.word.CallWord.{CallWord}
use Rattle.journals.specs.declared.word.Word.{Word}
use Rattle.journals.specs.declared.word.Word.TheVariants.{Call, Report}
use Rattle.journals.specs.declared.journal.Journal.{Journal as JournalRead}
use Rattle.closing.specs.Entries.{is_cut_off, is_window, lines_at, lines_in}
use Rattle.closing.specs.Journals.{journal_in, run_in}
use Rattle.closing.specs.inner.Noted.{HavePlaces, IsLastCall, call_if, has_call, is_cut_if}
use Rattle.closing.specs.inner.Rankwise.{AreFew}
use Rattle.closing.specs.declared.last.LastCall.{LastCall}

-- ---- The last entry ----

last_more : (first : Entry) (entries : List Entry) (last : Entry) → last_of entries ≡ Some last → last_of (first ∷ entries) ≡ Some last
last_more first [] last e = cc
last_more first (other ∷ entries) last e = e

none_there : (lines : List Line) → has_call lines ≡ false → entries_of lines ≡ []
none_there [] none = refl
none_there (line ∷ lines) none = by line.word line.fields none (none_there lines)
  where
    by : (word : Word) (fields : List Field) → (is_call word || has_call lines) ≡ false → (has_call lines ≡ false → entries_of lines ≡ []) → (put_line word fields (listing_of lines)).entries ≡ []
    by (Call word) fields none rest = absurd (true≢false none)
    by (Report word) fields none rest = rest none

-- the last entry is that of a call line after which none comes
last_at : (lines : List Line) (n : ℕ) (word : CallWord) → word_at lines n ≡ Some (Call word) → has_call (drop (suc n) lines) ≡ false
    → (entry : Entry) × (last_entry lines ≡ Some entry) × (entry.word ≡ word)
last_at [] n word e none = absurd (cc)
last_at (line ∷ lines) zero word e none =
    let is : line.word ≡ Call word = cc in
    first line.word line.fields is (none_there lines none)
  where
    first : (it : Word) (fields : List Field) → it ≡ Call word → entries_of lines ≡ []
        → (entry : Entry) × (last_of (put_line it fields (listing_of lines)).entries ≡ Some entry) × (entry.word ≡ word)
    first (Report other) fields e none = absurd (cc)
    first (Call other) fields e none =
        let entry : Entry = record { word = other; fields = fields; reports = (listing_of lines).early } in
        let same : other ≡ word = cc in
        (entry, ap (λ (entries : List Entry). last_of (entry ∷ entries)) none, same)
last_at (line ∷ lines) (suc n) word e none = later line.word line.fields (last_at lines n word e none)
  where
    later : (it : Word) (fields : List Field) → (entry : Entry) × (last_entry lines ≡ Some entry) × (entry.word ≡ word)
        → (entry : Entry) × (last_of (put_line it fields (listing_of lines)).entries ≡ Some entry) × (entry.word ≡ word)
    later (Report other) fields rest = rest
    later (Call other) fields rest =
        (rest.0, last_more (record { word = other; fields = fields; reports = (listing_of lines).early }) (entries_of lines) rest.0 rest.1, rest.2)

plus_one : (n : ℕ) → n + 1 ≡ suc n
plus_one n = omega arith

pub cut_last : (lines : List Line) (outside : Bool) (last : LastCall) → IsLastCall lines outside (Some last) → is_cut_if (call_if (word_at lines last.line)) ≡ ends_with_cut lines
cut_last lines outside last (word, it) =
    let at = last_at lines last.line word it.at (subst (λ (n : ℕ). has_call (drop n lines) ≡ false) (plus_one last.line) it.none) in
    ap (λ o. is_cut_if (call_if o)) it.at ∙ ap is_cut (sym at.2) ∙ sym (ap is_entry_cut at.1)

pub cut_none : (lines : List Line) → has_call lines ≡ false → false ≡ ends_with_cut lines
cut_none lines none = sym (ap (λ entries. is_entry_cut (last_of entries)) (none_there lines none))

-- ---- The journals of all ranks ----

pub window_step : (journals : List (Option JournalRead)) (rank : ℕ) (it : Option JournalRead) (cut : Bool) → slice_get journals rank ≡ Some it → is_cut_off (option_map journal_in it) ≡ cut
    → is_window (drop rank (run_in journals)) ≡ (cut && is_window (drop (rank + 1) (run_in journals)))
window_step journals rank it cut at is = subst (λ (n : ℕ). is_window (drop rank (run_in journals)) ≡ (cut && is_window (drop n (run_in journals)))) (sym (plus_one rank)) (from journals rank at)
  where
    from : (all : List (Option JournalRead)) (n : ℕ) → slice_get all n ≡ Some it → is_window (drop n (run_in all)) ≡ (cut && is_window (drop (suc n) (run_in all)))
    from [] n e = absurd (cc)
    from (one ∷ all) zero e =
        let same : one ≡ it = cc in
        ap (λ (b : Bool). b && is_window (run_in all)) (ap (λ o. is_cut_off (option_map journal_in o)) same ∙ is)
    from (one ∷ all) (suc n) e = from all n e

pub window_end : (journals : List (Option JournalRead)) (rank : ℕ) → length journals ≤ rank → is_window (drop rank (run_in journals)) ≡ true
window_end [] zero past = refl
window_end [] (suc rank) past = refl
window_end (one ∷ journals) zero past = absurd (omega arith)
window_end (one ∷ journals) (suc rank) past = window_end journals rank (omega arith)

-- a rank's journal has places where no journal has too many lines
pub places_at : (journals : List (Option JournalRead)) (rank : ℕ) (it : Option JournalRead) → AreFew journals → slice_get journals rank ≡ Some it → HavePlaces (lines_in (option_map journal_in it))
places_at journals rank it few at =
    let there : lines_at (run_in journals) rank ≡ lines_in (option_map journal_in it) = from journals rank at in
    let short = few rank in
    omega (arith, short, ap length there)
  where
    from : (all : List (Option JournalRead)) (n : ℕ) → slice_get all n ≡ Some it → lines_at (run_in all) n ≡ lines_in (option_map journal_in it)
    from [] n e = absurd (cc)
    from (one ∷ all) zero e = ap (λ o. lines_in (option_map journal_in o)) (same e)
      where
        same : ◌≡◌ {A = Option (Option JournalRead)} (Some one) (Some it) → one ≡ it
        same h = cc
    from (one ∷ all) (suc n) e = from all n e
