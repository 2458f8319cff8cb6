-- Where the journals of a run all end with a cut, those of a longer one do.
use Rattle.std.proofs.Common.{◌≡◌, ℕ, suc, ◌&&◌, Bool, true, Option, Some, None, List, [], ◌∷◌, length, refl, sym, ap, subst, ◌∙◌, inl, inr, arith}
use Rattle.std.proofs.lemmas.Bool.{and_parts, false≢true}
use Rattle.journals.specs.Lines.{Line}
use Rattle.journals.specs.Entries.{Entry, Listing, last_of, listing_of, put_line}
use Rattle.journals.specs.Faults.{ends_journal, ends_with_cut, is_cut, is_entry_cut}
use Rattle.journals.specs.Journal.{Journal}
use Rattle.journals.specs.declared.field.Field.{Field}
use Rattle.journals.specs.declared.word.Word.{Word}
use Rattle.journals.specs.declared.word.Word.TheVariants.{Call as CallLine, Report}
use Rattle.journals.specs.declared.word.CallWord.{CallWord}
use Rattle.journals.specs.declared.word.CallWord.TheVariants as call
use Rattle.journals.specs.declared.word.ReportWord.TheVariants as report
use Rattle.closing.specs.Entries.{Run, journal_at, lines_in, lines_at, is_cut_off, is_window}
use Rattle.lawful.specs.Laws.{IsRead}
use Rattle.lawful.specs.LongerTold.{AreAmong}
use Rattle.lawful.proofs.JournalEnds.{OnlyLastEnds}
use Rattle.lawful.proofs.RunFacts.{ends_of_rank}

-- ---- A journal that ends with a cut ----

abbrev last_cut : Listing → Bool
last_cut listing = is_entry_cut (last_of listing.entries)

cut_ends : (word : CallWord) → is_cut word ≡ true → ends_journal (CallLine word) ≡ true
cut_ends call.Cut h = refl
cut_ends _ h = absurd (false≢true h)

last_put : (first : Entry) (entries : List Entry) → is_entry_cut (last_of entries) ≡ true → is_entry_cut (last_of (first ∷ entries)) ≡ true
last_put first [] h = absurd (false≢true h)
last_put first (entry ∷ entries) h = h

-- the same line in front of both; after a cut comes nothing
put_cut : (word : Word) (fields : List Field) (rest : Listing) (others : List Line) → (last_cut rest ≡ true → last_cut (listing_of others) ≡ true) → (ends_journal word ≡ true → others ≡ []) → last_cut (put_line word fields rest) ≡ true → last_cut (put_line word fields (listing_of others)) ≡ true
put_cut (Report word) fields rest others keeps none h = keeps h
put_cut (CallLine word) fields rest others keeps none h = by_rest rest.entries refl h
  where
    entry : Listing → Entry
    entry listing = record { word = word; fields = fields; reports = listing.early }

    by_rest : (entries : List Entry) → rest.entries ≡ entries → is_entry_cut (last_of (entry rest ∷ entries)) ≡ true → last_cut (put_line (CallLine word) fields (listing_of others)) ≡ true
    by_rest [] is h = subst (λ (os : List Line). last_cut (put_line (CallLine word) fields (listing_of os)) ≡ true) (sym (none (cut_ends word h))) h
    by_rest (one ∷ entries) is h = last_put (entry (listing_of others)) (listing_of others).entries (keeps (ap (λ (es : List Entry). is_entry_cut (last_of es)) is ∙ h))

told_cut : (word : Word) (fields : List Field) (rest : Listing) → word ≡ Report report.Done → last_cut rest ≡ true → last_cut (put_line word fields rest) ≡ true
told_cut word fields rest is h = subst (λ (w : Word). last_cut (put_line w fields rest) ≡ true) (sym is) h

cut_among : (all lines others : List Line) → AreAmong all lines others → OnlyLastEnds others → ends_with_cut lines ≡ true → ends_with_cut others ≡ true
cut_among all [] others among ends h = absurd (false≢true h)
cut_among all (line ∷ lines) [] among ends h = absurd among
cut_among all (line ∷ lines) (other ∷ others) (inl here) ends h =
    subst (λ (one : Line). last_cut (put_line one.word one.fields (listing_of others)) ≡ true) (sym here.0)
    (put_cut line.word line.fields (listing_of lines) others (λ rest. cut_among all lines others here.1 ends.1 rest)
    (subst (λ (one : Line). ends_journal one.word ≡ true → others ≡ []) here.0 ends.0) h)
cut_among all (line ∷ lines) (other ∷ others) (inr told) ends h =
    told_cut other.word other.fields (listing_of others) told.0.word (cut_among all (line ∷ lines) others told.1 ends.1 h)

cut_still : (o other : Option Journal) → AreAmong (lines_in o) (lines_in o) (lines_in other) → ((journal : Journal) → other ≡ Some journal → OnlyLastEnds journal.lines) → is_cut_off o ≡ true → is_cut_off other ≡ true
cut_still None other among ends h = absurd (false≢true h)
cut_still (Some journal) None among ends h = absurd (false≢true (cut_among journal.lines journal.lines [] among tt h))
cut_still (Some journal) (Some later) among ends h = cut_among journal.lines journal.lines later.lines among (ends later refl) h

-- ---- A run ----

all_still : (run longer : Run) → length longer ≡ length run → ((rank : ℕ) → is_cut_off (journal_at run rank) ≡ true → is_cut_off (journal_at longer rank) ≡ true) → is_window run ≡ true → is_window longer ≡ true
all_still [] [] ranks keeps h = refl
all_still [] (other ∷ longer) ranks keeps h = absurd (omega (arith, ranks))
all_still (o ∷ run) [] ranks keeps h = absurd (omega (arith, ranks))
all_still (o ∷ run) (other ∷ longer) ranks keeps h =
    let parts = and_parts (is_cut_off o) (is_window run) h in
    both (is_cut_off other) (is_window longer) (keeps 0 parts.0) (all_still run longer (omega (arith, ranks)) (λ rank. keeps (suc rank)) parts.1)
  where
    both : (a b : Bool) → a ≡ true → b ≡ true → (a && b) ≡ true
    both a b first second = rw (first, second) refl

pub window_still : (run longer : Run) → IsRead longer → length longer ≡ length run → ((rank : ℕ) → AreAmong (lines_at run rank) (lines_at run rank) (lines_at longer rank)) → is_window run ≡ true → is_window longer ≡ true
window_still run longer read ranks among h =
    all_still run longer ranks
    (λ rank. cut_still (journal_at run rank) (journal_at longer rank) (among rank)
    (λ journal is. ends_of_rank read.first read.texts longer read.is_read rank journal is)) h
