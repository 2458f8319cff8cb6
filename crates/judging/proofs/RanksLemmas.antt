-- How many ranks a run has whose first journal was read.
use Rattle.std.proofs.Common.{◌≡◌, ℕ, ◌≤◌, Bool, true, false, Option, Some, None, List, [], ◌∷◌, refl, subst, arith, inl, inr}
use Rattle.std.specs.Prelude.{Result, Ok, Err, option_and_then, nat_le}
use Rattle.std.proofs.lemmas.Bool.{cases_Bool, leb-true}
use Rattle.std.proofs.lemmas.Option.{none-some, same_Some}
use Rattle.mpicall.specs.Lines.{split_fields}
use Rattle.mpicall.specs.Number.{number_up_to}
use Rattle.mpicall.proofs.DecimalLemmas.{number-decimal}
use Rattle.journals.specs.Fields.{at_least_one}
use Rattle.journals.specs.Header.{Heading, heading_of, heading_in, heading_if, state_of, is_of_run}
use Rattle.journals.specs.Text.{is_too_long, text_of, whole_lines}
use Rattle.journals.specs.Lines.{Line}
use Rattle.journals.specs.Journal.{Journal, Fault, lines_after, with_heading, after_header, journal_of_lines}
use Rattle.journals.specs.declared.limits.TheConstants.{MOST_RANKS}
use Rattle.journals.proofs.JournalLemmas.{moved_right}
use Rattle.closing.specs.Journals.{journal_of}

err_ok : {A B : Type 0} (e : B) (x : A) → ◌≡◌ {A = Result A B} (Err e) (Ok x) → ⊥
err_ok e x h = cc

same_Ok : {A B : Type 0} (x y : A) → ◌≡◌ {A = Result A B} (Ok x) (Ok y) → x ≡ y
same_Ok x y h = cc

abbrev FitsRanks : ℕ → Type 0
FitsRanks ranks = (1 ≤ ranks) × (ranks ≤ MOST_RANKS)

ranks_fit : (o : Option ℕ) (ranks : ℕ) → ((n : ℕ) → o ≡ Some n → n ≤ MOST_RANKS) → option_and_then at_least_one o ≡ Some ranks → FitsRanks ranks
ranks_fit None ranks low h = absurd (none-some ranks h)
ranks_fit (Some n) ranks low h =
    elim (cases_Bool (nat_le 1 n)) [
      | inl some ↦ subst FitsRanks (same_Some n ranks (rw some at h)) (leb-true 1 n some, low n refl)
      | inr none ↦ absurd (none-some ranks (rw none at h))
    ]

number_low : (text : List ℕ) (n : ℕ) → number_up_to MOST_RANKS text ≡ Some n → n ≤ MOST_RANKS
number_low text n h = (number-decimal MOST_RANKS n text (omega arith) h).1

heading_fits : (b : Bool) (o : Option ℕ) (run : List ℕ) (state : Option Bool) (heading : Heading) → ((n : ℕ) → o ≡ Some n → FitsRanks n) → heading_if b o run state ≡ Some heading → FitsRanks heading.ranks
heading_fits true (Some ranks) run (Some outside) heading fit h =
    subst (λ (it : Heading). FitsRanks it.ranks) (same_Some (record { ranks = ranks; run = run; is_outside = outside }) heading h) (fit ranks refl)
heading_fits true (Some ranks) run None heading fit h = absurd (none-some heading h)
heading_fits true None run state heading fit h = absurd (none-some heading h)
heading_fits false o run state heading fit h = absurd (none-some heading h)

fields_fit : (rank : ℕ) (fields : List (List ℕ)) (heading : Heading) → heading_in rank fields ≡ Some heading → FitsRanks heading.ranks
fields_fit rank (word ∷ version ∷ own ∷ ranks ∷ run ∷ state ∷ library) heading h =
    heading_fits _ (option_and_then at_least_one (number_up_to MOST_RANKS ranks)) run (state_of state) heading
    (λ n is. ranks_fit (number_up_to MOST_RANKS ranks) n (number_low ranks) is) h
fields_fit rank _ heading h = absurd (none-some heading h)

header_fits : (rank : ℕ) (line : List ℕ) (heading : Heading) → heading_of rank line ≡ Some heading → FitsRanks heading.ranks
unfolding heading_of
header_fits rank line heading h = fields_fit rank (split_fields line) heading h

with_ranks : (heading : Heading) (journal : Journal) (r : Result (List Line) Fault) → FitsRanks heading.ranks → with_heading heading r ≡ Ok journal → FitsRanks journal.heading.ranks
with_ranks heading journal (Err fault) fit h = absurd (err_ok fault journal h)
with_ranks heading journal (Ok lines) fit h =
    subst (λ (j : Journal). FitsRanks j.heading.ranks) (same_Ok (record { heading = heading; lines = lines }) journal h) fit

headed : (rank : ℕ) (first o : Option Heading) (header : List ℕ) (texts : List (List ℕ)) (journal : Journal) → heading_of rank header ≡ o → after_header rank first o texts ≡ Ok journal → FitsRanks journal.heading.ranks
headed rank first None header texts journal of is = absurd (err_ok _ journal is)
headed rank first (Some heading) header texts journal of is =
    elim (cases_Bool (is_of_run first heading)) [
      | inl own ↦ with_ranks heading journal (lines_after (record { ranks = heading.ranks; rank = rank }) [] texts) (header_fits rank header heading of) (moved_right heading (lines_after (record { ranks = heading.ranks; rank = rank }) [] texts) journal (rw own at is))
      | inr other ↦ absurd (err_ok _ journal (rw other at is))
    ]

read_ranks : (rank : ℕ) (first : Option Heading) (texts : List (List ℕ)) (journal : Journal) → journal_of_lines rank first texts ≡ Ok journal → FitsRanks journal.heading.ranks
read_ranks rank first [] journal is = absurd (err_ok _ journal is)
read_ranks rank first (header ∷ texts) journal is =
    elim (cases_Bool (is_too_long header)) [
      | inl long ↦ absurd (err_ok _ journal (rw long at is))
      | inr short ↦ headed rank first (heading_of rank header) header texts journal refl (rw short at is)
    ]

pub few_ranks : (first : List ℕ) (journal : Journal) → journal_of 0 None first ≡ Ok journal → (1 ≤ journal.heading.ranks) × (journal.heading.ranks ≤ MOST_RANKS)
unfolding journal_of
few_ranks first journal is = read_ranks 0 None (whole_lines (text_of first)) journal is
