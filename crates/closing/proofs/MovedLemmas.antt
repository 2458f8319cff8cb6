-- Moved receives, by what is kept of a journal's requests.
use Rattle.std.proofs.Common.{◌≡◌, ◌∙◌, ◌<◌, ◌≤◌, ◌-◌, ℕ, zero, suc, Bool, true, false, Option, Some, None, List, [], ◌∷◌, length, slice_get, refl, sym, ap, subst, arith, inl, inr}
use Rattle.std.proofs.lemmas.Bool.{cases_lt, le-leb, lt-leb}
use Rattle.std.specs.Prelude.{if◌then◌else◌, nat_le, option_and_then, option_map, Result, Ok, Err, IfOk}
use Rattle.journals.specs.Lines.{Line}
use Rattle.journals.specs.declared.field.Field.{Field}
use Rattle.closing.specs.Called.{Awaited}
use Rattle.journals.specs.declared.journal.Journal.{Journal as JournalRead}
use Rattle.closing.specs.Entries.{Run, journal_at, lines_at, lines_in}
use Rattle.closing.specs.Entry.{Choice}
use Rattle.closing.specs.Fit.{IsFit}
use Rattle.closing.specs.Journals.{journal_in, run_in}
use Rattle.journals.specs.Journal.{Journal}
use Rattle.closing.specs.Moved.{moved_at, moved_in}
use Rattle.closing.specs.Reported.{from_nobody, is_moved, unless_moved}
use Rattle.closing.specs.inner.Outcomes.{outcome_at}
use Rattle.closing.specs.inner.Outcomes as kept
use Rattle.closing.specs.inner.RequestReports.{AreReadable, Tells}
use Rattle.closing.specs.declared.outcomes.Outcome.TheVariants.{Unknown}
use Rattle.closing.specs.declared.outcomes.Outcomes.{Outcomes}
use Rattle.closing.proofs.BegunLemmas.{readable_lines}
use Rattle.closing.proofs.RequestReportLemmas.{tells_none}

module _ (lines : List Line) (it : Outcomes) (told : Tells lines it) (request : ℕ) (result : Bool) (is : result ≡ kept.is_moved (outcome_at it request)) where
  told_moved : (value : Bool) → result ≡ value → is_moved lines request ≡ value
  told_moved value are = sym (told.moved request) ∙ sym is ∙ are

  -- what a moved receive awaits, and asks for
  pub awaits_nobody : (awaited : Awaited) → result ≡ true → from_nobody awaited ≡ unless_moved lines request awaited
  awaits_nobody awaited are = sym (ap (λ (b : Bool). if b then from_nobody awaited else awaited) (told_moved true are))

  pub awaits_same : (awaited : Awaited) → result ≡ false → awaited ≡ unless_moved lines request awaited
  awaits_same awaited are = sym (ap (λ (b : Bool). if b then from_nobody awaited else awaited) (told_moved false are))

  pub asks : (source tag : Field) → result ≡ true → ◌≡◌ {A = Option (Field × Field)} (Some (source, tag)) (if is_moved lines request then Some (source, tag) else None)
  asks source tag are = let own : Option (Field × Field) = Some (source, tag) in sym (ap (λ (b : Bool). if b then own else None) (told_moved true are))

  pub asks_nothing : (source tag : Field) → result ≡ false → ◌≡◌ {A = Option (Field × Field)} None (if is_moved lines request then Some (source, tag) else None)
  asks_nothing source tag are = let own : Option (Field × Field) = Some (source, tag) in sym (ap (λ (b : Bool). if b then own else None) (told_moved false are))

-- ---- By its number ----

abbrev moved_if : List Line → ℕ → Bool → Option (Field × Field)
moved_if lines number there = if there then option_and_then (λ it. moved_in lines it.word it.fields) (slice_get lines (number - 2)) else None

-- no line has the number 0, and the first is the header
pub none_before : (lines : List Line) (number : ℕ) → number < 2 → None ≡ moved_at lines number
none_before lines number before = sym (ap (moved_if lines number) (lt-leb 2 number before))

pub moved_after : (lines : List Line) (number : ℕ) → (number < 2 → ⊥) → option_and_then (λ it. moved_in lines it.word it.fields) (slice_get lines (number - 2)) ≡ moved_at lines number
moved_after lines number after = elim (cases_lt number 2) [
  | inl below ↦ absurd (after below)
  | inr beyond ↦ sym (ap (moved_if lines number) (le-leb 2 number (omega (arith, beyond))))
]

pub none_of_none : (number : ℕ) → None ≡ moved_at [] number
none_of_none number = by (nat_le 2 number)
  where
    by : (there : Bool) → None ≡ moved_if [] number there
    by true = refl
    by false = refl

-- ---- Of a rank ----

-- the journal of a rank, of those that are kept
pub journal_kept : (journals : List (Option JournalRead)) (rank : ℕ) → option_map journal_in (option_and_then (λ it. it) (slice_get journals rank)) ≡ journal_at (run_in journals) rank
journal_kept [] rank = refl
journal_kept (None ∷ journals) zero = refl
journal_kept (Some one ∷ journals) zero = refl
journal_kept (one ∷ journals) (suc rank) = journal_kept journals rank

pub told_of : {E : Type 0} (answer : Result Outcomes E) (run : Run) (choice : Choice) (rank : ℕ) (journal : Journal) → journal_at run rank ≡ Some journal → length (lines_at run rank) ≤ 4294967292
    → IfOk answer (λ it. AreReadable journal.lines → Tells journal.lines it) → IfOk answer (λ it. IsFit run choice → rank < length run → Tells (lines_at run rank) it)
told_of (Ok it) run choice rank journal there few says = λ fit within.
    subst (λ (lines : List Line). Tells lines it) (sym (ap lines_in there)) (says (readable_lines run choice rank journal fit there few))
told_of (Err fault) run choice rank journal there few says = tt

pub told_of_none : (it : Outcomes) (run : Run) (rank : ℕ) → journal_at run rank ≡ None → ((request : ℕ) → outcome_at it request ≡ Unknown) → Tells (lines_at run rank) it
told_of_none it run rank none unknown = subst (λ (lines : List Line). Tells lines it) (sym (ap lines_in none)) (tells_none it unknown)
