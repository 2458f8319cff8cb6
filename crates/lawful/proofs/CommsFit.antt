-- The communicators of a run that was read are groups of its ranks, and reports give their numbers.
use Rattle.std.proofs.Common.{◌≡◌, ℕ, zero, suc, ◌<◌, ◌≤◌, true, Option, Some, None, List, [], ◌∷◌, length, refl, subst, arith, inl, inr}
use Rattle.std.specs.Prelude.{nat_lt, slice_get}
use Rattle.std.specs.List.{list_all, flat_map}
use Rattle.std.proofs.lemmas.Bool.{cases_Bool, false≢true, and_parts, ltb-true}
use Rattle.std.proofs.lemmas.Option.{none-some, same_Some}
use Rattle.journals.specs.Lines.{Line}
use Rattle.journals.specs.Journal.{Journal}
use Rattle.journals.specs.declared.field.Field.{Field}
use Rattle.journals.specs.declared.field.Field.TheVariants.{Natural, Signed, Null, Any, Undefined}
use Rattle.journals.specs.declared.word.Word.{Word}
use Rattle.journals.specs.declared.word.Word.TheVariants.{Report}
use Rattle.journals.specs.declared.word.ReportWord.TheVariants as report
use Rattle.closing.specs.Keys.{Key, World, same_key, group_of_key, is_key_among}
use Rattle.closing.specs.Entries.{Run, journal_at, lines_in, lines_at, ranks_of}
use Rattle.closing.specs.Made.{keys_at}
use Rattle.closing.specs.FitComms.{IsFitGroup, comm_is_numbered, comms_are_numbered, begins_with_number, HasFitComms}
use Rattle.lawful.specs.Laws.{IsRead}
use Rattle.lawful.proofs.KeyLemmas.{same_key_is_equal}
use Rattle.lawful.proofs.LineFacts.{BeginsNatural, LineFits, LinesFit}
use Rattle.lawful.proofs.GroupFacts.{IsGroupOf, few_members, world_group}
use Rattle.lawful.proofs.RunFacts.{lines_of_rank}
use Rattle.lawful.proofs.RunFull.{RunFull, run_full}
use Rattle.lawful.proofs.KeyGroups.{KeyFull, AllKeys, got_full}

-- ---- Numbers of communicators ----

begins_so : (fields : List Field) → BeginsNatural fields → begins_with_number fields ≡ true
begins_so (Natural number ∷ fields) begins = refl
begins_so (Signed number ∷ fields) begins = absurd begins
begins_so (Null ∷ fields) begins = absurd begins
begins_so (Any ∷ fields) begins = absurd begins
begins_so (Undefined ∷ fields) begins = absurd begins
begins_so [] begins = absurd begins

line_numbered : (rank : ℕ) (word : Word) (fields : List Field) → LineFits rank word fields → comm_is_numbered word fields ≡ true
line_numbered rank (Report report.Comm) fields fits = begins_so fields fits.1
line_numbered rank _ fields fits = refl

numbered_in : (rank : ℕ) (lines : List Line) → LinesFit rank lines → comms_are_numbered lines ≡ true
numbered_in rank [] fit = refl
numbered_in rank (line ∷ lines) fit = rw (line_numbered rank line.word line.fields fit.0, numbered_in rank lines fit.1) refl

-- ---- Groups ----

among_full : (ranks : ℕ) (key : Key) (keys : List Key) → AllKeys ranks keys → is_key_among key keys ≡ true → KeyFull ranks key
among_full ranks key [] all among = absurd (false≢true among)
among_full ranks key (one ∷ keys) all among =
    elim (cases_Bool (same_key one key)) [
      | inl same ↦ subst (λ (k : Key). KeyFull ranks k) (same_key_is_equal one key same) all.0
      | inr other ↦ among_full ranks key keys all.1 (rw other at among)
    ]

member_below : (ranks : ℕ) (group : List ℕ) (place member : ℕ) → list_all (λ (rank : ℕ). nat_lt rank ranks) group ≡ true → slice_get group place ≡ Some member → member < ranks
member_below ranks [] place member all h = absurd (none-some member h)
member_below ranks (one ∷ group) zero member all h =
    subst (λ (n : ℕ). n < ranks) (same_Some one member h)
    (ltb-true one ranks (and_parts (nat_lt one ranks) (list_all (λ (rank : ℕ). nat_lt rank ranks) group) all).0)
member_below ranks (one ∷ group) (suc place) member all h =
    member_below ranks group place member (and_parts (nat_lt one ranks) (list_all (λ (rank : ℕ). nat_lt rank ranks) group) all).1 h

fit_group : (run : Run) (group : List ℕ) → RunFull run → IsGroupOf (length run) group → IsFitGroup (length run) group
fit_group run group is full = record {
  members = λ place member h. member_below (length run) group place member full.below h;
  few = le_le (length group) (length run) 1024 (few_members (length run) group full) is.fits.1;
}
  where
    le_le : (a b c : ℕ) → a ≤ b → b ≤ c → a ≤ c
    le_le a b c ab bc = omega (arith, ab, bc)

-- ---- A run ----

in_lines : (P : List Line → Type 0) (o : Option Journal) → P [] → ((journal : Journal) → o ≡ Some journal → P journal.lines) → P (lines_in o)
in_lines P None none all = none
in_lines P (Some journal) none all = all journal refl

pub fit_comms : (run : Run) → IsRead run → HasFitComms run
fit_comms run read =
    let full = run_full read.first read.texts run read.is_read in
    let fit = λ (rank : ℕ). in_lines (LinesFit rank) (journal_at run rank) tt (λ journal h. lines_of_rank read.first read.texts run read.is_read rank journal h) in
    record {
      numbered = λ rank. numbered_in rank (lines_at run rank) (fit rank);
      groups = λ key among. fit_group run (group_of_key (length run) key) full
          (among_full (length run) key (World ∷ flat_map (keys_at run) (ranks_of run)) (world_group (length run) full.fits.0, got_full run full) among);
    }
