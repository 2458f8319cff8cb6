-- The groups of the communicators that a rank has: each is of distinct ranks of the run, some.
use Rattle.std.proofs.Common.{◌≡◌, ℕ, zero, suc, ◌+◌, ◌≤◌, ◌<◌, ◌==◌, Option, Some, None, List, [], ◌∷◌, length, refl, subst, arith, inl, inr}
use Rattle.std.specs.Prelude.{⊤, option_map, option_and_then}
use Rattle.std.specs.Option.{option_map_or}
use Rattle.std.proofs.lemmas.Bool.{cases_Bool}
use Rattle.std.proofs.lemmas.Option.{none-some, same_Some}
use Rattle.mpicall.specs.Word.{or_else}
use Rattle.journals.specs.Lines.{Line}
use Rattle.journals.specs.Journal.{Journal}
use Rattle.journals.specs.Entries.{listing_of, group_in}
use Rattle.journals.specs.declared.field.Field.{Field}
use Rattle.journals.specs.declared.field.Field.TheVariants.{Natural}
use Rattle.journals.specs.declared.word.Word.{Word}
use Rattle.journals.specs.declared.word.Word.TheVariants.{Call as CallLine, Report}
use Rattle.journals.specs.declared.word.CallWord.{CallWord}
use Rattle.journals.specs.declared.word.ReportWord.{ReportWord}
use Rattle.journals.specs.declared.word.ReportWord.TheVariants as report
use Rattle.closing.specs.Called.{called, comm_of}
use Rattle.closing.specs.Keys.{Key, group_of_key}
use Rattle.closing.specs.RankComms.{RankComms, comms_first, under, key_under, key_next, with_key, made_in, duplicated_in, with_made, after_report, after_line}
use Rattle.closing.specs.Entries.{Run, Placed, journal_at, placed_at, entries_from, entries_in, entries_at}
use Rattle.closing.specs.Numbers.{named_key}
use Rattle.closing.specs.Endings.{size_at}
use Rattle.lawful.proofs.GroupFacts.{IsGroupOf, few_members, world_group, alone_group}
use Rattle.lawful.proofs.FullFacts.{GroupFull, LinesFull}
use Rattle.lawful.proofs.RunFull.{RunFull, journal_at_full}
use Rattle.lawful.proofs.CalledLemmas.{GroupIs, called_group}
use Rattle.lawful.proofs.KeyGroups.{KeyFull, next_full, mapped_full, makes_group}

-- ---- What a rank has ----

abbrev AllNumbered : ℕ → List (ℕ × Key) → Type 0
AllNumbered ranks [] = ⊤
AllNumbered ranks (one ∷ others) = KeyFull ranks one.1 × AllNumbered ranks others

record CommsFull (ranks : ℕ) (comms : RankComms) : Type 0 where
  numbers : AllNumbered ranks comms.numbers
  own : (key : Key) → comms.own ≡ Some key → KeyFull ranks key

under_full : (ranks number : ℕ) (numbers : List (ℕ × Key)) (key : Key) → AllNumbered ranks numbers → under number numbers ≡ Some key → KeyFull ranks key
under_full ranks number [] key all h = absurd (none-some key h)
under_full ranks number (one ∷ others) key all h =
    elim (cases_Bool (one.0 == number)) [
      | inl here ↦ subst (λ (k : Key). KeyFull ranks k) (same_Some one.1 key (rw here at h)) all.0
      | inr there ↦ under_full ranks number others key all.1 (rw there at h)
    ]

first_comms : (ranks rank : ℕ) → 1 ≤ ranks → rank < ranks → CommsFull ranks (comms_first rank)
first_comms ranks rank some within = record {
  numbers = (world_group ranks some, (alone_group ranks rank within, tt));
  own = λ key h. absurd (none-some key h);
}

call_comms : (ranks : ℕ) (comms : RankComms) (word : CallWord) (fields : List Field) → GroupFull ranks (CallLine word) (group_in (record { word = CallLine word; fields = fields })) → CommsFull ranks comms → CommsFull ranks (after_line comms (record { word = CallLine word; fields = fields }))
call_comms ranks comms word fields is full = record {
  numbers = full.numbers;
  own = λ key h. next_full ranks comms (called word fields) key
      (called_group (IsGroupOf ranks) word fields (makes_group ranks word (group_in (record { word = CallLine word; fields = fields })) is)) h;
}

key_comms : (ranks number : ℕ) (comms : RankComms) (o : Option Key) → CommsFull ranks comms → ((key : Key) → o ≡ Some key → KeyFull ranks key) → CommsFull ranks (with_key comms number o)
key_comms ranks number comms None full one = full
key_comms ranks number comms (Some key) full one = record { numbers = (one key refl, full.numbers); own = full.own }

made_comms : (ranks number : ℕ) (comms : RankComms) (group : List ℕ) (o : Option Key) → comms.own ≡ o → IsGroupOf ranks group → CommsFull ranks comms → CommsFull ranks (with_made comms number group o)
made_comms ranks number comms group (Some key) is group_is full = record { numbers = (full.own key is, full.numbers); own = full.own }
made_comms ranks number comms group None is group_is full =
    let with = key_comms ranks number comms (option_map (made_in group) comms.wave) full
    (λ key h. mapped_full ranks group made_in comms.wave key (λ wave. group_is) h) in
    record { numbers = with.numbers; own = with.own }

report_comms : (ranks : ℕ) (comms : RankComms) (word : ReportWord) (fields : List Field) (group : List ℕ) → GroupFull ranks (Report word) group → CommsFull ranks comms → CommsFull ranks (after_report comms word fields group)
report_comms ranks comms report.Comm (Natural number ∷ fields) group is full = made_comms ranks number comms group comms.own refl is full
report_comms ranks comms report.Idup (Natural number ∷ Natural request ∷ fields) group is full =
    key_comms ranks number comms (option_map (duplicated_in group) (under request comms.duplicates)) full
    (λ key h. mapped_full ranks group duplicated_in (under request comms.duplicates) key (λ wave. is) h)
report_comms ranks comms report.Apart (Natural number ∷ fields) group is full = record { numbers = (is, full.numbers); own = full.own }
report_comms ranks comms _ fields group is full = full

line_comms : (ranks : ℕ) (comms : RankComms) (word : Word) (fields : List Field) → GroupFull ranks word (group_in (record { word = word; fields = fields })) → CommsFull ranks comms → CommsFull ranks (after_line comms (record { word = word; fields = fields }))
line_comms ranks comms (CallLine word) fields is full = call_comms ranks comms word fields is full
line_comms ranks comms (Report word) fields is full = report_comms ranks comms word fields (group_in (record { word = Report word; fields = fields })) is full

-- ---- Entries ----

-- the group of the communicator that an entry is on, or makes, is no larger than the run
abbrev pub SmallGroup : Run → Placed → Type 0
SmallGroup run placed = size_at run placed ≤ length run

abbrev pub SmallGroups : Run → List Placed → Type 0
SmallGroups run [] = ⊤
SmallGroups run (placed ∷ others) = SmallGroup run placed × SmallGroups run others

or_full : (ranks : ℕ) (one other : Option Key) (key : Key) → ((k : Key) → one ≡ Some k → KeyFull ranks k) → ((k : Key) → other ≡ Some k → KeyFull ranks k) → or_else one other ≡ Some key → KeyFull ranks key
or_full ranks (Some it) other key first others h = first key h
or_full ranks None other key first others h = others key h

on_full : (ranks : ℕ) (comms : RankComms) (o : Option ℕ) (key : Key) → CommsFull ranks comms → option_and_then (key_under comms) o ≡ Some key → KeyFull ranks key
on_full ranks comms None key full h = absurd (none-some key h)
on_full ranks comms (Some number) key full h = under_full ranks number comms.numbers key full.numbers h

small_group : (run : Run) (o : Option Key) → ((key : Key) → o ≡ Some key → KeyFull (length run) key) → option_map_or (λ key. length (group_of_key (length run) key)) o 0 ≤ length run
small_group run None full = omega arith
small_group run (Some key) full = few_members (length run) (group_of_key (length run) key) (full key refl)

entry_small : (run : Run) (placed : Placed) → GroupIs (IsGroupOf (length run)) placed.called → CommsFull (length run) placed.comms → SmallGroup run placed
entry_small run placed is full =
    small_group run (named_key placed)
    (λ key h. or_full (length run) (key_next placed.comms placed.called) (option_and_then (key_under placed.comms) (comm_of placed.called)) key
    (λ k e. next_full (length run) placed.comms placed.called k is e)
    (λ k e. on_full (length run) placed.comms (comm_of placed.called) k full e) h)

put_small : (run : Run) (rank : ℕ) (journal : Journal) (number : ℕ) (comms : RankComms) (word : Word) (fields : List Field) (lines : List Line) → GroupFull (length run) word (group_in (record { word = word; fields = fields })) → CommsFull (length run) comms → SmallGroups run (entries_from rank journal (number + 1) (after_line comms (record { word = word; fields = fields })) lines) → SmallGroups run (entries_from rank journal number comms (record { word = word; fields = fields } ∷ lines))
put_small run rank journal number comms (CallLine word) fields lines is full others = (
  entry_small run (placed_at rank journal number comms (record { word = word; fields = fields; reports = (listing_of lines).early }) lines)
      (called_group (IsGroupOf (length run)) word fields (makes_group (length run) word (group_in (record { word = CallLine word; fields = fields })) is)) full,
  others,
)
put_small run rank journal number comms (Report word) fields lines is full others = others

from_small : (run : Run) (rank : ℕ) (journal : Journal) (number : ℕ) (comms : RankComms) (lines : List Line) → LinesFull (length run) lines → CommsFull (length run) comms → SmallGroups run (entries_from rank journal number comms lines)
from_small run rank journal number comms [] all full = tt
from_small run rank journal number comms (line ∷ lines) all full =
    put_small run rank journal number comms line.word line.fields lines all.0.group full
    (from_small run rank journal (number + 1) (after_line comms line) lines all.1 (line_comms (length run) comms line.word line.fields all.0.group full))

in_small : (run : Run) (rank : ℕ) (o : Option Journal) → RunFull run → ((journal : Journal) → o ≡ Some journal → (rank < length run) × LinesFull (length run) journal.lines) → SmallGroups run (entries_in rank o)
in_small run rank None is full = tt
in_small run rank (Some journal) is full =
    from_small run rank journal 2 (comms_first rank) journal.lines (full journal refl).1 (first_comms (length run) rank is.fits.0 (full journal refl).0)

-- a rank with a journal is one of the run
there_within : (run : Run) (rank : ℕ) (journal : Journal) → journal_at run rank ≡ Some journal → rank < length run
there_within [] rank journal h = absurd (none-some journal h)
there_within (own ∷ run) zero journal h = omega arith
there_within (own ∷ run) (suc rank) journal h = let rest = there_within run rank journal h in omega (arith, rest)

pub small_groups : (run : Run) (rank : ℕ) → RunFull run → SmallGroups run (entries_at run rank)
small_groups run rank is =
    in_small run rank (journal_at run rank) is (λ journal h. (there_within run rank journal h, journal_at_full run rank journal is h))
