-- What entries of a journal that was read name was started before them.
use Rattle.std.proofs.Common.{◌≡◌, ℕ, zero, suc, ◌+◌, ◌-◌, ◌≤◌, ◌<◌, max, true, get_or, Option, Some, None, List, [], ◌∷◌, ◌++◌, length, take, refl, sym, ap, subst, ◌∙◌, arith, length-append, append_assoc}
use Rattle.std.specs.Prelude.{⊤, IfSome, option_map, Contains}
use Rattle.std.specs.List.{find}
use Rattle.std.proofs.Math.Seq.{take-append_seam}
use Rattle.std.proofs.lemmas.Option.{none-some, same_Some}
use Rattle.journals.specs.Lines.{Line}
use Rattle.journals.specs.Journal.{Journal}
use Rattle.journals.specs.Entries.{Entry, listing_of, call_of, last_entry, numbers_by, is_request}
use Rattle.journals.specs.Known.{is_among, is_report, requests_in}
use Rattle.journals.specs.Faults.{names_last}
use Rattle.journals.specs.inner.Naturals.{AreNatural}
use Rattle.journals.specs.inner.Knows.{IsRead as LineRead}
use Rattle.journals.proofs.LineForms.{same_numbers, requests_natural}
use Rattle.journals.proofs.EntryLemmas.{last_after_call, last_after_report}
use Rattle.journals.specs.declared.form.Form.TheVariants.{Request}
use Rattle.journals.specs.declared.field.Field.{Field}
use Rattle.journals.specs.declared.field.Field.TheVariants.{Natural, Signed, Null, Any, Undefined}
use Rattle.journals.specs.declared.word.Word.{Word}
use Rattle.journals.specs.declared.word.Word.TheVariants.{Call, Report}
use Rattle.journals.specs.declared.word.CallWord.{CallWord}
use Rattle.journals.specs.declared.word.CallWord.TheVariants as call
use Rattle.journals.specs.declared.word.ReportWord.{ReportWord}
use Rattle.journals.specs.declared.word.ReportWord.TheVariants as report
use Rattle.closing.specs.Called.{Called, ReceivesMatched, Waits, Tests, WaitsAny, WaitsSome, called, naturals_in}
use Rattle.closing.specs.RankComms.{RankComms, comms_first, after_line}
use Rattle.closing.specs.Entries.{Run, Placed, journal_at, placed_at, entries_from, entries_in, entries_at}
use Rattle.lawful.proofs.RightLines.{IsRight, AreRight}
use Rattle.lawful.proofs.NewNumbers.{IsKnown, IsKnownMessage, New, AllOf, Numbers, all_of, known_request, called_numbers}
use Rattle.lawful.proofs.KnownLines.{same_id}
use Rattle.lawful.proofs.OutcomesOnce.{may_be}
use Rattle.lawful.proofs.FullFacts.{LineFull, LinesFull}
use Rattle.lawful.proofs.RunFacts.{right_of_rank}
use Rattle.lawful.proofs.RunFull.{run_full, journal_at_full}
use Rattle.closing.specs.Fit.{waited, AllSame, AreNumbers, AreChosen, NamesKnown}
use Rattle.lawful.specs.Laws.{IsRead}

-- ---- What a call waits for ----

waited_known : (P Q M : ℕ → Type 0) (it : Called) → ((number : ℕ) → M number → Q number) → Numbers P Q M it → AllOf Q (waited it)
waited_known P Q M (ReceivesMatched message) also all = (also message all, tt)
waited_known P Q M (Waits requests) also all = all
waited_known P Q M (Tests requests) also all = all
waited_known P Q M (WaitsAny requests) also all = all
waited_known P Q M (WaitsSome requests) also all = all
waited_known P Q M _ also all = tt

all_same : (before later : List Line) (requests : List ℕ) → AreRight before later → AllOf (IsKnown before) requests → AllSame before (before ++ later) requests
all_same before later [] right all = tt
all_same before later (request ∷ requests) right all =
    (same_id before later request right all.0.taken, all_same before later requests right all.1)

-- ---- What it chose ----

-- the last entry so far is of this call
record IsLastCall (lines : List Line) (word : CallWord) (fields : List Field) : Type 0 where
  entry : Entry
  is : last_entry lines ≡ Some entry
  word_is : entry.word ≡ word
  fields_are : entry.fields ≡ fields

after_report : (lines : List Line) (word : CallWord) (fields : List Field) (report : ReportWord) (others : List Field) → IsLastCall lines word fields → IsLastCall (lines ++ record { word = Report report; fields = others } ∷ []) word fields
after_report lines word fields report others last = record {
  entry = record { word = last.entry.word; fields = last.entry.fields; reports = last.entry.reports ++ record { word = Report report; fields = others } ∷ [] };
  is = last_after_report lines report others
      ∙ ap (option_map (λ (e : Entry). record { word = e.word; fields = e.fields; reports = e.reports ++ record { word = Report report; fields = others } ∷ [] })) last.is;
  word_is = last.word_is;
  fields_are = last.fields_are;
}

-- requests that the call names, which are reported to be chosen
record Chosen (before : List Line) (line : Line) : Type 0 where
  known : AllOf (IsKnown before) (requests_in (Some line))
  are : naturals_in line.fields ≡ requests_in (Some line)

chosen_fields : (fields : List Field) → numbers_by is_request (record { word = Report report.Chose; fields = fields }) ≡ naturals_in fields
chosen_fields fields = same_numbers is_request Request (max 1 (length fields - 0)) fields refl (at_most (length fields))
  where
    at_most : (n : ℕ) → n ≤ max 1 (n - 0)
    at_most n = omega arith

names_it : (before : List Line) (word : CallWord) (fields : List Field) (entry : Entry) (number : ℕ) → IsRight before (record { word = Call word; fields = fields }) → entry.word ≡ word → entry.fields ≡ fields → is_among number (numbers_by is_request (call_of entry)) ≡ true → IsKnown before number
names_it before word fields entry number right word_is fields_are among =
    known_request before word fields number right
    (subst (λ (w : CallWord). is_among number (numbers_by is_request (record { word = Call w; fields = fields })) ≡ true) word_is
    (subst (λ (fs : List Field). is_among number (numbers_by is_request (record { word = Call entry.word; fields = fs })) ≡ true) fields_are among))

last_names : (o : Option Entry) (entry : Entry) (number : ℕ) → o ≡ Some entry → names_last o number ≡ true → is_among number (numbers_by is_request (call_of entry)) ≡ true
last_names None entry number is h = absurd (none-some entry is)
last_names (Some one) entry number is h = subst (λ (e : Entry). is_among number (numbers_by is_request (call_of e)) ≡ true) (same_Some one entry is) h

chosen_line : (before cur : List Line) (word : CallWord) (fields others : List Field) → IsRight before (record { word = Call word; fields = fields }) → IsLastCall cur word fields → IsRight cur (record { word = Report report.Chose; fields = others }) → Chosen before (record { word = Report report.Chose; fields = others })
chosen_line before cur word fields others right last is = record {
  known = all_of (IsKnown before) (numbers_by is_request (record { word = Report report.Chose; fields = others }))
      (λ number among. names_it before word fields last.entry number right last.word_is last.fields_are
      (last_names (last_entry cur) last.entry number last.is (may_be cur report.Chose others number is among)));
  are = sym (chosen_fields others);
}

-- the line that says what was chosen, among the reports of an entry
by_word : (before cur later : List Line) (word : CallWord) (fields : List Field) (line : Line) (w : Word) (fs : List Field) → IsRight before (record { word = Call word; fields = fields }) → IsLastCall cur word fields → IsRight cur (record { word = w; fields = fs }) → (IsLastCall (cur ++ record { word = w; fields = fs } ∷ []) word fields → find (λ (l : Line). is_report report.Chose l.word) (listing_of later).early ≡ Some line → Chosen before line) → find (λ (l : Line). is_report report.Chose l.word) (listing_of (record { word = w; fields = fs } ∷ later)).early ≡ Some line → Chosen before line
by_word before cur later word fields line (Call other) fs right last is rest h = absurd (none-some line h)
by_word before cur later word fields line (Report report.Chose) fs right last is rest h =
    subst (λ (l : Line). Chosen before l) (same_Some (record { word = Report report.Chose; fields = fs }) line h) (chosen_line before cur word fields fs right last is)
by_word before cur later word fields line (Report other) fs right last is rest h = rest (after_report cur word fields other fs last) h

find_chosen : (before cur later : List Line) (word : CallWord) (fields : List Field) (line : Line) → IsRight before (record { word = Call word; fields = fields }) → IsLastCall cur word fields → AreRight cur later → find (λ (l : Line). is_report report.Chose l.word) (listing_of later).early ≡ Some line → Chosen before line
find_chosen before cur [] word fields line right last all h = absurd (none-some line h)
find_chosen before cur (one ∷ later) word fields line right last all h =
    by_word before cur later word fields line one.word one.fields right last all.0
    (λ next found. find_chosen before (cur ++ one ∷ []) later word fields line right next all.1 found) h

pub chosen_known : (before : List Line) (word : CallWord) (fields : List Field) (lines : List Line) (line : Line) → IsRight before (record { word = Call word; fields = fields }) → AreRight (before ++ record { word = Call word; fields = fields } ∷ []) lines → find (λ (l : Line). is_report report.Chose l.word) (listing_of lines).early ≡ Some line → AllOf (IsKnown before) (requests_in (Some line))
chosen_known before word fields lines line right all found =
    (find_chosen before (before ++ record { word = Call word; fields = fields } ∷ []) lines word fields line right
    (record { entry = record { word = word; fields = fields; reports = [] }; is = last_after_call before word fields; word_is = refl; fields_are = refl })
    all found).known

-- ---- Fields of a wait for any or some ----

natural_count : (fields : List Field) → AreNatural fields → length (naturals_in fields) ≡ length fields
natural_count [] natural = refl
natural_count (Natural number ∷ fields) natural = ap suc (natural_count fields natural.1)
natural_count (Signed number ∷ fields) natural = absurd natural.0
natural_count (Null ∷ fields) natural = absurd natural.0
natural_count (Any ∷ fields) natural = absurd natural.0
natural_count (Undefined ∷ fields) natural = absurd natural.0

are_numbers : (ranks : ℕ) (word : CallWord) (fields : List Field) → LineRead ranks (record { word = Call word; fields = fields }) → AreNumbers word (length (naturals_in fields)) (length fields)
are_numbers ranks call.Waitany fields read = natural_count fields (requests_natural ranks (max 1 (length fields - 0)) read.texts fields read.spell)
are_numbers ranks call.Waitsome fields read = natural_count fields (requests_natural ranks (max 1 (length fields - 0)) read.texts fields read.spell)
are_numbers ranks _ fields read = tt

-- ---- Entries ----

-- the lines of a journal, up to a next one with this number and from there on
record IsAt (journal : Journal) (number : ℕ) (before lines : List Line) : Type 0 where
  are : journal.lines ≡ before ++ lines
  number_is : number ≡ length before + 2

next_at : (journal : Journal) (number : ℕ) (before : List Line) (line : Line) (lines : List Line) → IsAt journal number before (line ∷ lines) → IsAt journal (number + 1) (before ++ line ∷ []) lines
next_at journal number before line lines at = record {
  are = at.are ∙ sym (append_assoc before (line ∷ []) lines);
  number_is = one_more number (length before) (length (before ++ line ∷ [])) at.number_is (length-append before (line ∷ []));
}
  where
    one_more : (n a b : ℕ) → n ≡ a + 2 → b ≡ a + 1 → n + 1 ≡ b + 2
    one_more n a b is more = omega (arith, is, more)

before_is : (journal : Journal) (number : ℕ) (before lines : List Line) → IsAt journal number before lines → take (number - 2) journal.lines ≡ before
before_is journal number before lines at =
    ap (λ (n : ℕ). take n journal.lines) (less number (length before) at.number_is) ∙ ap (take (length before)) at.are ∙ take-append_seam before lines
  where
    less : (n a : ℕ) → n ≡ a + 2 → n - 2 ≡ a
    less n a is = omega (arith, is)

same_in : (journal : Journal) (number : ℕ) (before lines : List Line) (requests : List ℕ) → IsAt journal number before lines → AreRight before lines → AllOf (IsKnown before) requests → AllSame (take (number - 2) journal.lines) journal.lines requests
same_in journal number before lines requests at right known =
    subst (λ (ls : List Line). AllSame ls journal.lines requests) (sym (before_is journal number before lines at))
    (subst (λ (ls : List Line). AllSame before ls requests) (sym at.are) (all_same before lines requests right known))

abbrev AllNamed : List Placed → Type 0
AllNamed [] = ⊤
AllNamed (placed ∷ others) = NamesKnown placed × AllNamed others

call_named : (ranks rank : ℕ) (journal : Journal) (number : ℕ) (comms : RankComms) (before : List Line) (word : CallWord) (fields : List Field) (lines : List Line) → LineFull ranks (record { word = Call word; fields = fields }) → IsAt journal number before (record { word = Call word; fields = fields } ∷ lines) → AreRight before (record { word = Call word; fields = fields } ∷ lines) → NamesKnown (placed_at rank journal number comms (record { word = word; fields = fields; reports = (listing_of lines).early }) lines)
call_named ranks rank journal number comms before word fields lines full at right =
    let line : Line = record { word = Call word; fields = fields } in
    let last : IsLastCall (before ++ line ∷ []) word fields = record {
      entry = record { word = word; fields = fields; reports = [] };
      is = last_after_call before word fields;
      word_is = refl;
      fields_are = refl;
    } in
    record {
      waited = same_in journal number before (line ∷ lines) (waited (called word fields)) at right
          (waited_known (New before word fields) (IsKnown before) (IsKnownMessage before) (called word fields) (λ message is. is.known) (called_numbers before word fields right.0));
      chosen = found (find (λ (l : Line). is_report report.Chose l.word) (listing_of lines).early)
          (λ one h. find_chosen before (before ++ line ∷ []) lines word fields one right.0 last right.1 h);
      fields = are_numbers ranks word fields full.read;
    }
  where
    found : (o : Option Line) → ((one : Line) → o ≡ Some one → Chosen before one) → IfSome o (AreChosen (placed_at rank journal number comms (record { word = word; fields = fields; reports = (listing_of lines).early }) lines))
    found None all = tt
    found (Some one) all = record {
      same = same_in journal number before (record { word = Call word; fields = fields } ∷ lines) (requests_in (Some one)) at right (all one refl).known;
      are = (all one refl).are;
    }

put_named : (ranks rank : ℕ) (journal : Journal) (number : ℕ) (comms : RankComms) (before : List Line) (word : Word) (fields : List Field) (lines : List Line) → LineFull ranks (record { word = word; fields = fields }) → IsAt journal number before (record { word = word; fields = fields } ∷ lines) → AreRight before (record { word = word; fields = fields } ∷ lines) → AllNamed (entries_from rank journal (number + 1) (after_line comms (record { word = word; fields = fields })) lines) → AllNamed (entries_from rank journal number comms (record { word = word; fields = fields } ∷ lines))
put_named ranks rank journal number comms before (Call word) fields lines full at right others = (call_named ranks rank journal number comms before word fields lines full at right, others)
put_named ranks rank journal number comms before (Report word) fields lines full at right others = others

from_named : (ranks rank : ℕ) (journal : Journal) (number : ℕ) (comms : RankComms) (before lines : List Line) → LinesFull ranks lines → IsAt journal number before lines → AreRight before lines → AllNamed (entries_from rank journal number comms lines)
from_named ranks rank journal number comms before [] full at right = tt
from_named ranks rank journal number comms before (line ∷ lines) full at right =
    put_named ranks rank journal number comms before line.word line.fields lines full.0 at right
    (from_named ranks rank journal (number + 1) (after_line comms line) (before ++ line ∷ []) lines full.1 (next_at journal number before line lines at) right.1)

in_named : (ranks rank : ℕ) (o : Option Journal) → ((journal : Journal) → o ≡ Some journal → LinesFull ranks journal.lines × AreRight [] journal.lines) → AllNamed (entries_in rank o)
in_named ranks rank None facts = tt
in_named ranks rank (Some journal) facts =
    from_named ranks rank journal 2 (comms_first rank) [] journal.lines (facts journal refl).0 (record { are = refl; number_is = refl }) (facts journal refl).1

named_there : (entries : List Placed) (placed : Placed) (k : ℕ) → AllNamed entries → k < length entries → get_or entries k placed ≡ placed → NamesKnown placed
named_there [] placed k all within is = absurd (omega (arith, within))
named_there (first ∷ entries) placed zero all within is = subst (λ (it : Placed). NamesKnown it) is all.0
named_there (first ∷ entries) placed (suc k) all within is = named_there entries placed k all.1 (omega (arith, within)) is

-- what each entry of a run that was read names was started before it
pub names_known : (run : Run) → IsRead run → (rank : ℕ) (placed : Placed) → Contains (entries_at run rank) placed → NamesKnown placed
names_known run read rank placed there =
    let full = run_full read.first read.texts run read.is_read in
    named_there (entries_at run rank) placed there.0
    (in_named (length run) rank (journal_at run rank)
    (λ journal h. (journal_at_full run rank journal full h, right_of_rank read.first read.texts run read.is_read rank journal h))) there.1 there.2
