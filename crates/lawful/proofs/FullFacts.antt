-- What the lines of a journal that was read have besides: fields in their forms, and groups of ranks of the run.
use Rattle.std.proofs.Common.{◌≡◌, ℕ, ◌≤◌, ◌&&◌, Bool, true, false, Option, Some, None, List, [], ◌∷◌, ◌++◌, length, refl, sym, subst, arith, inl, inr}
use Rattle.std.specs.Prelude.{⊤, Result, Ok, Err, option_and_then, nat_le, nat_lt}
use Rattle.std.specs.List.{list_all}
use Rattle.std.proofs.lemmas.Bool.{cases_Bool, false≢true, and_parts, leb-true, lt-ltb}
use Rattle.std.proofs.lemmas.Option.{none-some, same_Some}
use Rattle.std.proofs.lemmas.Slice.Eq.{bytes_eq-Decides}
use Rattle.mpicall.specs.Lines.{split_fields}
use Rattle.mpicall.specs.Number.{number_up_to}
use Rattle.mpicall.proofs.DecimalLemmas.{number-decimal}
use Rattle.journals.specs.Fields.{at_least_one}
use Rattle.journals.specs.Header.{Heading, heading_of, heading_in, heading_if, state_of, is_of_run}
use Rattle.journals.specs.Text.{is_too_long}
use Rattle.journals.specs.Lines.{Line, line_of}
use Rattle.journals.specs.Entries.{Entry, Listing, call_of, put_line, listing_of, entries_of, last_of, last_entry, numbers_by, is_comm, is_request, group_in}
use Rattle.journals.specs.Known.{is_among, are_distinct, group_of}
use Rattle.journals.specs.Faults.{Owner, has_right_group, is_group, is_within, is_made_in, is_made_by, first_number, parent_in, fault_of_line}
use Rattle.journals.specs.Journal.{Journal, Fault, unless_fault, checked_line, line_after, read_on, lines_after, with_heading, after_header, journal_of_lines}
use Rattle.journals.specs.inner.Naturals.{naturals, AreMembers}
use Rattle.journals.specs.inner.Knows.{IsRead, group_fields}
use Rattle.journals.specs.declared.limits.TheConstants.{MOST_RANKS}
use Rattle.journals.specs.declared.fault.JournalFaultKind.{JournalFaultKind}
use Rattle.journals.specs.declared.field.Field.{Field}
use Rattle.journals.specs.declared.field.Field.TheVariants.{Natural, Signed, Null, Any, Undefined}
use Rattle.journals.specs.declared.word.Word.{Word}
use Rattle.journals.specs.declared.word.Word.TheVariants.{Call, Report}
use Rattle.journals.specs.declared.word.CallWord.{CallWord}
use Rattle.journals.specs.declared.word.CallWord.TheVariants as call
use Rattle.journals.specs.declared.word.ReportWord.TheVariants as report
use Rattle.journals.proofs.ReadLines.{line_read}
use Rattle.journals.proofs.GroupFields.{call_members, report_members, call_group, report_group}
use Rattle.journals.proofs.JournalLemmas.{moved_right}
use Rattle.lawful.proofs.GroupFacts.{IsGroupOf}
use Rattle.lawful.proofs.LineFacts.{LineFits, LinesFit, has_right, line_fits, lines_push}

-- ---- Groups ----

abbrev pub GroupFull : ℕ → Word → List ℕ → Type 0
GroupFull ranks (Call call.CommCreateGroup) group = IsGroupOf ranks group
GroupFull ranks (Report report.Comm) group = IsGroupOf ranks group
GroupFull ranks (Report report.Idup) group = IsGroupOf ranks group
GroupFull ranks (Report report.Apart) group = IsGroupOf ranks group
GroupFull ranks word group = ⊤

pub record LineFull (ranks : ℕ) (line : Line) : Type 0 where
  pub read : IsRead ranks line
  pub group : GroupFull ranks line.word (group_in line)

abbrev pub LinesFull : ℕ → List Line → Type 0
LinesFull ranks [] = ⊤
LinesFull ranks (line ∷ lines) = LineFull ranks line × LinesFull ranks lines

full_push : (ranks : ℕ) (lines : List Line) (line : Line) → LinesFull ranks lines → LineFull ranks line → LinesFull ranks (lines ++ line ∷ [])
full_push ranks [] line all is = (is, tt)
full_push ranks (one ∷ lines) line all is = (all.0, full_push ranks lines line all.1 is)

-- ---- The last entry ----

abbrev EntriesFull : ℕ → List Entry → Type 0
EntriesFull ranks [] = ⊤
EntriesFull ranks (entry ∷ entries) = GroupFull ranks (Call entry.word) (group_in (call_of entry)) × EntriesFull ranks entries

entries_put : (ranks : ℕ) (word : Word) (fields : List Field) (rest : Listing) → GroupFull ranks word (group_in (record { word = word; fields = fields })) → EntriesFull ranks rest.entries → EntriesFull ranks (put_line word fields rest).entries
entries_put ranks (Call word) fields rest is all = (is, all)
entries_put ranks (Report word) fields rest is all = all

entries_full : (ranks : ℕ) (lines : List Line) → LinesFull ranks lines → EntriesFull ranks (entries_of lines)
entries_full ranks [] all = tt
entries_full ranks (line ∷ lines) all = entries_put ranks line.word line.fields (listing_of lines) all.0.group (entries_full ranks lines all.1)

last_full : (ranks : ℕ) (entries : List Entry) (entry : Entry) → EntriesFull ranks entries → last_of entries ≡ Some entry → GroupFull ranks (Call entry.word) (group_in (call_of entry))
last_full ranks [] entry all is = absurd (none-some entry is)
last_full ranks (one ∷ []) entry all is = subst (λ (e : Entry). GroupFull ranks (Call e.word) (group_in (call_of e))) (same_Some one entry is) all.0
last_full ranks (one ∷ two ∷ entries) entry all is = last_full ranks (two ∷ entries) entry all.1 is

-- ---- Distinct ranks ----

own_once : (owner : Owner) (before : List Line) (comm : Option ℕ) (group : List ℕ) → is_group owner before comm group ≡ true → are_distinct group ≡ true
own_once owner before None group is = absurd (false≢true is)
own_once owner before (Some comm) group is =
    let both = and_parts (are_distinct group && is_among owner.rank group) (is_within group (group_of owner.ranks owner.rank before comm)) is in
    (and_parts (are_distinct group) (is_among owner.rank group) both.0).0

made_once : (owner : Owner) (before : List Line) (entry : Entry) (group : List ℕ) (word : CallWord) → GroupFull owner.ranks (Call word) (group_in (call_of entry)) → is_made_in owner before entry group word ≡ true → are_distinct group ≡ true
made_once owner before entry group call.CommCreateGroup full is =
    let group_is : group ≡ group_in (call_of entry) = (bytes_eq-Decides group (group_in (call_of entry))).0 is in
    subst (λ (g : List ℕ). are_distinct g ≡ true) (sym group_is) full.once
made_once owner before entry group _ full is =
    own_once owner before (first_number (numbers_by is_comm (call_of entry))) group is

made_by_once : (owner : Owner) (before : List Line) (o : Option Entry) (group : List ℕ) → last_entry before ≡ o → LinesFull owner.ranks before → is_made_by owner before o group ≡ true → are_distinct group ≡ true
made_by_once owner before None group last all is = absurd (false≢true is)
made_by_once owner before (Some entry) group last all is =
    made_once owner before entry group entry.word (last_full owner.ranks (entries_of before) entry (entries_full owner.ranks before all) last) is

-- ---- Ranks of the run ----

members_below : (ranks : ℕ) (fields : List Field) → AreMembers ranks fields → list_all (λ (rank : ℕ). nat_lt rank ranks) (naturals fields) ≡ true
members_below ranks [] members = refl
members_below ranks (Natural rank ∷ fields) members = rw (lt-ltb rank ranks members.0, members_below ranks fields members.1) refl
members_below ranks (Signed number ∷ fields) members = absurd members.0
members_below ranks (Null ∷ fields) members = absurd members.0
members_below ranks (Any ∷ fields) members = absurd members.0
members_below ranks (Undefined ∷ fields) members = absurd members.0

among_some : (rank : ℕ) (group : List ℕ) → is_among rank group ≡ true → 1 ≤ length group
among_some rank [] is = absurd (false≢true is)
among_some rank (one ∷ group) is = omega arith

group_of_run : (ranks rank : ℕ) (group : List ℕ) (fields : List Field) → group ≡ naturals fields → AreMembers ranks fields → are_distinct group ≡ true → is_among rank group ≡ true → IsGroupOf ranks group
group_of_run ranks rank group fields is members once among = record {
  some = among_some rank group among;
  once = once;
  below = subst (λ (g : List ℕ). list_all (λ (r : ℕ). nat_lt r ranks) g ≡ true) (sym is) (members_below ranks fields members);
}

full_group : (owner : Owner) (before : List Line) (word : Word) (fields : List Field) → 1 ≤ owner.ranks → IsRead owner.ranks (record { word = word; fields = fields }) → LineFits owner.rank word fields → LinesFull owner.ranks before → has_right_group owner before (record { word = word; fields = fields }) word ≡ true → GroupFull owner.ranks word (group_in (record { word = word; fields = fields }))
full_group owner before (Call call.CommCreateGroup) fields some read fits all is =
    let group = group_in (record { word = Call call.CommCreateGroup; fields = fields }) in
    group_of_run owner.ranks owner.rank group fields (call_group owner.ranks fields read) (call_members owner.ranks fields some read)
    (own_once owner before (Some 0) group is) fits
full_group owner before (Report report.Comm) fields some read fits all is =
    let group = group_in (record { word = Report report.Comm; fields = fields }) in
    group_of_run owner.ranks owner.rank group (group_fields (Report report.Comm) fields) (report_group owner.ranks report.Comm fields refl read)
    (report_members owner.ranks report.Comm fields some read) (made_by_once owner before (last_entry before) group refl all is) fits.0
full_group owner before (Report report.Idup) fields some read fits all is =
    let group = group_in (record { word = Report report.Idup; fields = fields }) in
    group_of_run owner.ranks owner.rank group (group_fields (Report report.Idup) fields) (report_group owner.ranks report.Idup fields refl read)
    (report_members owner.ranks report.Idup fields some read)
    (own_once owner before (parent_in before (numbers_by is_request (record { word = Report report.Idup; fields = fields }))) group is) fits
full_group owner before (Report report.Apart) fields some read fits all is =
    let group = group_in (record { word = Report report.Apart; fields = fields }) in
    group_of_run owner.ranks owner.rank group (group_fields (Report report.Apart) fields) (report_group owner.ranks report.Apart fields refl read)
    (report_members owner.ranks report.Apart fields some read) (own_once owner before (Some 0) group is) fits
full_group owner before _ fields some read fits all is = tt

-- ---- Lines ----

err_ok : {A B : Type 0} (e : B) (x : A) → ◌≡◌ {A = Result A B} (Err e) (Ok x) → ⊥
err_ok e x h = cc

same_Ok : {A B : Type 0} (x y : A) → ◌≡◌ {A = Result A B} (Ok x) (Ok y) → x ≡ y
same_Ok x y h = cc

checked_full : (owner : Owner) (before : List Line) (text : List ℕ) (line it : Line) (o : Option JournalFaultKind) → 1 ≤ owner.ranks → line_of owner.ranks text ≡ Ok it → fault_of_line owner before it ≡ o → unless_fault o it ≡ Ok line → LineFits owner.rank line.word line.fields → LinesFull owner.ranks before → LineFull owner.ranks line
checked_full owner before text line it (Some kind) some of faulty h fits all = absurd (err_ok kind line h)
checked_full owner before text line it None some of faultless h fits all =
    let same = same_Ok it line h in
    let read : IsRead owner.ranks line = subst (λ (l : Line). IsRead owner.ranks l) same (line_read owner.ranks text it of) in
    let right : has_right_group owner before line line.word ≡ true = subst (λ (l : Line). has_right_group owner before l l.word ≡ true) same (has_right owner before it faultless) in
    record { read = read; group = full_group owner before line.word line.fields some read fits all right }

read_full : (owner : Owner) (before : List Line) (text : List ℕ) (line : Line) (r : Result Line JournalFaultKind) → 1 ≤ owner.ranks → line_of owner.ranks text ≡ r → checked_line owner before r ≡ Ok line → LineFits owner.rank line.word line.fields → LinesFull owner.ranks before → LineFull owner.ranks line
read_full owner before text line (Err kind) some of h fits all = absurd (err_ok kind line h)
read_full owner before text line (Ok it) some of h fits all = checked_full owner before text line it (fault_of_line owner before it) some of refl h fits all

line_full : (owner : Owner) (before : List Line) (text : List ℕ) (line : Line) → 1 ≤ owner.ranks → line_after owner before text ≡ Ok line → LinesFit owner.rank before → LinesFull owner.ranks before → LineFull owner.ranks line
line_full owner before text line some is fit all =
    let fits = line_fits owner before text line is fit in
    elim (cases_Bool (is_too_long text)) [
      | inl long ↦ absurd (err_ok _ line (rw long at is))
      | inr short ↦ read_full owner before text line (line_of owner.ranks text) some refl (rw short at is) fits all
    ]

next_full : (owner : Owner) (text : List ℕ) (texts : List (List ℕ)) (before lines : List Line) (r : Result Line JournalFaultKind) → 1 ≤ owner.ranks → line_after owner before text ≡ r → read_on before r (λ ls. lines_after owner ls texts) ≡ Ok lines → LinesFit owner.rank before → LinesFull owner.ranks before → ((ls : List Line) → lines_after owner ls texts ≡ Ok lines → LinesFit owner.rank ls → LinesFull owner.ranks ls → LinesFull owner.ranks lines) → LinesFull owner.ranks lines
next_full owner text texts before lines (Err kind) some came h fit all others = absurd (err_ok _ lines h)
next_full owner text texts before lines (Ok line) some came h fit all others =
    others (before ++ line ∷ []) h (lines_push owner.rank before line fit (line_fits owner before text line came fit))
    (full_push owner.ranks before line all (line_full owner before text line some came fit all))

lines_full : (owner : Owner) (texts : List (List ℕ)) (before lines : List Line) → 1 ≤ owner.ranks → lines_after owner before texts ≡ Ok lines → LinesFit owner.rank before → LinesFull owner.ranks before → LinesFull owner.ranks lines
lines_full owner [] before lines some is fit all = subst (λ (ls : List Line). LinesFull owner.ranks ls) (same_Ok before lines is) all
lines_full owner (text ∷ texts) before lines some is fit all =
    next_full owner text texts before lines (line_after owner before text) some refl is fit all (λ ls h fits full. lines_full owner texts ls lines some h fits full)

-- ---- Headers ----

abbrev pub FitsRanks : ℕ → Type 0
FitsRanks ranks = (1 ≤ ranks) × (ranks ≤ MOST_RANKS)

ranks_fit : (o : Option ℕ) (ranks : ℕ) → ((n : ℕ) → o ≡ Some n → n ≤ MOST_RANKS) → option_and_then at_least_one o ≡ Some ranks → FitsRanks ranks
ranks_fit None ranks low h = absurd (none-some ranks h)
ranks_fit (Some n) ranks low h =
    elim (cases_Bool (nat_le 1 n)) [
      | inl some ↦ subst FitsRanks (same_Some n ranks (rw some at h)) (leb-true 1 n some, low n refl)
      | inr none ↦ absurd (none-some ranks (rw none at h))
    ]

number_low : (text : List ℕ) (n : ℕ) → number_up_to MOST_RANKS text ≡ Some n → n ≤ MOST_RANKS
number_low text n h = (number-decimal MOST_RANKS n text (omega arith) h).1

heading_fits : (b : Bool) (o : Option ℕ) (run : List ℕ) (state : Option Bool) (heading : Heading) → ((n : ℕ) → o ≡ Some n → FitsRanks n) → heading_if b o run state ≡ Some heading → FitsRanks heading.ranks
heading_fits true (Some ranks) run (Some outside) heading fit h =
    subst (λ (it : Heading). FitsRanks it.ranks) (same_Some (record { ranks = ranks; run = run; is_outside = outside }) heading h) (fit ranks refl)
heading_fits true (Some ranks) run None heading fit h = absurd (none-some heading h)
heading_fits true None run state heading fit h = absurd (none-some heading h)
heading_fits false o run state heading fit h = absurd (none-some heading h)

fields_fit : (rank : ℕ) (fields : List (List ℕ)) (heading : Heading) → heading_in rank fields ≡ Some heading → FitsRanks heading.ranks
fields_fit rank (word ∷ version ∷ own ∷ ranks ∷ run ∷ state ∷ library) heading h =
    heading_fits _ (option_and_then at_least_one (number_up_to MOST_RANKS ranks)) run (state_of state) heading
    (λ n is. ranks_fit (number_up_to MOST_RANKS ranks) n (number_low ranks) is) h
fields_fit rank _ heading h = absurd (none-some heading h)

header_fits : (rank : ℕ) (line : List ℕ) (heading : Heading) → heading_of rank line ≡ Some heading → FitsRanks heading.ranks
unfolding heading_of
header_fits rank line heading h = fields_fit rank (split_fields line) heading h

-- ---- Journals ----

-- a journal of a run of so many ranks
pub record JournalFull (first : Option Heading) (journal : Journal) : Type 0 where
  pub ranks : FitsRanks journal.heading.ranks
  pub of_run : is_of_run first journal.heading ≡ true
  pub lines : LinesFull journal.heading.ranks journal.lines

with_full : (rank : ℕ) (first : Option Heading) (heading : Heading) (texts : List (List ℕ)) (journal : Journal) (r : Result (List Line) Fault) → FitsRanks heading.ranks → is_of_run first heading ≡ true → lines_after (record { ranks = heading.ranks; rank = rank }) [] texts ≡ r → with_heading heading r ≡ Ok journal → JournalFull first journal
with_full rank first heading texts journal (Err fault) fit own came h = absurd (err_ok fault journal h)
with_full rank first heading texts journal (Ok lines) fit own came h =
    subst (λ (j : Journal). JournalFull first j) (same_Ok (record { heading = heading; lines = lines }) journal h)
    (record { ranks = fit; of_run = own; lines = lines_full (record { ranks = heading.ranks; rank = rank }) texts [] lines fit.0 came tt tt })

headed_full : (rank : ℕ) (first o : Option Heading) (header : List ℕ) (texts : List (List ℕ)) (journal : Journal) → heading_of rank header ≡ o → after_header rank first o texts ≡ Ok journal → JournalFull first journal
headed_full rank first None header texts journal of is = absurd (err_ok _ journal is)
headed_full rank first (Some heading) header texts journal of is =
    elim (cases_Bool (is_of_run first heading)) [
      | inl own ↦
          with_full rank first heading texts journal (lines_after (record { ranks = heading.ranks; rank = rank }) [] texts)
          (header_fits rank header heading of) own refl (moved_right heading (lines_after (record { ranks = heading.ranks; rank = rank }) [] texts) journal (rw own at is))
      | inr other ↦ absurd (err_ok _ journal (rw other at is))
    ]

pub journal_full : (rank : ℕ) (first : Option Heading) (texts : List (List ℕ)) (journal : Journal) → journal_of_lines rank first texts ≡ Ok journal → JournalFull first journal
journal_full rank first [] journal is = absurd (err_ok _ journal is)
journal_full rank first (header ∷ texts) journal is =
    elim (cases_Bool (is_too_long header)) [
      | inl long ↦ absurd (err_ok _ journal (rw long at is))
      | inr short ↦ headed_full rank first (heading_of rank header) header texts journal refl (rw short at is)
    ]
