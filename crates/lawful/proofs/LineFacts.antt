-- What each line of a journal that was read without a fault has: its rank is in the groups of the communicators that
-- it gets or makes, and a report of a communicator begins with its number.
use Rattle.std.proofs.Common.{◌≡◌, ℕ, ◌&&◌, ◌==◌, Bool, true, false, not, Option, Some, None, option_map, List, [], ◌∷◌, ◌++◌, length, refl, sym, ap, subst, ◌∙◌, inl, inr}
use Rattle.std.specs.Prelude.{⊤, Result, Ok, Err}
use Rattle.std.proofs.lemmas.Bool.{cases_Bool, false≢true, and_parts}
use Rattle.std.proofs.lemmas.Option.{none-some, same_Some}
use Rattle.std.proofs.lemmas.Slice.Eq.{bytes_eq-Decides}
use Rattle.journals.specs.Fields.{field_of, natural_of}
use Rattle.journals.specs.Header.{Heading, heading_of, is_of_run}
use Rattle.journals.specs.Text.{is_too_long}
use Rattle.journals.specs.Words.{forms_of, word_of}
use Rattle.journals.specs.Lines.{Line, put_field, fields_of, line_if, line_with, line_by_word, line_of_fields, line_of, site_fits, without_site}
use Rattle.mpicall.specs.Lines.{split_fields}
use Rattle.journals.specs.Entries.{Entry, Listing, call_of, put_line, listing_of, entries_of, last_of, last_entry, numbers_by, is_comm, is_request, group_in}
use Rattle.journals.specs.Known.{is_among, are_distinct, group_of}
use Rattle.journals.specs.Faults.{Owner, is_after_end, is_out_of_place, has_wrong_request, has_wrong_comm, has_right_group, is_group, is_within, is_made_in, is_made_by, first_number, parent_in, first_of, fault_of_line}
use Rattle.journals.specs.Journal.{Journal, Fault, unless_fault, checked_line, line_after, read_on, lines_after, with_heading, after_header, journal_of_lines}
use Rattle.journals.specs.declared.fault.JournalFaultKind.{JournalFaultKind}
use Rattle.journals.specs.declared.fault.JournalFaultKind.TheVariants.{AfterEnd, OutOfPlace, Request, Comm, Group}
use Rattle.journals.specs.declared.field.Field.{Field}
use Rattle.journals.specs.declared.field.Field.TheVariants.{Natural}
use Rattle.journals.specs.declared.form.Form.{Form}
use Rattle.journals.specs.declared.form.Form.TheVariants.{NewComm}
use Rattle.journals.specs.declared.word.Word.{Word}
use Rattle.journals.specs.declared.word.Word.TheVariants.{Call, Report}
use Rattle.journals.specs.declared.word.CallWord.{CallWord}
use Rattle.journals.specs.declared.word.CallWord.TheVariants as call
use Rattle.journals.specs.declared.word.ReportWord.{ReportWord}
use Rattle.journals.specs.declared.word.ReportWord.TheVariants as report
use Rattle.journals.proofs.LineForms.{read_first}
use Rattle.journals.proofs.JournalLemmas.{moved_right}

-- ---- Lines ----

abbrev pub BeginsNatural : List Field → Type 0
BeginsNatural (Natural number ∷ fields) = ⊤
BeginsNatural fields = ⊥

-- what a line of the word has, with these fields and this group
abbrev pub WordFits : ℕ → Word → List Field → List ℕ → Type 0
WordFits rank (Call call.CommCreateGroup) fields group = is_among rank group ≡ true
WordFits rank (Report report.Comm) fields group = (is_among rank group ≡ true) × BeginsNatural fields
WordFits rank (Report report.Idup) fields group = is_among rank group ≡ true
WordFits rank (Report report.Apart) fields group = is_among rank group ≡ true
WordFits rank word fields group = ⊤

abbrev pub LineFits : ℕ → Word → List Field → Type 0
LineFits rank word fields = WordFits rank word fields (group_in (record { word = word; fields = fields }))

abbrev pub LinesFit : ℕ → List Line → Type 0
LinesFit rank [] = ⊤
LinesFit rank (line ∷ lines) = LineFits rank line.word line.fields × LinesFit rank lines

pub lines_push : (rank : ℕ) (lines : List Line) (line : Line) → LinesFit rank lines → LineFits rank line.word line.fields → LinesFit rank (lines ++ line ∷ [])
lines_push rank [] line all fits = (fits, tt)
lines_push rank (one ∷ lines) line all fits = (all.0, lines_push rank lines line all.1 fits)

-- ---- The last entry ----

abbrev EntriesFit : ℕ → List Entry → Type 0
EntriesFit rank [] = ⊤
EntriesFit rank (entry ∷ entries) = LineFits rank (Call entry.word) entry.fields × EntriesFit rank entries

entries_put : (rank : ℕ) (word : Word) (fields : List Field) (rest : Listing) → LineFits rank word fields → EntriesFit rank rest.entries → EntriesFit rank (put_line word fields rest).entries
entries_put rank (Call word) fields rest fits all = (fits, all)
entries_put rank (Report word) fields rest fits all = all

entries_fit : (rank : ℕ) (lines : List Line) → LinesFit rank lines → EntriesFit rank (entries_of lines)
entries_fit rank [] all = tt
entries_fit rank (line ∷ lines) all = entries_put rank line.word line.fields (listing_of lines) all.0 (entries_fit rank lines all.1)

last_fits : (rank : ℕ) (entries : List Entry) (entry : Entry) → EntriesFit rank entries → last_of entries ≡ Some entry → LineFits rank (Call entry.word) entry.fields
last_fits rank [] entry all is = absurd (none-some entry is)
last_fits rank (one ∷ []) entry all is = subst (λ (e : Entry). LineFits rank (Call e.word) e.fields) (same_Some one entry is) all.0
last_fits rank (one ∷ two ∷ entries) entry all is = last_fits rank (two ∷ entries) entry all.1 is

-- ---- The group ----

own_among : (owner : Owner) (before : List Line) (comm : Option ℕ) (group : List ℕ) → is_group owner before comm group ≡ true → is_among owner.rank group ≡ true
own_among owner before None group is = absurd (false≢true is)
own_among owner before (Some comm) group is =
    let both = and_parts (are_distinct group && is_among owner.rank group) (is_within group (group_of owner.ranks owner.rank before comm)) is in
    (and_parts (are_distinct group) (is_among owner.rank group) both.0).1

made_among : (owner : Owner) (before : List Line) (entry : Entry) (group : List ℕ) (word : CallWord) → LineFits owner.rank (Call word) entry.fields → call_of entry ≡ record { word = Call word; fields = entry.fields } → is_made_in owner before entry group word ≡ true → is_among owner.rank group ≡ true
made_among owner before entry group call.CommCreateGroup fits same is =
    let group_is : group ≡ group_in (call_of entry) = (bytes_eq-Decides group (group_in (call_of entry))).0 is in
    subst (λ (g : List ℕ). is_among owner.rank g ≡ true) (sym (group_is ∙ ap group_in same)) fits
made_among owner before entry group _ fits same is =
    own_among owner before (first_number (numbers_by is_comm (call_of entry))) group is

made_by_among : (owner : Owner) (before : List Line) (o : Option Entry) (group : List ℕ) → last_entry before ≡ o → LinesFit owner.rank before → is_made_by owner before o group ≡ true → is_among owner.rank group ≡ true
made_by_among owner before None group last all is = absurd (false≢true is)
made_by_among owner before (Some entry) group last all is =
    made_among owner before entry group entry.word (last_fits owner.rank (entries_of before) entry (entries_fit owner.rank before all) last) refl is

-- the line has its form
abbrev FormFits : Word → List Field → Type 0
FormFits (Report report.Comm) fields = BeginsNatural fields
FormFits word fields = ⊤

right_fits : (owner : Owner) (before : List Line) (word : Word) (fields : List Field) → FormFits word fields → LinesFit owner.rank before → has_right_group owner before (record { word = word; fields = fields }) word ≡ true → LineFits owner.rank word fields
right_fits owner before (Call call.CommCreateGroup) fields form all is =
    own_among owner before (Some 0) (group_in (record { word = Call call.CommCreateGroup; fields = fields })) is
right_fits owner before (Report report.Comm) fields form all is =
    (made_by_among owner before (last_entry before) (group_in (record { word = Report report.Comm; fields = fields })) refl all is, form)
right_fits owner before (Report report.Idup) fields form all is =
    own_among owner before (parent_in before (numbers_by is_request (record { word = Report report.Idup; fields = fields })))
    (group_in (record { word = Report report.Idup; fields = fields })) is
right_fits owner before (Report report.Apart) fields form all is =
    own_among owner before (Some 0) (group_in (record { word = Report report.Apart; fields = fields })) is
right_fits owner before _ fields form all is = tt

-- ---- Lines without a fault ----

right_of : (a b c d e : Bool) → first_of ((a, AfterEnd) ∷ (b, OutOfPlace) ∷ (c, Request) ∷ (d, Comm) ∷ (not e, Group) ∷ []) ≡ None → e ≡ true
right_of true b c d e h = absurd (none-some AfterEnd (sym h))
right_of false true c d e h = absurd (none-some OutOfPlace (sym h))
right_of false false true d e h = absurd (none-some Request (sym h))
right_of false false false true e h = absurd (none-some Comm (sym h))
right_of false false false false true h = refl
right_of false false false false false h = absurd (none-some Group (sym h))

pub has_right : (owner : Owner) (before : List Line) (line : Line) → fault_of_line owner before line ≡ None → has_right_group owner before line line.word ≡ true
unfolding fault_of_line
has_right owner before line h =
    right_of (is_after_end before) (is_out_of_place before line line.word) (has_wrong_request before line) (has_wrong_comm owner before line)
    (has_right_group owner before line line.word) h

-- ---- Forms ----

err_ok : {A B : Type 0} (e : B) (x : A) → ◌≡◌ {A = Result A B} (Err e) (Ok x) → ⊥
err_ok e x h = cc

same_Ok : {A B : Type 0} (x y : A) → ◌≡◌ {A = Result A B} (Ok x) (Ok y) → x ≡ y
same_Ok x y h = cc

comm_begins : (ranks : ℕ) (text : List ℕ) (field : Field) (fields : List Field) → field_of ranks NewComm text ≡ Some field → BeginsNatural (field ∷ fields)
comm_begins ranks text field fields is = begins (natural_of text) is
  where
    begins : (o : Option ℕ) → option_map (λ n. Natural n) o ≡ Some field → BeginsNatural (field ∷ fields)
    begins None h = absurd (none-some field h)
    begins (Some number) h = subst (λ (f : Field). BeginsNatural (f ∷ fields)) (same_Some (Natural number) field h) tt

not_none : (a : Option Field) (b : Option (List Field)) → put_field a b ≡ Some [] → ⊥
not_none None b h = none-some [] h
not_none (Some field) None h = none-some [] h
not_none (Some field) (Some fields) h = cc

comm_form : (ranks : ℕ) (forms : List Form) (text : List ℕ) (texts : List (List ℕ)) (fields : List Field) → fields_of ranks (NewComm ∷ forms) (text ∷ texts) ≡ Some fields → BeginsNatural fields
comm_form ranks forms text texts [] is = absurd (not_none (field_of ranks NewComm text) (fields_of ranks forms texts) is)
comm_form ranks forms text texts (field ∷ fields) is =
    let first = read_first ranks NewComm forms (text ∷ texts) field fields is in
    comm_begins ranks first.0 field fields first.2

comm_forms : (ranks : ℕ) (texts : List (List ℕ)) (fields : List Field) → (length (forms_of (Report report.Comm) (length texts)) == length texts) ≡ true → fields_of ranks (forms_of (Report report.Comm) (length texts)) texts ≡ Some fields → BeginsNatural fields
comm_forms ranks [] fields many is = absurd (false≢true many)
comm_forms ranks (text ∷ texts) fields many is = comm_form ranks _ text texts fields is

-- ---- A line that was read ----

record IsRead (ranks : ℕ) (word : Word) (texts : List (List ℕ)) (line : Line) : Type 0 where
  word_is : line.word ≡ word
  many : (length (forms_of word (length texts)) == length texts) ≡ true
  fields_are : fields_of ranks (forms_of word (length texts)) texts ≡ Some line.fields

if_read : (word : Word) (site : Bool) (o : Option (List Field)) (line : Line) → line_if word site o ≡ Ok line → (line.word ≡ word) × (o ≡ Some line.fields)
if_read word true (Some fields) line is =
    let same : ◌≡◌ {A = Line} (record { word = word; fields = fields }) line = same_Ok (record { word = word; fields = fields }) line is in
    (ap (λ (l : Line). l.word) (sym same), ap (λ (l : Line). Some l.fields) same)
if_read word true None line is = absurd (err_ok _ line is)
if_read word false o line is = absurd (err_ok _ line is)

with_read : (ranks : ℕ) (word : Word) (site : Bool) (texts : List (List ℕ)) (line : Line) → line_with ranks word site texts ≡ Ok line → IsRead ranks word texts line
with_read ranks word site texts line is =
    elim (cases_Bool (length (forms_of word (length texts)) == length texts)) [
      | inl many ↦ let parts = if_read word site (fields_of ranks (forms_of word (length texts)) texts) line (rw many at is) in
          record { word_is = parts.0; many = many; fields_are = parts.1 }
      | inr few ↦ absurd (err_ok _ line (rw few at is))
    ]

form_of_report : (ranks : ℕ) (word : ReportWord) (texts : List (List ℕ)) (line : Line) → IsRead ranks (Report word) texts line → FormFits line.word line.fields
form_of_report ranks report.Comm texts line read =
    subst (λ (w : Word). FormFits w line.fields) (sym read.word_is) (comm_forms ranks texts line.fields read.many read.fields_are)
form_of_report ranks _ texts line read = subst (λ (w : Word). FormFits w line.fields) (sym read.word_is) tt

form_of_call : (ranks : ℕ) (word : CallWord) (texts : List (List ℕ)) (line : Line) → line_by_word ranks (Some (Call word)) texts ≡ Ok line → FormFits line.word line.fields
form_of_call ranks call.Stopped texts line h =
    subst (λ (l : Line). FormFits l.word l.fields) (same_Ok (record { word = Call call.Stopped; fields = [] }) line h) tt
form_of_call ranks word texts line h =
    subst (λ (w : Word). FormFits w line.fields) (sym (with_read ranks (Call word) (site_fits (Call word) texts) (without_site (Call word) texts) line h).word_is) tt

form_of_word : (ranks : ℕ) (o : Option Word) (texts : List (List ℕ)) (line : Line) → line_by_word ranks o texts ≡ Ok line → FormFits line.word line.fields
form_of_word ranks None texts line is = absurd (err_ok _ line is)
form_of_word ranks (Some (Call word)) texts line is = form_of_call ranks word texts line is
form_of_word ranks (Some (Report word)) texts line is =
    form_of_report ranks word (without_site (Report word) texts) line
    (with_read ranks (Report word) (site_fits (Report word) texts) (without_site (Report word) texts) line is)

form_of_fields : (ranks : ℕ) (texts : List (List ℕ)) (line : Line) → line_of_fields ranks texts ≡ Ok line → FormFits line.word line.fields
form_of_fields ranks [] line is = absurd (err_ok _ line is)
form_of_fields ranks (word ∷ texts) line is = form_of_word ranks (word_of word) texts line is

form_fits : (ranks : ℕ) (text : List ℕ) (line : Line) → line_of ranks text ≡ Ok line → FormFits line.word line.fields
unfolding line_of
form_fits ranks text line is = form_of_fields ranks (split_fields text) line is

-- ---- Journals ----

checked_fits : (owner : Owner) (before : List Line) (text : List ℕ) (line : Line) (r : Result Line JournalFaultKind) → line_of owner.ranks text ≡ r → checked_line owner before r ≡ Ok line → LinesFit owner.rank before → LineFits owner.rank line.word line.fields
checked_fits owner before text line (Err kind) of h all = absurd (err_ok kind line h)
checked_fits owner before text line (Ok it) of h all = checked (fault_of_line owner before it) refl h
  where
    checked : (o : Option JournalFaultKind) → fault_of_line owner before it ≡ o → unless_fault o it ≡ Ok line → LineFits owner.rank line.word line.fields
    checked (Some kind) faulty h = absurd (err_ok kind line h)
    checked None faultless h =
        subst (λ (l : Line). LineFits owner.rank l.word l.fields) (same_Ok it line h)
        (right_fits owner before it.word it.fields (form_fits owner.ranks text it of) all (has_right owner before it faultless))

pub line_fits : (owner : Owner) (before : List Line) (text : List ℕ) (line : Line) → line_after owner before text ≡ Ok line → LinesFit owner.rank before → LineFits owner.rank line.word line.fields
line_fits owner before text line is all =
    elim (cases_Bool (is_too_long text)) [
      | inl long ↦ absurd (err_ok _ line (rw long at is))
      | inr short ↦ checked_fits owner before text line (line_of owner.ranks text) refl (rw short at is) all
    ]

next_fits : (owner : Owner) (text : List ℕ) (texts : List (List ℕ)) (before lines : List Line) (r : Result Line JournalFaultKind) → line_after owner before text ≡ r → read_on before r (λ ls. lines_after owner ls texts) ≡ Ok lines → LinesFit owner.rank before → ((ls : List Line) → lines_after owner ls texts ≡ Ok lines → LinesFit owner.rank ls → LinesFit owner.rank lines) → LinesFit owner.rank lines
next_fits owner text texts before lines (Err kind) came h all others = absurd (err_ok _ lines h)
next_fits owner text texts before lines (Ok line) came h all others =
    others (before ++ line ∷ []) h (lines_push owner.rank before line all (line_fits owner before text line came all))

lines_fit : (owner : Owner) (texts : List (List ℕ)) (before lines : List Line) → lines_after owner before texts ≡ Ok lines → LinesFit owner.rank before → LinesFit owner.rank lines
lines_fit owner [] before lines is all = subst (λ (ls : List Line). LinesFit owner.rank ls) (same_Ok before lines is) all
lines_fit owner (text ∷ texts) before lines is all =
    next_fits owner text texts before lines (line_after owner before text) refl is all (λ ls h fits. lines_fit owner texts ls lines h fits)

headed_fits : (rank : ℕ) (first : Option Heading) (o : Option Heading) (texts : List (List ℕ)) (journal : Journal) → after_header rank first o texts ≡ Ok journal → LinesFit rank journal.lines
headed_fits rank first None texts journal is = absurd (err_ok _ journal is)
headed_fits rank first (Some heading) texts journal is =
    elim (cases_Bool (is_of_run first heading)) [
      | inl own ↦ with_lines (lines_after (record { ranks = heading.ranks; rank = rank }) [] texts) refl (moved_right heading (lines_after (record { ranks = heading.ranks; rank = rank }) [] texts) journal (rw own at is))
      | inr other ↦ absurd (err_ok _ journal (rw other at is))
    ]
  where
    with_lines : (r : Result (List Line) Fault) → lines_after (record { ranks = heading.ranks; rank = rank }) [] texts ≡ r → with_heading heading r ≡ Ok journal → LinesFit rank journal.lines
    with_lines (Err fault) came h = absurd (err_ok fault journal h)
    with_lines (Ok lines) came h =
        subst (λ (j : Journal). LinesFit rank j.lines) (same_Ok (record { heading = heading; lines = lines }) journal h)
        (lines_fit (record { ranks = heading.ranks; rank = rank }) texts [] lines came tt)

pub journal_fits : (rank : ℕ) (first : Option Heading) (texts : List (List ℕ)) (journal : Journal) → journal_of_lines rank first texts ≡ Ok journal → LinesFit rank journal.lines
journal_fits rank first [] journal is = absurd (err_ok _ journal is)
journal_fits rank first (header ∷ texts) journal is =
    elim (cases_Bool (is_too_long header)) [
      | inl long ↦ absurd (err_ok _ journal (rw long at is))
      | inr short ↦ headed_fits rank first (heading_of rank header) texts journal (rw short at is)
    ]
