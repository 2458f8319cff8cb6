-- The entries of lines to which one more is added.
use Rattle.std.proofs.Common.{◌≡◌, ℕ, Bool, ◌||◌, ◌==◌, List, [], ◌∷◌, ◌++◌, Option, Some, None, option_map, sym, ap, ◌∙◌, refl}
use Rattle.std.specs.List.{list_any, flat_map}
use Rattle.std.proofs.lemmas.List.{append-nil}
use Rattle.std.proofs.lemmas.List.Folds.{list_any-append}
use Rattle.mpicall.specs.Word.{or_else}
use Rattle.journals.specs.Lines.{Line}
use Rattle.journals.specs.Entries.{Entry, Listing, put_line, listing_of, entries_of, last_of, last_entry}
use Rattle.journals.specs.Known.{is_among, completed_by, is_completed, parent_of, duplicated_in, reported_group, group_if}
use Rattle.journals.specs.Faults.{completed_last}
use Rattle.journals.specs.inner.Knows.{all_but_last, completed_earlier}
use Rattle.journals.specs.declared.field.Field.{Field}
use Rattle.journals.specs.declared.word.Word.{Word}
use Rattle.journals.specs.declared.word.Word.TheVariants.{Call, Report}
use Rattle.journals.specs.declared.word.CallWord.{CallWord}
use Rattle.journals.specs.declared.word.ReportWord.{ReportWord}
use Rattle.journals.proofs.Tests.{or_false, or_assoc}

abbrev pub new_entry : CallWord → List Field → Entry
new_entry word fields = record { word = word; fields = fields; reports = [] }

abbrev pub add_report : Line → Entry → Entry
add_report line entry = record { word = entry.word; fields = entry.fields; reports = entry.reports ++ line ∷ [] }

-- the last entry has one more report
abbrev pub amend : List Entry → Line → List Entry
amend [] line = []
amend (entry ∷ []) line = add_report line entry ∷ []
amend (entry ∷ other ∷ entries) line = entry ∷ amend (other ∷ entries) line

-- ---- Listings ----

abbrev with_call : CallWord → List Field → Listing → Listing
with_call word fields listing =
    record { early = listing.early; entries = listing.entries ++ new_entry word fields ∷ [] }

put_call : (w : Word) (fs : List Field) (word : CallWord) (fields : List Field) (l : Listing) → put_line w fs (with_call word fields l) ≡ with_call word fields (put_line w fs l)
put_call (Call w) fs word fields l = refl
put_call (Report w) fs word fields l = refl

listing_call : (lines : List Line) (word : CallWord) (fields : List Field) → listing_of (lines ++ record { word = Call word; fields = fields } ∷ []) ≡ with_call word fields (listing_of lines)
listing_call [] word fields = refl
listing_call (line ∷ lines) word fields =
    ap (put_line line.word line.fields) (listing_call lines word fields)
    ∙ put_call line.word line.fields word fields (listing_of lines)

abbrev with_line : Line → List Line → List Entry → Listing
with_line line early [] = record { early = early ++ line ∷ []; entries = [] }
with_line line early (entry ∷ entries) = record { early = early; entries = amend (entry ∷ entries) line }

put_report : (w : Word) (fs : List Field) (line : Line) (early : List Line) (entries : List Entry) → put_line w fs (with_line line early entries) ≡ with_line line (put_line w fs (record { early = early; entries = entries })).early (put_line w fs (record { early = early; entries = entries })).entries
put_report (Call w) fs line early [] = refl
put_report (Call w) fs line early (entry ∷ entries) = refl
put_report (Report w) fs line early [] = refl
put_report (Report w) fs line early (entry ∷ entries) = refl

listing_report : (lines : List Line) (word : ReportWord) (fields : List Field) → listing_of (lines ++ record { word = Report word; fields = fields } ∷ []) ≡ with_line (record { word = Report word; fields = fields }) (listing_of lines).early (listing_of lines).entries
listing_report [] word fields = refl
listing_report (line ∷ lines) word fields =
    ap (put_line line.word line.fields) (listing_report lines word fields)
    ∙ put_report line.word line.fields (record { word = Report word; fields = fields }) (listing_of lines).early (listing_of lines).entries

entries_with_line : (line : Line) (early : List Line) (entries : List Entry) → (with_line line early entries).entries ≡ amend entries line
entries_with_line line early [] = refl
entries_with_line line early (entry ∷ entries) = refl

entries_after_report : (lines : List Line) (word : ReportWord) (fields : List Field) → entries_of (lines ++ record { word = Report word; fields = fields } ∷ []) ≡ amend (entries_of lines) (record { word = Report word; fields = fields })
entries_after_report lines word fields =
    ap (λ (l : Listing). l.entries) (listing_report lines word fields)
    ∙ entries_with_line (record { word = Report word; fields = fields }) (listing_of lines).early (listing_of lines).entries

entries_after_call : (lines : List Line) (word : CallWord) (fields : List Field) → entries_of (lines ++ record { word = Call word; fields = fields } ∷ []) ≡ entries_of lines ++ new_entry word fields ∷ []
entries_after_call lines word fields = ap (λ (l : Listing). l.entries) (listing_call lines word fields)

-- ---- The last entry ----

last_push : (entries : List Entry) (entry : Entry) → last_of (entries ++ entry ∷ []) ≡ Some entry
last_push [] entry = refl
last_push (first ∷ []) entry = refl
last_push (first ∷ other ∷ entries) entry = last_push (other ∷ entries) entry

but_push : (entries : List Entry) (entry : Entry) → all_but_last (entries ++ entry ∷ []) ≡ entries
but_push [] entry = refl
but_push (first ∷ []) entry = refl
but_push (first ∷ other ∷ entries) entry = ap (λ (es : List Entry). first ∷ es) (but_push (other ∷ entries) entry)

last_amend : (entries : List Entry) (line : Line) → last_of (amend entries line) ≡ option_map (add_report line) (last_of entries)
last_amend [] line = refl
last_amend (first ∷ []) line = refl
last_amend (first ∷ other ∷ []) line = refl
last_amend (first ∷ other ∷ third ∷ entries) line = last_amend (other ∷ third ∷ entries) line

but_amend : (entries : List Entry) (line : Line) → all_but_last (amend entries line) ≡ all_but_last entries
but_amend [] line = refl
but_amend (first ∷ []) line = refl
but_amend (first ∷ other ∷ []) line = refl
but_amend (first ∷ other ∷ third ∷ entries) line =
    ap (λ (es : List Entry). first ∷ es) (but_amend (other ∷ third ∷ entries) line)

pub last_after_call : (lines : List Line) (word : CallWord) (fields : List Field) → last_entry (lines ++ record { word = Call word; fields = fields } ∷ []) ≡ Some (new_entry word fields)
last_after_call lines word fields =
    ap last_of (entries_after_call lines word fields) ∙ last_push (entries_of lines) (new_entry word fields)

pub last_after_report : (lines : List Line) (word : ReportWord) (fields : List Field) → last_entry (lines ++ record { word = Report word; fields = fields } ∷ []) ≡ option_map (add_report (record { word = Report word; fields = fields })) (last_entry lines)
last_after_report lines word fields =
    ap last_of (entries_after_report lines word fields)
    ∙ last_amend (entries_of lines) (record { word = Report word; fields = fields })

-- ---- What entries complete ----

abbrev among_of : ℕ → List Entry → Bool
among_of number entries = is_among number (flat_map completed_by entries)

pub earlier_after_call : (lines : List Line) (word : CallWord) (fields : List Field) (number : ℕ) → completed_earlier (lines ++ record { word = Call word; fields = fields } ∷ []) number ≡ is_completed lines number
earlier_after_call lines word fields number =
    ap (among_of number) (ap all_but_last (entries_after_call lines word fields) ∙ but_push (entries_of lines) (new_entry word fields))

pub earlier_after_report : (lines : List Line) (word : ReportWord) (fields : List Field) (number : ℕ) → completed_earlier (lines ++ record { word = Report word; fields = fields } ∷ []) number ≡ completed_earlier lines number
earlier_after_report lines word fields number =
    ap (among_of number) (ap all_but_last (entries_after_report lines word fields) ∙ but_amend (entries_of lines) (record { word = Report word; fields = fields }))

among_append : (number : ℕ) (xs ys : List ℕ) → is_among number (xs ++ ys) ≡ (is_among number xs || is_among number ys)
among_append number xs ys = list_any-append (λ (other : ℕ). other == number) xs ys

split_completed : (entries : List Entry) (number : ℕ) → among_of number entries ≡ (among_of number (all_but_last entries) || completed_last (last_of entries) number)
split_completed [] number = refl
split_completed (entry ∷ []) number = ap (is_among number) (append-nil (completed_by entry))
split_completed (entry ∷ other ∷ entries) number =
    among_append number (completed_by entry) (flat_map completed_by (other ∷ entries))
    ∙ ap (λ (b : Bool). is_among number (completed_by entry) || b) (split_completed (other ∷ entries) number)
    ∙ sym (or_assoc (is_among number (completed_by entry)) (among_of number (all_but_last (other ∷ entries))) (completed_last (last_of (other ∷ entries)) number))
    ∙ ap (λ (b : Bool). b || completed_last (last_of (other ∷ entries)) number) (sym (among_append number (completed_by entry) (flat_map completed_by (all_but_last (other ∷ entries)))))

pub completed_is : (lines : List Line) (number : ℕ) → is_completed lines number ≡ (completed_earlier lines number || completed_last (last_entry lines) number)
completed_is lines number = split_completed (entries_of lines) number

-- ---- One more line ----

pub any_push : (test : Line → Bool) (lines : List Line) (line : Line) → list_any test (lines ++ line ∷ []) ≡ (list_any test lines || test line)
any_push test lines line =
    list_any-append test lines (line ∷ []) ∙ ap (λ (b : Bool). list_any test lines || b) (or_false (test line))

or_else_none : {A : Type 0} (it : Option A) → or_else it None ≡ it
or_else_none None = refl
or_else_none (Some x) = refl

or_else_assoc : {A : Type 0} (a b c : Option A) → or_else a (or_else b c) ≡ or_else (or_else a b) c
or_else_assoc None b c = refl
or_else_assoc (Some x) b c = refl

pub parent_push : (lines : List Line) (line : Line) (number : ℕ) → parent_of (lines ++ line ∷ []) number ≡ or_else (parent_of lines number) (duplicated_in number line.word line.fields)
parent_push [] line number = or_else_none (duplicated_in number line.word line.fields)
parent_push (first ∷ lines) line number =
    ap (λ (it : Option ℕ). or_else (duplicated_in number first.word first.fields) it) (parent_push lines line number)
    ∙ or_else_assoc (duplicated_in number first.word first.fields) (parent_of lines number) (duplicated_in number line.word line.fields)

pub group_push : (lines : List Line) (line : Line) (comm : ℕ) → reported_group (lines ++ line ∷ []) comm ≡ or_else (reported_group lines comm) (group_if comm line)
group_push [] line comm = or_else_none (group_if comm line)
group_push (first ∷ lines) line comm =
    ap (λ (it : Option (List ℕ)). or_else (group_if comm first) it) (group_push lines line comm)
    ∙ or_else_assoc (group_if comm first) (reported_group lines comm) (group_if comm line)
