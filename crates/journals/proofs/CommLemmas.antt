-- What is known of communicators after one line more.
use Rattle.std.proofs.Common.{◌≡◌, ℕ, zero, suc, ◌+◌, ◌-◌, ◌<◌, max, Bool, true, false, ◌||◌, ◌==◌, List, [], ◌∷◌, ◌++◌, length, replicate, Option, Some, None, is_some, option_map, sym, ap, ◌∙◌, refl, arith, inl, inr, length-append}
use Rattle.std.specs.List.{list_any, filter_map, cons_option, zip, slice_get}
use Rattle.std.proofs.lemmas.Bool.{cases_Bool, or_parts}
use Rattle.std.proofs.lemmas.List.Folds.{list_any-append}
use Rattle.mpicall.specs.Word.{or_else}
use Rattle.journals.specs.Words.{row_of, more_forms, forms_of}
use Rattle.journals.specs.Lines.{Line}
use Rattle.journals.specs.Entries.{numbers_by, number_if, is_new_comm, group_in}
use Rattle.journals.specs.Known.{is_among, reported_group}
use Rattle.journals.specs.inner.Naturals.{naturals}
use Rattle.journals.specs.inner.Knows.{CommIs, IsBelow, group_fields, group_at, brings, brought_in}
use Rattle.journals.specs.declared.field.Field.{Field}
use Rattle.journals.specs.declared.field.Field.TheVariants.{Natural, Signed, Null, Any, Undefined}
use Rattle.journals.specs.declared.form.Form.{Form}
use Rattle.journals.specs.declared.form.Form.TheVariants.{Request, Member, Bytes}
use Rattle.journals.specs.declared.form.More.{More}
use Rattle.journals.specs.declared.form.More.TheVariants as more
use Rattle.journals.specs.declared.word.CallWord.{CallWord}
use Rattle.journals.specs.declared.word.CallWord.TheVariants as call
use Rattle.journals.specs.declared.word.ReportWord.{ReportWord}
use Rattle.journals.specs.declared.word.ReportWord.TheVariants as report
use Rattle.journals.specs.declared.word.Word.{Word}
use Rattle.journals.specs.declared.word.Word.TheVariants.{Call, Report}
use Rattle.journals.proofs.EntryLemmas.{group_push}
use Rattle.journals.proofs.LineForms.{no_numbers, any_replicate}

-- ---- Words without a form ----

-- a form among those that a word has, or that may follow
abbrev pub more_has : (Form → Bool) → More → Bool
more_has test more.Nothing = false
more_has test more.Bytes = test Bytes
more_has test (more.Several form) = test form
more_has test more.Text = false

abbrev pub has_form : (Form → Bool) → Word → Bool
has_form test word = list_any test (row_of word).forms || more_has test (row_of word).more

none_more : (test : Form → Bool) (it : More) (count : ℕ) → more_has test it ≡ false → list_any test (more_forms it count) ≡ false
none_more test more.Nothing count none = refl
none_more test more.Bytes count none =
    elim (cases_Bool (count == 1)) [ inl is ↦ rw (is, none) refl | inr is ↦ rw is refl ]
none_more test (more.Several form) count none = any_replicate test form (max 1 count) none
none_more test more.Text count none = refl

pub none_of : (test : Form → Bool) (word : Word) (fields : List Field) → has_form test word ≡ false → numbers_by test (record { word = word; fields = fields }) ≡ []
none_of test word fields none =
    let parts = or_parts (list_any test (row_of word).forms) (more_has test (row_of word).more) none in
    no_numbers test (forms_of word (length fields)) fields (
    list_any-append test (row_of word).forms (more_forms (row_of word).more (length fields - length (row_of word).forms))
    ∙ rw (parts.0, none_more test (row_of word).more (length fields - length (row_of word).forms) parts.1) refl)

calls_bring_none : (word : CallWord) → has_form is_new_comm (Call word) ≡ false
calls_bring_none call.Init = refl
calls_bring_none _ = refl

reports_bring_none : (word : ReportWord) → brings word ≡ false → has_form is_new_comm (Report word) ≡ false
reports_bring_none report.Got is = refl
reports_bring_none report.Comm is = cc
reports_bring_none report.Idup is = cc
reports_bring_none report.Apart is = cc
reports_bring_none _ is = refl

-- ---- Groups of lines ----

get_left : (lines : List Line) (line : Line) (place : ℕ) → place < length lines → slice_get (lines ++ line ∷ []) place ≡ slice_get lines place
get_left [] line place below = absurd (omega arith)
get_left (first ∷ lines) line zero below = refl
get_left (first ∷ lines) line (suc n) below = get_left lines line n (omega arith)

pub get_last : (lines : List Line) (line : Line) → slice_get (lines ++ line ∷ []) (length lines) ≡ Some line
get_last [] line = refl
get_last (first ∷ lines) line = get_last lines line

pub group_at_left : (lines : List Line) (line : Line) (place : Option ℕ) → IsBelow (length lines) place → group_at (lines ++ line ∷ []) place ≡ group_at lines place
group_at_left lines line None below = refl
group_at_left lines line (Some place) below = ap (λ it. option_map (λ (l : Line). naturals (group_fields l.word l.fields)) it) (get_left lines line place below)

below_one : (count : ℕ) (place : Option ℕ) → IsBelow count place → IsBelow (count + 1) place
below_one count None below = tt
below_one count (Some place) below = omega arith

-- a line that brings no communicator
pub comm_stays : (lines : List Line) (line : Line) (comm : ℕ) (place : Option ℕ) → is_among comm (numbers_by is_new_comm line) ≡ false → CommIs lines comm place → CommIs (lines ++ line ∷ []) comm place
comm_stays lines line comm place none was =
    let same : reported_group (lines ++ line ∷ []) comm ≡ reported_group lines comm = group_push lines line comm ∙ rw none (or_none (reported_group lines comm)) in
    record {
      group = same ∙ was.group ∙ sym (group_at_left lines line place was.below);
      known = ap is_some same ∙ was.known;
      below = rw (length-append lines (line ∷ [])) (below_one (length lines) place was.below);
    }
  where
    or_none : {A : Type 0} (it : Option A) → or_else it None ≡ it
    or_none None = refl
    or_none (Some x) = refl

-- one that brings it
pub comm_comes : (lines : List Line) (line : Line) (comm : ℕ) (place : Option ℕ) → is_among comm (numbers_by is_new_comm line) ≡ true → group_in line ≡ naturals (group_fields line.word line.fields) → place ≡ None → CommIs lines comm place → CommIs (lines ++ line ∷ []) comm (Some (length lines))
comm_comes lines line comm place among group none was =
    let unknown : reported_group lines comm ≡ None = nothing (reported_group lines comm) (was.known ∙ ap is_some none) in
    let now : reported_group (lines ++ line ∷ []) comm ≡ Some (group_in line) = group_push lines line comm ∙ rw (unknown, among) refl in
    record {
      group = now ∙ ap (λ ns. Some ns) group ∙ sym (ap (λ it. option_map (λ (l : Line). naturals (group_fields l.word l.fields)) it) (get_last lines line));
      known = ap is_some now;
      below = omega (arith, length-append lines (line ∷ []));
    }
  where
    nothing : (it : Option (List ℕ)) → is_some it ≡ false → it ≡ None
    nothing None is = refl
    nothing (Some x) is = cc

pub comm_after_call : (lines : List Line) (word : CallWord) (fields : List Field) (comm : ℕ) (place : Option ℕ) → CommIs lines comm place → CommIs (lines ++ record { word = Call word; fields = fields } ∷ []) comm place
comm_after_call lines word fields comm place was =
    comm_stays lines (record { word = Call word; fields = fields }) comm place (ap (is_among comm) (none_of is_new_comm (Call word) fields (calls_bring_none word))) was

-- ---- What a report brings ----

cons_none : {A : Type 0} (it : Option A) (xs : List A) → it ≡ None → cons_option it xs ≡ xs
cons_none it xs none = rw none refl

-- no number in a form that the test fails
skip : (test : Form → Bool) (form : Form) (field : Field) → test form ≡ false → number_if test (form, field) ≡ None
skip test form (Natural number) fails = rw fails refl
skip test form (Signed number) fails = refl
skip test form Null fails = refl
skip test form Any fails = refl
skip test form Undefined fails = refl

members_new : (count : ℕ) (fields : List Field) → filter_map (number_if is_new_comm) (zip (replicate count Member) fields) ≡ []
members_new count fields = no_numbers is_new_comm (replicate count Member) fields (any_replicate is_new_comm Member count refl)

-- the second field of a report of a nonblocking duplicate is its request
idup_rest : (count : ℕ) (fields : List Field) → filter_map (number_if is_new_comm) (zip (Request ∷ replicate count Member) fields) ≡ []
idup_rest count fields = no_numbers is_new_comm (Request ∷ replicate count Member) fields (any_replicate is_new_comm Member count refl)

abbrev pub listed : Option ℕ → List ℕ
listed None = []
listed (Some number) = number ∷ []

-- the communicator that a report brings is its first field
pub brought_is : (word : ReportWord) (fields : List Field) (comm : ℕ) → is_among comm (numbers_by is_new_comm (record { word = Report word; fields = fields })) ≡ is_among comm (listed (brought_in word fields))
brought_is report.Comm [] comm = refl
brought_is report.Comm (Natural one ∷ fields) comm = ap (λ ns. is_among comm (one ∷ ns)) (members_new _ fields)
brought_is report.Comm (Signed one ∷ fields) comm = ap (is_among comm) (members_new _ fields)
brought_is report.Comm (Null ∷ fields) comm = ap (is_among comm) (members_new _ fields)
brought_is report.Comm (Any ∷ fields) comm = ap (is_among comm) (members_new _ fields)
brought_is report.Comm (Undefined ∷ fields) comm = ap (is_among comm) (members_new _ fields)
brought_is report.Apart [] comm = refl
brought_is report.Apart (Natural one ∷ fields) comm = ap (λ ns. is_among comm (one ∷ ns)) (members_new _ fields)
brought_is report.Apart (Signed one ∷ fields) comm = ap (is_among comm) (members_new _ fields)
brought_is report.Apart (Null ∷ fields) comm = ap (is_among comm) (members_new _ fields)
brought_is report.Apart (Any ∷ fields) comm = ap (is_among comm) (members_new _ fields)
brought_is report.Apart (Undefined ∷ fields) comm = ap (is_among comm) (members_new _ fields)
brought_is report.Idup [] comm = refl
brought_is report.Idup (Natural one ∷ fields) comm = ap (λ ns. is_among comm (one ∷ ns)) (idup_rest _ fields)
brought_is report.Idup (Signed one ∷ fields) comm = ap (is_among comm) (idup_rest _ fields)
brought_is report.Idup (Null ∷ fields) comm = ap (is_among comm) (idup_rest _ fields)
brought_is report.Idup (Any ∷ fields) comm = ap (is_among comm) (idup_rest _ fields)
brought_is report.Idup (Undefined ∷ fields) comm = ap (is_among comm) (idup_rest _ fields)
brought_is word fields comm = ap (is_among comm) (none_of is_new_comm (Report word) fields refl)
