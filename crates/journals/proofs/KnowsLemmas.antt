-- All that is held, after one line more.
use Rattle.std.proofs.Common.{◌≡◌, ℕ, zero, suc, ◌<◌, Bool, true, false, ◌||◌, List, [], ◌∷◌, ◌++◌, length, Option, Some, None, option_map, sym, ap, ◌∙◌, refl, subst, arith, length-append}
use Rattle.std.proofs.lemmas.Bool.{and_parts}
use Rattle.journals.specs.Lines.{Line}
use Rattle.journals.specs.Entries.{is_of_request}
use Rattle.journals.specs.Known.{are_distinct, has_report, is_report}
use Rattle.journals.specs.Faults.{is_after_end, ends_journal}
use Rattle.journals.specs.inner.Numbered.{numbered, numbers_with}
use Rattle.journals.specs.Taking.{fields_at, fields_in_line}
use Rattle.journals.specs.inner.Last.{new_last, with_report}
use Rattle.journals.specs.inner.Notes.{may_use, may_call, by_call, may_report, by_report}
use Rattle.journals.specs.inner.Knows.{IsRead, IsLast, LastIs}
use Rattle.journals.specs.declared.field.Field.{Field}
use Rattle.journals.specs.declared.form.Form.{Form}
use Rattle.journals.specs.declared.last.LastCall.{LastCall}
use Rattle.journals.specs.declared.note.Note.{Note}
use Rattle.journals.specs.declared.word.CallWord.{CallWord}
use Rattle.journals.specs.declared.word.ReportWord.{ReportWord}
use Rattle.journals.specs.declared.word.ReportWord.TheVariants as report
use Rattle.journals.specs.declared.word.Word.TheVariants.{Call, Report}
use Rattle.journals.proofs.Tests.{or_false}
use Rattle.journals.proofs.EntryLemmas.{new_entry, add_report, last_after_call, last_after_report, any_push}
use Rattle.journals.proofs.UseLemmas.{use_of, all_use, may_use_is, may_at}
use Rattle.journals.proofs.CommLemmas.{get_last}
use Rattle.journals.proofs.ReportNotes.{has_more, line_with}
use Rattle.journals.proofs.AdmitLemmas.{call_closes, report_closes}

-- ---- The last call ----

fields_left : (lines : List Line) (line : Line) (place : ℕ) → place < length lines → fields_at (lines ++ line ∷ []) place ≡ fields_at lines place
fields_left [] line place below = absurd (omega arith)
fields_left (first ∷ lines) line zero below = refl
fields_left (first ∷ lines) line (suc n) below = fields_left lines line n (omega arith)

pub fields_last : (lines : List Line) (line : Line) → fields_at (lines ++ line ∷ []) (length lines) ≡ line.fields
fields_last lines line = ap fields_in_line (get_last lines line)

-- what the last call has stays where it is
pub fields_stay : (ranks : ℕ) (lines : List Line) (line : Line) (last : Option LastCall) → IsLast ranks lines last → (held : LastCall) → last ≡ Some held → fields_at (lines ++ line ∷ []) held.line ≡ fields_at lines held.line
fields_stay ranks lines line None is held same = cc
fields_stay ranks lines line (Some last) is held same =
    let here : last ≡ held = cc in
    fields_left lines line held.line (subst (λ (it : LastCall). it.line < length lines) here is.place)

pub last_call : (ranks : ℕ) (lines : List Line) (word : CallWord) (fields : List Field) → IsRead ranks (record { word = Call word; fields = fields }) → LastIs ranks (lines ++ record { word = Call word; fields = fields } ∷ []) (new_last word (length lines))
last_call ranks lines word fields read = record {
  entry = new_entry word fields;
  is = last_after_call lines word fields;
  word = refl;
  place = omega (arith, length-append lines (record { word = Call word; fields = fields } ∷ []));
  fields = fields_last lines (record { word = Call word; fields = fields });
  read = read;
  got = refl;
  chosen = refl;
  brought = refl;
  failed = refl;
}

word_with : (word : ReportWord) (last : LastCall) → (with_report word last).word ≡ last.word
word_with report.Got last = refl
word_with report.Chose last = refl
word_with report.Comm last = refl
word_with report.NoComm last = refl
word_with report.Failed last = refl
word_with _ last = refl

got_with : (word : ReportWord) (last : LastCall) → (last.has_got || is_report report.Got (Report word)) ≡ (with_report word last).has_got
got_with report.Got last = or_so last.has_got
  where
    or_so : (b : Bool) → (b || true) ≡ true
    or_so true = refl
    or_so false = refl
got_with report.Chose last = or_false _
got_with report.Comm last = or_false _
got_with report.NoComm last = or_false _
got_with report.Failed last = or_false _
got_with _ last = or_false _

chosen_with : (word : ReportWord) (last : LastCall) → (last.has_chosen || is_report report.Chose (Report word)) ≡ (with_report word last).has_chosen
chosen_with report.Chose last = or_so last.has_chosen
  where
    or_so : (b : Bool) → (b || true) ≡ true
    or_so true = refl
    or_so false = refl
chosen_with report.Got last = or_false _
chosen_with report.Comm last = or_false _
chosen_with report.NoComm last = or_false _
chosen_with report.Failed last = or_false _
chosen_with _ last = or_false _

failed_with : (word : ReportWord) (last : LastCall) → (last.has_failed || is_report report.Failed (Report word)) ≡ (with_report word last).has_failed
failed_with report.Failed last = or_so last.has_failed
  where
    or_so : (b : Bool) → (b || true) ≡ true
    or_so true = refl
    or_so false = refl
failed_with report.Got last = or_false _
failed_with report.Comm last = or_false _
failed_with report.NoComm last = or_false _
failed_with report.Chose last = or_false _
failed_with _ last = or_false _

brought_with : (word : ReportWord) (last : LastCall) (a b : Bool) → last.has_brought ≡ (a || b) → (with_report word last).has_brought ≡ ((a || is_report report.Comm (Report word)) || (b || is_report report.NoComm (Report word)))
brought_with report.Comm last a b is = sym (first a b)
  where
    first : (x y : Bool) → ((x || true) || (y || false)) ≡ true
    first true y = refl
    first false y = refl
brought_with report.NoComm last a b is = sym (second a b)
  where
    second : (x y : Bool) → ((x || false) || (y || true)) ≡ true
    second true true = refl
    second true false = refl
    second false true = refl
    second false false = refl
brought_with report.Got last a b is = is ∙ sym (ap (λ (x : Bool). x || (b || false)) (or_false a) ∙ ap (λ (x : Bool). a || x) (or_false b))
brought_with report.Chose last a b is = is ∙ sym (ap (λ (x : Bool). x || (b || false)) (or_false a) ∙ ap (λ (x : Bool). a || x) (or_false b))
brought_with report.Failed last a b is = is ∙ sym (ap (λ (x : Bool). x || (b || false)) (or_false a) ∙ ap (λ (x : Bool). a || x) (or_false b))
brought_with _ last a b is = is ∙ sym (ap (λ (x : Bool). x || (b || false)) (or_false a) ∙ ap (λ (x : Bool). a || x) (or_false b))

pub last_report : (ranks : ℕ) (lines : List Line) (last : Option LastCall) (word : ReportWord) (fields : List Field) → IsLast ranks lines last → IsLast ranks (lines ++ record { word = Report word; fields = fields } ∷ []) (option_map (with_report word) last)
last_report ranks lines None word fields is = last_after_report lines word fields ∙ ap (option_map (add_report (record { word = Report word; fields = fields }))) is
last_report ranks lines (Some last) word fields is = record {
  entry = add_report (record { word = Report word; fields = fields }) is.entry;
  is = last_after_report lines word fields ∙ ap (option_map (add_report (record { word = Report word; fields = fields }))) is.is;
  word = word_with word last ∙ is.word;
  place = omega (arith, is.place, line_with word last, length-append lines (record { word = Report word; fields = fields } ∷ []));
  fields = ap (fields_at (lines ++ record { word = Report word; fields = fields } ∷ [])) (line_with word last) ∙ fields_left lines (record { word = Report word; fields = fields }) last.line is.place ∙ is.fields;
  read = is.read;
  got = sym (has_more report.Got word fields is.entry ∙ ap (λ (b : Bool). b || is_report report.Got (Report word)) (sym is.got) ∙ got_with word last);
  chosen = sym (has_more report.Chose word fields is.entry ∙ ap (λ (b : Bool). b || is_report report.Chose (Report word)) (sym is.chosen) ∙ chosen_with word last);
  brought = brought_with word last (has_report report.Comm is.entry) (has_report report.NoComm is.entry) is.brought
      ∙ sym (ap (λ (b : Bool). b || has_report report.NoComm (add_report (record { word = Report word; fields = fields }) is.entry)) (has_more report.Comm word fields is.entry)
      ∙ ap (λ (b : Bool). (has_report report.Comm is.entry || is_report report.Comm (Report word)) || b) (has_more report.NoComm word fields is.entry));
  failed = sym (has_more report.Failed word fields is.entry ∙ ap (λ (b : Bool). b || is_report report.Failed (Report word)) (sym is.failed) ∙ failed_with word last);
}

-- ---- The end ----

pub over_push : (lines : List Line) (line : Line) → is_after_end lines ≡ false → is_after_end (lines ++ line ∷ []) ≡ ends_journal line.word
over_push lines line goes_on = any_push (λ it. ends_journal it.word) lines line ∙ ap (λ (b : Bool). b || ends_journal line.word) goes_on

-- ---- Uses ----

-- what it says that the numbers of a call line may be used
pub call_uses : (word : CallWord) (fields : List Field) (line : ℕ) (notes : ℕ → Option Note) → may_use (may_call line) (by_call word fields line) notes (numbered (Call word) fields) ≡ true → (are_distinct (numbers_with is_of_request (numbered (Call word) fields)) ≡ true) × ((number : ℕ) (form : Form) → use_of number (numbered (Call word) fields) ≡ Some form → may_call line form (notes number) ≡ true)
call_uses word fields line notes may =
    let parts = and_parts (all_use (λ f n. may_call line f (notes n)) (numbered (Call word) fields)) (are_distinct (numbers_with is_of_request (numbered (Call word) fields))) (sym (may_use_is (may_call line) (by_call word fields line) (call_closes word fields line) notes (numbered (Call word) fields)) ∙ may) in
    (parts.1, λ number form is. may_at (λ f n. may_call line f (notes n)) number form (numbered (Call word) fields) parts.0 is)

pub report_uses : (word : ReportWord) (fields : List Field) (line : ℕ) (completed : Option ℕ) (notes : ℕ → Option Note) → may_use (may_report line) (by_report word line completed) notes (numbered (Report word) fields) ≡ true → (are_distinct (numbers_with is_of_request (numbered (Report word) fields)) ≡ true) × ((number : ℕ) (form : Form) → use_of number (numbered (Report word) fields) ≡ Some form → may_report line form (notes number) ≡ true)
report_uses word fields line completed notes may =
    let parts = and_parts (all_use (λ f n. may_report line f (notes n)) (numbered (Report word) fields)) (are_distinct (numbers_with is_of_request (numbered (Report word) fields))) (sym (may_use_is (may_report line) (by_report word line completed) (report_closes word line completed) notes (numbered (Report word) fields)) ∙ may) in
    (parts.1, λ number form is. may_at (λ f n. may_report line f (notes n)) number form (numbered (Report word) fields) parts.0 is)
