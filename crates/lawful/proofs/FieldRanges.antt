-- The ranges of what a journal's lines say: tags, bytes, colours and keys.
use Rattle.std.proofs.Common.{◌≡◌, ℕ, ◌-◌, ◌≤◌, ◌==◌, ◌||◌, ℤ, pos, negsuc, Bool, true, if◌then◌else◌, Option, Some, None, option_map, List, [], ◌∷◌, refl, ap, subst, ◌∙◌, arith, inl, inr}
use Rattle.std.specs.Prelude.{⊤, option_and_then, nat_le, codes}
use Rattle.std.specs.List.{find}
use Rattle.std.specs.Str.{bytes_eq}
use Rattle.std.proofs.lemmas.Bool.{cases_Bool, le-leb}
use Rattle.std.proofs.lemmas.Option.{none-some, same_Some}
use Rattle.mpicall.specs.Word.{or_else}
use Rattle.mpicall.specs.Argument.{Key as KeyArgument, KeyForm, key_in_range}
use Rattle.mpicall.specs.Number.{number_up_to, signed_of}
use Rattle.mpicall.specs.declared.limits.TheConstants.{GREATEST_TAG, GREATEST_BYTES}
use Rattle.mpicall.proofs.ArgumentLemmas.{argument_spelled}
use Rattle.mpicall.proofs.DecimalLemmas.{number-decimal}
use Rattle.journals.specs.Fields.{at_least_one, natural_of, positive_of, signed_field, or_named, peer_field, field_of}
use Rattle.journals.specs.Lines.{Line, fields_of}
use Rattle.journals.specs.Entries.{Entry}
use Rattle.journals.specs.Known.{report_of, is_report, is_any}
use Rattle.journals.specs.declared.limits.TheConstants.{GREATEST, MOST_RANKS}
use Rattle.journals.specs.declared.field.Field.{Field}
use Rattle.journals.specs.declared.field.Field.TheVariants.{Natural, Signed, Null, Any, Undefined}
use Rattle.journals.specs.declared.form.Form.{Form}
use Rattle.journals.specs.declared.form.Form.TheVariants as form
use Rattle.journals.specs.declared.word.Word.{Word}
use Rattle.journals.specs.declared.word.Word.TheVariants.{Report}
use Rattle.journals.specs.declared.word.ReportWord.TheVariants as report
use Rattle.journals.proofs.LineForms.{read_first}
use Rattle.closing.specs.Called.{Awaited}
use Rattle.closing.specs.Reported.{Message, done_in, done_of, message_in, got_in, known_field, with_wildcards, message_from, message_of}
use Rattle.closing.specs.Entry.{tag}
use Rattle.lawful.proofs.FullFacts.{LineFull, LinesFull}

abbrev pub FieldOk : Field → Type 0
FieldOk (Natural number) = nat_le number GREATEST_BYTES ≡ true
FieldOk (Signed number) = key_in_range number ≡ true
FieldOk field = ⊤

abbrev pub FieldsOk : List Field → Type 0
FieldsOk [] = ⊤
FieldsOk (field ∷ fields) = FieldOk field × FieldsOk fields

-- ---- By their forms ----

natural_ok : (o : Option ℕ) (field : Field) → ((number : ℕ) → o ≡ Some number → number ≤ GREATEST_BYTES) → option_map (λ n. Natural n) o ≡ Some field → FieldOk field
natural_ok None field low h = absurd (none-some field h)
natural_ok (Some number) field low h =
    subst FieldOk (same_Some (Natural number) field h) (le-leb number GREATEST_BYTES (low number refl))

number_low : (limit : ℕ) (text : List ℕ) (number : ℕ) → limit ≤ GREATEST_BYTES → number_up_to limit text ≡ Some number → number ≤ GREATEST_BYTES
number_low limit text number le h =
    let spelled = number-decimal limit number text (omega (arith, le)) h in omega (arith, le, spelled.1)

positive_low : (o : Option ℕ) (number : ℕ) → ((n : ℕ) → o ≡ Some n → n ≤ GREATEST_BYTES) → option_and_then at_least_one o ≡ Some number → number ≤ GREATEST_BYTES
positive_low None number low h = absurd (none-some number h)
positive_low (Some n) number low h =
    elim (cases_Bool (nat_le 1 n)) [
      | inl some ↦ subst (λ (k : ℕ). k ≤ GREATEST_BYTES) (same_Some n number (rw some at h)) (low n refl)
      | inr none ↦ absurd (none-some number (rw none at h))
    ]

natural_field : (text : List ℕ) (field : Field) → option_map (λ n. Natural n) (natural_of text) ≡ Some field → FieldOk field
natural_field text field h = natural_ok (natural_of text) field (λ n is. number_low GREATEST text n (omega arith) is) h

positive_field : (text : List ℕ) (field : Field) → option_map (λ n. Natural n) (positive_of text) ≡ Some field → FieldOk field
positive_field text field h =
    natural_ok (positive_of text) field (λ n is. positive_low (natural_of text) n (λ k found. number_low GREATEST text k (omega arith) found) is) h

signed_ok : (text : List ℕ) (field : Field) (o : Option ℤ) → signed_of text ≡ o → option_map (λ z. Signed z) o ≡ Some field → FieldOk field
signed_ok text field None is h = absurd (none-some field h)
signed_ok text field (Some number) is h =
    let spelled = argument_spelled KeyForm text (KeyArgument number) refl (ap (λ (o : Option ℤ). option_map KeyArgument o) is) in
    subst FieldOk (same_Some (Signed number) field h) spelled.1

signed_is : (text : List ℕ) (field : Field) → signed_field text ≡ Some field → FieldOk field
signed_is text field h = signed_ok text field (signed_of text) refl h

named_ok : (name text : List ℕ) (named field : Field) (other : Option Field) → FieldOk named → (other ≡ Some field → FieldOk field) → or_named name named text other ≡ Some field → FieldOk field
named_ok name text named field other ok others h =
    elim (cases_Bool (bytes_eq text name)) [
      | inl same ↦ subst FieldOk (same_Some named field (rw same at h)) ok
      | inr apart ↦ others (rw apart at h)
    ]

peer_ok : (text : List ℕ) (field : Field) → peer_field text ≡ Some field → FieldOk field
peer_ok text field h = named_ok (codes "null") text Null field (signed_field text) tt (signed_is text field) h

field_ok : (ranks : ℕ) (it : Form) (text : List ℕ) (field : Field) → ranks ≤ MOST_RANKS → field_of ranks it text ≡ Some field → FieldOk field
field_ok ranks form.NewRequest text field le h = positive_field text field h
field_ok ranks form.NewMessage text field le h = positive_field text field h
field_ok ranks form.Request text field le h = positive_field text field h
field_ok ranks form.Message text field le h = positive_field text field h
field_ok ranks form.Comm text field le h = natural_field text field h
field_ok ranks form.NewComm text field le h = natural_field text field h
field_ok ranks form.Member text field le h =
    natural_ok (number_up_to (ranks - 1) text) field (λ n is. number_low (ranks - 1) text n (omega (arith, le)) is) h
field_ok ranks form.Peer text field le h = peer_ok text field h
field_ok ranks form.Source text field le h = named_ok (codes "any") text Any field (peer_field text) tt (peer_ok text field) h
field_ok ranks form.Tag text field le h = signed_is text field h
field_ok ranks form.SourceTag text field le h = named_ok (codes "any") text Any field (signed_field text) tt (signed_is text field) h
field_ok ranks form.Root text field le h = signed_is text field h
field_ok ranks form.Colour text field le h = named_ok (codes "undefined") text Undefined field (signed_field text) tt (signed_is text field) h
field_ok ranks form.Key text field le h = signed_is text field h
field_ok ranks form.Bytes text field le h = natural_field text field h

none_left : (ranks : ℕ) (texts : List (List ℕ)) (field : Field) (fields : List Field) → fields_of ranks [] texts ≡ Some (field ∷ fields) → ⊥
none_left ranks texts field fields h = cc

fields_ok : (ranks : ℕ) (forms : List Form) (texts : List (List ℕ)) (fields : List Field) → ranks ≤ MOST_RANKS → fields_of ranks forms texts ≡ Some fields → FieldsOk fields
fields_ok ranks forms texts [] le h = tt
fields_ok ranks [] texts (field ∷ fields) le h = absurd (none_left ranks texts field fields h)
fields_ok ranks (first ∷ forms) texts (field ∷ fields) le h =
    let parts = read_first ranks first forms texts field fields h in
    (field_ok ranks first parts.0 field le parts.2, fields_ok ranks forms parts.1 fields le parts.3)

pub line_ok : (ranks : ℕ) (line : Line) → ranks ≤ MOST_RANKS → LineFull ranks line → FieldsOk line.fields
line_ok ranks line le full = fields_ok ranks _ full.read.texts line.fields le full.read.spell

-- ---- Messages ----

abbrev pub MessageOk : Message → Type 0
MessageOk it = FieldOk it.tag

-- what is reported, if anything is
abbrev pub ReportedOk : Option Message → Type 0
ReportedOk reported = (it : Message) → reported ≡ Some it → MessageOk it

in_ok : (fields : List Field) → FieldsOk fields → ReportedOk (message_in fields)
in_ok (source ∷ mark ∷ []) ok it h = subst MessageOk (same_Some (record { source = source; tag = mark }) it h) ok.1.0
in_ok [] ok it h = absurd (none-some it h)
in_ok (source ∷ []) ok it h = absurd (none-some it h)
in_ok (source ∷ mark ∷ other ∷ fields) ok it h = absurd (none-some it h)

found_ok : (ranks : ℕ) (test : Line → Bool) (lines : List Line) (line : Line) → ranks ≤ MOST_RANKS → LinesFull ranks lines → find test lines ≡ Some line → FieldsOk line.fields
found_ok ranks test [] line le full h = absurd (none-some line h)
found_ok ranks test (first ∷ lines) line le full h =
    elim (cases_Bool (test first)) [
      | inl here ↦ subst (λ (l : Line). FieldsOk l.fields) (same_Some first line (rw here at h)) (line_ok ranks first le full.0)
      | inr there ↦ found_ok ranks test lines line le full.1 (rw there at h)
    ]

pub got_ok : (ranks : ℕ) (entry : Entry) → ranks ≤ MOST_RANKS → LinesFull ranks entry.reports → ReportedOk (got_in entry)
got_ok ranks entry le full it h = of_line (report_of report.Got entry) refl h
  where
    of_line : (o : Option Line) → report_of report.Got entry ≡ o → option_and_then (λ line. message_in line.fields) o ≡ Some it → MessageOk it
    of_line None is e = absurd (none-some it e)
    of_line (Some line) is e =
        in_ok line.fields (found_ok ranks (λ (l : Line). is_report report.Got l.word) entry.reports line le full is) it e

done_in_ok : (request : ℕ) (word : Word) (fields : List Field) → FieldsOk fields → ReportedOk (done_in request word fields)
done_in_ok request (Report report.Done) (Natural done ∷ source ∷ mark ∷ []) ok it h =
    elim (cases_Bool (done == request)) [
      | inl same ↦ subst MessageOk (same_Some (record { source = source; tag = mark }) it (rw same at h)) ok.1.1.0
      | inr apart ↦ absurd (none-some it (rw apart at h))
    ]
done_in_ok request _ _ ok it h = cc

pub done_ok : (ranks : ℕ) (lines : List Line) (request : ℕ) → ranks ≤ MOST_RANKS → LinesFull ranks lines → ReportedOk (done_of lines request)
done_ok ranks [] request le full it h = absurd (none-some it h)
done_ok ranks (line ∷ lines) request le full it h =
    either (done_in request line.word line.fields) refl h (done_ok ranks lines request le full.1 it)
  where
    either : (o : Option Message) → done_in request line.word line.fields ≡ o → or_else o (done_of lines request) ≡ Some it → (done_of lines request ≡ Some it → MessageOk it) → MessageOk it
    either (Some one) is e others = done_in_ok request line.word line.fields (line_ok ranks line le full.0) it (is ∙ e)
    either None is e others = others e

known_ok : (field reported : Field) → FieldOk field → FieldOk reported → FieldOk (known_field field reported)
known_ok Any reported ok reported_ok = reported_ok
known_ok (Natural number) reported ok reported_ok = ok
known_ok (Signed number) reported ok reported_ok = ok
known_ok Null reported ok reported_ok = ok
known_ok Undefined reported ok reported_ok = ok

wildcards_ok : (awaited : Awaited) (reported : Option Message) (it : Message) → FieldOk awaited.tag → ReportedOk reported → with_wildcards awaited reported ≡ Some it → MessageOk it
wildcards_ok awaited None it ok all h = absurd (none-some it h)
wildcards_ok awaited (Some one) it ok all h =
    subst MessageOk (same_Some (record { source = known_field awaited.source one.source; tag = known_field awaited.tag one.tag }) it h)
    (known_ok awaited.tag one.tag ok (all one refl))

some_ok : (awaited : Awaited) (reported : Option Message) (it : Message) → FieldOk awaited.tag → ReportedOk reported → (if is_any awaited.source || is_any awaited.tag then with_wildcards awaited reported else Some (record { source = awaited.source; tag = awaited.tag })) ≡ Some it → MessageOk it
some_ok awaited reported it ok all h =
    elim (cases_Bool (is_any awaited.source || is_any awaited.tag)) [
      | inl wild ↦ wildcards_ok awaited reported it ok all (rw wild at h)
      | inr known ↦ subst MessageOk (same_Some (record { source = awaited.source; tag = awaited.tag }) it (rw known at h)) ok
    ]

from_ok : (source : Field) (awaited : Awaited) (reported : Option Message) (it : Message) → FieldOk awaited.tag → ReportedOk reported → message_from source awaited reported ≡ Some it → MessageOk it
from_ok Null awaited reported it ok all h =
    subst MessageOk (same_Some (record { source = Null; tag = known_field awaited.tag (Signed (pos 0)) }) it h) (known_ok awaited.tag (Signed (pos 0)) ok refl)
from_ok (Natural number) awaited reported it ok all h = some_ok awaited reported it ok all h
from_ok (Signed number) awaited reported it ok all h = some_ok awaited reported it ok all h
from_ok Any awaited reported it ok all h = some_ok awaited reported it ok all h
from_ok Undefined awaited reported it ok all h = some_ok awaited reported it ok all h

pub message_ok : (awaited : Awaited) (reported : Option Message) (it : Message) → FieldOk awaited.tag → ReportedOk reported → message_of awaited reported ≡ Some it → MessageOk it
message_ok awaited reported it ok all h = from_ok awaited.source awaited reported it ok all h

-- the tag of a call
pub tag_ranged : (field : Field) → FieldOk field → nat_le (tag field) GREATEST_TAG ≡ true
tag_ranged (Signed (pos number)) ok = ok
tag_ranged (Signed (negsuc number)) ok = refl
tag_ranged (Natural number) ok = refl
tag_ranged Null ok = refl
tag_ranged Any ok = refl
tag_ranged Undefined ok = refl
