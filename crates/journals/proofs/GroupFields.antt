-- The groups that lines have, as fields and as numbers.
use Rattle.std.proofs.Common.{◌≡◌, ℕ, zero, suc, ◌-◌, ◌<◌, ◌≤◌, max, true, ◌&&◌, nat_le, List, [], ◌∷◌, length, replicate, Option, Some, None, option_map, refl, subst, arith, inl, inr}
use Rattle.std.proofs.lemmas.List.{length-replicate}
use Rattle.std.specs.List.{filter_map, zip}
use Rattle.std.proofs.lemmas.Bool.{cases_Bool, and_parts, leb-true}
use Rattle.mpicall.specs.Number.{number_up_to, is_canonical, value_of}
use Rattle.journals.specs.Fields.{field_of}
use Rattle.journals.specs.Lines.{fields_of}
use Rattle.journals.specs.Entries.{number_if, is_member, group_in}
use Rattle.journals.specs.inner.Naturals.{naturals, IsMember, AreMembers, AreNatural}
use Rattle.journals.specs.inner.Knows.{IsRead, rest_of, group_fields, brings}
use Rattle.journals.specs.declared.field.Field.{Field}
use Rattle.journals.specs.declared.field.Field.TheVariants.{Natural, Signed, Null, Any, Undefined}
use Rattle.journals.specs.declared.form.Form.{Form}
use Rattle.journals.specs.declared.form.Form.TheVariants.{NewComm, Request, Member}
use Rattle.journals.specs.declared.word.CallWord.TheVariants as call
use Rattle.journals.specs.declared.word.ReportWord.{ReportWord}
use Rattle.journals.specs.declared.word.ReportWord.TheVariants as report
use Rattle.journals.specs.declared.word.Word.TheVariants.{Call, Report}
use Rattle.journals.proofs.LineForms.{same_numbers, no_number, read_first}

-- ---- Members ----

number_below : (limit : ℕ) (text : List ℕ) (number : ℕ) → number_up_to limit text ≡ Some number → number ≤ limit
unfolding number_up_to
number_below limit text number is =
    elim (cases_Bool (is_canonical text && nat_le (value_of text) limit)) [
      | inl passes ↦ (
          let within = leb-true (value_of text) limit (and_parts (is_canonical text) (nat_le (value_of text) limit) passes).1 in
          let found = rw passes at is in
          let same : value_of text ≡ number = cc in
          omega (arith, within, same))
      | inr fails ↦ (let none = rw fails at is in cc)
    ]

member_map : (ranks : ℕ) (it : Option ℕ) (field : Field) → ((number : ℕ) → it ≡ Some number → number < ranks) → option_map (λ n. Natural n) it ≡ Some field → IsMember ranks field
member_map ranks None field below is = cc
member_map ranks (Some number) field below is =
    let same : Natural number ≡ field = cc in subst (λ (f : Field). IsMember ranks f) same (below number refl)

member_is : (ranks : ℕ) (text : List ℕ) (field : Field) → 1 ≤ ranks → field_of ranks Member text ≡ Some field → IsMember ranks field
member_is ranks text field some is =
    member_map ranks (number_up_to (ranks - 1) text) field (λ number found. omega (arith, number_below (ranks - 1) text number found)) is

members_read : (ranks count : ℕ) (texts : List (List ℕ)) (fields : List Field) → 1 ≤ ranks → fields_of ranks (replicate count Member) texts ≡ Some fields → AreMembers ranks fields
members_read ranks count texts [] some is = tt
members_read ranks zero texts (field ∷ fields) some is = cc
members_read ranks (suc count) texts (field ∷ fields) some is =
    let parts = read_first ranks Member (replicate count Member) texts field fields is in
    (member_is ranks parts.0 field some parts.2, members_read ranks count parts.1 fields some parts.3)

pub natural_members : (ranks : ℕ) (fields : List Field) → AreMembers ranks fields → AreNatural fields
natural_members ranks [] members = tt
natural_members ranks (Natural number ∷ fields) members = (tt, natural_members ranks fields members.1)
natural_members ranks (Signed number ∷ fields) members = absurd members.0
natural_members ranks (Null ∷ fields) members = absurd members.0
natural_members ranks (Any ∷ fields) members = absurd members.0
natural_members ranks (Undefined ∷ fields) members = absurd members.0

-- the fields of a group are ranks of the run
pub call_members : (ranks : ℕ) (fields : List Field) → 1 ≤ ranks → IsRead ranks (record { word = Call call.CommCreateGroup; fields = fields }) → AreMembers ranks fields
call_members ranks fields some read = members_read ranks (max 1 (length fields - 0)) read.texts fields some read.spell

after_one : (ranks : ℕ) (form : Form) (count : ℕ) (texts : List (List ℕ)) (fields : List Field) → 1 ≤ ranks → fields_of ranks (form ∷ replicate count Member) texts ≡ Some fields → AreMembers ranks (rest_of fields)
after_one ranks form count texts [] some is = tt
after_one ranks form count texts (field ∷ fields) some is =
    let parts = read_first ranks form (replicate count Member) texts field fields is in
    members_read ranks count parts.1 fields some parts.3

after_two : (ranks : ℕ) (form other : Form) (count : ℕ) (texts : List (List ℕ)) (fields : List Field) → 1 ≤ ranks → fields_of ranks (form ∷ other ∷ replicate count Member) texts ≡ Some fields → AreMembers ranks (rest_of (rest_of fields))
after_two ranks form other count texts [] some is = tt
after_two ranks form other count texts (field ∷ fields) some is =
    let parts = read_first ranks form (other ∷ replicate count Member) texts field fields is in
    after_one ranks other count parts.1 fields some parts.3

pub report_members : (ranks : ℕ) (word : ReportWord) (fields : List Field) → 1 ≤ ranks → IsRead ranks (record { word = Report word; fields = fields }) → AreMembers ranks (group_fields (Report word) fields)
report_members ranks report.Comm fields some read = after_one ranks NewComm (max 1 (length fields - 1)) read.texts fields some read.spell
report_members ranks report.Apart fields some read = after_one ranks NewComm (max 1 (length fields - 1)) read.texts fields some read.spell
report_members ranks report.Idup fields some read = after_two ranks NewComm Request (max 1 (length fields - 2)) read.texts fields some read.spell
report_members ranks _ fields some read = tt

-- ---- The group of a line ----

pub call_group : (ranks : ℕ) (fields : List Field) → IsRead ranks (record { word = Call call.CommCreateGroup; fields = fields }) → group_in (record { word = Call call.CommCreateGroup; fields = fields }) ≡ naturals fields
call_group ranks fields read =
    same_numbers is_member Member (max 1 (length fields - 0)) fields refl (omega (arith, read.fits, length-replicate (max 1 (length fields - 0)) Member))

one_group : (count : ℕ) (fields : List Field) → length (NewComm ∷ replicate count Member) ≡ length fields → filter_map (number_if is_member) (zip (NewComm ∷ replicate count Member) fields) ≡ naturals (rest_of fields)
one_group count [] fits = refl
one_group count (field ∷ fields) fits =
    rw (no_number is_member NewComm field refl) (same_numbers is_member Member count fields refl (omega (arith, fits, length-replicate count Member)))

two_group : (count : ℕ) (fields : List Field) → length (NewComm ∷ Request ∷ replicate count Member) ≡ length fields → filter_map (number_if is_member) (zip (NewComm ∷ Request ∷ replicate count Member) fields) ≡ naturals (rest_of (rest_of fields))
two_group count [] fits = refl
two_group count (field ∷ []) fits = rw (no_number is_member NewComm field refl) refl
two_group count (field ∷ other ∷ fields) fits =
    rw (no_number is_member NewComm field refl, no_number is_member Request other refl) (same_numbers is_member Member count fields refl (omega (arith, fits, length-replicate count Member)))

pub report_group : (ranks : ℕ) (word : ReportWord) (fields : List Field) → brings word ≡ true → IsRead ranks (record { word = Report word; fields = fields }) → group_in (record { word = Report word; fields = fields }) ≡ naturals (group_fields (Report word) fields)
report_group ranks report.Comm fields is read = one_group (max 1 (length fields - 1)) fields read.fits
report_group ranks report.Apart fields is read = one_group (max 1 (length fields - 1)) fields read.fits
report_group ranks report.Idup fields is read = two_group (max 1 (length fields - 2)) fields read.fits
report_group ranks _ fields is read = cc
