-- What the fields of some words can be, by their forms.
use Rattle.std.proofs.Common.{◌≡◌, ℕ, suc, ◌≤◌, Bool, true, false, ◌||◌, ◌==◌, List, [], ◌∷◌, length, replicate, Option, Some, None, is_some, option_map, ap, ◌∙◌, refl, arith, inl, inr, subst, zero}
use Rattle.std.specs.List.{list_any, filter_map, cons_option, zip}
use Rattle.std.proofs.lemmas.Bool.{cases_Bool, or_parts, false≢true}
use Rattle.journals.specs.Fields.{field_of, positive_of}
use Rattle.journals.specs.Lines.{fields_of, put_field}
use Rattle.journals.specs.Entries.{number_if, numbers_by, is_new_request}
use Rattle.journals.specs.Known.{is_among, receive_in, is_wildcard, duplicated_in}
use Rattle.journals.specs.inner.Naturals.{naturals, IsNatural, AreNatural}
use Rattle.journals.specs.declared.field.Field.{Field}
use Rattle.journals.specs.declared.field.Field.TheVariants.{Natural, Signed, Null, Any, Undefined}
use Rattle.journals.specs.declared.form.Form.{Form}
use Rattle.journals.specs.declared.form.Form.TheVariants.{NewRequest, Request}
use Rattle.journals.specs.declared.word.Word.TheVariants.{Call}
use Rattle.journals.specs.declared.word.CallWord.{CallWord}
use Rattle.journals.specs.declared.word.CallWord.TheVariants as call

-- ---- Forms that a word doesn't have ----

pub any_replicate : (test : Form → Bool) (form : Form) (count : ℕ) → test form ≡ false → list_any test (replicate count form) ≡ false
any_replicate test form zero fails = refl
any_replicate test form (suc count) fails = rw (fails, any_replicate test form count fails) refl

pub no_number : (test : Form → Bool) (form : Form) (field : Field) → test form ≡ false → number_if test (form, field) ≡ None
no_number test form (Natural number) fails = rw fails refl
no_number test form (Signed number) fails = refl
no_number test form Null fails = refl
no_number test form Any fails = refl
no_number test form Undefined fails = refl

pub no_numbers : (test : Form → Bool) (forms : List Form) (fields : List Field) → list_any test forms ≡ false → filter_map (number_if test) (zip forms fields) ≡ []
no_numbers test [] fields none = refl
no_numbers test (form ∷ forms) [] none = refl
no_numbers test (form ∷ forms) (field ∷ fields) none =
    let parts = or_parts (test form) (list_any test forms) none in
    rw (no_number test form field parts.0, no_numbers test forms fields parts.1) refl

-- the fields in one form alone are numbers of it
pub same_numbers : (test : Form → Bool) (form : Form) (count : ℕ) (fields : List Field) → test form ≡ true → length fields ≤ count → filter_map (number_if test) (zip (replicate count form) fields) ≡ naturals fields
same_numbers test form zero [] passes within = refl
same_numbers test form zero (field ∷ fields) passes within = absurd (omega arith)
same_numbers test form (suc count) [] passes within = refl
same_numbers test form (suc count) (Natural number ∷ fields) passes within =
    rw (passes, same_numbers test form count fields passes (omega arith)) refl
same_numbers test form (suc count) (Signed number ∷ fields) passes within = same_numbers test form count fields passes (omega arith)
same_numbers test form (suc count) (Null ∷ fields) passes within = same_numbers test form count fields passes (omega arith)
same_numbers test form (suc count) (Any ∷ fields) passes within = same_numbers test form count fields passes (omega arith)
same_numbers test form (suc count) (Undefined ∷ fields) passes within = same_numbers test form count fields passes (omega arith)

-- ---- Requests that a call line numbers ----

among_cons : (number : ℕ) (it : Option ℕ) (numbers : List ℕ) → is_among number numbers ≡ true → is_among number (cons_option it numbers) ≡ true
among_cons number None numbers is = is
among_cons number (Some other) numbers is = rw is (or_so (other == number))
  where
    or_so : (b : Bool) → (b || true) ≡ true
    or_so true = refl
    or_so false = refl

-- a receive is that of a request that the line numbers
pub receive_new : (word : CallWord) (fields : List Field) (number : ℕ) → is_some (receive_in number (Call word) fields) ≡ true → is_among number (numbers_by is_new_request (record { word = Call word; fields = fields })) ≡ true
receive_new call.Irecv (Natural request ∷ comm ∷ source ∷ tag ∷ []) number is =
    elim (cases_Bool (request == number)) [
      | inl here ↦ rw here refl
      | inr apart ↦ absurd (false≢true (rw apart at is))
    ]
receive_new call.Isendrecv (sent ∷ Natural request ∷ comm ∷ dest ∷ tag ∷ source ∷ other ∷ rest) number is =
    elim (cases_Bool (request == number)) [
      | inl here ↦ among_cons number (number_if is_new_request (NewRequest, sent)) _ (rw here refl)
      | inr apart ↦ absurd (false≢true (rw apart at is))
    ]
receive_new _ _ number is = cc

-- so is one with a wildcard
some_wildcard : (it : Option (Field × Field)) → is_wildcard it ≡ true → is_some it ≡ true
some_wildcard None is = cc
some_wildcard (Some it) is = refl

pub wildcard_new : (word : CallWord) (fields : List Field) (number : ℕ) → is_wildcard (receive_in number (Call word) fields) ≡ true → is_among number (numbers_by is_new_request (record { word = Call word; fields = fields })) ≡ true
wildcard_new word fields number is = receive_new word fields number (some_wildcard (receive_in number (Call word) fields) is)

-- so is a nonblocking duplicate
pub duplicate_new : (word : CallWord) (fields : List Field) (number : ℕ) → is_some (duplicated_in number (Call word) fields) ≡ true → is_among number (numbers_by is_new_request (record { word = Call word; fields = fields })) ≡ true
duplicate_new call.CommIdup (Natural request ∷ Natural comm ∷ []) number is =
    elim (cases_Bool (request == number)) [
      | inl here ↦ rw here refl
      | inr apart ↦ absurd (false≢true (rw apart at is))
    ]
duplicate_new _ _ number is = cc

-- ---- Fields that were read ----

some_inj : {A : Type 0} {a b : A} → Some a ≡ Some b → a ≡ b
some_inj is = cc

-- the first field and the others
pub read_first : (ranks : ℕ) (form : Form) (forms : List Form) (texts : List (List ℕ)) (field : Field) (fields : List Field) → fields_of ranks (form ∷ forms) texts ≡ Some (field ∷ fields) → (text : List ℕ) × (others : List (List ℕ)) × (field_of ranks form text ≡ Some field) × (fields_of ranks forms others ≡ Some fields)
read_first ranks form forms [] field fields is = cc
read_first ranks form forms (text ∷ texts) field fields is =
    split (field_of ranks form text) (fields_of ranks forms texts) refl refl is
  where
    split : (a : Option Field) (b : Option (List Field)) → field_of ranks form text ≡ a → fields_of ranks forms texts ≡ b → put_field a b ≡ Some (field ∷ fields) → (t : List ℕ) × (others : List (List ℕ)) × (field_of ranks form t ≡ Some field) × (fields_of ranks forms others ≡ Some fields)
    split None b a_is b_is put = cc
    split (Some one) None a_is b_is put = cc
    split (Some one) (Some many) a_is b_is put =
        let first : one ≡ field = cc in
        let rest : many ≡ fields = cc in
        (text, texts, a_is ∙ ap (λ (f : Field). Some f) first, b_is ∙ ap (λ (fs : List Field). Some fs) rest)

-- a field that is a number, as the fields of requests are
natural_map : (it : Option ℕ) (field : Field) → option_map (λ n. Natural n) it ≡ Some field → IsNatural field
natural_map None field is = cc
natural_map (Some number) field is = let same : Natural number ≡ field = cc in subst (λ (f : Field). IsNatural f) same tt

request_natural : (ranks : ℕ) (text : List ℕ) (field : Field) → field_of ranks Request text ≡ Some field → IsNatural field
request_natural ranks text field is = natural_map (positive_of text) field is

pub requests_natural : (ranks count : ℕ) (texts : List (List ℕ)) (fields : List Field) → fields_of ranks (replicate count Request) texts ≡ Some fields → AreNatural fields
requests_natural ranks count texts [] is = tt
requests_natural ranks zero texts (field ∷ fields) is = cc
requests_natural ranks (suc count) texts (field ∷ fields) is =
    let parts = read_first ranks Request (replicate count Request) texts field fields is in
    (request_natural ranks parts.0 field parts.2, requests_natural ranks count parts.1 fields parts.3)
