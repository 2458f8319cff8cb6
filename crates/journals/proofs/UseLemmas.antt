-- How the numbers of a line's requests and messages are used, if none is there twice.
use Rattle.std.proofs.Common.{◌≡◌, ℕ, Bool, true, false, ◌&&◌, not, ◌==◌, if◌then◌else◌, List, [], ◌∷◌, Option, Some, None, sym, ap, ◌∙◌, refl, inl, inr}
use Rattle.std.specs.List.{list_all, filter_map, cons_option}
use Rattle.std.proofs.lemmas.Bool.{cases_Bool, and_parts, or_parts, false≢true, eqb-true, eq-eqb, not-true, false_from_ne_true}
use Rattle.journals.specs.Entries.{number_if, numbers_by, is_of_request, is_new_request, is_new_message, is_request, is_message}
use Rattle.journals.specs.Known.{is_among, are_distinct}
use Rattle.journals.specs.inner.Numbered.{numbered_in, formed, numbered, numbers_with}
use Rattle.journals.specs.inner.Notes.{may_use, noted}
use Rattle.journals.specs.declared.field.Field.{Field}
use Rattle.journals.specs.declared.field.Field.TheVariants.{Natural, Signed, Null, Any, Undefined}
use Rattle.journals.specs.declared.form.Form.{Form}
use Rattle.journals.specs.declared.form.Form.TheVariants.{NewRequest, NewMessage, Request, Message, Comm, NewComm, Member, Peer, Source, Tag, SourceTag, Root, Colour, Key, Bytes}
use Rattle.journals.specs.declared.word.Word.{Word}
use Rattle.journals.proofs.Tests.{and_false, into_first, into_second, into_third, into_fourth, keeps_apart, all_and_apart}

-- ---- Numbers by their forms ----

numbers_of_pairs : (test : Form → Bool) (pairs : List (Form × Field)) → filter_map (number_if test) pairs ≡ numbers_with test (filter_map numbered_in pairs)
numbers_of_pairs test [] = refl
numbers_of_pairs test ((form, Natural number) ∷ pairs) =
    ap (cons_option (if test form then Some number else None)) (numbers_of_pairs test pairs)
numbers_of_pairs test ((form, Signed number) ∷ pairs) = numbers_of_pairs test pairs
numbers_of_pairs test ((form, Null) ∷ pairs) = numbers_of_pairs test pairs
numbers_of_pairs test ((form, Any) ∷ pairs) = numbers_of_pairs test pairs
numbers_of_pairs test ((form, Undefined) ∷ pairs) = numbers_of_pairs test pairs

pub numbers_are : (test : Form → Bool) (word : Word) (fields : List Field) → numbers_by test (record { word = word; fields = fields }) ≡ numbers_with test (numbered word fields)
numbers_are test word fields = numbers_of_pairs test (formed word fields)

-- ---- The form in which a number is used ----

abbrev pub use_of : ℕ → List (Form × ℕ) → Option Form
use_of number [] = None
use_of number (item ∷ items) =
    if is_of_request item.0 && (item.1 == number) then Some item.0 else use_of number items

abbrev pub is_use : (Form → Bool) → Option Form → Bool
is_use test None = false
is_use test (Some form) = test form

abbrev pub IsPart : (Form → Bool) → Type 0
IsPart test = (form : Form) → test form ≡ true → is_of_request form ≡ true

no_part : (test : Form → Bool) (part : IsPart test) (form : Form) → is_of_request form ≡ false → test form ≡ false
no_part test part form not_one = false_from_ne_true (test form) (λ is_one. false≢true (sym not_one ∙ part form is_one))

among_part : (test : Form → Bool) (part : IsPart test) (number : ℕ) (items : List (Form × ℕ)) → is_among number (numbers_with is_of_request items) ≡ false → is_among number (numbers_with test items) ≡ false
among_part test part number [] none = refl
among_part test part number ((form, other) ∷ items) none =
    elim (cases_Bool (is_of_request form)) [
      | inl is_one ↦ (
          let parts = or_parts (other == number) (is_among number (numbers_with is_of_request items)) (rw is_one at none) in
          let rest = among_part test part number items parts.1 in
          elim (cases_Bool (test form)) [
            | inl passes ↦ rw (passes, parts.0, rest) refl
            | inr fails ↦ rw (fails, rest) refl
          ])
      | inr not_one ↦ rw (no_part test part form not_one) (among_part test part number items (rw not_one at none))
    ]

none_use : (number : ℕ) (items : List (Form × ℕ)) → is_among number (numbers_with is_of_request items) ≡ false → use_of number items ≡ None
none_use number [] none = refl
none_use number ((form, other) ∷ items) none =
    elim (cases_Bool (is_of_request form)) [
      | inl is_one ↦ (
          let parts = or_parts (other == number) (is_among number (numbers_with is_of_request items)) (rw is_one at none) in
          rw (is_one, parts.0) (none_use number items parts.1))
      | inr not_one ↦ rw not_one (none_use number items (rw not_one at none))
    ]

-- what the distinct numbers of an item and those after it say
distinct_rest : (form : Form) (other : ℕ) (items : List (Form × ℕ)) → is_of_request form ≡ true → are_distinct (numbers_with is_of_request ((form, other) ∷ items)) ≡ true → (is_among other (numbers_with is_of_request items) ≡ false) × (are_distinct (numbers_with is_of_request items) ≡ true)
distinct_rest form other items is_one distinct =
    let parts = and_parts (not (is_among other (numbers_with is_of_request items))) (are_distinct (numbers_with is_of_request items)) (rw is_one at distinct) in
    (not-true (is_among other (numbers_with is_of_request items)) parts.0, parts.1)

pub among_use : (test : Form → Bool) (part : IsPart test) (number : ℕ) (items : List (Form × ℕ)) → are_distinct (numbers_with is_of_request items) ≡ true → is_among number (numbers_with test items) ≡ is_use test (use_of number items)
among_use test part number [] distinct = refl
among_use test part number ((form, other) ∷ items) distinct =
    elim (cases_Bool (is_of_request form)) [
      | inl is_one ↦ (
          let rest = distinct_rest form other items is_one distinct in
          elim (cases_Bool (other == number)) [
            | inl here ↦ (
                let same : other ≡ number = eqb-true other number here in
                let none : is_among number (numbers_with test items) ≡ false = among_part test part number items (rw same at rest.0) in
                elim (cases_Bool (test form)) [
                  | inl passes ↦ rw (is_one, here, passes, here) refl
                  | inr fails ↦ rw (is_one, here, fails, none) refl
                ])
            | inr apart ↦ (
                let later = among_use test part number items rest.1 in
                elim (cases_Bool (test form)) [
                  | inl passes ↦ rw (is_one, apart, passes, apart) later
                  | inr fails ↦ rw (is_one, apart, fails) later
                ])
          ])
      | inr not_one ↦ rw (not_one, no_part test part form not_one) (among_use test part number items (rw not_one at distinct))
    ]

-- ---- What is noted ----

abbrev pub after_use : {X : Type 0} → (ℕ → Form → X → X) → ℕ → X → Option Form → X
after_use by number note None = note
after_use by number note (Some form) = by number form note

pub noted_use : {X : Type 0} (by : ℕ → Form → X → X) (number : ℕ) (note : X) (items : List (Form × ℕ)) → are_distinct (numbers_with is_of_request items) ≡ true → noted by number note items ≡ after_use by number note (use_of number items)
noted_use by number note [] distinct = refl
noted_use by number note ((form, other) ∷ items) distinct =
    elim (cases_Bool (is_of_request form)) [
      | inl is_one ↦ (
          let rest = distinct_rest form other items is_one distinct in
          elim (cases_Bool (other == number)) [
            | inl here ↦ (
                let same : other ≡ number = eqb-true other number here in
                let none : use_of number items ≡ None = none_use number items (rw same at rest.0) in
                rw (is_one, here) (
                noted_use by number (by other form note) items rest.1
                ∙ ap (after_use by number (by other form note)) none
                ∙ ap (λ n. by n form note) same))
            | inr apart ↦ rw (is_one, apart) (noted_use by number note items rest.1)
          ])
      | inr not_one ↦ rw not_one (noted_use by number note items (rw not_one at distinct))
    ]

-- ---- When numbers may be used ----

-- each number of a request or a message passes a test with its form
abbrev pub all_use : (Form → ℕ → Bool) → List (Form × ℕ) → Bool
all_use may [] = true
all_use may (item ∷ items) = if is_of_request item.0 then may item.0 item.1 && all_use may items else all_use may items

module _ {X : Type 0} (may : Form → X → Bool) (by : ℕ → Form → X → X) (closes : (form other : Form) (number : ℕ) (note : X) → is_of_request form ≡ true → is_of_request other ≡ true → may form note ≡ true → may other (by number form note) ≡ false) where
  -- a number that was used may not be used again
  apart_from : (notes : ℕ → X) (form : Form) (number : ℕ) → is_of_request form ≡ true → may form (notes number) ≡ true → (items : List (Form × ℕ)) → all_use (λ f n. may f (if number == n then by number form (notes number) else notes n)) items ≡ (all_use (λ f n. may f (notes n)) items && not (is_among number (numbers_with is_of_request items)))
  apart_from notes form number is_one passes [] = refl
  apart_from notes form number is_one passes ((next, other) ∷ items) =
      let later = apart_from notes form number is_one passes items in
      elim (cases_Bool (is_of_request next)) [
        | inl used ↦ elim (cases_Bool (number == other)) [
          | inl here ↦ (
              let same : (other == number) ≡ true = eq-eqb other number (sym (eqb-true number other here)) in
              rw (used, here, closes form next number (notes number) is_one used passes, same) (sym (and_false _)))
          | inr apart ↦ (
              let differ : (other == number) ≡ false = false_from_ne_true (other == number) (λ is. false≢true (sym apart ∙ eq-eqb number other (sym (eqb-true other number is)))) in
              rw (used, apart, differ, later) (keeps_apart (may next (notes other)) (all_use (λ f n. may f (notes n)) items) (is_among number (numbers_with is_of_request items))))
        ]
        | inr not_one ↦ rw not_one later
      ]

  pub may_use_is : (notes : ℕ → X) (items : List (Form × ℕ)) → may_use may by notes items ≡ (all_use (λ f n. may f (notes n)) items && are_distinct (numbers_with is_of_request items))
  may_use_is notes [] = refl
  may_use_is notes ((form, number) ∷ items) =
      elim (cases_Bool (is_of_request form)) [
        | inl is_one ↦ elim (cases_Bool (may form (notes number))) [
          | inl passes ↦ rw (is_one, passes) (
              may_use_is (λ n. if number == n then by number form (notes number) else notes n) items
              ∙ ap (λ (b : Bool). b && are_distinct (numbers_with is_of_request items)) (apart_from notes form number is_one passes items)
              ∙ all_and_apart (all_use (λ f n. may f (notes n)) items) (is_among number (numbers_with is_of_request items)) (are_distinct (numbers_with is_of_request items)))
          | inr fails ↦ rw (is_one, fails) refl
        ]
        | inr not_one ↦ rw not_one (may_use_is notes items)
      ]

-- the tests of each form, over all numbers in that form
pub all_split : (may : Form → ℕ → Bool) (p q r s : ℕ → Bool) → ((n : ℕ) → may NewRequest n ≡ p n) → ((n : ℕ) → may NewMessage n ≡ q n) → ((n : ℕ) → may Request n ≡ r n) → ((n : ℕ) → may Message n ≡ s n) → (items : List (Form × ℕ)) → all_use may items ≡ (((list_all p (numbers_with is_new_request items) && list_all q (numbers_with is_new_message items)) && list_all r (numbers_with is_request items)) && list_all s (numbers_with is_message items))
all_split may p q r s a b c d [] = refl
all_split may p q r s a b c d ((NewRequest, n) ∷ items) = rw (a n, all_split may p q r s a b c d items) (into_first (p n) (list_all p (numbers_with is_new_request items)) (list_all q (numbers_with is_new_message items)) (list_all r (numbers_with is_request items)) (list_all s (numbers_with is_message items)))
all_split may p q r s a b c d ((NewMessage, n) ∷ items) = rw (b n, all_split may p q r s a b c d items) (into_second (q n) (list_all p (numbers_with is_new_request items)) (list_all q (numbers_with is_new_message items)) (list_all r (numbers_with is_request items)) (list_all s (numbers_with is_message items)))
all_split may p q r s a b c d ((Request, n) ∷ items) = rw (c n, all_split may p q r s a b c d items) (into_third (r n) (list_all p (numbers_with is_new_request items)) (list_all q (numbers_with is_new_message items)) (list_all r (numbers_with is_request items)) (list_all s (numbers_with is_message items)))
all_split may p q r s a b c d ((Message, n) ∷ items) = rw (d n, all_split may p q r s a b c d items) (into_fourth (s n) (list_all p (numbers_with is_new_request items)) (list_all q (numbers_with is_new_message items)) (list_all r (numbers_with is_request items)) (list_all s (numbers_with is_message items)))
all_split may p q r s a b c d ((Comm, n) ∷ items) = all_split may p q r s a b c d items
all_split may p q r s a b c d ((NewComm, n) ∷ items) = all_split may p q r s a b c d items
all_split may p q r s a b c d ((Member, n) ∷ items) = all_split may p q r s a b c d items
all_split may p q r s a b c d ((Peer, n) ∷ items) = all_split may p q r s a b c d items
all_split may p q r s a b c d ((Source, n) ∷ items) = all_split may p q r s a b c d items
all_split may p q r s a b c d ((Tag, n) ∷ items) = all_split may p q r s a b c d items
all_split may p q r s a b c d ((SourceTag, n) ∷ items) = all_split may p q r s a b c d items
all_split may p q r s a b c d ((Root, n) ∷ items) = all_split may p q r s a b c d items
all_split may p q r s a b c d ((Colour, n) ∷ items) = all_split may p q r s a b c d items
all_split may p q r s a b c d ((Key, n) ∷ items) = all_split may p q r s a b c d items
all_split may p q r s a b c d ((Bytes, n) ∷ items) = all_split may p q r s a b c d items

-- a number that may be used and is may be used in its form
pub may_at : (may : Form → ℕ → Bool) (number : ℕ) (form : Form) (items : List (Form × ℕ)) → all_use may items ≡ true → use_of number items ≡ Some form → may form number ≡ true
may_at may number form [] all is = cc
may_at may number form ((next, other) ∷ items) all is =
    elim (cases_Bool (is_of_request next)) [
      | inl is_one ↦ (
          let parts = and_parts (may next other) (all_use may items) (rw is_one at all) in
          elim (cases_Bool (other == number)) [
            | inl here ↦ (
                let same : other ≡ number = eqb-true other number here in
                let found = rw (is_one, here) at is in
                let form_is : next ≡ form = cc in
                ap (λ (f : Form). may f number) (sym form_is) ∙ ap (may next) (sym same) ∙ parts.0)
            | inr apart ↦ may_at may number form items parts.1 (rw (is_one, apart) at is)
          ])
      | inr not_one ↦ may_at may number form items (rw not_one at all) (rw not_one at is)
    ]

-- a number that is used in no form isn't among any
pub none_among : (test : Form → Bool) (part : IsPart test) (number : ℕ) (items : List (Form × ℕ)) → are_distinct (numbers_with is_of_request items) ≡ true → use_of number items ≡ None → is_among number (numbers_with test items) ≡ false
none_among test part number items distinct none = among_use test part number items distinct ∙ ap (is_use test) none

-- ---- Parts of the forms of requests and messages ----

pub new_request_part : IsPart is_new_request
new_request_part form is = rw is refl

pub new_message_part : IsPart is_new_message
new_message_part NewMessage is = refl
new_message_part _ is = cc

pub request_part : IsPart is_request
request_part Request is = refl
request_part _ is = cc

pub message_part : IsPart is_message
message_part Message is = refl
message_part _ is = cc

pub of_request_part : IsPart is_of_request
of_request_part form is = is
