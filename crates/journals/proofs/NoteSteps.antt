-- How notes go along the numbers of a line, one after another.
use Rattle.std.proofs.Common.{◌≡◌, ℕ, zero, suc, ◌+◌, ◌<◌, ◌==◌, Bool, true, false, if◌then◌else◌, List, [], ◌∷◌, length, get_or, drop, Option, Some, None, sym, ap, ◌∙◌, refl, arith, add-one, ◌⊎◌, inl, inr}
use Rattle.std.specs.List.{filter_map, zip, cons_option, slice_get}
use Rattle.std.proofs.lemmas.Bool.{cases_Bool, eqb-true}
use Rattle.std.proofs.lemmas.List.{get_or_default}
use Rattle.journals.specs.Words.{forms_of}
use Rattle.journals.specs.Entries.{is_of_request}
use Rattle.journals.specs.inner.Numbered.{numbered_in, number_of, formed, numbered_from}
use Rattle.journals.specs.inner.Notes.{may_use, noted}
use Rattle.journals.specs.declared.field.Field.{Field}
use Rattle.journals.specs.declared.field.Field.TheVariants.{Natural, Signed, Null, Any, Undefined}
use Rattle.journals.specs.declared.form.Form.{Form}
use Rattle.journals.specs.declared.word.Word.{Word}

pub same_function : {A B : Type 0} (f g : A → B) → ((x : A) → f x ≡ g x) → f ≡ g
same_function f g same = λ i x. same x i

-- ---- The numbers from a place on ----

get_some : {A : Type 0} (xs : List A) (i : ℕ) → i < length xs → slice_get xs i ≡ None → ⊥
get_some [] i within is = omega arith
get_some (x ∷ xs) zero within is = cc
get_some (x ∷ xs) (suc n) within is = get_some xs n (omega arith) is

pub at_get : {A : Type 0} (xs : List A) (i : ℕ) (x d : A) → slice_get xs i ≡ Some x → get_or xs i d ≡ x
at_get [] i x d is = cc
at_get (y ∷ ys) zero x d is = cc
at_get (y ∷ ys) (suc n) x d is = at_get ys n x d is

-- the pair at a place, and those after it
formed_next : (forms : List Form) (fields : List Field) (place : ℕ) (form : Form) → place < length fields → slice_get forms place ≡ Some form → (field : Field) × (slice_get fields place ≡ Some field) × (drop place (zip forms fields) ≡ (form, field) ∷ drop (suc place) (zip forms fields))
formed_next [] fields place form within is = cc
formed_next (f ∷ forms) [] place form within is = absurd (omega arith)
formed_next (f ∷ forms) (g ∷ fields) zero form within is =
    let same : f ≡ form = cc in (g, refl, ap (λ (it : Form). (it, g) ∷ zip forms fields) same)
formed_next (f ∷ forms) (g ∷ fields) (suc n) form within is = formed_next forms fields n form (omega arith) is

-- nothing is left past the last one
none_left : (forms : List Form) (fields : List Field) → drop (length fields) (zip forms fields) ≡ []
none_left [] [] = refl
none_left [] (g ∷ fields) = refl
none_left (f ∷ forms) [] = refl
none_left (f ∷ forms) (g ∷ fields) = none_left forms fields

pub none_numbered_left : (word : Word) (fields : List Field) → numbered_from word fields (length fields) ≡ []
none_numbered_left word fields = ap (filter_map numbered_in) (none_left (forms_of word (length fields)) fields)

number_is : (form : Form) (field : Field) → numbered_in (form, field) ≡ number_of (Some form) field
number_is form (Natural number) = refl
number_is form (Signed number) = refl
number_is form Null = refl
number_is form Any = refl
number_is form Undefined = refl

-- the number at a place, and those after it
pub number_here : (word : Word) (fields : List Field) (place : ℕ) (form : Option Form) (field : Field) → length (forms_of word (length fields)) ≡ length fields → place < length fields → form ≡ slice_get (forms_of word (length fields)) place → field ≡ get_or fields place field → numbered_from word fields place ≡ cons_option (number_of form field) (numbered_from word fields (place + 1))
number_here word fields place None field fits within form_is field_is =
    absurd (get_some (forms_of word (length fields)) place (omega arith) (sym form_is))
number_here word fields place (Some form) field fits within form_is field_is =
    let next = formed_next (forms_of word (length fields)) fields place form within (sym form_is) in
    let here : next.0 ≡ field = sym (at_get fields place next.0 field next.1) ∙ sym field_is in
    ap (filter_map numbered_in) next.2
    ∙ ap (λ (it : Field). cons_option (numbered_in (form, it)) (filter_map numbered_in (drop (suc place) (formed word fields)))) here
    ∙ ap (λ (it : Option (Form × ℕ)). cons_option it (filter_map numbered_in (drop (suc place) (formed word fields)))) (number_is form field)
    ∙ ap (λ n. cons_option (number_of (Some form) field) (filter_map numbered_in (drop n (formed word fields)))) (sym (add-one place))

pub number_there : (word : Word) (fields : List Field) (place : ℕ) (form : Option Form) (d : Field) → length (forms_of word (length fields)) ≡ length fields → place < length fields → form ≡ slice_get (forms_of word (length fields)) place → numbered_from word fields place ≡ cons_option (number_of form (get_or fields place d)) (numbered_from word fields (place + 1))
number_there word fields place form d fits within form_is =
    number_here word fields place form (get_or fields place d) fits within form_is (get_or_default fields place d (get_or fields place d) within)

-- ---- Steps ----

module _ {X : Type 0} (may : Form → X → Bool) (by : ℕ → Form → X → X) where
  pub may_same : (f g : ℕ → X) → ((q : ℕ) → f q ≡ g q) → (items : List (Form × ℕ)) → may_use may by f items ≡ may_use may by g items
  may_same f g same items = ap (λ (h : ℕ → X). may_use may by h items) (same_function f g same)

  -- a number that is no request's or message's changes nothing
  pub skip_may : (f : ℕ → X) (form : Form) (number : ℕ) (rest : List (Form × ℕ)) → is_of_request form ≡ false → may_use may by f ((form, number) ∷ rest) ≡ may_use may by f rest
  skip_may f form number rest not_one = rw not_one refl

  pub skip_noted : (q : ℕ) (note : X) (form : Form) (number : ℕ) (rest : List (Form × ℕ)) → is_of_request form ≡ false → noted by q note ((form, number) ∷ rest) ≡ noted by q note rest
  skip_noted q note form number rest not_one = rw not_one refl

  -- one that is and may be used leaves what it is noted as
  pub use_may : (f g : ℕ → X) (form : Form) (number : ℕ) (rest : List (Form × ℕ)) → is_of_request form ≡ true → may form (f number) ≡ true → ((q : ℕ) → g q ≡ (if number == q then by number form (f number) else f q)) → may_use may by f ((form, number) ∷ rest) ≡ may_use may by g rest
  use_may f g form number rest is_one passes step =
      let same : may_use may by (λ q. if number == q then by number form (f number) else f q) rest ≡ may_use may by g rest = may_same _ g (λ q. sym (step q)) rest in
      rw (is_one, passes) same

  pub use_noted : (f g : ℕ → X) (q : ℕ) (form : Form) (number : ℕ) (rest : List (Form × ℕ)) → is_of_request form ≡ true → g q ≡ (if number == q then by number form (f number) else f q) → noted by q (f q) ((form, number) ∷ rest) ≡ noted by q (g q) rest
  use_noted f g q form number rest is_one step = rw (is_one, step) (here (cases_Bool (number == q)))
    where
      here : ((number == q) ≡ true) ⊎ ((number == q) ≡ false) → noted by q (if number == q then by number form (f q) else f q) rest ≡ noted by q (if number == q then by number form (f number) else f q) rest
      here (inl is) = let at : number ≡ q = eqb-true number q is in rw is (ap (λ n. noted by q (by number form (f n)) rest) (sym at))
      here (inr not_is) = rw not_is refl

  -- one that may not be used
  pub fail_may : (f : ℕ → X) (form : Form) (number : ℕ) (rest : List (Form × ℕ)) → is_of_request form ≡ true → may form (f number) ≡ false → may_use may by f ((form, number) ∷ rest) ≡ false
  fail_may f form number rest is_one fails = rw (is_one, fails) refl

  -- the same of the numbers from a place on
  pub used : (f g : ℕ → X) (form : Form) (number : ℕ) (items rest : List (Form × ℕ)) → items ≡ (form, number) ∷ rest → is_of_request form ≡ true → may form (f number) ≡ true → ((q : ℕ) → g q ≡ (if number == q then by number form (f number) else f q)) → (may_use may by f items ≡ may_use may by g rest) × ((q : ℕ) → noted by q (f q) items ≡ noted by q (g q) rest)
  used f g form number items rest next is_one passes step =
      (ap (may_use may by f) next ∙ use_may f g form number rest is_one passes step, λ q. ap (noted by q (f q)) next ∙ use_noted f g q form number rest is_one (step q))

  pub skipped : (f : ℕ → X) (form : Form) (number : ℕ) (items rest : List (Form × ℕ)) → items ≡ (form, number) ∷ rest → is_of_request form ≡ false → (may_use may by f items ≡ may_use may by f rest) × ((q : ℕ) → noted by q (f q) items ≡ noted by q (f q) rest)
  skipped f form number items rest next not_one =
      (ap (may_use may by f) next ∙ skip_may f form number rest not_one, λ q. ap (noted by q (f q)) next ∙ skip_noted q (f q) form number rest not_one)
