-- All fields of a line, as they are read one after another by the forms of its word.
use Rattle.std.proofs.Common.{◌≡◌, ◌∙◌, sym, ap, refl, ℕ, zero, suc, ◌+◌, ◌==◌, ◌≤◌, ◌<◌, ◌&&◌, Bool, true, false, Option, Some, None, option_map, Ok, List, [], ◌∷◌, ◌++◌, length, take, drop, slice_get, arith, append-nil, append_assoc}
use Rattle.std.proofs.lemmas.Bool.Decides.{nat_tests}
use Rattle.journals.specs.Words.{forms_of, is_call}
use Rattle.journals.specs.Fields.{field_of}
use Rattle.journals.specs.Lines.{begins_with_at, fields_of, is_site, last_field, last_from}
use Rattle.journals.specs.inner.Taking.{line_after_word, Grows, PutsAll, PutsFields, PutsSoFar, ReadsLine}
use Rattle.journals.specs.declared.field.Field.{Field}
use Rattle.journals.specs.declared.form.Form.{Form}
use Rattle.journals.specs.declared.word.Word.{Word}
use Rattle.journals.proofs.PushLemmas.{Tested, after_word_read, none_pushed, step_some}

-- whichever number of fields the word takes, those before a place were put at the end
abbrev pub PutsEach : ℕ → Word → List (List ℕ) → ℕ → List (List ℕ) → List Field → List Field → Type 0
PutsEach ranks word all place rest old new =
    (count : ℕ) → length (forms_of word count) ≡ count → place ≤ count → count ≤ length all → PutsSoFar (fields_of ranks (forms_of word count) all) (fields_of ranks (drop place (forms_of word count)) rest) old new

-- the last field that came begins as no site does
abbrev pub NoSiteYet : List (List ℕ) → List (List ℕ) → Type 0
NoSiteYet all rest = (last : Option (List ℕ)) × (begins_with_at last ≡ false) × (last_from last rest ≡ last_field all)

pub each_first : (ranks : ℕ) (word : Word) (all : List (List ℕ)) (old : List Field) → PutsEach ranks word all 0 all old old
each_first ranks word all old count fits low high = none_pushed _ old

pub each_next : (ranks : ℕ) (word : Word) (all : List (List ℕ)) (place : ℕ) (at : Option Form) (form : Form) (text : List ℕ) (texts left : List (List ℕ)) (read : Option Field) (field : Field) (old mid new : List Field)
    → ((count : ℕ) → length (forms_of word count) ≡ count → place < count → at ≡ slice_get (forms_of word count) place) → at ≡ Some form → texts ≡ text ∷ left → read ≡ field_of ranks form text → read ≡ Some field → new ≡ mid ++ field ∷ []
    → PutsEach ranks word all place texts old mid → PutsEach ranks word all (place + 1) left old new
each_next ranks word all place at form text texts left read field old mid new here is first said some put so count fits low high =
    step_some ranks (forms_of word count) place form text texts left read field _ old mid new (sym (here count fits (omega arith)) ∙ is) first said some put (so count fits (omega arith) high)

pub none_first : (all : List (List ℕ)) → NoSiteYet all all
none_first all = (None, refl, refl)

pub none_next : (all : List (List ℕ)) (text : List ℕ) (texts left : List (List ℕ)) → texts ≡ text ∷ left → begins_with_at (Some text) ≡ false → NoSiteYet all texts → NoSiteYet all left
none_next all text texts left is not_at so = (Some text, not_at, sym (ap (last_from so.0) is) ∙ so.2)

pub grows_more : (old mid new : List Field) (field : Field) → Grows old mid → new ≡ mid ++ field ∷ [] → Grows old new
grows_more old mid new field grows is =
    (grows.0 ++ field ∷ [], is ∙ ap (λ (fields : List Field). fields ++ field ∷ []) grows.1 ∙ append_assoc old grows.0 (field ∷ []))

no_texts : (ranks : ℕ) (forms : List Form) → fields_of ranks forms [] ≡ Some []
no_texts ranks [] = refl
no_texts ranks (form ∷ forms) = refl

no_forms : (ranks : ℕ) (texts : List (List ℕ)) → fields_of ranks [] texts ≡ Some []
no_forms ranks texts = refl

dropped : (forms : List Form) (n : ℕ) → length forms ≡ n → drop n forms ≡ []
dropped [] zero is = refl
dropped [] (suc n) is = refl
dropped (form ∷ forms) zero is = absurd (omega (arith, is))
dropped (form ∷ forms) (suc n) is = dropped forms n (omega (arith, is))

eq_is : (a b : ℕ) → (a == b) ≡ true → a ≡ b
eq_is a b h = grind (arith, nat_tests)

and_none : (b : Bool) → (b && false) ≡ false
and_none true = refl
and_none false = refl

puts : (all rest : Option (List Field)) (old new : List Field) → rest ≡ Some [] → PutsSoFar all rest old new → PutsFields all old new (Ok tt)
puts all rest old new is so = (so.0, so.2 ∙ ap (option_map (λ fields. so.0 ++ fields)) is ∙ ap Some (append-nil so.0), so.1)

-- all came, without a site
pub whole : (ranks : ℕ) (word : Word) (all : List (List ℕ)) (place : ℕ) (rest : List (List ℕ)) (old new : List Field) → rest ≡ [] → place + length rest ≡ length all → (length (forms_of word place) == place) ≡ true
    → PutsEach ranks word all place rest old new → NoSiteYet all rest → ReadsLine (line_after_word ranks word all) old new (Ok word)
whole ranks word all place rest old new over left takes each none =
    let fits = eq_is (length (forms_of word place)) place takes in
    let long : place ≡ length all = omega (arith, left, ap length over) in
    let so = each place fits (omega arith) (omega (arith, long)) in
    let done = puts _ _ old new (ap (fields_of ranks (drop place (forms_of word place))) over ∙ no_texts ranks (drop place (forms_of word place))) so in
    let last : none.0 ≡ last_field all = sym (ap (last_from none.0) over) ∙ none.2 in
    let no_at : begins_with_at (last_field all) ≡ false = sym (ap begins_with_at last) ∙ none.1 in
    let tested : Tested word all false (last_field all) place place true true = record {
      last_is = refl;
      has_is = sym (ap (λ (b : Bool). is_call word && b) no_at ∙ and_none (is_call word));
      all_is = long;
      count_is = refl;
      takes_is = sym takes;
      takes_it = refl;
      fits_is = refl;
      fits_it = refl;
    } in
    after_word_read ranks word all false (last_field all) place place true true old new tested done

-- all came, and a site last
pub sited : (ranks : ℕ) (word : Word) (all : List (List ℕ)) (place : ℕ) (text : List ℕ) (rest left : List (List ℕ)) (old new : List Field) → rest ≡ text ∷ left → left ≡ [] → place + length rest ≡ length all
    → begins_with_at (Some text) ≡ true → is_call word ≡ true → (length (forms_of word place) == place) ≡ true → is_site (Some text) ≡ true
    → PutsEach ranks word all place rest old new → NoSiteYet all rest → ReadsLine (line_after_word ranks word all) old new (Ok word)
sited ranks word all place text rest left old new first over long at call takes site each none =
    let fits = eq_is (length (forms_of word place)) place takes in
    let rest_is : rest ≡ text ∷ [] = first ∙ ap (λ (fields : List (List ℕ)). text ∷ fields) over in
    let one : place + 1 ≡ length all = omega (arith, long, ap length rest_is) in
    let so = each place fits (omega arith) (omega (arith, one)) in
    let done = puts _ _ old new (ap (λ (forms : List Form). fields_of ranks forms rest) (dropped (forms_of word place) place fits) ∙ no_forms ranks rest) so in
    let last : Some text ≡ last_field all = sym (ap (last_from none.0) rest_is) ∙ none.2 in
    let tested : Tested word all true (Some text) (length all) place true true = record {
      last_is = last;
      has_is = rw (call, at) refl;
      all_is = refl;
      count_is = omega (arith, one);
      takes_is = sym takes;
      takes_it = refl;
      fits_is = sym site;
      fits_it = refl;
    } in
    after_word_read ranks word all true (Some text) (length all) place true true old new tested done

pub ended : (ranks : ℕ) (word : Word) (all : List (List ℕ)) (old new : List Field) (b : Bool) → (b ≡ true → ReadsLine (line_after_word ranks word all) old new (Ok word)) → Grows old new → PutsAll ranks word all old new (Ok b)
ended ranks word all old new true right grows = right refl
ended ranks word all old new false right grows = grows

take_front : (old more : List Field) → take (length old) (old ++ more) ≡ old
take_front [] more = refl
take_front (field ∷ old) more = ap (λ (fields : List Field). field ∷ fields) (take_front old more)

-- what was put at the end is taken back
pub taken_back : (old mid new : List Field) (start : ℕ) → Grows old mid → start ≡ length old → new ≡ take start mid → new ≡ old
taken_back old mid new start grows at is = is ∙ ap (λ n. take n mid) at ∙ ap (take (length old)) grows.1 ∙ take_front old grows.0
