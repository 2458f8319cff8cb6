-- The fields of a line, as they are read one by one by their forms.
use Rattle.std.proofs.Common.{◌≡◌, ℕ, zero, suc, ◌+◌, ◌-◌, ◌==◌, ◌&&◌, Bool, true, false, if◌then◌else◌, List, [], ◌∷◌, ◌++◌, length, take, drop, sym, ap, ◌∙◌, refl, arith, append_assoc, append-nil, Option, Some, None, MatchOption, option_map, Ok, Err, slice_get}
use Rattle.std.specs.Borrow.{Bor}
use Rattle.std.proofs.lemmas.Bool.Decides.{nat_tests}
use Rattle.std.proofs.lemmas.List.{length-take}
use Rattle.mpicall.specs.Lines.{split_fields}
use Rattle.journals.specs.Words.{forms_of, word_of, is_call}
use Rattle.journals.specs.Fields.{field_of}
use Rattle.journals.specs.Lines.{fields_of, put_field, last_field, begins_with_at, has_site, without_site, is_site, site_fits, line_if, line_with, line_by_word, line_of}
use Rattle.journals.specs.inner.Taking.{HasNoWord, fields_after_word, is_stopped, line_after_word, Grows, PutsFields, ReadsLine, PutsSoFar}
use Rattle.journals.specs.declared.fault.JournalFaultKind.TheVariants.{UnknownWord, FieldCount, FieldForm}
use Rattle.journals.specs.declared.field.Field.{Field}
use Rattle.journals.specs.declared.form.Form.{Form}
use Rattle.journals.specs.declared.line.LineFault.{LineFault}
use Rattle.journals.specs.declared.line.LineFault.TheVariants.{Journal, Memory}
use Rattle.journals.specs.declared.word.Word.{Word}
use Rattle.journals.specs.declared.word.Word.TheVariants.{Call}
use Rattle.journals.specs.declared.word.CallWord.TheVariants as call

-- ---- Field by field ----

form_here : (forms : List Form) (place : ℕ) (form : Form) → slice_get forms place ≡ Some form → drop place forms ≡ form ∷ drop (suc place) forms
form_here [] place form e = cc
form_here (first ∷ forms) zero form e = let is : first ≡ form = cc in ap (λ (f : Form). f ∷ forms) is
form_here (first ∷ forms) (suc place) form e = form_here forms place form e

pub none_pushed : (all : Option (List Field)) (old : List Field) → PutsSoFar all all old old
none_pushed None old = ([], sym (append-nil old), refl)
none_pushed (Some fields) old = ([], sym (append-nil old), refl)

put_at_end : (pushed : List Field) (field : Field) (rest : Option (List Field)) → option_map (λ fields. pushed ++ fields) (put_field (Some field) rest) ≡ option_map (λ fields. (pushed ++ field ∷ []) ++ fields) rest
put_at_end pushed field None = refl
put_at_end pushed field (Some fields) = ap Some (sym (append_assoc pushed (field ∷ []) fields))

pub one_pushed : (all rest : Option (List Field)) (field : Field) (old mid new : List Field) → PutsSoFar all (put_field (Some field) rest) old mid → new ≡ mid ++ field ∷ [] → PutsSoFar all rest old new
one_pushed all rest field old mid new so is =
    (so.0 ++ field ∷ [], is ∙ ap (λ (fields : List Field). fields ++ field ∷ []) so.1 ∙ append_assoc old so.0 (field ∷ []), so.2 ∙ put_at_end so.0 field rest)

-- the fields from a place on, where the field there has its form
fields_here : (ranks : ℕ) (forms : List Form) (place : ℕ) (form : Form) (text : List ℕ) (texts left : List (List ℕ)) (field : Option Field) → slice_get forms place ≡ Some form → texts ≡ text ∷ left → field ≡ field_of ranks form text → fields_of ranks (drop place forms) texts ≡ put_field field (fields_of ranks (drop (place + 1) forms) left)
fields_here ranks forms place form text texts left field at is read =
    let next : place + 1 ≡ suc place = omega arith in
    rw (next, form_here forms place form at, is, read) refl

-- the field at a place isn't in its form
pub step_none : (ranks : ℕ) (forms : List Form) (place : ℕ) (form : Form) (text : List ℕ) (texts left : List (List ℕ)) (read : Option Field) (all : Option (List Field)) (old new : List Field) → slice_get forms place ≡ Some form → texts ≡ text ∷ left → read ≡ field_of ranks form text → read ≡ None → PutsSoFar all (fields_of ranks (drop place forms) texts) old new → (all ≡ None) × (FieldForm ≡ FieldForm) × Grows old new
step_none ranks forms place form text texts left read all old new at is said none so =
    let here = fields_here ranks forms place form text texts left read at is said in
    let absent : all ≡ None = so.2 ∙ ap (option_map (λ fields. so.0 ++ fields)) (here ∙ ap (λ (o : Option Field). put_field o (fields_of ranks (drop (place + 1) forms) left)) none) in
    (absent, refl, (so.0, so.1))

-- it was put at the end
pub step_some : (ranks : ℕ) (forms : List Form) (place : ℕ) (form : Form) (text : List ℕ) (texts left : List (List ℕ)) (read : Option Field) (field : Field) (all : Option (List Field)) (old mid new : List Field) → slice_get forms place ≡ Some form → texts ≡ text ∷ left → read ≡ field_of ranks form text → read ≡ Some field → new ≡ mid ++ field ∷ [] → PutsSoFar all (fields_of ranks (drop place forms) texts) old mid → PutsSoFar all (fields_of ranks (drop (place + 1) forms) left) old new
step_some ranks forms place form text texts left read field all old mid new at is said some put so =
    let here = fields_here ranks forms place form text texts left read at is said in
    let rest = fields_of ranks (drop (place + 1) forms) left in
    let now : fields_of ranks (drop place forms) texts ≡ put_field (Some field) rest = here ∙ ap (λ (o : Option Field). put_field o rest) some in
    one_pushed all rest field old mid new (so.0, so.1, so.2 ∙ ap (option_map (λ fields. so.0 ++ fields)) now) put

-- a field that came is the first of those that were left
pub some_text : (r : Option (Bor (List ℕ))) (text : Bor (List ℕ)) (old new : List (List ℕ)) → r ≡ Some text → MatchOption r ((old ≡ []) × (new ≡ [])) (λ field. old ≡ field.now ∷ new) → old ≡ text.now ∷ new
some_text None text old new e m = cc
some_text (Some field) text old new e m = let same : field ≡ text = cc in m ∙ ap (λ (f : Bor (List ℕ)). f.now ∷ new) same

pub no_text : (r : Option (Bor (List ℕ))) (old new : List (List ℕ)) → r ≡ None → MatchOption r ((old ≡ []) × (new ≡ [])) (λ field. old ≡ field.now ∷ new) → old ≡ []
no_text None old new e m = m.0
no_text (Some field) old new e m = cc

pub stays : (old : List Field) → Grows old old
stays old = ([], sym (append-nil old))

-- ---- The site ----

length_without : (has : Bool) (fields : List (List ℕ)) → length (if has then take (length fields - 1) fields else fields) ≡ (if has then length fields - 1 else length fields)
length_without true fields = omega (arith, length-take (length fields - 1) fields)
length_without false fields = refl

fields_front : (ranks : ℕ) (forms : List Form) (texts : List (List ℕ)) (n : ℕ) → length forms ≡ n → fields_of ranks forms (take n texts) ≡ fields_of ranks forms texts
fields_front ranks [] texts n is = refl
fields_front ranks (form ∷ forms) texts zero is = absurd (omega arith)
fields_front ranks (form ∷ forms) [] (suc n) is = refl
fields_front ranks (form ∷ forms) (text ∷ texts) (suc n) is =
    ap (λ (rest : Option (List Field)). put_field (field_of ranks form text) rest) (fields_front ranks forms texts n (omega arith))

same_fields : (ranks : ℕ) (forms : List Form) (has : Bool) (fields : List (List ℕ)) → length forms ≡ length (if has then take (length fields - 1) fields else fields) → fields_of ranks forms (if has then take (length fields - 1) fields else fields) ≡ fields_of ranks forms fields
same_fields ranks forms true fields is = fields_front ranks forms fields (length fields - 1) (is ∙ length_without true fields)
same_fields ranks forms false fields is = refl

-- ---- The fields after a word ----

pub wrong_count : (ranks : ℕ) (word : Word) (fields : List (List ℕ)) (count : ℕ) (old : List Field) → count ≡ length (without_site word fields) → (length (forms_of word count) == count) ≡ false → ReadsLine (line_after_word ranks word fields) old old (Err (Journal FieldCount))
wrong_count ranks word fields count old is wrong =
    let other = rw is at wrong in
    (rw other refl, stays old)

eq_true : (a b : ℕ) → a ≡ b → (a == b) ≡ true
eq_true a b h = grind (arith, nat_tests)

right_count : (ranks : ℕ) (word : Word) (site : Bool) (fields : List (List ℕ)) → length (forms_of word (length fields)) ≡ length fields → line_with ranks word site fields ≡ line_if word site (fields_of ranks (forms_of word (length fields)) fields)
right_count ranks word site fields is = rw (eq_true (length (forms_of word (length fields))) (length fields) is) refl

if_right : (word : Word) (site : Bool) (said : Option (List Field)) (fields : List Field) → site ≡ true → said ≡ Some fields → line_if word site said ≡ Ok (record { word = word; fields = fields })
if_right word site said fields fits_form is = rw (fits_form, is) refl

if_no_field : (word : Word) (site : Bool) (said : Option (List Field)) → site ≡ true → said ≡ None → line_if word site said ≡ Err FieldForm
if_no_field word site said fits_form is = rw (fits_form, is) refl

if_no_site : (word : Word) (site : Bool) (said : Option (List Field)) → site ≡ false → line_if word site said ≡ Err FieldForm
if_no_site word site said wrong = rw wrong refl

said_line : (ranks : ℕ) (word : Word) (fields : List (List ℕ)) (count : ℕ) → count ≡ length (without_site word fields) → length (forms_of word count) ≡ count → line_after_word ranks word fields ≡ line_if word (site_fits word fields) (fields_of ranks (forms_of word count) fields)
said_line ranks word fields count is fits =
    let same : length (forms_of word (length (without_site word fields))) ≡ length (without_site word fields) = rw is at fits in
    let front = same_fields ranks (forms_of word (length (without_site word fields))) (has_site word fields) fields same in
    right_count ranks word (site_fits word fields) (without_site word fields) same
    ∙ ap (line_if word (site_fits word fields)) (front ∙ ap (λ n. fields_of ranks (forms_of word n) fields) (sym is))

pub wrong_site : (ranks : ℕ) (word : Word) (fields : List (List ℕ)) (count : ℕ) (old : List Field) → count ≡ length (without_site word fields) → length (forms_of word count) ≡ count → site_fits word fields ≡ false → ReadsLine (line_after_word ranks word fields) old old (Err (Journal FieldForm))
wrong_site ranks word fields count old is fits wrong =
    (said_line ranks word fields count is fits ∙ if_no_site word (site_fits word fields) _ wrong, stays old)

right_fields : (ranks : ℕ) (word : Word) (fields : List (List ℕ)) (count : ℕ) (old new : List Field) → count ≡ length (without_site word fields) → length (forms_of word count) ≡ count → site_fits word fields ≡ true → PutsFields (fields_of ranks (forms_of word count) fields) old new (Ok tt) → ReadsLine (line_after_word ranks word fields) old new (Ok word)
right_fields ranks word fields count old new is fits fits_form puts =
    (puts.0, said_line ranks word fields count is fits ∙ if_right word (site_fits word fields) _ puts.0 fits_form puts.1, puts.2)

wrong_fields : (ranks : ℕ) (word : Word) (fields : List (List ℕ)) (count : ℕ) (old new : List Field) (fault : LineFault) → count ≡ length (without_site word fields) → length (forms_of word count) ≡ count → site_fits word fields ≡ true → PutsFields (fields_of ranks (forms_of word count) fields) old new (Err fault) → ReadsLine (line_after_word ranks word fields) old new (Err fault)
wrong_fields ranks word fields count old new (Journal kind) is fits fits_form puts =
    (said_line ranks word fields count is fits ∙ if_no_field word (site_fits word fields) _ fits_form puts.0 ∙ ap Err (sym puts.1), puts.2)
wrong_fields ranks word fields count old new Memory is fits fits_form puts = puts

-- the site as it is tested
site_is : (word : Word) (fields : List (List ℕ)) (has fits : Bool) → has ≡ has_site word fields → fits ≡ (if has then is_site (last_field fields) else true) → site_fits word fields ≡ fits
site_is word fields has fits h f = sym (f ∙ ap (λ (b : Bool). if b then is_site (last_field fields) else true) h)

-- how many fields there are without it
count_here : (word : Word) (fields : List (List ℕ)) (has : Bool) (all count : ℕ) → has ≡ has_site word fields → all ≡ length fields → count ≡ (if has then all - 1 else all) → count ≡ length (without_site word fields)
count_here word fields has all count h a c =
    let same : (if has then all - 1 else all) ≡ (if has_site word fields then length fields - 1 else length fields) = rw (h, a) refl in
    c ∙ same ∙ sym (length_without (has_site word fields) fields)

eq_from : (a b : ℕ) → (a == b) ≡ true → a ≡ b
eq_from a b h = grind (arith, nat_tests)

-- what was tested of the fields after a word, before they were read
pub record Tested (word : Word) (fields : List (List ℕ)) (has : Bool) (last : Option (List ℕ)) (all count : ℕ) (takes fits : Bool) : Type 0 where
  pub last_is : last ≡ last_field fields
  pub has_is : has ≡ (is_call word && begins_with_at last)
  pub all_is : all ≡ length fields
  pub count_is : count ≡ (if has then all - 1 else all)
  pub takes_is : takes ≡ (length (forms_of word count) == count)
  pub takes_it : takes ≡ true
  pub fits_is : fits ≡ (if has then is_site last else true)
  pub fits_it : fits ≡ true

-- it is right
pub record Right (word : Word) (fields : List (List ℕ)) (count : ℕ) : Type 0 where
  pub count_is : count ≡ length (without_site word fields)
  pub fits : length (forms_of word count) ≡ count
  pub site : site_fits word fields ≡ true

tested_right : (word : Word) (fields : List (List ℕ)) (has : Bool) (last : Option (List ℕ)) (all count : ℕ) (takes fits : Bool) → Tested word fields has last all count takes fits → Right word fields count
tested_right word fields has last all count takes fits t =
    let has_it : has ≡ has_site word fields = t.has_is ∙ ap (λ (o : Option (List ℕ)). is_call word && begins_with_at o) t.last_is in
    let site_it : fits ≡ (if has then is_site (last_field fields) else true) = t.fits_is ∙ ap (λ (o : Option (List ℕ)). if has then is_site o else true) t.last_is in
    record {
      count_is = count_here word fields has all count has_it t.all_is t.count_is;
      fits = eq_from _ _ (sym t.takes_is ∙ t.takes_it);
      site = site_is word fields has fits has_it site_it ∙ t.fits_it;
    }

pub after_word_read : (ranks : ℕ) (word : Word) (fields : List (List ℕ)) (has : Bool) (last : Option (List ℕ)) (all count : ℕ) (takes fits : Bool) (old new : List Field) → Tested word fields has last all count takes fits → PutsFields (fields_of ranks (forms_of word count) fields) old new (Ok tt) → ReadsLine (line_after_word ranks word fields) old new (Ok word)
after_word_read ranks word fields has last all count takes fits old new t puts =
    let r = tested_right word fields has last all count takes fits t in
    right_fields ranks word fields count old new r.count_is r.fits r.site puts

pub after_word_wrong : (ranks : ℕ) (word : Word) (fields : List (List ℕ)) (has : Bool) (last : Option (List ℕ)) (all count : ℕ) (takes fits : Bool) (old new : List Field) (fault : LineFault) → Tested word fields has last all count takes fits → PutsFields (fields_of ranks (forms_of word count) fields) old new (Err fault) → ReadsLine (line_after_word ranks word fields) old new (Err fault)
after_word_wrong ranks word fields has last all count takes fits old new fault t puts =
    let r = tested_right word fields has last all count takes fits t in
    wrong_fields ranks word fields count old new fault r.count_is r.fits r.site puts

-- ---- A whole line ----

pub no_word : (ranks : ℕ) (line text : List ℕ) (rest : List (List ℕ)) → split_fields line ≡ text ∷ rest → word_of text ≡ None → line_of ranks line ≡ Err UnknownWord
unfolding line_of
no_word ranks line text rest is none = rw (is, none) refl

pub no_field : (ranks : ℕ) (line : List ℕ) → split_fields line ≡ [] → line_of ranks line ≡ Err UnknownWord
unfolding line_of
no_field ranks line is = rw is refl

pub unknown : (ranks : ℕ) (line : List ℕ) (texts : List (List ℕ)) → split_fields line ≡ texts → HasNoWord texts → line_of ranks line ≡ Err UnknownWord
unknown ranks line [] is none = no_field ranks line is
unknown ranks line (text ∷ rest) is none = no_word ranks line text rest is none

by_stopped : (ranks : ℕ) (word : Word) (fields : List (List ℕ)) → is_stopped word ≡ true → line_by_word ranks (Some word) fields ≡ Ok (record { word = word; fields = [] })
by_stopped ranks (Call call.Stopped) fields is = refl
by_stopped ranks word fields is = cc

pub stopped_line : (ranks : ℕ) (line text : List ℕ) (rest : List (List ℕ)) (word : Word) (old : List Field) → split_fields line ≡ text ∷ rest → word_of text ≡ Some word → is_stopped word ≡ true → ReadsLine (line_of ranks line) old old (Ok word)
unfolding line_of
stopped_line ranks line text rest word old is found stopped =
    ([], rw (is, found) (by_stopped ranks word rest stopped), sym (append-nil old))

by_other : (ranks : ℕ) (word : Word) (fields : List (List ℕ)) → is_stopped word ≡ false → line_by_word ranks (Some word) fields ≡ line_after_word ranks word fields
by_other ranks (Call call.Stopped) fields is = cc
by_other ranks word fields is = refl

pub other_line : (ranks : ℕ) (line text : List ℕ) (rest : List (List ℕ)) (word : Word) → split_fields line ≡ text ∷ rest → word_of text ≡ Some word → is_stopped word ≡ false → line_of ranks line ≡ line_after_word ranks word (fields_after_word line)
unfolding line_of
other_line ranks line text rest word is found other = rw (is, found) (by_other ranks word rest other)
