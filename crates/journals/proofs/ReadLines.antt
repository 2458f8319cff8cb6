-- A line that was read has its fields by the forms of its word.
use Rattle.std.proofs.Common.{◌≡◌, ℕ, suc, ◌==◌, Bool, true, false, List, [], ◌∷◌, ◌++◌, length, take, Option, Some, None, Ok, sym, ap, ◌∙◌, refl, subst, arith, inl, inr}
use Rattle.std.proofs.lemmas.Bool.{cases_Bool, eqb-true}
use Rattle.std.proofs.lemmas.List.{take_at}
use Rattle.journals.specs.Words.{forms_of, word_of}
use Rattle.journals.specs.Lines.{Line, fields_of, put_field, line_if, line_with, line_by_word, line_of_fields, line_of, site_fits, without_site}
use Rattle.journals.specs.Fields.{field_of}
use Rattle.journals.specs.Taking.{fields_at}
use Rattle.journals.specs.inner.Taking.{Takes}
use Rattle.journals.specs.inner.Knows.{IsRead, IsNext}
use Rattle.journals.specs.declared.field.Field.{Field}
use Rattle.journals.specs.declared.form.Form.{Form}
use Rattle.journals.specs.declared.lines.Taken.{Taken}
use Rattle.journals.specs.declared.word.Word.{Word}
use Rattle.journals.specs.declared.word.Word.TheVariants.{Call}
use Rattle.journals.specs.declared.word.CallWord.TheVariants as call
use Rattle.mpicall.specs.Lines.{split_fields}
use Rattle.journals.proofs.KnowsLemmas.{fields_last}

-- as many fields were read as there are texts
put_length : (a : Option Field) (b : Option (List Field)) (fields : List Field) (count : ℕ) → ((others : List Field) → b ≡ Some others → length others ≡ count) → put_field a b ≡ Some fields → length fields ≡ suc count
put_length None b fields count rest all = cc
put_length (Some field) None fields count rest all = cc
put_length (Some field) (Some others) fields count rest all =
    let same : field ∷ others ≡ fields = cc in
    ap length (sym same) ∙ ap suc (rest others refl)

read_length : (ranks : ℕ) (forms : List Form) (texts : List (List ℕ)) (fields : List Field) → length forms ≡ length texts → fields_of ranks forms texts ≡ Some fields → length fields ≡ length texts
read_length ranks [] [] fields fits is = let none : [] ≡ fields = cc in ap length (sym none)
read_length ranks [] (text ∷ texts) fields fits is = absurd (omega arith)
read_length ranks (form ∷ forms) [] fields fits is = absurd (omega arith)
read_length ranks (form ∷ forms) (text ∷ texts) fields fits is =
    put_length (field_of ranks form text) (fields_of ranks forms texts) fields (length texts) (λ others others_is. read_length ranks forms texts others (omega arith) others_is) is

if_read : (ranks : ℕ) (word : Word) (site : Bool) (texts : List (List ℕ)) (said : Option (List Field)) (line : Line) → fields_of ranks (forms_of word (length texts)) texts ≡ said → length (forms_of word (length texts)) ≡ length texts → line_if word site said ≡ Ok line → IsRead ranks line
if_read ranks word false texts None line says fits is = cc
if_read ranks word false texts (Some fields) line says fits is = cc
if_read ranks word true texts None line says fits is = cc
if_read ranks word true texts (Some fields) line says fits is =
    let same : record { word = word; fields = fields } ≡ line = cc in
    let count : length fields ≡ length texts = read_length ranks (forms_of word (length texts)) texts fields fits says in
    let read : IsRead ranks (record { word = word; fields = fields }) = record {
      texts = texts;
      spell = ap (λ n. fields_of ranks (forms_of word n) texts) count ∙ says;
      fits = ap (λ n. length (forms_of word n)) count ∙ fits ∙ sym count;
    } in
    subst (λ (it : Line). IsRead ranks it) same read

with_read : (ranks : ℕ) (word : Word) (site : Bool) (texts : List (List ℕ)) (line : Line) → line_with ranks word site texts ≡ Ok line → IsRead ranks line
with_read ranks word site texts line is =
    elim (cases_Bool (length (forms_of word (length texts)) == length texts)) [
      | inl fits ↦ if_read ranks word site texts (fields_of ranks (forms_of word (length texts)) texts) line refl (eqb-true (length (forms_of word (length texts))) (length texts) fits) (rw fits at is)
      | inr fails ↦ (let wrong = rw fails at is in cc)
    ]

word_read : (ranks : ℕ) (word : Option Word) (texts : List (List ℕ)) (line : Line) → line_by_word ranks word texts ≡ Ok line → IsRead ranks line
word_read ranks None texts line is = cc
word_read ranks (Some (Call call.Stopped)) texts line is =
    let same : record { word = Call call.Stopped; fields = [] } ≡ line = cc in
    let read : IsRead ranks (record { word = Call call.Stopped; fields = [] }) = record { texts = []; spell = refl; fits = refl } in
    subst (λ (it : Line). IsRead ranks it) same read
word_read ranks (Some word) texts line is = with_read ranks word (site_fits word texts) (without_site word texts) line is

fields_read : (ranks : ℕ) (texts : List (List ℕ)) (line : Line) → line_of_fields ranks texts ≡ Ok line → IsRead ranks line
fields_read ranks [] line is = cc
fields_read ranks (text ∷ texts) line is = word_read ranks (word_of text) texts line is

pub line_read : (ranks : ℕ) (text : List ℕ) (line : Line) → line_of ranks text ≡ Ok line → IsRead ranks line
unfolding line_of
line_read ranks text line is = fields_read ranks (split_fields text) line is

-- the line that was put at the end is the next one
pub taken_next : (ranks : ℕ) (text : List ℕ) (old new : List Line) (taken : Taken) (it : Takes (line_of ranks text) old new taken) → (take taken.line new ≡ old) × (record { word = taken.word; fields = fields_at new taken.line } ≡ it.line)
taken_next ranks text old new taken it =
    let fields : fields_at new taken.line ≡ it.line.fields = ap (λ n. fields_at new n) it.place ∙ ap (λ ls. fields_at ls (length old)) it.lines ∙ fields_last old it.line in
    (ap (λ n. take n new) it.place ∙ ap (take (length old)) it.lines ∙ take_at old (it.line ∷ []) (length old) refl, rw (it.word, fields) refl)

pub is_next : (ranks : ℕ) (text : List ℕ) (old new : List Line) (taken : Taken) → Takes (line_of ranks text) old new taken → IsNext ranks new taken.line (record { word = taken.word; fields = fields_at new taken.line })
is_next ranks text old new taken it =
    let same = taken_next ranks text old new taken it in
    record {
      split = it.lines ∙ ap (λ (ls : List Line). ls ++ it.line ∷ []) (sym same.0) ∙ ap (λ (l : Line). take taken.line new ++ l ∷ []) (sym same.1);
      place_is = ap length same.0 ∙ sym it.place;
      read = subst (λ (l : Line). IsRead ranks l) (sym same.1) (line_read ranks text it.line it.says);
    }
