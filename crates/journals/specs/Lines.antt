-- What a line says: its word and its fields, or why it says nothing. A call line may have its site last, `@`
-- and a number from 1 to 2147483647.
use Rattle.std.specs.Prelude.{ℕ, ◌-◌, Bool, true, false, ◌&&◌, ◌==◌, Option, Some, None, is_some, if◌then◌else◌, Result, Ok, Err, List, [], ◌∷◌, length, take}
use Rattle.mpicall.specs.Lines.{split_fields}
use Rattle.journals.specs.Words.{word_of, forms_of, is_call}
use Rattle.journals.specs.Fields.{field_of, positive_of}
use Rattle.journals.specs.declared.form.Form.{Form}
use Rattle.journals.specs.declared.field.Field.{Field}
use Rattle.journals.specs.declared.word.Word.{Word}
use Rattle.journals.specs.declared.word.Word.TheVariants.{Call}
use Rattle.journals.specs.declared.word.CallWord.TheVariants as call
use Rattle.journals.specs.declared.fault.JournalFaultKind.{JournalFaultKind}
use Rattle.journals.specs.declared.fault.JournalFaultKind.TheVariants.{UnknownWord, FieldCount, FieldForm}

pub record Line : Type 0 where
  pub word : Word
  pub fields : List Field

-- the byte before the number of a site
abbrev pub at_sign : ℕ
at_sign = 64

abbrev pub begins_with_at : Option (List ℕ) → Bool
begins_with_at (Some (byte ∷ bytes)) = byte == at_sign
begins_with_at _ = false

-- the last of some fields, after one that came before
abbrev pub last_from : Option (List ℕ) → List (List ℕ) → Option (List ℕ)
last_from last [] = last
last_from last (field ∷ fields) = last_from (Some field) fields

abbrev pub last_field : List (List ℕ) → Option (List ℕ)
last_field fields = last_from None fields

-- a call line's last field is its site
abbrev pub has_site : Word → List (List ℕ) → Bool
has_site word fields = is_call word && begins_with_at (last_field fields)

-- the fields without the site
abbrev pub without_site : Word → List (List ℕ) → List (List ℕ)
without_site word fields = if has_site word fields then take (length fields - 1) fields else fields

abbrev pub is_site : Option (List ℕ) → Bool
is_site (Some (byte ∷ bytes)) = is_some (positive_of bytes)
is_site _ = false

-- the site, if there is one, is in its form and range
abbrev pub site_fits : Word → List (List ℕ) → Bool
site_fits word fields = if has_site word fields then is_site (last_field fields) else true

abbrev pub put_field : Option Field → Option (List Field) → Option (List Field)
put_field (Some field) (Some fields) = Some (field ∷ fields)
put_field _ _ = None

-- each field by its form; None if one isn't in its form and range
abbrev pub fields_of : ℕ → List Form → List (List ℕ) → Option (List Field)
fields_of ranks (form ∷ forms) (text ∷ texts) =
    put_field (field_of ranks form text) (fields_of ranks forms texts)
fields_of ranks _ _ = Some []

abbrev pub line_if : Word → Bool → Option (List Field) → Result Line JournalFaultKind
line_if word true (Some fields) = Ok (record { word = word; fields = fields })
line_if word _ _ = Err FieldForm

-- the line of a word and the fields after it, without the site
abbrev pub line_with : ℕ → Word → Bool → List (List ℕ) → Result Line JournalFaultKind
line_with ranks word site fields =
    if length (forms_of word (length fields)) == length fields
    then line_if word site (fields_of ranks (forms_of word (length fields)) fields)
    else Err FieldCount

-- the line of a word and what follows it; what follows `stopped` says nothing
abbrev pub line_by_word : ℕ → Option Word → List (List ℕ) → Result Line JournalFaultKind
line_by_word ranks None fields = Err UnknownWord
line_by_word ranks (Some (Call call.Stopped)) fields = Ok (record { word = Call call.Stopped; fields = [] })
line_by_word ranks (Some word) fields =
    line_with ranks word (site_fits word fields) (without_site word fields)

abbrev pub line_of_fields : ℕ → List (List ℕ) → Result Line JournalFaultKind
line_of_fields ranks [] = Err UnknownWord
line_of_fields ranks (word ∷ fields) = line_by_word ranks (word_of word) fields

-- the line that a text without its line feed spells, in a run of so many ranks
unfoldable pub line_of : ℕ → List ℕ → Result Line JournalFaultKind
line_of ranks text = line_of_fields ranks (split_fields text)
