-- The numbers among a line's fields, each with the form of its field.
use Rattle.std.specs.Prelude.{ℕ, Bool, Option, Some, None, if◌then◌else◌, List, length, drop}
use Rattle.std.specs.List.{filter_map, zip}
use Rattle.journals.specs.Words.{forms_of}
use Rattle.journals.specs.declared.field.Field.{Field}
use Rattle.journals.specs.declared.field.Field.TheVariants.{Natural}
use Rattle.journals.specs.declared.form.Form.{Form}
use Rattle.journals.specs.declared.word.Word.{Word}

abbrev pub numbered_in : Form × Field → Option (Form × ℕ)
numbered_in (form, Natural number) = Some (form, number)
numbered_in _ = None

-- the number that a field of a form is
abbrev pub number_of : Option Form → Field → Option (Form × ℕ)
number_of (Some form) (Natural number) = Some (form, number)
number_of _ _ = None

-- each field with its form
abbrev pub formed : Word → List Field → List (Form × Field)
formed word fields = zip (forms_of word (length fields)) fields

abbrev pub numbered : Word → List Field → List (Form × ℕ)
numbered word fields = filter_map numbered_in (formed word fields)

-- those from a place on
abbrev pub numbered_from : Word → List Field → ℕ → List (Form × ℕ)
numbered_from word fields place = filter_map numbered_in (drop place (formed word fields))

-- the numbers whose forms pass a test
abbrev pub number_with : (Form → Bool) → Form × ℕ → Option ℕ
number_with test item = if test item.0 then Some item.1 else None

abbrev pub numbers_with : (Form → Bool) → List (Form × ℕ) → List ℕ
numbers_with test items = filter_map (number_with test) items
