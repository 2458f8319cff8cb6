-- What proofs and private contracts cite, in addition to the definitions of `specs/Line.antt`.
use Rattle.std.specs.Prelude.{ℕ, Bool, false, ◌&&◌, Option, Some, None, List, [], ◌∷◌, length}
use Rattle.mpicall.specs.Argument.{Form}
use Rattle.mpicall.specs.Word.{word_of}
use Rattle.mpicall.specs.declared.word.Word.{Word}
use Rattle.mpicall.specs.declared.word.Layout.{Layout}
use Rattle.mpicall.specs.Line.{Shape, shape_by, shape_of, takes_count, all_in_form, Fixed}

-- the forms of the fields after a name that is no wait's
abbrev pub args_forms : Layout → ℕ → List Form
args_forms layout count = forms_in (shape_by layout count)
  where
    forms_in : Shape → List Form
    forms_in (Fixed forms) = forms
    forms_in _ = []

-- the fields after a word are as many as it takes, each in its form and range
abbrev pub fits : Word → List (List ℕ) → Bool
fits word fields = takes_count (shape_of word (length fields)) (length fields) && all_in_form (shape_of word (length fields)) fields

abbrev pub fits_word : Option Word → List (List ℕ) → Bool
fits_word None fields = false
fits_word (Some word) fields = fits word fields

-- the fields of a line are a word and what it takes
unfoldable pub fits_line : List (List ℕ) → Bool
fits_line [] = false
fits_line (word ∷ fields) = fits_word (word_of word) fields
