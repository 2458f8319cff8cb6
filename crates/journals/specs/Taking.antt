-- What the reading of a line leaves.
use Rattle.std.specs.Prelude.{ℕ, Bool, true, false, Option, Some, None, option_map, List, [], slice_get}
use Rattle.journals.specs.Lines.{Line}
use Rattle.journals.specs.declared.field.Field.{Field}
use Rattle.journals.specs.declared.word.CallWord.TheVariants as call
use Rattle.journals.specs.declared.word.Word.{Word}
use Rattle.journals.specs.declared.word.Word.TheVariants.{Call}

-- the word and the fields of the line at a place; none if there is no such line
abbrev pub word_at : List Line → ℕ → Option Word
word_at lines place = option_map (λ line. line.word) (slice_get lines place)

abbrev pub fields_in_line : Option Line → List Field
fields_in_line None = []
fields_in_line (Some line) = line.fields

abbrev pub fields_at : List Line → ℕ → List Field
fields_at lines place = fields_in_line (slice_get lines place)

-- by a call with the word a program frees a request
abbrev pub frees_request : Word → Bool
frees_request (Call call.RequestFree) = true
frees_request word = false
