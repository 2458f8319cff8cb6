-- A line that is put together argument by argument is the fields with a space between each two.
use Rattle.std.proofs.Common.{◌≡◌, ℕ, List, [], ◌∷◌, ◌++◌, append_assoc, map, refl, ap, ◌∙◌}
use Rattle.std.specs.List.{join_with_byte}
use Rattle.mpicall.specs.Argument.{Argument, spell}
use Rattle.mpicall.specs.inner.Draft.{line_with}
use Rattle.mpicall.specs.Spelling.{space, word_of_call, arguments_of, fields_of}
use Rattle.mpicall.specs.Word.{text_of}
use Rattle.mpicall.specs.declared.call.Call.{Call}

-- the first field may be joined with the text before it
pub joined_front : (front field : List ℕ) (fields : List (List ℕ)) → join_with_byte space ((front ++ field) ∷ fields) ≡ front ++ join_with_byte space (field ∷ fields)
joined_front front field [] = refl
joined_front front field (next ∷ fields) = append_assoc front field (space ∷ join_with_byte space (next ∷ fields))

pub joined_space : (field : List ℕ) (fields : List (List ℕ)) → join_with_byte space ((space ∷ field) ∷ fields) ≡ space ∷ join_with_byte space (field ∷ fields)
joined_space field [] = refl
joined_space field (next ∷ fields) = refl

line_joined : (line : List ℕ) (arguments : List Argument) → line_with line arguments ≡ join_with_byte space (line ∷ map spell arguments)
line_joined line [] = refl
line_joined line (argument ∷ arguments) =
    line_joined (line ++ space ∷ spell argument) arguments
    ∙ joined_front line (space ∷ spell argument) (map spell arguments)
    ∙ ap (λ (more : List ℕ). line ++ more) (joined_space (spell argument) (map spell arguments))

-- a call after other text
pub call_joined : (page : List ℕ) (call : Call) → line_with (page ++ text_of (word_of_call call)) (arguments_of call) ≡ page ++ join_with_byte space (fields_of call)
call_joined page call = line_joined (page ++ text_of (word_of_call call)) (arguments_of call) ∙ joined_front page (text_of (word_of_call call)) (map spell (arguments_of call))
