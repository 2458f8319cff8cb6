-- Lines as they are put together.
use Rattle.std.proofs.Common.{◌≡◌, ℕ, List, [], ◌∷◌, ◌++◌, refl, sym, ap, ◌∙◌, append_assoc}
use Rattle.std.specs.List.{join_with_byte}
use Rattle.mpicall.proofs.SpellingLemmas.{joined_front, joined_space}
use Rattle.mpicall.specs.Spelling.{space, line_feed, fields_of}
use Rattle.mpicall.specs.declared.call.Call.{Call}
use Rattle.report.specs.inner.Printing.{with_fields}
use Rattle.report.specs.TextReport.{line}

-- further fields are joined to the text before them
fields_joined : (bytes : List ℕ) (fields : List (List ℕ)) → with_fields bytes fields ≡ join_with_byte space (bytes ∷ fields)
fields_joined bytes [] = refl
fields_joined bytes (field ∷ fields) =
    fields_joined (bytes ++ space ∷ field) fields ∙ joined_front bytes (space ∷ field) fields ∙ ap (λ (more : List ℕ). bytes ++ more) (joined_space field fields)

-- a whole line is put on a page
pub line_put : (page word : List ℕ) (fields : List (List ℕ)) → with_fields (page ++ word) fields ++ line_feed ∷ [] ≡ page ++ line (word ∷ fields)
line_put page word fields =
    ap (λ (bytes : List ℕ). bytes ++ line_feed ∷ []) (fields_joined (page ++ word) fields ∙ joined_front page word fields)
    ∙ append_assoc page (join_with_byte space (word ∷ fields)) (line_feed ∷ [])

-- some fields, and then others
pub fields-append : (bytes : List ℕ) (fields more : List (List ℕ)) → with_fields bytes (fields ++ more) ≡ with_fields (with_fields bytes fields) more
fields-append bytes [] more = refl
fields-append bytes (field ∷ fields) more = fields-append (bytes ++ space ∷ field) fields more

-- a call is put after a space
pub call_put : (page : List ℕ) (call : Call) → (page ++ space ∷ []) ++ join_with_byte space (fields_of call) ≡ with_fields page (fields_of call)
call_put page call = append_assoc page (space ∷ []) (join_with_byte space (fields_of call)) ∙ sym (fields_joined page (fields_of call))
