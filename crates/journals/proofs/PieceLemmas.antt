-- A number at the front of some bytes is their first text; and a text that came with its number.
use Rattle.std.proofs.Common.{◌≡◌, ◌∙◌, ap, sym, ℕ, ◌+◌, ◌-◌, ◌==◌, ◌<◌, ◌≤◌, Option, Some, None, MatchOption, List, [], ◌∷◌, length, take, drop}
use Rattle.std.proofs.lemmas.List.{take_all}
use Rattle.mpicall.specs.Lines.{split_fields}
use Rattle.mpicall.specs.inner.Front.{IsFront}
use Rattle.mpicall.proofs.FieldLemmas.{split_at_first_space, split_without_space}
use Rattle.mpicall.proofs.FrontLemmas.{front_none, front_place}
use Rattle.journals.specs.declared.texts.Piece.{Piece}
use Rattle.journals.specs.inner.Texts.{IsNumber}

pub front_then : (limit : ℕ) (bytes : List ℕ) (count number : ℕ) → IsFront limit bytes count number → count < length bytes → split_fields bytes ≡ take count bytes ∷ split_fields (take (length bytes - (count + 1)) (drop (count + 1) bytes))
front_then limit bytes count number front less =
    split_at_first_space (λ byte. byte == 32) bytes count (front_place limit bytes count number front less)

pub front_last : (limit : ℕ) (bytes : List ℕ) (count number : ℕ) → IsFront limit bytes count number → length bytes ≤ count → split_fields bytes ≡ take count bytes ∷ []
front_last limit bytes count number front all =
    split_without_space (λ byte. byte == 32) bytes (front_none limit bytes count number front all)
    ∙ ap (λ (field : List ℕ). field ∷ []) (sym (take_all count bytes all))

-- a text that came is the first of those that were left
pub some_piece : (r : Option Piece) (piece : Piece) (old new : List (List ℕ)) → r ≡ Some piece → MatchOption r ((old ≡ []) × (new ≡ [])) (λ it. (old ≡ it.text.now ∷ new) × IsNumber it.text.now it.number) → (old ≡ piece.text.now ∷ new) × IsNumber piece.text.now piece.number
some_piece None piece old new e m = cc
some_piece (Some it) piece old new e m = let same : it ≡ piece = cc in rw same at m

pub no_piece : (r : Option Piece) (old new : List (List ℕ)) → r ≡ None → MatchOption r ((old ≡ []) × (new ≡ [])) (λ it. (old ≡ it.text.now ∷ new) × IsNumber it.text.now it.number) → old ≡ []
no_piece None old new e m = m.0
no_piece (Some it) old new e m = cc
