-- What cells and ends have once one of them is written, or once there is one more.
use Rattle.std.proofs.Common.{◌≡◌, ℕ, zero, suc, ◌<◌, true, List, [], ◌∷◌, ◌++◌, length, map, Some, None, is_some, get_or, set, refl, sym, ap, ◌∙◌, arith}
use Rattle.std.proofs.lemmas.List.{map-set, map-append, length-map, get_or-map, set-get_or}
use Rattle.arenaqueue.specs.declared.cells.Cell.{Cell}
use Rattle.arenaqueue.specs.declared.cells.Ends.{Ends}
use Rattle.arenaqueue.specs.inner.Cells.{firsts_of, lasts_of, nexts_of, values_of}

module _ {X : Type 0} {Y : Type 0} (f : X → Y) where
  -- what is read of a record among many
  pub read_at : (xs : List X) (i : ℕ) (x : X) (d : Y) → i < length xs → x ≡ get_or xs i x → f x ≡ get_or (map f xs) i d
  read_at xs i x d i_in is = ap f is ∙ sym (get_or-map f xs i x d i_in)

  -- a record is written that has the same
  pub kept_at : (xs : List X) (i : ℕ) (x y : X) → i < length xs → x ≡ get_or xs i x → f y ≡ f x → map f (set xs i y) ≡ map f xs
  kept_at xs i x y i_in is same =
      map-set f xs i y
      ∙ ap (set (map f xs) i) (same ∙ read_at xs i x (f x) i_in is)
      ∙ set-get_or (map f xs) i (f x)

module _ {T : Type 0} where
  pub as_many : (cells : List (Cell T)) → length (values_of cells) ≡ length (nexts_of cells)
  as_many cells = length-map cells (λ (cell : Cell T). Some cell.value) ∙ sym (length-map cells (λ (cell : Cell T). cell.next))

  pub long_nexts : (cells : List (Cell T)) → length (nexts_of cells) ≡ length cells
  long_nexts cells = length-map cells (λ (cell : Cell T). cell.next)

  -- each cell has a value
  pub all_valued : (cells : List (Cell T)) (x : ℕ) → x < length (nexts_of cells) → is_some (get_or (values_of cells) x None) ≡ true
  all_valued [] x x_in = absurd (omega arith)
  all_valued (cell ∷ cells) zero x_in = refl
  all_valued (cell ∷ cells) (suc x) x_in = all_valued cells x (omega (arith, x_in))

pub long_firsts : (ends : List Ends) → length (firsts_of ends) ≡ length ends
long_firsts ends = length-map ends (λ (e : Ends). e.first)

-- ends of one more list
pub ends_more : (ends ends₁ ends₂ : List Ends) (e : Ends) → ends₁ ≡ ends → ends₂ ≡ ends₁ ++ e ∷ [] → (firsts_of ends₂ ≡ firsts_of ends ++ e.first ∷ []) × (lasts_of ends₂ ≡ lasts_of ends ++ e.last ∷ [])
ends_more ends ends₁ ends₂ e is more =
    let all : ends₂ ≡ ends ++ e ∷ [] = more ∙ ap (λ (es : List Ends). es ++ e ∷ []) is in
    (ap firsts_of all ∙ map-append (λ (of_list : Ends). of_list.first) ends (e ∷ []), ap lasts_of all ∙ map-append (λ (of_list : Ends). of_list.last) ends (e ∷ []))
