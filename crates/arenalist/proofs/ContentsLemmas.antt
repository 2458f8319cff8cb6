-- The lists as those see them who do not want nodes.
use Rattle.std.proofs.Common.{◌≡◌, ℕ, zero, suc, List, [], ◌∷◌, ◌++◌, length, map, drop, set, replicate, refl, sym, ap, ◌∙◌}
use Rattle.std.specs.List.{slice_get}
use Rattle.std.proofs.lemmas.List.{map-set, map-append, drop-map, length-map}
use Rattle.arenaqueue.specs.Numbers.{list_at}
use Rattle.arenalist.specs.Arena.{first_value, linked, spliced}
use Rattle.arenalist.specs.inner.Arena.{contents}

module _ {T : Type 0} where
  -- the values of a list
  abbrev pub values : List (ℕ × T) → List T
  values list = map (λ entry. entry.1) list

  pub contents_at : (lists : List (List (ℕ × T))) (l : ℕ) → list_at (contents lists) l ≡ values (list_at lists l)
  contents_at [] l = refl
  contents_at (list ∷ lists) zero = refl
  contents_at (list ∷ lists) (suc l) = contents_at lists l

  pub length_at : (lists : List (List (ℕ × T))) (l : ℕ) → length (list_at (contents lists) l) ≡ length (list_at lists l)
  length_at lists l = ap (length {A = T}) (contents_at lists l) ∙ length-map (list_at lists l) (λ (entry : ℕ × T). entry.1)

  pub contents_set : (lists : List (List (ℕ × T))) (l : ℕ) (list : List (ℕ × T)) → contents (set lists l list) ≡ set (contents lists) l (values list)
  contents_set lists l list = map-set values lists l list

  pub contents_none : (n : ℕ) → ◌≡◌ {A = List (List T)} (contents {T = T} (replicate n [])) (replicate n [])
  contents_none zero = refl
  contents_none (suc n) = ap (λ (lists : List (List T)). [] ∷ lists) (contents_none n)

  -- the first value of a list
  pub first_content : (lists : List (List (ℕ × T))) (l : ℕ) → first_value (list_at lists l) ≡ slice_get (list_at (contents lists) l) 0
  first_content lists l = first_is (list_at lists l) ∙ ap (λ (vs : List T). slice_get vs 0) (sym (contents_at lists l))
    where
      first_is : (list : List (ℕ × T)) → first_value list ≡ slice_get (values list) 0
      first_is [] = refl
      first_is (entry ∷ list) = refl

  -- the contents once the first value of a list is taken off, once one is put after it, and once all are
  pub contents_drop : (lists : List (List (ℕ × T))) (l : ℕ) → contents (set lists l (drop 1 (list_at lists l))) ≡ set (contents lists) l (drop 1 (list_at (contents lists) l))
  contents_drop lists l =
      contents_set lists l (drop 1 (list_at lists l))
      ∙ ap (set (contents lists) l) (sym (drop-map (λ (entry : ℕ × T). entry.1) 1 (list_at lists l)) ∙ ap (λ (vs : List T). drop 1 vs) (sym (contents_at lists l)))

  pub contents_linked : (lists : List (List (ℕ × T))) (l n : ℕ) (v : T) → contents (linked lists l n v) ≡ set (contents lists) l (list_at (contents lists) l ++ v ∷ [])
  contents_linked lists l n v =
      contents_set lists l (list_at lists l ++ (n, v) ∷ [])
      ∙ ap (set (contents lists) l) (map-append (λ (entry : ℕ × T). entry.1) (list_at lists l) ((n, v) ∷ []) ∙ ap (λ (vs : List T). vs ++ v ∷ []) (sym (contents_at lists l)))

  pub contents_spliced : (lists : List (List (ℕ × T))) (to from : ℕ) → contents (spliced lists to from) ≡ set (set (contents lists) to (list_at (contents lists) to ++ list_at (contents lists) from)) from []
  contents_spliced lists to from =
      contents_set (set lists to (list_at lists to ++ list_at lists from)) from []
      ∙ ap (λ (ls : List (List T)). set ls from [])
      (contents_set lists to (list_at lists to ++ list_at lists from)
      ∙ ap (set (contents lists) to) (map-append (λ (entry : ℕ × T). entry.1) (list_at lists to) (list_at lists from)
      ∙ ap (λ (vs : List T). vs ++ values (list_at lists from)) (sym (contents_at lists to))
      ∙ ap (λ (vs : List T). list_at (contents lists) to ++ vs) (sym (contents_at lists from))))
