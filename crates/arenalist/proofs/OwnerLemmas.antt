-- The lists that cells know as theirs.
use Rattle.std.proofs.Common.{◌≡◌, ℕ, ◌<◌, ◌++◌, Option, Some, None, List, [], ◌∷◌, length, map, get_or, set, sym, ap, subst, ◌∙◌, ⊎_elim, arith, get_or-set_same, get_or-set_other}
use Rattle.std.proofs.lemmas.Bool.{cases_eq}
use Rattle.arenaqueue.specs.Numbers.{list_at}
use Rattle.arenaqueue.specs.inner.Numbers.{count, in_all, without}
use Rattle.arenalist.specs.inner.Links.{AreOwned}
use Rattle.arenaqueue.proofs.NumberLemmas.{count_one, count_other, count_in_all, count_without, count_without_same, list_at-without, get_or-push_default, count_back, count_back_other}

-- a cell that no list has is put at the back of one
pub owned_linked : (owners : List (Option ℕ)) (lists : List (List ℕ)) (n l : ℕ) → AreOwned owners lists → in_all n lists ≡ 0 → n < length owners → l < length lists → AreOwned (set owners n (Some l)) (set lists l (list_at lists l ++ n ∷ []))
owned_linked owners lists n l o none n_in l_in = record {
  owned = λ x m some.
      ⊎_elim
      (λ (same : x ≡ n).
      ⊎_elim
      (λ (at : m ≡ l). ap (λ (y : ℕ). get_or (set owners n (Some l)) y None) same ∙ get_or-set_same owners n (Some l) None n_in ∙ ap (λ (y : ℕ). Some y) (sym at))
      (λ (away : m ≡ l → ⊥). absurd (omega (arith, some, count_back_other x n l m lists away, ap (λ (y : ℕ). count y (list_at lists m)) same, count_in_all n lists m)))
      (cases_eq m l))
      (λ (other : x ≡ n → ⊥).
      get_or-set_other owners n x (Some l) None other
      ∙ o.owned x m (⊎_elim
      (λ (at : m ≡ l). let it : 0 < count x (list_at (set lists l (list_at lists l ++ n ∷ [])) l) = subst (λ (k : ℕ). 0 < count x (list_at (set lists l (list_at lists l ++ n ∷ [])) k)) at some in let there : 0 < count x (list_at lists l) = omega (arith, count_back x n l lists l_in, count_other x n other) in subst (λ (k : ℕ). 0 < count x (list_at lists k)) (sym at) there)
      (λ (away : m ≡ l → ⊥). omega (arith, some, count_back_other x n l m lists away))
      (cases_eq m l)))
      (cases_eq x n);
  held = λ x m is.
      ⊎_elim
      (λ (same : x ≡ n).
      let here : Some l ≡ Some m = sym (get_or-set_same owners n (Some l) None n_in) ∙ ap (λ (y : ℕ). get_or (set owners n (Some l)) y None) (sym same) ∙ is in
      let at : l ≡ m = cc in
      let it : 0 < count n (list_at (set lists l (list_at lists l ++ n ∷ [])) l) = omega (arith, count_back n n l lists l_in, count_one n) in
      subst (λ (k : ℕ). 0 < count x (list_at (set lists l (list_at lists l ++ n ∷ [])) k)) at (subst (λ (y : ℕ). 0 < count y (list_at (set lists l (list_at lists l ++ n ∷ [])) l)) (sym same) it))
      (λ (other : x ≡ n → ⊥).
      let was : 0 < count x (list_at lists m) = o.held x m (sym (get_or-set_other owners n x (Some l) None other) ∙ is) in
      ⊎_elim
      (λ (at : m ≡ l). let was' : 0 < count x (list_at lists l) = subst (λ (k : ℕ). 0 < count x (list_at lists k)) at was in let it : 0 < count x (list_at (set lists l (list_at lists l ++ n ∷ [])) l) = omega (arith, count_back x n l lists l_in) in subst (λ (k : ℕ). 0 < count x (list_at (set lists l (list_at lists l ++ n ∷ [])) k)) (sym at) it)
      (λ (away : m ≡ l → ⊥). omega (arith, was, count_back_other x n l m lists away))
      (cases_eq m l))
      (cases_eq x n);
}

-- a cell leaves its list
pub owned_unlinked : (owners : List (Option ℕ)) (lists : List (List ℕ)) (n : ℕ) → AreOwned owners lists → n < length owners → AreOwned (set owners n None) (map (without n) lists)
owned_unlinked owners lists n o n_in =
    let at : (x l : ℕ) → count x (list_at (map (without n) lists) l) ≡ count x (without n (list_at lists l)) = λ x l. ap (count x) (list_at-without n lists l) in record {
      owned = λ x l some.
          ⊎_elim
          (λ (same : x ≡ n). absurd (omega (arith, some, at x l, ap (λ (y : ℕ). count y (without n (list_at lists l))) same, count_without_same n (list_at lists l))))
          (λ (other : x ≡ n → ⊥). get_or-set_other owners n x None None other ∙ o.owned x l (omega (arith, some, at x l, count_without n x (list_at lists l) other)))
          (cases_eq x n);
      held = λ x l is.
          ⊎_elim
          (λ (same : x ≡ n).
          let gone : None ≡ Some l = sym (get_or-set_same owners n None None n_in) ∙ ap (λ (y : ℕ). get_or (set owners n None) y None) (sym same) ∙ is in
          cc)
          (λ (other : x ≡ n → ⊥). omega (arith, at x l, count_without n x (list_at lists l) other, o.held x l (sym (get_or-set_other owners n x None None other) ∙ is)))
          (cases_eq x n);
    }

-- a cell more that no list has
pub owned_more : (owners : List (Option ℕ)) (lists : List (List ℕ)) → AreOwned owners lists → AreOwned (owners ++ None ∷ []) lists
owned_more owners lists o = record {
  owned = λ x l some. get_or-push_default None owners x ∙ o.owned x l some;
  held = λ x l is. o.held x l (sym (get_or-push_default None owners x) ∙ is);
}

-- an empty list more
pub owned_listed : (owners : List (Option ℕ)) (lists : List (List ℕ)) → AreOwned owners lists → AreOwned owners (lists ++ [] ∷ [])
owned_listed owners lists o =
    let at : (x l : ℕ) → count x (list_at (lists ++ [] ∷ []) l) ≡ count x (list_at lists l) = λ x l. ap (count x) (get_or-push_default [] lists l) in record {
      owned = λ x l some. o.owned x l (omega (arith, some, at x l));
      held = λ x l is. omega (arith, at x l, o.held x l is);
    }
