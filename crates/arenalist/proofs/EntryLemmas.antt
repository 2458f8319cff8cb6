-- Entries of lists of cells, by the cells' values.
use Rattle.std.proofs.Common.{◌≡◌, ℕ, zero, suc, ◌+◌, ◌<◌, ◌≤◌, ◌++◌, ◌≢◌, true, Option, Some, None, List, [], ◌∷◌, length, map, get_or, set, refl, sym, ap, ◌∙◌, ⊎_elim, arith, get_or-set_same, get_or-set_other}
use Rattle.std.specs.Prelude.{is_some}
use Rattle.std.proofs.lemmas.List.{map-set, length-map}
use Rattle.std.proofs.lemmas.Bool.{cases_eq, cases_lt, eq-eqb, ne_eqb}
use Rattle.arenaqueue.specs.Numbers.{list_at}
use Rattle.arenaqueue.specs.inner.Numbers.{count, in_all, without, after, first_of}
use Rattle.arenalist.specs.Arena.{value_in, or_value, value_at, times_in, times, first_node, behind, without_node, unlinked, linked, revalued_in, revalued}
use Rattle.arenalist.specs.inner.Slots.{entry_of, entries, entries_of}
use Rattle.arenaqueue.proofs.NumberLemmas.{count_other, count_head}

-- a number is the first of a list, or not
same_first : (n x : ℕ) (xs : List ℕ) → n ≡ x → count n (x ∷ xs) ≡ 1 + count n xs
same_first n x xs e = rw (eq-eqb n x e) refl

other_first : (n x : ℕ) (xs : List ℕ) → (n ≡ x → ⊥) → count n (x ∷ xs) ≡ count n xs
other_first n x xs e = omega (arith, count_other n x e)

module _ {T : Type 0} where
  pub entries_back : (values : List (Option T)) (xs : List ℕ) (n : ℕ) → entries values (xs ++ n ∷ []) ≡ entries values xs ++ entry_of n (get_or values n None)
  entries_back values [] n =
      elim (get_or values n None) as (λ o. entry_of n o ++ [] ≡ entry_of n o) [ None ↦ refl | Some v ↦ refl ]
  entries_back values (x ∷ xs) n =
      elim (get_or values x None) as (λ o. entry_of x o ++ entries values (xs ++ n ∷ []) ≡ (entry_of x o ++ entries values xs) ++ entry_of n (get_or values n None)) [
        | None ↦ entries_back values xs n
        | Some v ↦ ap (λ (es : List (ℕ × T)). (x, v) ∷ es) (entries_back values xs n)
      ]

  -- values that differ at cells outside a list
  pub entries_same : (values values' : List (Option T)) (xs : List ℕ) → ((x : ℕ) → 0 < count x xs → get_or values' x None ≡ get_or values x None) → entries values' xs ≡ entries values xs
  entries_same values values' [] h = refl
  entries_same values values' (x ∷ xs) h =
      ap (λ (o : Option T). entry_of x o ++ entries values' xs) (h x (omega (arith, count_head x xs)))
      ∙ ap (λ (es : List (ℕ × T)). entry_of x (get_or values x None) ++ es) (entries_same values values' xs (λ y some. h y (omega (arith, some))))

  without_entry : (n x : ℕ) (o : Option T) (es : List (ℕ × T)) → n ≡ x → without_node (entry_of x o ++ es) n ≡ without_node es n
  without_entry n x None es e = refl
  without_entry n x (Some v) es e = rw (eq-eqb n x e) refl

  without_other : (n x : ℕ) (o : Option T) (es : List (ℕ × T)) → (n ≡ x → ⊥) → without_node (entry_of x o ++ es) n ≡ entry_of x o ++ without_node es n
  without_other n x None es e = refl
  without_other n x (Some v) es e = rw (ne_eqb n x e) refl

  pub entries_without : (values values' : List (Option T)) (n : ℕ) (xs : List ℕ) → ((x : ℕ) → x ≢ n → get_or values' x None ≡ get_or values x None) → entries values' (without n xs) ≡ without_node (entries values xs) n
  entries_without values values' n [] h = refl
  entries_without values values' n (x ∷ xs) h =
      ⊎_elim
      (λ (same : n ≡ x).
      let gone : without n (x ∷ xs) ≡ without n xs = rw (eq-eqb n x same) refl in
      ap (entries values') gone ∙ entries_without values values' n xs h ∙ sym (without_entry n x (get_or values x None) (entries values xs) same))
      (λ (other : n ≡ x → ⊥).
      let kept : without n (x ∷ xs) ≡ x ∷ without n xs = rw (ne_eqb n x other) refl in
      ap (entries values') kept
      ∙ ap (λ (o : Option T). entry_of x o ++ entries values' (without n xs)) (h x (λ e. other (sym e)))
      ∙ ap (λ (es : List (ℕ × T)). entry_of x (get_or values x None) ++ es) (entries_without values values' n xs h)
      ∙ sym (without_other n x (get_or values x None) (entries values xs) other))
      (cases_eq n x)

  value_here : (n x : ℕ) (o : Option T) (es : List (ℕ × T)) → n ≡ x → value_in (entry_of x o ++ es) n ≡ or_value o (value_in es n)
  value_here n x None es e = refl
  value_here n x (Some v) es e = rw (eq-eqb n x e) refl

  value_later : (n x : ℕ) (o : Option T) (es : List (ℕ × T)) → (n ≡ x → ⊥) → value_in (entry_of x o ++ es) n ≡ value_in es n
  value_later n x None es e = refl
  value_later n x (Some v) es e = rw (ne_eqb n x e) refl

  or_same : (o : Option T) → or_value o o ≡ o
  or_same None = refl
  or_same (Some v) = refl

  or_none : (o : Option T) → or_value o None ≡ o
  or_none None = refl
  or_none (Some v) = refl

  pub value_none : (values : List (Option T)) (n : ℕ) (xs : List ℕ) → count n xs ≡ 0 → value_in (entries values xs) n ≡ None
  value_none values n [] h = refl
  value_none values n (x ∷ xs) h =
      ⊎_elim
      (λ (same : n ≡ x). absurd (omega (arith, same_first n x xs same)))
      (λ (other : n ≡ x → ⊥). value_later n x (get_or values x None) (entries values xs) other ∙ value_none values n xs (omega (arith, other_first n x xs other)))
      (cases_eq n x)

  pub value_some : (values : List (Option T)) (n : ℕ) (xs : List ℕ) → 0 < count n xs → value_in (entries values xs) n ≡ get_or values n None
  value_some values n [] h = absurd (omega arith)
  value_some values n (x ∷ xs) h =
      ⊎_elim
      (λ (same : n ≡ x).
      let here : value_in (entries values (x ∷ xs)) n ≡ or_value (get_or values n None) (value_in (entries values xs) n) = value_here n x (get_or values x None) (entries values xs) same ∙ ap (λ (y : ℕ). or_value (get_or values y None) (value_in (entries values xs) n)) (sym same) in
      ⊎_elim
      (λ (more : 0 < count n xs). here ∙ ap (or_value (get_or values n None)) (value_some values n xs more) ∙ or_same (get_or values n None))
      (λ (none : count n xs ≤ 0). here ∙ ap (or_value (get_or values n None)) (value_none values n xs (omega arith)) ∙ or_none (get_or values n None))
      (cases_lt 0 (count n xs)))
      (λ (other : n ≡ x → ⊥). value_later n x (get_or values x None) (entries values xs) other ∙ value_some values n xs (omega (arith, other_first n x xs other)))
      (cases_eq n x)

  pub at_none : (values : List (Option T)) (n : ℕ) (lists : List (List ℕ)) → in_all n lists ≡ 0 → value_at (entries_of values lists) n ≡ None
  at_none values n [] h = refl
  at_none values n (xs ∷ lists) h =
      ap (λ (o : Option T). or_value o (value_at (entries_of values lists) n)) (value_none values n xs (omega arith)) ∙ at_none values n lists (omega arith)

  pub at_some : (values : List (Option T)) (n : ℕ) (lists : List (List ℕ)) → 0 < in_all n lists → value_at (entries_of values lists) n ≡ get_or values n None
  at_some values n [] h = absurd (omega arith)
  at_some values n (xs ∷ lists) h =
      ⊎_elim
      (λ (here : 0 < count n xs).
      let it : value_in (entries values xs) n ≡ get_or values n None = value_some values n xs here in
      ⊎_elim
      (λ (more : 0 < in_all n lists). ap (λ (o : Option T). or_value o (value_at (entries_of values lists) n)) it ∙ ap (or_value (get_or values n None)) (at_some values n lists more) ∙ or_same (get_or values n None))
      (λ (none : in_all n lists ≤ 0). ap (λ (o : Option T). or_value o (value_at (entries_of values lists) n)) it ∙ ap (or_value (get_or values n None)) (at_none values n lists (omega arith)) ∙ or_none (get_or values n None))
      (cases_lt 0 (in_all n lists)))
      (λ (not : count n xs ≤ 0). ap (λ (o : Option T). or_value o (value_at (entries_of values lists) n)) (value_none values n xs (omega arith)) ∙ at_some values n lists (omega arith))
      (cases_lt 0 (count n xs))

  none_some : (o : Option T) → o ≡ None → is_some o ≡ true → ⊥
  none_some None e h = cc
  none_some (Some v) e h = cc

  -- what has a value is in a list
  pub standing : (values : List (Option T)) (n : ℕ) (lists : List (List ℕ)) → is_some (value_at (entries_of values lists) n) ≡ true → 0 < in_all n lists
  standing values n lists h =
      ⊎_elim
      (λ (some : 0 < in_all n lists). some)
      (λ (none : in_all n lists ≤ 0). absurd (none_some (value_at (entries_of values lists) n) (at_none values n lists (omega arith)) h))
      (cases_lt 0 (in_all n lists))

  pub standing_in : (values : List (Option T)) (n : ℕ) (xs : List ℕ) → is_some (value_in (entries values xs) n) ≡ true → 0 < count n xs
  standing_in values n xs h =
      ⊎_elim
      (λ (some : 0 < count n xs). some)
      (λ (none : count n xs ≤ 0). absurd (none_some (value_in (entries values xs) n) (value_none values n xs (omega arith)) h))
      (cases_lt 0 (count n xs))

  pub entries_at : (values : List (Option T)) (lists : List (List ℕ)) (l : ℕ) → list_at (entries_of values lists) l ≡ entries values (list_at lists l)
  entries_at values [] l = refl
  entries_at values (xs ∷ lists) zero = refl
  entries_at values (xs ∷ lists) (suc l) = entries_at values lists l

  pub entries_of_same : (values values' : List (Option T)) (lists : List (List ℕ)) → ((x : ℕ) → 0 < in_all x lists → get_or values' x None ≡ get_or values x None) → entries_of values' lists ≡ entries_of values lists
  entries_of_same values values' [] h = refl
  entries_of_same values values' (xs ∷ lists) h =
      let first : entries values' xs ≡ entries values xs = entries_same values values' xs (λ x some. h x (omega (arith, some))) in
      let rest : entries_of values' lists ≡ entries_of values lists = entries_of_same values values' lists (λ x some. h x (omega (arith, some))) in
      cc

  pub entries_unlinked : (values values' : List (Option T)) (n : ℕ) (lists : List (List ℕ)) → ((x : ℕ) → x ≢ n → get_or values' x None ≡ get_or values x None) → entries_of values' (map (without n) lists) ≡ unlinked (entries_of values lists) n
  entries_unlinked values values' n [] h = refl
  entries_unlinked values values' n (xs ∷ lists) h =
      let first : entries values' (without n xs) ≡ without_node (entries values xs) n = entries_without values values' n xs h in
      let rest : entries_of values' (map (without n) lists) ≡ unlinked (entries_of values lists) n = entries_unlinked values values' n lists h in
      cc

  -- a cell that is in no list is linked with its value
  pub entries_linked : (values values' : List (Option T)) (n l : ℕ) (v : T) (lists : List (List ℕ)) → ((x : ℕ) → x ≢ n → get_or values' x None ≡ get_or values x None) → get_or values' n None ≡ Some v → in_all n lists ≡ 0 → entries_of values' (set lists l (list_at lists l ++ n ∷ [])) ≡ linked (entries_of values lists) l n v
  entries_linked values values' n l v lists h is none =
      let same : entries_of values' lists ≡ entries_of values lists = entries_of_same values values' lists (λ x some. h x (λ e. omega (arith, some, ap (λ (y : ℕ). in_all y lists) e))) in
      map-set (entries values') lists l (list_at lists l ++ n ∷ [])
      ∙ ap (set (entries_of values' lists) l) (entries_back values' (list_at lists l) n ∙ ap (λ (o : Option T). entries values' (list_at lists l) ++ entry_of n o) is ∙ ap (λ (es : List (ℕ × T)). es ++ (n, v) ∷ []) (sym (entries_at values' lists l)))
      ∙ ap (λ (ls : List (List (ℕ × T))). set ls l (list_at ls l ++ (n, v) ∷ [])) same

  pub entries_first : (values : List (Option T)) (xs : List ℕ) → ((x : ℕ) → 0 < count x xs → is_some (get_or values x None) ≡ true) → first_node (entries values xs) ≡ first_of xs
  entries_first values [] h = refl
  entries_first values (x ∷ xs) h = first_here (get_or values x None) (h x (omega (arith, count_head x xs)))
    where
      first_here : (o : Option T) → is_some o ≡ true → first_node (entry_of x o ++ entries values xs) ≡ Some x
      first_here None e = cc
      first_here (Some v) e = refl

  behind_entry : (n x : ℕ) (o : Option T) (es : List (ℕ × T)) → n ≡ x → is_some o ≡ true → behind (entry_of x o ++ es) n ≡ es
  behind_entry n x None es e some = cc
  behind_entry n x (Some v) es e some = rw (eq-eqb n x e) refl

  behind_other : (n x : ℕ) (o : Option T) (es : List (ℕ × T)) → (n ≡ x → ⊥) → behind (entry_of x o ++ es) n ≡ behind es n
  behind_other n x None es e = refl
  behind_other n x (Some v) es e = rw (ne_eqb n x e) refl

  pub entries_behind : (values : List (Option T)) (n : ℕ) (xs : List ℕ) → ((x : ℕ) → 0 < count x xs → is_some (get_or values x None) ≡ true) → behind (entries values xs) n ≡ entries values (after n xs)
  entries_behind values n [] h = refl
  entries_behind values n (x ∷ xs) h =
      ⊎_elim
      (λ (same : n ≡ x).
      let it : after n (x ∷ xs) ≡ xs = rw (eq-eqb n x same) refl in
      behind_entry n x (get_or values x None) (entries values xs) same (h x (omega (arith, count_head x xs))) ∙ ap (entries values) (sym it))
      (λ (other : n ≡ x → ⊥).
      let it : after n (x ∷ xs) ≡ after n xs = rw (ne_eqb n x other) refl in
      behind_other n x (get_or values x None) (entries values xs) other ∙ entries_behind values n xs (λ y some. h y (omega (arith, some))) ∙ ap (entries values) (sym it))
      (cases_eq n x)

  -- how often a node is in entries
  times_entry : (n x : ℕ) (o : Option T) (es : List (ℕ × T)) → times_in (entry_of x o ++ es) n ≤ count n (x ∷ []) + times_in es n
  times_entry n x None es = omega arith
  times_entry n x (Some v) es = omega arith

  pub times_in_entries : (values : List (Option T)) (n : ℕ) (xs : List ℕ) → times_in (entries values xs) n ≤ count n xs
  times_in_entries values n [] = omega arith
  times_in_entries values n (x ∷ xs) = omega (arith, times_entry n x (get_or values x None) (entries values xs), times_in_entries values n xs)

  pub times_entries : (values : List (Option T)) (n : ℕ) (lists : List (List ℕ)) → times (entries_of values lists) n ≤ in_all n lists
  times_entries values n [] = omega arith
  times_entries values n (xs ∷ lists) = omega (arith, times_in_entries values n xs, times_entries values n lists)

  pub long_entries : (values : List (Option T)) (lists : List (List ℕ)) → length (entries_of values lists) ≡ length lists
  long_entries values lists = length-map lists (entries values)

  -- the value at a cell is another
  revalued_entry : (n x : ℕ) (o : Option T) (w : T) (es : List (ℕ × T)) → n ≡ x → is_some o ≡ true → revalued_in (entry_of x o ++ es) n w ≡ (n, w) ∷ revalued_in es n w
  revalued_entry n x None w es e some = cc
  revalued_entry n x (Some v) w es e some = rw (eq-eqb n x e) refl

  revalued_other : (n x : ℕ) (o : Option T) (w : T) (es : List (ℕ × T)) → (n ≡ x → ⊥) → revalued_in (entry_of x o ++ es) n w ≡ entry_of x o ++ revalued_in es n w
  revalued_other n x None w es e = refl
  revalued_other n x (Some v) w es e = rw (ne_eqb n x e) refl

  entries_revalued_in : (values : List (Option T)) (n : ℕ) (w : T) (xs : List ℕ) → n < length values → is_some (get_or values n None) ≡ true → entries (set values n (Some w)) xs ≡ revalued_in (entries values xs) n w
  entries_revalued_in values n w [] n_in some = refl
  entries_revalued_in values n w (x ∷ xs) n_in some =
      ⊎_elim
      (λ (same : n ≡ x).
      let has : is_some (get_or values x None) ≡ true = ap (λ (y : ℕ). is_some (get_or values y None)) (sym same) ∙ some in
      let new : get_or (set values n (Some w)) x None ≡ Some w = ap (λ (y : ℕ). get_or (set values n (Some w)) y None) (sym same) ∙ get_or-set_same values n (Some w) None n_in in
      ap (λ (o : Option T). entry_of x o ++ entries (set values n (Some w)) xs) new
      ∙ ap (λ (y : ℕ). (y, w) ∷ entries (set values n (Some w)) xs) (sym same)
      ∙ ap (λ (es : List (ℕ × T)). (n, w) ∷ es) (entries_revalued_in values n w xs n_in some)
      ∙ sym (revalued_entry n x (get_or values x None) w (entries values xs) same has))
      (λ (other : n ≡ x → ⊥).
      ap (λ (o : Option T). entry_of x o ++ entries (set values n (Some w)) xs) (get_or-set_other values n x (Some w) None (λ e. other (sym e)))
      ∙ ap (λ (es : List (ℕ × T)). entry_of x (get_or values x None) ++ es) (entries_revalued_in values n w xs n_in some)
      ∙ sym (revalued_other n x (get_or values x None) w (entries values xs) other))
      (cases_eq n x)

  pub entries_revalued : (values : List (Option T)) (n : ℕ) (w : T) (lists : List (List ℕ)) → n < length values → is_some (get_or values n None) ≡ true → entries_of (set values n (Some w)) lists ≡ revalued (entries_of values lists) n w
  entries_revalued values n w [] n_in some = refl
  entries_revalued values n w (xs ∷ lists) n_in some =
      let first : entries (set values n (Some w)) xs ≡ revalued_in (entries values xs) n w = entries_revalued_in values n w xs n_in some in
      let rest : entries_of (set values n (Some w)) lists ≡ revalued (entries_of values lists) n w = entries_revalued values n w lists n_in some in
      cc
