-- Cells go from the spare ones into lists and back.
use Rattle.std.proofs.Common.{◌≡◌, ℕ, zero, suc, ◌+◌, ◌<◌, ◌≤◌, ◌++◌, ◌≢◌, true, Option, Some, None, List, [], ◌∷◌, length, map, drop, get_or, set, refl, sym, ap, subst, ◌∙◌, ⊎_elim, arith, get_or-set_same, get_or-set_other}
use Rattle.std.specs.Prelude.{is_some}
use Rattle.std.proofs.lemmas.List.{length-set, length-append, length-map, map-set}
use Rattle.std.proofs.lemmas.Bool.{cases_eq, cases_lt, eq-eqb}
use Rattle.arenaqueue.specs.Numbers.{list_at}
use Rattle.arenaqueue.specs.inner.Numbers.{count, in_all, without, first_of}
use Rattle.arenalist.specs.Arena.{IsFirst}
use Rattle.arenalist.specs.inner.Links.{Linked}
use Rattle.arenalist.specs.inner.Slots.{entries, entries_of, IsArena, entry_of}
use Rattle.arenaqueue.proofs.NumberLemmas.{count-append, count_one, count_other, count_head, in_all-set, in_all-append, in_all_without, in_all_without_same, count_without, without_none, count_in_all, get_or-push_default}
use Rattle.arenaqueue.proofs.SumLemmas.{length_most}
use Rattle.arenalist.proofs.EntryLemmas.{entries_of_same, entries_unlinked, entries_at, at_some}

-- a list with a cell more at its back, among the lists
in_all-back : (x n l : ℕ) (lists : List (List ℕ)) → l < length lists → in_all x (set lists l (list_at lists l ++ n ∷ [])) ≡ in_all x lists + count x (n ∷ [])
in_all-back x n l lists l_in = omega (arith, in_all-set x lists l (list_at lists l ++ n ∷ []) l_in, count-append x (list_at lists l) (n ∷ []))

in_all-other : (n x : ℕ) (lists : List (List ℕ)) → x ≢ n → in_all x (map (without n) lists) ≡ in_all x lists
in_all-other n x [] other = refl
in_all-other n x (xs ∷ lists) other = omega (arith, count_without n x xs other, in_all-other n x lists other)

-- a list's first cell leaves the rest
without_all : (n : ℕ) (lists : List (List ℕ)) → in_all n lists ≡ 0 → map (without n) lists ≡ lists
without_all n [] none = refl
without_all n (xs ∷ lists) none =
    let first : without n xs ≡ xs = without_none n xs (omega arith) in
    let rest : map (without n) lists ≡ lists = without_all n lists (omega arith) in
    cc

without_first : (n : ℕ) (rest : List ℕ) (lists : List (List ℕ)) (l : ℕ) → in_all n lists ≤ 1 → list_at lists l ≡ n ∷ rest → map (without n) lists ≡ set lists l rest
without_first n rest [] l once is = refl
without_first n rest (xs ∷ lists) zero once is =
    let one : count n xs ≡ 1 + count n rest = ap (count n) is ∙ count_head n rest in
    let first : without n xs ≡ rest = ap (without n) is ∙ rw (eq-eqb n n refl) (without_none n rest (omega arith)) in
    let others : map (without n) lists ≡ lists = without_all n lists (omega arith) in
    cc
without_first n rest (xs ∷ lists) (suc l) once is =
    let one : 0 < count n (list_at lists l) = omega (arith, ap (count n) is, count_head n rest) in
    let first : without n xs ≡ xs = without_none n xs (omega (arith, count_in_all n lists l)) in
    let others : map (without n) lists ≡ set lists l rest = without_first n rest lists l (omega arith) is in
    cc

first_cell : (n : ℕ) (xs : List ℕ) → first_of xs ≡ Some n → xs ≡ n ∷ drop 1 xs
first_cell n [] is = cc
first_cell n (x ∷ xs) is = let same : x ≡ n = cc in ap (λ (y : ℕ). y ∷ xs) same

-- the last of the spare cells is taken
pub record Taken (heads : List ℕ) (lists : List (List ℕ)) (cells n : ℕ) : Type 0 where
  pub cell_in : n < cells
  pub loose : count n heads + in_all n lists ≡ 0

module _ {T : Type 0} where
  pub fewer_free : (heads : List ℕ) (lists : List (List ℕ)) (cells : ℕ) (values : List (Option T)) (free : List ℕ) (room : ℕ) → IsArena heads lists cells values free room → length free ≤ cells
  fewer_free heads lists cells values free room k = length_most cells free (λ x some. k.within x (omega (arith, some))) (λ x. omega (arith, k.once x))

  pub taken : (heads : List ℕ) (lists : List (List ℕ)) (cells : ℕ) (values : List (Option T)) (free rest : List ℕ) (room n : ℕ) → IsArena heads lists cells values free room → free ≡ rest ++ n ∷ [] → Taken heads lists cells n
  taken heads lists cells values free rest room n k is =
      let one : count n free ≡ count n rest + 1 = ap (count n) is ∙ count-append n rest (n ∷ []) ∙ ap (λ (m : ℕ). count n rest + m) (count_one n) in record {
        cell_in = k.within n (omega arith);
        loose = omega (arith, k.once n);
      }

  pub pushed : (heads : List ℕ) (lists : List (List ℕ)) (cells : ℕ) (values : List (Option T)) (free rest : List ℕ) (room room' n l : ℕ) (v : T) → IsArena heads lists cells values free room → free ≡ rest ++ n ∷ [] → l < length lists → room' ≡ room → IsArena heads (set lists l (list_at lists l ++ n ∷ [])) cells (set values n (Some v)) rest room'
  pushed heads lists cells values free rest room room' n l v k is l_in room_is =
      let there : (x : ℕ) → count x heads + in_all x (set lists l (list_at lists l ++ n ∷ [])) + count x rest ≡ count x heads + in_all x lists + count x free = λ x. omega (arith, in_all-back x n l lists l_in, ap (count x) is, count-append x rest (n ∷ [])) in
      let t = taken heads lists cells values free rest room n k is in record {
        once = λ x. omega (arith, there x, k.once x);
        within = λ x some. k.within x (omega (arith, there x, some));
        as_many = length-set values n (Some v) ∙ k.as_many;
        valued = λ x on.
            ⊎_elim
            (λ (same : x ≡ n). ap (λ (y : ℕ). is_some (get_or (set values n (Some v)) y None)) same ∙ ap is_some (get_or-set_same values n (Some v) None (omega (arith, k.as_many, t.cell_in))))
            (λ (other : x ≡ n → ⊥). ap is_some (get_or-set_other values n x (Some v) None other) ∙ k.valued x (omega (arith, on, in_all-back x n l lists l_in, count_other x n other)))
            (cases_eq x n);
        room_enough = omega (arith, k.room_enough);
      }

  -- a cell that is in a list goes back to the spare ones
  pub record Given (cells : ℕ) (free : List ℕ) (values : List (Option T)) (n : ℕ) : Type 0 where
    pub cell_in : n < cells
    pub fewer : length free < cells
    pub has : is_some (get_or values n None) ≡ true

  pub given : (heads : List ℕ) (lists : List (List ℕ)) (cells : ℕ) (values : List (Option T)) (free : List ℕ) (room n : ℕ) → IsArena heads lists cells values free room → 0 < in_all n lists → Given cells free values n
  given heads lists cells values free room n k on =
      let away : count n free ≡ 0 = omega (arith, on, k.once n) in record {
        cell_in = k.within n (omega (arith, on));
        fewer = omega (
          arith,
          length_most cells (n ∷ free)
              (λ x some. ⊎_elim (λ (same : x ≡ n). let it : n < cells = k.within n (omega (arith, on)) in omega arith) (λ (other : x ≡ n → ⊥). k.within x (omega (arith, some, count_other x n other))) (cases_eq x n))
              (λ x. ⊎_elim (λ (same : x ≡ n). let it : count n (n ∷ free) ≤ 1 = omega (arith, away, count_head n free) in subst (λ (y : ℕ). count y (n ∷ free) ≤ 1) (sym same) it) (λ (other : x ≡ n → ⊥). omega (arith, k.once x, count_other x n other)) (cases_eq x n)),
        );
        has = k.valued n on;
      }

  pub freed : (heads : List ℕ) (lists : List (List ℕ)) (cells : ℕ) (values : List (Option T)) (free : List ℕ) (room room' n : ℕ) → IsArena heads lists cells values free room → 0 < in_all n lists → room' ≡ room → IsArena heads (map (without n) lists) cells (set values n None) (free ++ n ∷ []) room'
  freed heads lists cells values free room room' n k on room_is = record {
    once = λ x.
        ⊎_elim
        (λ (same : x ≡ n). let it : count n heads + in_all n (map (without n) lists) + count n (free ++ n ∷ []) ≤ 1 = omega (arith, on, k.once n, in_all_without_same n lists, count-append n free (n ∷ []), count_one n) in subst (λ (y : ℕ). count y heads + in_all y (map (without n) lists) + count y (free ++ n ∷ []) ≤ 1) (sym same) it)
        (λ (other : x ≡ n → ⊥). omega (arith, k.once x, in_all_without n x lists, count-append x free (n ∷ []), count_other x n other))
        (cases_eq x n);
    within = λ x some.
        ⊎_elim
        (λ (same : x ≡ n). let it : n < cells = k.within n (omega (arith, on)) in omega arith)
        (λ (other : x ≡ n → ⊥). k.within x (omega (arith, some, in_all_without n x lists, count-append x free (n ∷ []), count_other x n other)))
        (cases_eq x n);
    as_many = length-set values n None ∙ k.as_many;
    valued = λ x there.
        let other : x ≢ n = λ e. omega (arith, there, in_all_without_same n lists, ap (λ (y : ℕ). in_all y (map (without n) lists)) e) in
        ap is_some (get_or-set_other values n x None None other) ∙ k.valued x (omega (arith, there, in_all_without n x lists));
    room_enough = omega (arith, k.room_enough);
  }

  pub moved : (heads : List ℕ) (lists : List (List ℕ)) (cells : ℕ) (values : List (Option T)) (free : List ℕ) (room n l : ℕ) → IsArena heads lists cells values free room → 0 < in_all n lists → l < length lists → IsArena heads (set (map (without n) lists) l (list_at (map (without n) lists) l ++ n ∷ [])) cells values free room
  moved heads lists cells values free room n l k on l_in =
      let back : (x : ℕ) → in_all x (set (map (without n) lists) l (list_at (map (without n) lists) l ++ n ∷ [])) ≡ in_all x (map (without n) lists) + count x (n ∷ []) = λ x. in_all-back x n l (map (without n) lists) (omega (arith, l_in, length-map lists (without n))) in
      let there : (x : ℕ) → in_all x (set (map (without n) lists) l (list_at (map (without n) lists) l ++ n ∷ [])) ≡ in_all x lists =
      λ x. ⊎_elim
      (λ (same : x ≡ n). let it : in_all n (set (map (without n) lists) l (list_at (map (without n) lists) l ++ n ∷ [])) ≡ in_all n lists = omega (arith, back n, count_one n, in_all_without_same n lists, on, k.once n) in subst (λ (y : ℕ). in_all y (set (map (without n) lists) l (list_at (map (without n) lists) l ++ n ∷ [])) ≡ in_all y lists) (sym same) it)
      (λ (other : x ≡ n → ⊥). omega (arith, back x, count_other x n other, in_all-other n x lists other))
      (cases_eq x n) in record {
        once = λ x. omega (arith, there x, k.once x);
        within = λ x some. k.within x (omega (arith, there x, some));
        as_many = k.as_many;
        valued = λ x some. k.valued x (omega (arith, there x, some));
        room_enough = k.room_enough;
      }

  -- a cell more, as a list's head or as a spare one
  new_cell : (heads : List ℕ) (lists : List (List ℕ)) (cells : ℕ) (values : List (Option T)) (free : List ℕ) (room : ℕ) → IsArena heads lists cells values free room → count cells heads + in_all cells lists + count cells free ≡ 0
  new_cell heads lists cells values free room k = ⊎_elim
      (λ (some : 0 < count cells heads + in_all cells lists + count cells free). absurd (omega (arith, k.within cells some)))
      (λ (none : count cells heads + in_all cells lists + count cells free ≤ 0). omega arith)
      (cases_lt 0 (count cells heads + in_all cells lists + count cells free))

  pub listed : (heads : List ℕ) (lists : List (List ℕ)) (cells : ℕ) (values : List (Option T)) (free : List ℕ) (room room' : ℕ) → IsArena heads lists cells values free room → cells + 1 ≤ room' → IsArena (heads ++ cells ∷ []) (lists ++ [] ∷ []) (cells + 1) (values ++ None ∷ []) free room'
  listed heads lists cells values free room room' k enough =
      let there : (x : ℕ) → count x (heads ++ cells ∷ []) + in_all x (lists ++ [] ∷ []) ≡ count x heads + count x (cells ∷ []) + in_all x lists = λ x. omega (arith, count-append x heads (cells ∷ []), in_all-append x lists []) in record {
        once = λ x.
            ⊎_elim
            (λ (same : x ≡ cells). let it : count cells heads + count cells (cells ∷ []) + in_all cells lists + count cells free ≤ 1 = omega (arith, new_cell heads lists cells values free room k, count_one cells) in omega (arith, there x, subst (λ (y : ℕ). count y heads + count y (cells ∷ []) + in_all y lists + count y free ≤ 1) (sym same) it))
            (λ (other : x ≡ cells → ⊥). omega (arith, k.once x, there x, count_other x cells other))
            (cases_eq x cells);
        within = λ x some.
            ⊎_elim
            (λ (same : x ≡ cells). omega arith)
            (λ (other : x ≡ cells → ⊥). omega (arith, k.within x (omega (arith, some, there x, count_other x cells other))))
            (cases_eq x cells);
        as_many = length-append values (None ∷ []) ∙ ap (λ (m : ℕ). m + 1) k.as_many;
        valued = λ x on. ap is_some (get_or-push_default None values x) ∙ k.valued x (omega (arith, on, in_all-append x lists []));
        room_enough = enough;
      }

  pub grown : (heads : List ℕ) (lists : List (List ℕ)) (cells : ℕ) (values : List (Option T)) (free : List ℕ) (room room' : ℕ) → IsArena heads lists cells values free room → cells + 1 ≤ room' → IsArena heads lists (cells + 1) (values ++ None ∷ []) (free ++ cells ∷ []) room'
  grown heads lists cells values free room room' k enough = record {
    once = λ x.
        ⊎_elim
        (λ (same : x ≡ cells). let it : count cells heads + in_all cells lists + count cells (free ++ cells ∷ []) ≤ 1 = omega (arith, new_cell heads lists cells values free room k, count-append cells free (cells ∷ []), count_one cells) in subst (λ (y : ℕ). count y heads + in_all y lists + count y (free ++ cells ∷ []) ≤ 1) (sym same) it)
        (λ (other : x ≡ cells → ⊥). omega (arith, k.once x, count-append x free (cells ∷ []), count_other x cells other))
        (cases_eq x cells);
    within = λ x some.
        ⊎_elim
        (λ (same : x ≡ cells). omega arith)
        (λ (other : x ≡ cells → ⊥). omega (arith, k.within x (omega (arith, some, count-append x free (cells ∷ []), count_other x cells other))))
        (cases_eq x cells);
    as_many = length-append values (None ∷ []) ∙ ap (λ (m : ℕ). m + 1) k.as_many;
    valued = λ x on. ap is_some (get_or-push_default None values x) ∙ k.valued x on;
    room_enough = enough;
  }

  pub entries_more : (values : List (Option T)) (lists : List (List ℕ)) → entries_of (values ++ None ∷ []) lists ≡ entries_of values lists
  entries_more values lists = entries_of_same values (values ++ None ∷ []) lists (λ x some. get_or-push_default None values x)

  is_first_with : (heads : List ℕ) (lists : List (List ℕ)) (cells : ℕ) (values : List (Option T)) (free : List ℕ) (room l n : ℕ) (o : Option T) → IsArena heads lists cells values free room → first_of (list_at lists l) ≡ Some n → get_or values n None ≡ o → is_some o ≡ true → IsFirst (entries_of values lists) l n
  is_first_with heads lists cells values free room l n None k is v_is some = cc
  is_first_with heads lists cells values free room l n (Some v) k is v_is some =
      let rest : List ℕ = drop 1 (list_at lists l) in
      let list : list_at lists l ≡ n ∷ rest = first_cell n (list_at lists l) is in
      let on : 0 < in_all n lists = omega (arith, ap (count n) list, count_head n rest, count_in_all n lists l) in
      let its : list_at (entries_of values lists) l ≡ (n, v) ∷ entries values rest = entries_at values lists l ∙ ap (entries values) list ∙ ap (λ (o : Option T). entry_of n o ++ entries values rest) v_is in
      let back : drop 1 (list_at (entries_of values lists) l) ≡ entries values rest = ap (λ (es : List (ℕ × T)). drop 1 es) its in record {
        value = v;
        found = at_some values n lists on ∙ v_is;
        is = its ∙ ap (λ (es : List (ℕ × T)). (n, v) ∷ es) (sym back);
        rest = sym (entries_unlinked values values n lists (λ x other. refl)) ∙ ap (entries_of values) (without_first n rest lists l (omega (arith, k.once n)) list) ∙ map-set (entries values) lists l rest ∙ ap (set (entries_of values lists) l) (sym back);
      }

  pub is_first : (heads : List ℕ) (lists : List (List ℕ)) (cells : ℕ) (values : List (Option T)) (free : List ℕ) (room l n : ℕ) → IsArena heads lists cells values free room → first_of (list_at lists l) ≡ Some n → IsFirst (entries_of values lists) l n
  is_first heads lists cells values free room l n k is =
      let list : list_at lists l ≡ n ∷ drop 1 (list_at lists l) = first_cell n (list_at lists l) is in
      is_first_with heads lists cells values free room l n (get_or values n None) k is refl (k.valued n (omega (arith, ap (count n) list, count_head n (drop 1 (list_at lists l)), count_in_all n lists l)))

  pub valued_in : (heads : List ℕ) (lists : List (List ℕ)) (cells : ℕ) (values : List (Option T)) (free : List ℕ) (room l : ℕ) → IsArena heads lists cells values free room → (x : ℕ) → 0 < count x (list_at lists l) → is_some (get_or values x None) ≡ true
  valued_in heads lists cells values free room l k x some = k.valued x (omega (arith, some, count_in_all x lists l))

  pub roomier : (heads : List ℕ) (lists : List (List ℕ)) (cells : ℕ) (values : List (Option T)) (free : List ℕ) (room room' : ℕ) → IsArena heads lists cells values free room → room ≤ room' → IsArena heads lists cells values free room'
  roomier heads lists cells values free room room' k more = record { once = k.once; within = k.within; as_many = k.as_many; valued = k.valued; room_enough = omega (arith, k.room_enough) }

  -- while the new cells, from `first` to `end`, become spare
  pub record Filling (links₀ links : Linked) (values₀ values : List (Option T)) (free₀ free : List ℕ) (values_room free_room first cell end work₀ work : ℕ) : Type 0 where
    pub arena : IsArena links.heads links.lists cell values free free_room
    pub same_links : links ≡ links₀
    pub same : entries_of values links.lists ≡ entries_of values₀ links₀.lists
    pub longer : length free + first ≡ length free₀ + cell
    pub values_fit : end ≤ values_room
    pub free_fit : end ≤ free_room
    pub same_work : work ≡ work₀

  pub fills : (links₀ links : Linked) (values₀ values values' : List (Option T)) (free₀ free free' : List ℕ) (values_room free_room values_room' free_room' first cell end work₀ work : ℕ) → Filling links₀ links values₀ values free₀ free values_room free_room first cell end work₀ work → cell < end → values' ≡ values ++ None ∷ [] → free' ≡ free ++ cell ∷ [] → values_room' ≡ values_room → free_room' ≡ free_room → Filling links₀ links values₀ values' free₀ free' values_room' free_room' first (cell + 1) end work₀ work
  fills links₀ links values₀ values values' free₀ free free' values_room free_room values_room' free_room' first cell end work₀ work f below v_is f_is vr_is fr_is =
      let it : IsArena links.heads links.lists (cell + 1) (values ++ None ∷ []) (free ++ cell ∷ []) free_room' = grown links.heads links.lists cell values free free_room free_room' f.arena (omega (arith, f.free_fit)) in record {
        arena = subst (λ (vs : List (Option T)). IsArena links.heads links.lists (cell + 1) vs free' free_room') (sym v_is) (subst (λ (fs : List ℕ). IsArena links.heads links.lists (cell + 1) (values ++ None ∷ []) fs free_room') (sym f_is) it);
        same_links = f.same_links;
        same = ap (λ (vs : List (Option T)). entries_of vs links.lists) v_is ∙ entries_more values links.lists ∙ f.same;
        longer = omega (arith, f.longer, ap (length {A = ℕ}) f_is, length-append free (cell ∷ []));
        values_fit = omega (arith, f.values_fit);
        free_fit = omega (arith, f.free_fit);
        same_work = f.same_work;
      }
