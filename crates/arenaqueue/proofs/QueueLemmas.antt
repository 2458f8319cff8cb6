-- What each call does to the values of the lists.
use Rattle.std.proofs.Common.{◌≡◌, ℕ, zero, suc, ◌+◌, ◌<◌, ◌≤◌, ◌++◌, ◌≢◌, true, Option, Some, None, is_some, option_to_list, List, [], ◌∷◌, length, map, drop, get_or, set, refl, sym, ap, subst, ◌∙◌, arith, get_or-set_same, get_or-set_other, append_assoc, append-nil}
use Rattle.std.specs.List.{slice_get}
use Rattle.std.proofs.lemmas.List.{length-set, length-map, length-append, map-set, map-append, get_or-map, get_or_append_left, set-get_or, ext_get_or}
use Rattle.std.proofs.lemmas.Bool.{false≢true}
use Rattle.arenaqueue.specs.Numbers.{list_at}
use Rattle.arenaqueue.specs.inner.Numbers.{count, in_all}
use Rattle.arenaqueue.specs.inner.Chains.{Leads}
use Rattle.arenaqueue.specs.declared.cells.Ends.{Ends}
use Rattle.arenaqueue.specs.inner.Cells.{firsts_of}
use Rattle.arenaqueue.specs.inner.Chains.{no_cell, walked, picked, queues_of, last_or, AreChained, AreQueues, firsts_joined, nexts_joined, LeadsOut}
use Rattle.arenaqueue.proofs.NumberLemmas.{count-append, count_head, count_in_all}
use Rattle.arenaqueue.proofs.CellLemmas.{long_firsts}
use Rattle.arenaqueue.proofs.ChainLemmas.{leads_same, chain_in, chain_some, chain_none, spares_few, walk_is, popped, loosened, joined, listed, spread, last_in}

-- writes at two places can be made in either order
set_swap : {X : Type 0} → (xs : List X) (i j : ℕ) (x y : X) → i ≢ j → set (set xs i x) j y ≡ set (set xs j y) i x
set_swap [] i j x y differs = refl
set_swap (z ∷ zs) zero zero x y differs = absurd (differs refl)
set_swap (z ∷ zs) zero (suc j) x y differs = refl
set_swap (z ∷ zs) (suc i) zero x y differs = refl
set_swap {X} (z ∷ zs) (suc i) (suc j) x y differs = ap (λ (ws : List X). z ∷ ws) (set_swap zs i j x y (λ e. differs (ap suc e)))

-- there is a spare cell
pub spare_first : (firsts lasts nexts : List ℕ) (free spare : ℕ) (q : AreQueues firsts lasts nexts free spare) → 0 < spare → (ss : List ℕ) × (q.spares ≡ free ∷ ss) × (free < length nexts)
spare_first firsts lasts nexts free spare q some =
    let it = first_of q.spares (omega (arith, q.as_many)) q.chained.loose in
    (it.0, it.1, q.chained.within free (omega (arith, ap (count free) it.1, count_head free it.0)))
  where
    first_of : (ss : List ℕ) → 0 < length ss → Leads nexts free ss no_cell → (rest : List ℕ) × (ss ≡ free ∷ rest)
    first_of [] none leads = absurd (omega arith)
    first_of (s ∷ ss) none leads = (ss, ap (λ (y : ℕ). y ∷ ss) (sym leads.0))

-- the last cell of a list is a cell
pub last_there : (firsts lasts nexts : List ℕ) (free spare l : ℕ) → AreQueues firsts lasts nexts free spare → l < length firsts → get_or firsts l 0 ≢ no_cell → get_or lasts l 0 < length nexts
last_there firsts lasts nexts free spare l q l_in differs =
    let it = chain_some firsts lasts nexts free q.chains q.spares q.chained l l_in differs in
    let last : get_or lasts l 0 ≡ last_or (get_or firsts l 0) it.0 = sym (q.chained.ends l (omega (arith, ap (length {A = ℕ}) it.1))) ∙ ap (last_or 0) it.1 in
    let there : 0 < count (last_or (get_or firsts l 0) it.0) (list_at q.chains l) = subst (λ (ys : List ℕ). 0 < count (last_or (get_or firsts l 0) it.0) ys) (sym it.1) (last_in (get_or firsts l 0) it.0) in
    omega (arith, last, chain_in firsts lasts nexts free q.chains q.spares q.chained l (last_or (get_or firsts l 0) it.0) there)

-- the cells of a list come to an end, and are as many as its values
pub leads_out : (firsts lasts nexts : List ℕ) (free spare l x : ℕ) → AreQueues firsts lasts nexts free spare → l < length firsts → x ≡ get_or firsts l 0 → LeadsOut nexts x
leads_out firsts lasts nexts free spare l x q l_in at =
    let is : walked nexts (get_or firsts l 0) ≡ list_at q.chains l = walk_is firsts lasts nexts free q.chains q.spares q.chained l l_in in
    rw at
    record {
      leads = rw is (q.chained.leads l l_in);
      within = λ y some. chain_in firsts lasts nexts free q.chains q.spares q.chained l y (omega (arith, some, ap (count y) is));
      small = q.chained.small;
    }

pub spares_are_few : (firsts lasts nexts : List ℕ) (free spare : ℕ) → AreQueues firsts lasts nexts free spare → spare ≤ no_cell
spares_are_few firsts lasts nexts free spare q = omega (arith, q.as_many, spares_few firsts lasts nexts free q.chains q.spares q.chained, q.chained.small)

-- no lists and no cells
pub none_at_first : AreQueues [] [] [] no_cell 0
none_at_first = record {
  chains = [];
  spares = [];
  chained = record {
    as_many = refl;
    pairs = refl;
    leads = λ l l_in. absurd (omega arith);
    ends = λ l some. absurd (omega arith);
    loose = refl;
    once = λ x. omega arith;
    within = λ x some. absurd (omega arith);
    small = omega arith;
  };
  as_many = refl;
}

module _ {T : Type 0} where
  -- values that differ at other cells
  picked_same : (values values' : List (Option T)) (xs : List ℕ) → ((x : ℕ) → 0 < count x xs → get_or values' x None ≡ get_or values x None) → picked values' xs ≡ picked values xs
  picked_same values values' [] same = refl
  picked_same values values' (x ∷ xs) same =
      ap (λ (o : Option T). option_to_list o ++ picked values' xs) (same x (omega (arith, count_head x xs)))
      ∙ ap (λ (vs : List T). option_to_list (get_or values x None) ++ vs) (picked_same values values' xs (λ y some. same y (omega (arith, some))))

  all_same : (values values' : List (Option T)) (chains : List (List ℕ)) → ((x : ℕ) → 0 < in_all x chains → get_or values' x None ≡ get_or values x None) → map (picked values') chains ≡ map (picked values) chains
  all_same values values' [] same = refl
  all_same values values' (xs ∷ chains) same =
      ap (λ (vs : List T). vs ∷ map (picked values') chains) (picked_same values values' xs (λ x some. same x (omega (arith, some))))
      ∙ ap (λ (ls : List (List T)). picked values xs ∷ ls) (all_same values values' chains (λ x some. same x (omega (arith, some))))

  picked-append : (values : List (Option T)) (xs ys : List ℕ) → picked values (xs ++ ys) ≡ picked values xs ++ picked values ys
  picked-append values [] ys = refl
  picked-append values (x ∷ xs) ys =
      ap (λ (vs : List T). option_to_list (get_or values x None) ++ vs) (picked-append values xs ys)
      ∙ sym (append_assoc (option_to_list (get_or values x None)) (picked values xs) (picked values ys))

  one_value : (o : Option T) → is_some o ≡ true → length (option_to_list o) ≡ 1
  one_value None some = absurd (false≢true some)
  one_value (Some v) some = refl

  picked_count : (values : List (Option T)) (xs : List ℕ) → ((x : ℕ) → 0 < count x xs → is_some (get_or values x None) ≡ true) → length (picked values xs) ≡ length xs
  picked_count values [] valued = refl
  picked_count values (x ∷ xs) valued =
      omega (arith, length-append (option_to_list (get_or values x None)) (picked values xs), one_value (get_or values x None) (valued x (omega (arith, count_head x xs))), picked_count values xs (λ y some. valued y (omega (arith, some))))

  drop_value : (o : Option T) (vs : List T) → is_some o ≡ true → drop 1 (option_to_list o ++ vs) ≡ vs
  drop_value None vs some = absurd (false≢true some)
  drop_value (Some v) vs some = refl

  first_value : (o : Option T) (vs : List T) → is_some o ≡ true → slice_get (option_to_list o ++ vs) 0 ≡ o
  first_value None vs some = absurd (false≢true some)
  first_value (Some v) vs some = refl

  module _ (firsts lasts nexts : List ℕ) (values : List (Option T)) (free : ℕ) (chains : List (List ℕ)) (spares : List ℕ) (h : AreChained firsts lasts nexts free chains spares) where
    seen : queues_of firsts nexts values ≡ map (picked values) chains
    seen =
        let long : length (queues_of firsts nexts values) ≡ length firsts = length-map firsts (λ (c : ℕ). picked values (walked nexts c)) in
        ext_get_or [] (queues_of firsts nexts values) (map (picked values) chains)
        (omega (arith, long, h.as_many, length-map chains (picked values)))
        (λ l l_in.
        let l_in' : l < length firsts = omega (arith, l_in, long) in
        get_or-map (λ (c : ℕ). picked values (walked nexts c)) firsts l 0 [] l_in'
        ∙ ap (picked values) (walk_is firsts lasts nexts free chains spares h l l_in')
        ∙ sym (get_or-map (picked values) chains l [] [] (omega (arith, l_in', h.as_many))))

    seen_at : (l : ℕ) → l < length firsts → list_at (queues_of firsts nexts values) l ≡ picked values (list_at chains l)
    seen_at l l_in =
        ap (λ (ls : List (List T)). list_at ls l) seen
        ∙ get_or-map (picked values) chains l [] [] (omega (arith, l_in, h.as_many))

  pub queue_count : (firsts nexts : List ℕ) (values : List (Option T)) → length (queues_of firsts nexts values) ≡ length firsts
  queue_count firsts nexts values = length-map firsts (λ (c : ℕ). picked values (walked nexts c))

  -- the number of a list is one of its ends
  pub first_in : (ends : List Ends) (nexts : List ℕ) (values : List (Option T)) (lists : List (List T)) (l : ℕ) → queues_of (firsts_of ends) nexts values ≡ lists → l < length lists → l < length (firsts_of ends)
  first_in ends nexts values lists l is l_in = omega (arith, l_in, ap (length {A = List T}) is, queue_count (firsts_of ends) nexts values)

  pub list_in : (ends : List Ends) (nexts : List ℕ) (values : List (Option T)) (lists : List (List T)) (l : ℕ) → queues_of (firsts_of ends) nexts values ≡ lists → l < length lists → l < length ends
  list_in ends nexts values lists l is l_in = omega (arith, first_in ends nexts values lists l is l_in, long_firsts ends)

  -- one list has other values, where the cells of the others keep theirs
  renewed : (firsts lasts nexts : List ℕ) (values : List (Option T)) (free : ℕ) (chains : List (List ℕ)) (spares : List ℕ) (firsts' lasts' nexts' : List ℕ) (values' : List (Option T)) (free' l : ℕ) (ys spares' : List ℕ) → AreChained firsts lasts nexts free chains spares → AreChained firsts' lasts' nexts' free' (set chains l ys) spares' → ((x : ℕ) → 0 < in_all x chains → get_or values' x None ≡ get_or values x None) → queues_of firsts' nexts' values' ≡ set (queues_of firsts nexts values) l (picked values' ys)
  renewed firsts lasts nexts values free chains spares firsts' lasts' nexts' values' free' l ys spares' h h' same =
      seen firsts' lasts' nexts' values' free' (set chains l ys) spares' h'
      ∙ map-set (picked values') chains l ys
      ∙ ap (λ (ls : List (List T)). set ls l (picked values' ys)) (all_same values values' chains same ∙ sym (seen firsts lasts nexts values free chains spares h))

  -- a list with a first cell has its value first, and one with none is empty
  pub front_some : (firsts lasts nexts : List ℕ) (values : List (Option T)) (free spare l x : ℕ) → AreQueues firsts lasts nexts free spare → ((y : ℕ) → y < length nexts → is_some (get_or values y None) ≡ true) → l < length firsts → x ≡ get_or firsts l 0 → x ≢ no_cell → (x < length nexts) × (slice_get (list_at (queues_of firsts nexts values) l) 0 ≡ get_or values x None)
  front_some firsts lasts nexts values free spare l x q valued l_in at differs =
      let it = chain_some firsts lasts nexts free q.chains q.spares q.chained l l_in (λ e. differs (at ∙ e)) in
      let is : list_at q.chains l ≡ x ∷ it.0 = it.1 ∙ ap (λ (y : ℕ). y ∷ it.0) (sym at) in
      let x_in : x < length nexts = chain_in firsts lasts nexts free q.chains q.spares q.chained l x (omega (arith, ap (count x) is, count_head x it.0)) in (
        x_in,
        ap (λ (vs : List T). slice_get vs 0) (seen_at firsts lasts nexts values free q.chains q.spares q.chained l l_in ∙ ap (picked values) is)
            ∙ first_value (get_or values x None) (picked values it.0) (valued x x_in),
      )

  pub front_none : (firsts lasts nexts : List ℕ) (values : List (Option T)) (free spare l : ℕ) → AreQueues firsts lasts nexts free spare → l < length firsts → get_or firsts l 0 ≡ no_cell → list_at (queues_of firsts nexts values) l ≡ []
  front_none firsts lasts nexts values free spare l q l_in none =
      seen_at firsts lasts nexts values free q.chains q.spares q.chained l l_in
      ∙ ap (picked values) (chain_none firsts lasts nexts free q.chains q.spares q.chained l l_in none)

  -- nothing comes out of an empty list
  pub pops_none : (lists : List (List T)) (l : ℕ) → list_at lists l ≡ [] → set lists l (drop 1 (list_at lists l)) ≡ lists
  pops_none lists l none =
      ap (λ (vs : List T). set lists l (drop 1 vs)) none ∙ ap (set lists l) (sym none) ∙ set-get_or lists l []

  -- the first cell of a list is spare then
  pub pops : (firsts lasts nexts : List ℕ) (values : List (Option T)) (free spare l x n : ℕ) (firsts' lasts' nexts' : List ℕ) (values' : List (Option T)) → AreQueues firsts lasts nexts free spare → ((y : ℕ) → y < length nexts → is_some (get_or values y None) ≡ true) → l < length firsts → x ≡ get_or firsts l 0 → x ≢ no_cell → n ≡ get_or nexts x 0 → firsts' ≡ set firsts l n → lasts' ≡ lasts → nexts' ≡ set nexts x free → values' ≡ values → (AreQueues firsts' lasts' nexts' x (spare + 1)) × (queues_of firsts' nexts' values' ≡ set (queues_of firsts nexts values) l (drop 1 (list_at (queues_of firsts nexts values) l)))
  pops firsts lasts nexts values free spare l x n firsts' lasts' nexts' values' q valued l_in at differs next firsts_are lasts_are nexts_are values_are =
      let it = chain_some firsts lasts nexts free q.chains q.spares q.chained l l_in (λ e. differs (at ∙ e)) in
      let is : list_at q.chains l ≡ x ∷ it.0 = it.1 ∙ ap (λ (y : ℕ). y ∷ it.0) (sym at) in
      let x_in : x < length nexts = chain_in firsts lasts nexts free q.chains q.spares q.chained l x (omega (arith, ap (count x) is, count_head x it.0)) in
      let done : AreChained firsts' lasts' nexts' x (set q.chains l it.0) (x ∷ q.spares) = rw (firsts_are, lasts_are, nexts_are, next) (popped firsts lasts nexts free q.chains q.spares q.chained l x it.0 l_in is) in
      let rest : picked values' it.0 ≡ drop 1 (list_at (queues_of firsts nexts values) l) =
      ap (λ (vs : List (Option T)). picked vs it.0) values_are
      ∙ sym (drop_value (get_or values x None) (picked values it.0) (valued x x_in))
      ∙ ap (λ (vs : List T). drop 1 vs) (sym (seen_at firsts lasts nexts values free q.chains q.spares q.chained l l_in ∙ ap (picked values) is)) in (
        record { chains = set q.chains l it.0; spares = x ∷ q.spares; chained = done; as_many = omega (arith, q.as_many) },
        renewed firsts lasts nexts values free q.chains q.spares firsts' lasts' nexts' values' x l it.0 (x ∷ q.spares) q.chained done (λ y some. ap (λ (vs : List (Option T)). get_or vs y None) values_are)
            ∙ ap (set (queues_of firsts nexts values) l) rest,
      )

  -- the first spare cell goes to the back of a list, with a value
  pub pushes : (firsts lasts nexts : List ℕ) (values : List (Option T)) (free spare spare' l n : ℕ) (v : T) (nexts₁ firsts' lasts' nexts' : List ℕ) (values' : List (Option T)) → AreQueues firsts lasts nexts free spare → length values ≡ length nexts → 0 < spare → spare' + 1 ≡ spare → l < length firsts → n ≡ get_or nexts free 0 → nexts₁ ≡ set nexts free no_cell → firsts' ≡ firsts_joined firsts l free → lasts' ≡ set lasts l free → nexts' ≡ nexts_joined firsts lasts nexts₁ l free → values' ≡ set values free (Some v) → (AreQueues firsts' lasts' nexts' n spare') × (queues_of firsts' nexts' values' ≡ set (queues_of firsts nexts values) l (list_at (queues_of firsts nexts values) l ++ v ∷ []))
  pushes firsts lasts nexts values free spare spare' l n v nexts₁ firsts' lasts' nexts' values' q as_many some one l_in next nexts₁_are firsts_are lasts_are nexts_are values_are =
      let it = spare_first firsts lasts nexts free spare q some in
      let parts : (y : ℕ) → count y q.spares ≡ count y (free ∷ []) + count y it.0 = λ y. omega (arith, ap (count y) it.1) in
      let loose : Leads nexts free (free ∷ it.0) no_cell = subst (λ (ss : List ℕ). Leads nexts free ss no_cell) it.1 q.chained.loose in
      let off : (y : ℕ) → y ≢ free → get_or (set nexts free no_cell) y 0 ≡ get_or nexts y 0 = λ y other. get_or-set_other nexts free y no_cell 0 other in
      let done : AreChained firsts' lasts' nexts' n (set q.chains l (list_at q.chains l ++ free ∷ [])) it.0 =
      rw (firsts_are, lasts_are, nexts_are, nexts₁_are, next)
      (joined firsts lasts nexts free q.chains q.spares q.chained l free [] it.0 (set nexts free no_cell) (get_or nexts free 0) l_in parts
      (length-set nexts free no_cell)
      (λ y none. off y (λ e. omega (arith, none, parts free, count_head free [], ap (λ (z : ℕ). count z q.spares) e)))
      (refl, get_or-set_same nexts free no_cell 0 it.2)
      (leads_same nexts (set nexts free no_cell) (get_or nexts free 0) it.0 no_cell loose.1
      (λ y some. off y (λ e. omega (arith, some, q.chained.once free, parts free, count_head free [], ap (λ (z : ℕ). count z it.0) e))))) in
      let apart : (y : ℕ) → 0 < in_all y q.chains → get_or values' y None ≡ get_or values y None = λ y some.
      ap (λ (vs : List (Option T)). get_or vs y None) values_are
      ∙ get_or-set_other values free y (Some v) None (λ e. omega (arith, some, q.chained.once free, parts free, count_head free [], ap (λ (z : ℕ). in_all z q.chains) e)) in
      let put : get_or values' free None ≡ Some v = ap (λ (vs : List (Option T)). get_or vs free None) values_are ∙ get_or-set_same values free (Some v) None (omega (arith, as_many, it.2)) in
      let picks : picked values' (list_at q.chains l ++ free ∷ []) ≡ list_at (queues_of firsts nexts values) l ++ v ∷ [] =
      picked-append values' (list_at q.chains l) (free ∷ [])
      ∙ ap (λ (o : Option T). picked values' (list_at q.chains l) ++ (option_to_list o ++ [])) put
      ∙ ap (λ (vs : List T). vs ++ v ∷ [])
      (picked_same values values' (list_at q.chains l) (λ y some. apart y (omega (arith, some, count_in_all y q.chains l)))
      ∙ sym (seen_at firsts lasts nexts values free q.chains q.spares q.chained l l_in)) in (
        record { chains = set q.chains l (list_at q.chains l ++ free ∷ []); spares = it.0; chained = done; as_many = omega (arith, one, q.as_many, ap (length {A = ℕ}) it.1) },
        renewed firsts lasts nexts values free q.chains q.spares firsts' lasts' nexts' values' n l (list_at q.chains l ++ free ∷ []) it.0 q.chained done apart
            ∙ ap (set (queues_of firsts nexts values) l) picks,
      )

  pub walk_count : (firsts lasts nexts : List ℕ) (values : List (Option T)) (free spare l x : ℕ) → AreQueues firsts lasts nexts free spare → ((y : ℕ) → y < length nexts → is_some (get_or values y None) ≡ true) → l < length firsts → x ≡ get_or firsts l 0 → length (walked nexts x) ≡ length (list_at (queues_of firsts nexts values) l)
  walk_count firsts lasts nexts values free spare l x q valued l_in at =
      ap (λ (y : ℕ). length (walked nexts y)) at
      ∙ ap (length {A = ℕ}) (walk_is firsts lasts nexts free q.chains q.spares q.chained l l_in)
      ∙ sym (ap (length {A = T}) (seen_at firsts lasts nexts values free q.chains q.spares q.chained l l_in)
      ∙ picked_count values (list_at q.chains l) (λ y some. valued y (chain_in firsts lasts nexts free q.chains q.spares q.chained l y some)))

  -- all cells of a list go to the back of another
  pub appends : (firsts lasts nexts : List ℕ) (values : List (Option T)) (free spare to from x last : ℕ) (firsts₁ firsts' lasts₁ lasts' nexts' : List ℕ) (values' : List (Option T)) → AreQueues firsts lasts nexts free spare → to < length firsts → from < length firsts → to ≢ from → x ≡ get_or firsts from 0 → x ≢ no_cell → last ≡ get_or lasts from 0 → firsts₁ ≡ set firsts from no_cell → lasts₁ ≡ lasts → firsts' ≡ firsts_joined firsts₁ to x → lasts' ≡ set lasts₁ to last → nexts' ≡ nexts_joined firsts₁ lasts₁ nexts to x → values' ≡ values → (AreQueues firsts' lasts' nexts' free spare) × (queues_of firsts' nexts' values' ≡ set (set (queues_of firsts nexts values) to (list_at (queues_of firsts nexts values) to ++ list_at (queues_of firsts nexts values) from)) from [])
  appends firsts lasts nexts values free spare to from x last firsts₁ firsts' lasts₁ lasts' nexts' values' q to_in from_in differ at some last_is firsts₁_are lasts₁_are firsts_are lasts_are nexts_are values_are =
      let it = chain_some firsts lasts nexts free q.chains q.spares q.chained from from_in (λ e. some (at ∙ e)) in
      let is : list_at q.chains from ≡ x ∷ it.0 = it.1 ∙ ap (λ (y : ℕ). y ∷ it.0) (sym at) in
      let ends : last ≡ last_or x it.0 = last_is ∙ sym (q.chained.ends from (omega (arith, ap (length {A = ℕ}) is))) ∙ ap (last_or 0) is in
      let loose = loosened firsts lasts nexts free q.chains q.spares q.chained from x it.0 from_in is in
      let leads : Leads nexts (get_or firsts from 0) (x ∷ it.0) no_cell = subst (λ (ys : List ℕ). Leads nexts (get_or firsts from 0) ys no_cell) is (q.chained.leads from from_in) in
      let own : Leads nexts x (x ∷ it.0) no_cell = (refl, leads.1) in
      let to_stays : list_at (set q.chains from []) to ≡ list_at q.chains to = get_or-set_other q.chains from to [] [] differ in
      let there : 0 < count (last_or x it.0) (x ∷ it.0) = last_in x it.0 in
      let parts : (y : ℕ) → count y ((x ∷ it.0) ++ q.spares) ≡ count y (x ∷ it.0) + count y q.spares = λ y. count-append y (x ∷ it.0) q.spares in
      let done : AreChained firsts' lasts' nexts' free (set (set q.chains from []) to (list_at (set q.chains from []) to ++ x ∷ it.0)) q.spares =
      rw (firsts_are, lasts_are, nexts_are, firsts₁_are, lasts₁_are, ends)
      (joined (set firsts from no_cell) lasts (set nexts (last_or x it.0) free) x (set q.chains from []) ((x ∷ it.0) ++ q.spares) loose to x it.0 q.spares nexts free
      (omega (arith, to_in, length-set firsts from no_cell)) parts
      (sym (length-set nexts (last_or x it.0) free))
      (λ y none. sym (get_or-set_other nexts (last_or x it.0) y free 0 (λ e. omega (arith, none, parts y, there, ap (λ (z : ℕ). count z (x ∷ it.0)) e))))
      own q.chained.loose) in
      let emptied : queues_of (set firsts from no_cell) (set nexts (last_or x it.0) free) values ≡ set (queues_of firsts nexts values) from [] =
      renewed firsts lasts nexts values free q.chains q.spares (set firsts from no_cell) lasts (set nexts (last_or x it.0) free) values x from [] ((x ∷ it.0) ++ q.spares) q.chained loose (λ y some. refl) in
      let picks : picked values' (list_at (set q.chains from []) to ++ x ∷ it.0) ≡ list_at (queues_of firsts nexts values) to ++ list_at (queues_of firsts nexts values) from =
      ap (λ (vs : List (Option T)). picked vs (list_at (set q.chains from []) to ++ x ∷ it.0)) values_are
      ∙ ap (λ (ys : List ℕ). picked values (ys ++ x ∷ it.0)) to_stays
      ∙ ap (λ (ys : List ℕ). picked values (list_at q.chains to ++ ys)) (sym is)
      ∙ picked-append values (list_at q.chains to) (list_at q.chains from)
      ∙ ap (λ (vs : List T). vs ++ picked values (list_at q.chains from)) (sym (seen_at firsts lasts nexts values free q.chains q.spares q.chained to to_in))
      ∙ ap (λ (vs : List T). list_at (queues_of firsts nexts values) to ++ vs) (sym (seen_at firsts lasts nexts values free q.chains q.spares q.chained from from_in)) in (
        record { chains = set (set q.chains from []) to (list_at (set q.chains from []) to ++ x ∷ it.0); spares = q.spares; chained = done; as_many = q.as_many },
        renewed (set firsts from no_cell) lasts (set nexts (last_or x it.0) free) values x (set q.chains from []) ((x ∷ it.0) ++ q.spares) firsts' lasts' nexts' values' free to (list_at (set q.chains from []) to ++ x ∷ it.0) q.spares loose done (λ y some. ap (λ (vs : List (Option T)). get_or vs y None) values_are)
            ∙ ap (λ (ls : List (List T)). set ls to (picked values' (list_at (set q.chains from []) to ++ x ∷ it.0))) emptied
            ∙ ap (set (set (queues_of firsts nexts values) from []) to) picks
            ∙ set_swap (queues_of firsts nexts values) from to [] (list_at (queues_of firsts nexts values) to ++ list_at (queues_of firsts nexts values) from) (λ e. differ (sym e)),
      )

  -- an empty list goes to the back of another
  pub appends_none : (lists : List (List T)) (to from : ℕ) → list_at lists from ≡ [] → set (set lists to (list_at lists to ++ list_at lists from)) from [] ≡ lists
  appends_none lists to from none =
      ap (λ (vs : List T). set (set lists to (list_at lists to ++ vs)) from []) none
      ∙ ap (λ (vs : List T). set (set lists to vs) from []) (append-nil (list_at lists to))
      ∙ ap (λ (ls : List (List T)). set ls from []) (set-get_or lists to [])
      ∙ ap (set lists from) (sym none)
      ∙ set-get_or lists from []

  -- one more list, and one more spare cell
  pub lists_one : (firsts lasts nexts : List ℕ) (values : List (Option T)) (free spare d : ℕ) (firsts' lasts' : List ℕ) → AreQueues firsts lasts nexts free spare → firsts' ≡ firsts ++ no_cell ∷ [] → lasts' ≡ lasts ++ d ∷ [] → (AreQueues firsts' lasts' nexts free spare) × (queues_of firsts' nexts values ≡ queues_of firsts nexts values ++ [] ∷ [])
  lists_one firsts lasts nexts values free spare d firsts' lasts' q firsts_are lasts_are =
      let done : AreChained firsts' lasts' nexts free (q.chains ++ [] ∷ []) q.spares = rw (firsts_are, lasts_are) (listed firsts lasts nexts free q.chains q.spares q.chained d) in (
        record { chains = q.chains ++ [] ∷ []; spares = q.spares; chained = done; as_many = q.as_many },
        seen firsts' lasts' nexts values free (q.chains ++ [] ∷ []) q.spares done
            ∙ map-append (picked values) q.chains ([] ∷ [])
            ∙ ap (λ (ls : List (List T)). ls ++ [] ∷ []) (sym (seen firsts lasts nexts values free q.chains q.spares q.chained)),
      )

  pub spares_one : (firsts lasts nexts : List ℕ) (values : List (Option T)) (free spare c : ℕ) (v : T) (nexts' : List ℕ) (values' : List (Option T)) → AreQueues firsts lasts nexts free spare → length values ≡ length nexts → length nexts < no_cell → c ≡ length nexts → nexts' ≡ nexts ++ free ∷ [] → values' ≡ values ++ Some v ∷ [] → (AreQueues firsts lasts nexts' c (spare + 1)) × (queues_of firsts nexts' values' ≡ queues_of firsts nexts values)
  spares_one firsts lasts nexts values free spare c v nexts' values' q as_many few c_is nexts_are values_are =
      let done : AreChained firsts lasts nexts' c q.chains (c ∷ q.spares) = rw (c_is, nexts_are) (spread firsts lasts nexts free q.chains q.spares q.chained few) in (
        record { chains = q.chains; spares = c ∷ q.spares; chained = done; as_many = omega (arith, q.as_many) },
        seen firsts lasts nexts' values' c q.chains (c ∷ q.spares) done
            ∙ all_same values values' q.chains
            (λ x some.
            ap (λ (vs : List (Option T)). get_or vs x None) values_are
            ∙ get_or_append_left values (Some v ∷ []) None x (omega (arith, as_many, q.chained.within x (omega (arith, some)))))
            ∙ sym (seen firsts lasts nexts values free q.chains q.spares q.chained),
      )
