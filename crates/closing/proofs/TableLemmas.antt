-- The table of keys, as it grows by a key or a group.
use Rattle.std.proofs.Common.{◌≡◌, ◌∙◌, refl, sym, ap, subst, ℕ, zero, suc, ◌<◌, ◌≤◌, List, [], ◌∷◌, ◌++◌, length, Option, Some, None, inl, inr, arith, length-append}
use Rattle.std.specs.Prelude.{unwrap_or}
use Rattle.std.specs.List.{slice_get, range_with_len}
use Rattle.std.proofs.lemmas.Option.{slice_get_within}
use Rattle.std.proofs.lemmas.List.FromFn.{length-range_with_len}
use Rattle.closing.specs.Keys.{Key, World, group_of_key}
use Rattle.closing.specs.Table.{Table, group_or_none, group_at, group_by_code, group_place}
use Rattle.closing.specs.inner.Table.{IsTable, Grows, IsPlaced, IsSameOrMore, IsEachOnce, HasKey, HasGroup, key_of, keys_from, keys_in, key_or_world, ranks_in}
use Rattle.closing.specs.declared.keys.Key.{Key as KeyCode}
use Rattle.closing.specs.declared.keys.Key.TheVariants as code
use Rattle.closing.proofs.PlaceListLemmas.{got_before, got_last, got_or_last, got_within, or_before, once_with}

-- ---- The keys ----

keys_from_with : (groups : List (List ℕ)) (keys : List Key) (codes : List KeyCode) (it : KeyCode)
    → keys_from groups keys (codes ++ it ∷ []) ≡ keys_from groups keys codes ++ key_of groups (keys_from groups keys codes) it ∷ []
keys_from_with groups keys [] it = refl
keys_from_with groups keys (c ∷ codes) it = keys_from_with groups (keys ++ key_of groups keys c ∷ []) codes it

-- a placed key is what it was, by more groups or keys
key_of_more_groups : (groups more : List (List ℕ)) (keys : List Key) (count : ℕ) (it : KeyCode) → IsPlaced groups count it
    → key_of (groups ++ more) keys it ≡ key_of groups keys it
key_of_more_groups groups more keys count code.World p = refl
key_of_more_groups groups more keys count (code.Alone rank group) p = refl
key_of_more_groups groups more keys count (code.Made wave group) p =
    let e : group_or_none (groups ++ more) group ≡ group_or_none groups group = or_before groups more group [] p.1 in cc
key_of_more_groups groups more keys count (code.Duplicated wave group) p =
    let e : group_or_none (groups ++ more) group ≡ group_or_none groups group = or_before groups more group [] p.1 in cc
key_of_more_groups groups more keys count (code.OfGroup group times) p =
    let e : group_or_none (groups ++ more) group ≡ group_or_none groups group = or_before groups more group [] p in cc
key_of_more_groups groups more keys count (code.Apart group times) p =
    let e : group_or_none (groups ++ more) group ≡ group_or_none groups group = or_before groups more group [] p in cc

pub key_of_more_keys : (groups : List (List ℕ)) (keys more : List Key) (count : ℕ) (it : KeyCode) → IsPlaced groups count it → count ≤ length keys
    → key_of groups (keys ++ more) it ≡ key_of groups keys it
key_of_more_keys groups keys more count code.World p few = refl
key_of_more_keys groups keys more count (code.Alone rank group) p few = refl
key_of_more_keys groups keys more count (code.Made wave group) p few =
    let e : key_or_world (keys ++ more) wave.parent ≡ key_or_world keys wave.parent = or_before keys more wave.parent World (omega arith) in cc
key_of_more_keys groups keys more count (code.Duplicated wave group) p few =
    let e : key_or_world (keys ++ more) wave.parent ≡ key_or_world keys wave.parent = or_before keys more wave.parent World (omega arith) in cc
key_of_more_keys groups keys more count (code.OfGroup group times) p few = refl
key_of_more_keys groups keys more count (code.Apart group times) p few = refl

pub placed_more : (groups more : List (List ℕ)) (count most : ℕ) (it : KeyCode) → IsPlaced groups count it → count ≤ most → IsPlaced (groups ++ more) most it
placed_more groups more count most code.World p few = tt
placed_more groups more count most (code.Alone rank group) p few = got_before groups more group (rank ∷ []) p
placed_more groups more count most (code.Made wave group) p few = (omega arith, omega (arith, length-append groups more))
placed_more groups more count most (code.Duplicated wave group) p few = (omega arith, omega (arith, length-append groups more))
placed_more groups more count most (code.OfGroup group times) p few = omega (arith, length-append groups more)
placed_more groups more count most (code.Apart group times) p few = omega (arith, length-append groups more)

pub placed_upto : (groups : List (List ℕ)) (count most : ℕ) (it : KeyCode) → IsPlaced groups count it → count ≤ most → IsPlaced groups most it
placed_upto groups count most code.World p few = tt
placed_upto groups count most (code.Alone rank group) p few = p
placed_upto groups count most (code.Made wave group) p few = (omega arith, p.1)
placed_upto groups count most (code.Duplicated wave group) p few = (omega arith, p.1)
placed_upto groups count most (code.OfGroup group times) p few = p
placed_upto groups count most (code.Apart group times) p few = p

keys_from_more_groups : (groups more : List (List ℕ)) (keys : List Key) (codes : List KeyCode)
    → ((n : ℕ) (it : KeyCode) → slice_get codes n ≡ Some it → (count : ℕ) × IsPlaced groups count it)
    → keys_from (groups ++ more) keys codes ≡ keys_from groups keys codes
keys_from_more_groups groups more keys [] placed = refl
keys_from_more_groups groups more keys (c ∷ codes) placed =
    let at = placed 0 c refl in
    ap (λ (key : Key). keys_from (groups ++ more) (keys ++ key ∷ []) codes) (key_of_more_groups groups more keys at.0 c at.1)
    ∙ keys_from_more_groups groups more (keys ++ key_of groups keys c ∷ []) codes (λ n it e. placed (suc n) it e)

-- ---- One key has one place ----

one_group : (groups : List (List ℕ)) (place other : ℕ) → IsEachOnce groups → place < length groups → other < length groups
    → group_or_none groups place ≡ group_or_none groups other → place ≡ other
one_group groups place other once here there e =
    let a = got_within groups place here in
    let b = got_within groups other there in
    let first : group_or_none groups place ≡ a.0 = ap (λ (o : Option (List ℕ)). unwrap_or o []) a.1 in
    let second : group_or_none groups other ≡ b.0 = ap (λ (o : Option (List ℕ)). unwrap_or o []) b.1 in
    once place other a.0 a.1 (b.1 ∙ ap (λ (g : List ℕ). Some g) (sym second ∙ sym e ∙ first))

one_key : (keys : List Key) (place other : ℕ) → IsEachOnce keys → place < length keys → other < length keys
    → key_or_world keys place ≡ key_or_world keys other → place ≡ other
one_key keys place other once here there e =
    let a = got_within keys place here in
    let b = got_within keys other there in
    let first : key_or_world keys place ≡ a.0 = ap (λ (o : Option Key). unwrap_or o World) a.1 in
    let second : key_or_world keys other ≡ b.0 = ap (λ (o : Option Key). unwrap_or o World) b.1 in
    once place other a.0 a.1 (b.1 ∙ ap (λ (k : Key). Some k) (sym second ∙ sym e ∙ first))

-- keys of the code that are the same key are the same
pub one_code : (groups : List (List ℕ)) (keys : List Key) (count : ℕ) (a b : KeyCode) → IsEachOnce groups → IsEachOnce keys → count ≤ length keys
    → IsPlaced groups count a → IsPlaced groups count b → key_of groups keys a ≡ key_of groups keys b → a ≡ b
one_code groups keys count code.World code.World groups_once keys_once few p q e = refl
one_code groups keys count (code.Alone rank group) (code.Alone rank' group') groups_once keys_once few p q e =
    let same : rank ≡ rank' = cc in
    let place : group ≡ group' = groups_once group group' (rank ∷ []) p (q ∙ ap (λ (r : ℕ). Some (r ∷ [])) (sym same)) in
    cc
one_code groups keys count (code.Made wave group) (code.Made wave' group') groups_once keys_once few p q e =
    let parent : wave.parent ≡ wave'.parent = one_key keys wave.parent wave'.parent keys_once (omega arith) (omega arith) (cc) in
    let times : wave.count ≡ wave'.count = cc in
    let place : group ≡ group' = one_group groups group group' groups_once p.1 q.1 (cc) in
    (λ i. code.Made (record { parent = parent i; count = times i }) (place i))
one_code groups keys count (code.Duplicated wave group) (code.Duplicated wave' group') groups_once keys_once few p q e =
    let parent : wave.parent ≡ wave'.parent = one_key keys wave.parent wave'.parent keys_once (omega arith) (omega arith) (cc) in
    let times : wave.count ≡ wave'.count = cc in
    let place : group ≡ group' = one_group groups group group' groups_once p.1 q.1 (cc) in
    (λ i. code.Duplicated (record { parent = parent i; count = times i }) (place i))
one_code groups keys count (code.OfGroup group times) (code.OfGroup group' times') groups_once keys_once few p q e =
    let place : group ≡ group' = one_group groups group group' groups_once p q (cc) in
    cc
one_code groups keys count (code.Apart group times) (code.Apart group' times') groups_once keys_once few p q e =
    let place : group ≡ group' = one_group groups group group' groups_once p q (cc) in
    cc
one_code groups keys count a b groups_once keys_once few p q e = cc

-- ---- One more key ----

abbrev pub with_code : Table → KeyCode → Table
with_code table it = record { codes = table.codes ++ it ∷ []; groups = table.groups }

abbrev pub with_group : Table → List ℕ → Table
with_group table group = record { codes = table.codes; groups = table.groups ++ group ∷ [] }

keys_with_code : (table : Table) (it : KeyCode) → keys_in (with_code table it) ≡ keys_in table ++ key_of table.groups (keys_in table) it ∷ []
unfolding keys_in
keys_with_code table it = keys_from_with table.groups [] table.codes it

keys_with_group : (table : Table) (group : List ℕ) → IsTable table → keys_in (with_group table group) ≡ keys_in table
unfolding keys_in
keys_with_group table group is = keys_from_more_groups table.groups (group ∷ []) [] table.codes (λ n it e. (n, is.placed n it e))

placed_within : (table : Table) → IsTable table → (n : ℕ) (it : KeyCode) → slice_get table.codes n ≡ Some it → n ≤ length (keys_in table)
placed_within table is n it e = omega (arith, slice_get_within table.codes n it e, is.long)

-- a key that isn't there is no key that is there
new_key : (table : Table) (it : KeyCode) → IsTable table → IsPlaced table.groups (length table.codes) it → ((n : ℕ) → slice_get table.codes n ≡ Some it → ⊥)
    → (n : ℕ) → HasKey table n (key_of table.groups (keys_in table) it) → ⊥
new_key table it is placed new n h =
    let k = key_of table.groups (keys_in table) it in
    let there : n < length table.codes = omega (arith, slice_get_within (keys_in table) n k h, is.long) in
    let old = got_within table.codes n there in
    let reads : HasKey table n (key_of table.groups (keys_in table) old.0) = is.read n old.0 old.1 in
    let same : key_of table.groups (keys_in table) old.0 ≡ k = cc in
    let few : length table.codes ≤ length (keys_in table) = omega (arith, is.long) in
    let own = placed_upto table.groups n (length table.codes) old.0 (is.placed n old.0 old.1) (omega arith) in
    let one : old.0 ≡ it = one_code table.groups (keys_in table) (length table.codes) old.0 it is.groups_once is.keys_once few own placed same in
    new n (old.1 ∙ ap (λ (c : KeyCode). Some c) one)

read_with_code : (table : Table) (it : KeyCode) → IsTable table → IsPlaced table.groups (length table.codes) it
    → (n : ℕ) (c : KeyCode) → slice_get (table.codes ++ it ∷ []) n ≡ Some c
    → slice_get (keys_in table ++ key_of table.groups (keys_in table) it ∷ []) n ≡ Some (key_of table.groups (keys_in table ++ key_of table.groups (keys_in table) it ∷ []) c)
read_with_code table it is placed n c e =
    let keys = keys_in table in
    let k = key_of table.groups keys it in
    elim (got_or_last table.codes it n c e) [
      | inl g ↦
          let same : key_of table.groups (keys ++ k ∷ []) c ≡ key_of table.groups keys c = key_of_more_keys table.groups keys (k ∷ []) n c (is.placed n c g) (placed_within table is n c g) in
          let reads : slice_get (keys ++ k ∷ []) n ≡ Some (key_of table.groups keys c) = got_before keys (k ∷ []) n (key_of table.groups keys c) (is.read n c g) in
          reads ∙ ap (λ (x : Key). Some x) (sym same)
      | inr g ↦
          let same : key_of table.groups (keys ++ k ∷ []) it ≡ k = key_of_more_keys table.groups keys (k ∷ []) (length table.codes) it placed (omega (arith, is.long)) in
          let reads : slice_get (keys ++ k ∷ []) (length keys) ≡ Some k = got_last keys k in
          let here : n ≡ length keys = g.0 ∙ sym is.long in
          rw (here, g.1) (reads ∙ ap (λ (x : Key). Some x) (sym same))
    ]

pub table_with_code : (table : Table) (it : KeyCode) → IsTable table → IsPlaced table.groups (length table.codes) it
    → ((n : ℕ) → slice_get table.codes n ≡ Some it → ⊥) → IsTable (with_code table it)
table_with_code table it is placed new =
    let keys = keys_in table in
    let k = key_of table.groups keys it in
    let e : keys_in (with_code table it) ≡ keys ++ k ∷ [] = keys_with_code table it in
    record {
      long = rw e (omega (arith, length-append keys (k ∷ []), length-append table.codes (it ∷ []), is.long));
      world = rw e (got_before keys (k ∷ []) 0 World is.world);
      ranks = is.ranks;
      placed = λ n c h. elim (got_or_last table.codes it n c h) [
        | inl g ↦ is.placed n c g
        | inr g ↦ rw (g.0, g.1) placed
      ];
      read = λ n c h. rw e (read_with_code table it is placed n c h);
      keys_once = rw e (once_with keys k is.keys_once (new_key table it is placed new));
      groups_once = is.groups_once;
    }

pub grows_code : (table : Table) (it : KeyCode) → IsTable table → IsPlaced table.groups (length table.codes) it
    → ((n : ℕ) → slice_get table.codes n ≡ Some it → ⊥) → Grows table (with_code table it)
grows_code table it is placed new =
    let e : keys_in (with_code table it) ≡ keys_in table ++ key_of table.groups (keys_in table) it ∷ [] = keys_with_code table it in
    record {
      table = table_with_code table it is placed new;
      codes = λ n c h. got_before table.codes (it ∷ []) n c h;
      keys = λ n key h. rw e (got_before (keys_in table) (key_of table.groups (keys_in table) it ∷ []) n key h);
      groups = λ n group h. h;
      ranks = refl;
    }

-- what a key is stays with one more
pub key_with_code : (table : Table) (it : KeyCode) → IsTable table → IsPlaced table.groups (length table.codes) it
    → key_of table.groups (keys_in (with_code table it)) it ≡ key_of table.groups (keys_in table) it
key_with_code table it is placed =
    let keys = keys_in table in
    ap (λ (ks : List Key). key_of table.groups ks it) (keys_with_code table it)
    ∙ key_of_more_keys table.groups keys (key_of table.groups keys it ∷ []) (length table.codes) it placed (omega (arith, is.long))

-- ---- One more group ----

ranks_with_group : (table : Table) (group : List ℕ) → IsTable table → ranks_in (with_group table group) ≡ ranks_in table
ranks_with_group table group is =
    ap length (or_before table.groups (group ∷ []) 0 [] (slice_get_within table.groups 0 (range_with_len 0 (ranks_in table)) is.ranks))

pub table_with_group : (table : Table) (group : List ℕ) → IsTable table → ((n : ℕ) → slice_get table.groups n ≡ Some group → ⊥) → IsTable (with_group table group)
table_with_group table group is new =
    let e : keys_in (with_group table group) ≡ keys_in table = keys_with_group table group is in
    let same = ranks_with_group table group is in
    record {
      long = rw e is.long;
      world = rw e is.world;
      ranks = got_before table.groups (group ∷ []) 0 (range_with_len 0 (ranks_in table)) is.ranks ∙ ap (λ (n : ℕ). Some (range_with_len 0 n)) (sym same);
      placed = λ n c h. placed_more table.groups (group ∷ []) n n c (is.placed n c h) (omega arith);
      read = λ n c h. rw e (is.read n c h ∙ ap (λ (x : Key). Some x) (sym (key_of_more_groups table.groups (group ∷ []) (keys_in table) n c (is.placed n c h))));
      keys_once = rw e is.keys_once;
      groups_once = once_with table.groups group is.groups_once new;
    }

pub grows_group : (table : Table) (group : List ℕ) → IsTable table → ((n : ℕ) → slice_get table.groups n ≡ Some group → ⊥) → Grows table (with_group table group)
grows_group table group is new =
    let e : keys_in (with_group table group) ≡ keys_in table = keys_with_group table group is in
    record {
      table = table_with_group table group is new;
      codes = λ n c h. h;
      keys = λ n key h. rw e h;
      groups = λ n other h. got_before table.groups (group ∷ []) n other h;
      ranks = ranks_with_group table group is;
    }

-- ---- Growth ----

pub grows_same : (table : Table) → IsTable table → Grows table table
grows_same table is = record { table = is; codes = λ n c h. h; keys = λ n key h. h; groups = λ n group h. h; ranks = refl }

pub grows_on : (a b c : Table) → Grows a b → Grows b c → Grows a c
grows_on a b c first second = record {
  table = second.table;
  codes = λ n it h. second.codes n it (first.codes n it h);
  keys = λ n key h. second.keys n key (first.keys n key h);
  groups = λ n group h. second.groups n group (first.groups n group h);
  ranks = second.ranks ∙ first.ranks;
}

-- the codes are the same or one more
pub grows_by_code : (old new : Table) (it : KeyCode) → new.groups ≡ old.groups → IsSameOrMore it old.codes new.codes → IsTable old
    → IsPlaced old.groups (length old.codes) it → Grows old new
grows_by_code old new it groups more is placed = elim more [
  | inl same ↦ subst (λ (t : Table). Grows old t) (λ i. record { codes = sym same i; groups = sym groups i }) (grows_same old is)
  | inr one ↦ subst (λ (t : Table). Grows old t) (λ i. record { codes = sym one.0 i; groups = sym groups i }) (grows_code old it is placed one.1)
]

pub grows_by_group : (old new : Table) (group : List ℕ) → new.codes ≡ old.codes → IsSameOrMore group old.groups new.groups → IsTable old → Grows old new
grows_by_group old new group codes more is = elim more [
  | inl same ↦ subst (λ (t : Table). Grows old t) (λ i. record { codes = sym codes i; groups = sym same i }) (grows_same old is)
  | inr one ↦ subst (λ (t : Table). Grows old t) (λ i. record { codes = sym codes i; groups = sym one.0 i }) (grows_group old group is one.1)
]

-- a key that has a place is what its code is by the table before
pub key_at_code : (old new : Table) (it : KeyCode) (place : ℕ) → new.groups ≡ old.groups → IsSameOrMore it old.codes new.codes → IsTable old
    → IsPlaced old.groups (length old.codes) it → slice_get new.codes place ≡ Some it → HasKey new place (key_of old.groups (keys_in old) it)
key_at_code old new it place groups more is placed at =
    let grows = grows_by_code old new it groups more is placed in
    let reads : HasKey new place (key_of new.groups (keys_in new) it) = grows.table.read place it at in
    let by_keys : key_of old.groups (keys_in new) it ≡ key_of old.groups (keys_in old) it = elim more [
      | inl same ↦ ap (λ (t : Table). key_of old.groups (keys_in t) it) (λ i. record { codes = same i; groups = groups i })
      | inr one ↦ ap (λ (t : Table). key_of old.groups (keys_in t) it) (λ i. record { codes = one.0 i; groups = groups i }) ∙ key_with_code old it is placed
    ] in
    reads ∙ ap (λ (gs : List (List ℕ)). Some (key_of gs (keys_in new) it)) groups ∙ ap (λ (k : Key). Some k) by_keys

-- ---- The group of a key ----

got_group : (groups : List (List ℕ)) (place : ℕ) (group : List ℕ) → slice_get groups place ≡ Some group → group ≡ group_or_none groups place
got_group groups place group e = sym (ap (λ (o : Option (List ℕ)). unwrap_or o []) e)

group_of_code : (table : Table) (it : KeyCode) (place : ℕ) (group : List ℕ) → IsTable table → slice_get table.codes place ≡ Some it
    → slice_get table.groups (group_place it) ≡ Some group → group ≡ group_of_key (ranks_in table) (key_of table.groups (keys_in table) it)
group_of_code table code.World place group is at e =
    let ranks : slice_get table.groups 0 ≡ Some (range_with_len 0 (ranks_in table)) = is.ranks in
    let same : ◌≡◌ {A = Option (List ℕ)} (Some group) (Some (range_with_len 0 (ranks_in table))) = sym e ∙ ranks in
    cc
group_of_code table (code.Alone rank own) place group is at e =
    let alone : slice_get table.groups own ≡ Some (rank ∷ []) = is.placed place (code.Alone rank own) at in
    let same : ◌≡◌ {A = Option (List ℕ)} (Some group) (Some (rank ∷ [])) = sym e ∙ alone in
    cc
group_of_code table (code.Made wave own) place group is at e = got_group table.groups own group e
group_of_code table (code.Duplicated wave own) place group is at e = got_group table.groups own group e
group_of_code table (code.OfGroup own times) place group is at e = got_group table.groups own group e
group_of_code table (code.Apart own times) place group is at e = got_group table.groups own group e

pub group_read : (table : Table) (it : KeyCode) (place : ℕ) (group : List ℕ) (key : Key) → IsTable table → slice_get table.codes place ≡ Some it
    → slice_get table.groups (group_place it) ≡ Some group → HasKey table place key → group ≡ group_of_key (ranks_in table) key
group_read table it place group key is at e has =
    let reads : HasKey table place (key_of table.groups (keys_in table) it) = is.read place it at in
    let same : ◌≡◌ {A = Option Key} (Some (key_of table.groups (keys_in table) it)) (Some key) = sym reads ∙ has in
    let one : key_of table.groups (keys_in table) it ≡ key = cc in
    group_of_code table it place group is at e ∙ ap (λ (k : Key). group_of_key (ranks_in table) k) one

pub placed_group : (table : Table) (it : KeyCode) (count : ℕ) → HasGroup table 0 (range_with_len 0 (ranks_in table)) → IsPlaced table.groups count it
    → (group : List ℕ) × (slice_get table.groups (group_place it) ≡ Some group)
placed_group table code.World count ranks placed = (range_with_len 0 (ranks_in table), ranks)
placed_group table (code.Alone rank own) count ranks placed = (rank ∷ [], placed)
placed_group table (code.Made wave own) count ranks placed = got_within table.groups own placed.1
placed_group table (code.Duplicated wave own) count ranks placed = got_within table.groups own placed.1
placed_group table (code.OfGroup own times) count ranks placed = got_within table.groups own placed
placed_group table (code.Apart own times) count ranks placed = got_within table.groups own placed

pub group_at_code : (table : Table) (it : KeyCode) (place : ℕ) (group : List ℕ) → slice_get table.codes place ≡ Some it → slice_get table.groups (group_place it) ≡ Some group → group ≡ group_at table place
group_at_code table it place group at e =
    sym (ap (λ (o : Option KeyCode). group_by_code table.groups o) at ∙ ap (λ (o : Option (List ℕ)). unwrap_or o []) e)

pub group_at_none : (table : Table) (it : KeyCode) (place : ℕ) → slice_get table.codes place ≡ Some it → slice_get table.groups (group_place it) ≡ None → [] ≡ group_at table place
group_at_none table it place at e =
    sym (ap (λ (o : Option KeyCode). group_by_code table.groups o) at ∙ ap (λ (o : Option (List ℕ)). unwrap_or o []) e)

pub group_past : (table : Table) (place : ℕ) → slice_get table.codes place ≡ None → [] ≡ group_at table place
group_past table place at = sym (ap (λ (o : Option KeyCode). group_by_code table.groups o) at)

-- what stands at the place of a key is its group
pub group_at_is : (table : Table) (place : ℕ) (key : Key) → IsTable table → HasKey table place key → group_at table place ≡ group_of_key (ranks_in table) key
group_at_is table place key is has =
    let at = got_within table.codes place (omega (arith, slice_get_within (keys_in table) place key has, is.long)) in
    let there = placed_group table at.0 place is.ranks (is.placed place at.0 at.1) in
    ap (λ (o : Option KeyCode). group_by_code table.groups o) at.1
    ∙ ap (λ (o : Option (List ℕ)). unwrap_or o []) there.1
    ∙ group_read table at.0 place there.0 key is at.1 there.1 has

-- the group of a key has a place
pub group_stands : (table : Table) (it : KeyCode) (place : ℕ) → IsTable table → slice_get table.codes place ≡ Some it → slice_get table.groups (group_place it) ≡ None → ⊥
group_stands table it place is at none =
    let there = placed_group table it place is.ranks (is.placed place it at) in
    let e : ◌≡◌ {A = Option (List ℕ)} (Some there.0) None = sym there.1 ∙ none in
    cc

-- ---- The first table ----

abbrev pub first_of : ℕ → Table
first_of ranks = record { codes = code.World ∷ []; groups = range_with_len 0 ranks ∷ [] }

one_once : {A : Type 0} (x : A) → IsEachOnce (x ∷ [])
one_once x zero zero it e f = refl
one_once x zero (suc m) it e f = absurd (cc)
one_once x (suc n) m it e f = absurd (cc)

first_placed : (ranks : ℕ) (place : ℕ) (it : KeyCode) → slice_get (code.World ∷ []) place ≡ Some it → IsPlaced (range_with_len 0 ranks ∷ []) place it
first_placed ranks zero it e = let same : code.World ≡ it = cc in subst (λ (c : KeyCode). IsPlaced (range_with_len 0 ranks ∷ []) 0 c) same tt
first_placed ranks (suc place) it e = absurd (cc)

first_read : (ranks : ℕ) (place : ℕ) (it : KeyCode) → slice_get (code.World ∷ []) place ≡ Some it → slice_get (World ∷ []) place ≡ Some (key_of (range_with_len 0 ranks ∷ []) (World ∷ []) it)
first_read ranks zero it e =
    let same : code.World ≡ it = cc in
    subst (λ (c : KeyCode). ◌≡◌ {A = Option Key} (Some World) (Some (key_of (range_with_len 0 ranks ∷ []) (World ∷ []) c))) same refl
first_read ranks (suc place) it e = absurd (cc)

pub first_ranks : (ranks : ℕ) → ranks_in (first_of ranks) ≡ ranks
first_ranks ranks = length-range_with_len 0 ranks

pub first_table : (ranks : ℕ) → IsTable (first_of ranks)
unfolding keys_in
first_table ranks = record {
  long = refl;
  world = refl;
  ranks = ap (λ (n : ℕ). Some (range_with_len 0 n)) (sym (first_ranks ranks));
  placed = first_placed ranks;
  read = first_read ranks;
  keys_once = one_once World;
  groups_once = one_once (range_with_len 0 ranks);
}

-- what was put into nothing is alone
pub only_one : {A : Type 0} (it : A) (place : ℕ) (new : List A) → IsSameOrMore it [] new → slice_get new place ≡ Some it → new ≡ it ∷ []
only_one {A} it place new more at = elim more [
  | inl same ↦ (
      let e : ◌≡◌ {A = Option A} None (Some it) = ap (λ (xs : List A). slice_get xs place) (sym same) ∙ at in
      cc)
  | inr one ↦ one.0
]
