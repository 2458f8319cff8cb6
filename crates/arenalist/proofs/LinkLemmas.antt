-- Links and lists change together.
use Rattle.std.proofs.Common.{◌≡◌, ℕ, ◌+◌, ◌^◌, ◌<◌, ◌≤◌, ◌++◌, ◌≢◌, Option, Some, None, List, [], ◌∷◌, length, map, drop, get_or, set, refl, sym, ap, subst, ◌∙◌, ⊎_elim, arith}
use Rattle.std.proofs.lemmas.List.{get_or_append_left, get_or_push, map-append, map-set, length-set, length-map, get_or-map, length-append, ext_get_or}
use Rattle.std.proofs.lemmas.Bool.{cases_eq, cases_lt, ne_eqb}
use Rattle.arenaqueue.specs.Numbers.{list_at}
use Rattle.arenaqueue.specs.inner.Numbers.{count, in_all, without, after, first_of}
use Rattle.arenalist.specs.inner.Rings.{Chain, IsRing, walk, rings_of, lists_of, AreLinked, nexts_linked, prevs_linked, nexts_unlinked, prevs_unlinked}
use Rattle.arenalist.specs.inner.Links.{AreOwned, AreLinks}
use Rattle.arenaqueue.proofs.NumberLemmas.{count-append, count_one, count_other, count_head, count_in_all, count_in_two, some_list, count_drop, found_in, cut_at, at_map, in_all-append, after_cut}
use Rattle.arenalist.proofs.RingLemmas.{chain_split, ring_same, RingHead, ring_head, head_of, links, unlinks_from, lists_at, rings_walked, heads_walked, heads_linked, heads_without, nexts_length}
use Rattle.arenalist.proofs.RingLemmas.RingHead.{Head}
use Rattle.arenalist.proofs.OwnerLemmas.{owned_linked, owned_unlinked, owned_more, owned_listed}

pub long_rings : (heads nexts : List ℕ) → length (rings_of heads nexts) ≡ length heads
long_rings heads nexts = length-map heads (λ (h : ℕ). h ∷ walk nexts (length nexts) h h)

pub long_lists : (heads nexts : List ℕ) → length (lists_of (rings_of heads nexts)) ≡ length heads
long_lists heads nexts = length-map (rings_of heads nexts) (λ (ring : List ℕ). drop 1 ring) ∙ long_rings heads nexts

pub ring_at : (heads nexts : List ℕ) (l : ℕ) → l < length heads → list_at (rings_of heads nexts) l ≡ get_or heads l 0 ∷ list_at (lists_of (rings_of heads nexts)) l
ring_at heads nexts l h =
    let is : list_at (rings_of heads nexts) l ≡ get_or heads l 0 ∷ walk nexts (length nexts) (get_or heads l 0) (get_or heads l 0) = get_or-map (λ (x : ℕ). x ∷ walk nexts (length nexts) x x) heads l 0 [] h in
    is ∙ ap (λ (xs : List ℕ). get_or heads l 0 ∷ xs) (sym (lists_at (rings_of heads nexts) l (omega (arith, long_rings heads nexts)) ∙ ap (λ (ring : List ℕ). drop 1 ring) is))

-- a cell is in the rings as a head or in a list
in_headed : (f : ℕ → List ℕ) (heads : List ℕ) (x : ℕ) → in_all x (map (λ (h : ℕ). h ∷ f h) heads) ≡ count x heads + in_all x (lists_of (map (λ (h : ℕ). h ∷ f h) heads))
in_headed f [] x = refl
in_headed f (h ∷ heads) x = omega (arith, in_headed f heads x)

pub in_rings : (heads nexts : List ℕ) (x : ℕ) → in_all x (rings_of heads nexts) ≡ count x heads + in_all x (lists_of (rings_of heads nexts))
in_rings heads nexts x = in_headed (λ (h : ℕ). walk nexts (length nexts) h h) heads x

-- the ring of a list
pub record Its (heads nexts prevs : List ℕ) (l : ℕ) : Type 0 where
  pub chain : Chain nexts prevs (get_or heads l 0) (list_at (lists_of (rings_of heads nexts)) l) (get_or heads l 0)
  pub apart : count (get_or heads l 0) (list_at (lists_of (rings_of heads nexts)) l) ≡ 0
  pub head_in : get_or heads l 0 < length nexts

pub its : (heads nexts prevs : List ℕ) (owners : List (Option ℕ)) (l : ℕ) → AreLinks heads nexts prevs owners → l < length heads → Its heads nexts prevs l
its heads nexts prevs owners l k l_in =
    let h : ℕ = get_or heads l 0 in
    let xs : List ℕ = list_at (lists_of (rings_of heads nexts)) l in
    let is : list_at (rings_of heads nexts) l ≡ h ∷ xs = ring_at heads nexts l l_in in
    let on : count h (list_at (rings_of heads nexts) l) ≡ 1 + count h xs = ap (count h) is ∙ count_head h xs in record {
      chain = subst (IsRing nexts prevs) is (k.linked.ring l (omega (arith, long_rings heads nexts)));
      apart = omega (arith, on, count_in_all h (rings_of heads nexts) l, k.linked.once h);
      head_in = k.linked.within h (omega (arith, on, count_in_all h (rings_of heads nexts) l));
    }

-- the cell to which a cell of a ring is linked
pub home : (nexts prevs : List ℕ) (a : ℕ) (xs : List ℕ) (h : ℕ) → Chain nexts prevs a xs h → count h xs ≡ 0 → get_or nexts a 0 ≡ h → first_of xs ≡ None
home nexts prevs a [] h chain apart is = refl
home nexts prevs a (x ∷ xs) h chain apart is =
    let same : h ≡ x = sym is ∙ chain.0 in
    absurd (omega (arith, apart, ap (λ (y : ℕ). count h (y ∷ [])) same, count_one h))

pub ahead : (nexts prevs : List ℕ) (a : ℕ) (xs : List ℕ) (h : ℕ) → Chain nexts prevs a xs h → get_or nexts a 0 ≢ h → first_of xs ≡ Some (get_or nexts a 0)
ahead nexts prevs a [] h chain differs = absurd (differs chain.0)
ahead nexts prevs a (x ∷ xs) h chain differs = ap (λ (y : ℕ). Some y) (sym chain.0)

-- from a cell of a list to the list's head
pub record Behind (heads nexts prevs : List ℕ) (owners : List (Option ℕ)) (l n : ℕ) : Type 0 where
  pub list_in : l < length heads
  pub chain : Chain nexts prevs n (after n (list_at (lists_of (rings_of heads nexts)) l)) (get_or heads l 0)
  pub apart : count (get_or heads l 0) (after n (list_at (lists_of (rings_of heads nexts)) l)) ≡ 0

pub behind : (heads nexts prevs : List ℕ) (owners : List (Option ℕ)) (l n : ℕ) → AreLinks heads nexts prevs owners → 0 < count n (list_at (lists_of (rings_of heads nexts)) l) → Behind heads nexts prevs owners l n
behind heads nexts prevs owners l n k some =
    let lists : List (List ℕ) = lists_of (rings_of heads nexts) in
    let l_in : l < length heads = omega (arith, some_list lists l n some, long_lists heads nexts) in
    let it = its heads nexts prevs owners l k l_in in
    let cut = cut_at n (list_at lists l) some in
    let once : count n (list_at lists l) ≤ 1 = omega (arith, count_in_all n lists l, in_rings heads nexts n, k.linked.once n) in
    let none : count n cut.front ≡ 0 = omega (arith, once, ap (count n) cut.is, count-append n cut.front (n ∷ cut.back), count_head n cut.back) in
    let is : after n (list_at lists l) ≡ cut.back = ap (after n) cut.is ∙ after_cut n cut.front cut.back none in
    let whole : Chain nexts prevs (get_or heads l 0) (cut.front ++ n ∷ cut.back) (get_or heads l 0) = subst (λ (xs : List ℕ). Chain nexts prevs (get_or heads l 0) xs (get_or heads l 0)) cut.is it.chain in record {
      list_in = l_in;
      chain = subst (λ (xs : List ℕ). Chain nexts prevs n xs (get_or heads l 0)) (sym is) (chain_split nexts prevs (get_or heads l 0) cut.front n cut.back (get_or heads l 0) whole).1;
      apart = omega (arith, ap (count (get_or heads l 0)) is, it.apart, ap (count (get_or heads l 0)) cut.is, count-append (get_or heads l 0) cut.front (n ∷ cut.back));
    }

-- a cell is linked at the back of a list
pub record Linking (heads nexts prevs : List ℕ) (l n : ℕ) : Type 0 where
  pub last_in : get_or prevs (get_or heads l 0) 0 < length nexts
  pub linked : AreLinked (nexts_linked nexts prevs (get_or heads l 0) n) (prevs_linked prevs (get_or heads l 0) n) (rings_of heads (nexts_linked nexts prevs (get_or heads l 0) n))
  pub lists : lists_of (rings_of heads (nexts_linked nexts prevs (get_or heads l 0) n)) ≡ set (lists_of (rings_of heads nexts)) l (list_at (lists_of (rings_of heads nexts)) l ++ n ∷ [])

pub linking : (heads nexts prevs : List ℕ) (owners : List (Option ℕ)) (l n : ℕ) → AreLinks heads nexts prevs owners → l < length heads → n < length nexts → in_all n (rings_of heads nexts) ≡ 0 → Linking heads nexts prevs l n
linking heads nexts prevs owners l n k l_in n_in away =
    let rings : List (List ℕ) = rings_of heads nexts in
    let h : ℕ = get_or heads l 0 in
    let l_in' : l < length rings = omega (arith, long_rings heads nexts) in
    let is : list_at rings l ≡ h ∷ list_at (lists_of rings) l = ring_at heads nexts l l_in in
    let it = links nexts prevs rings l n k.linked l_in' away n_in in
    let h_is : head_of (list_at rings l) ≡ h = ap head_of is in
    let new : List (List ℕ) = set rings l (list_at rings l ++ n ∷ []) in
    let linked : AreLinked (nexts_linked nexts prevs h n) (prevs_linked prevs h n) new = subst (λ (x : ℕ). AreLinked (nexts_linked nexts prevs x n) (prevs_linked prevs x n) new) h_is it.linked in
    let walked : rings_of heads (nexts_linked nexts prevs h n) ≡ new = rings_walked (nexts_linked nexts prevs h n) (prevs_linked prevs h n) heads new linked (heads_walked heads nexts ∙ sym (heads_linked nexts prevs rings l n (ring_head nexts prevs (list_at rings l) (k.linked.ring l l_in')))) in record {
      last_in = subst (λ (x : ℕ). get_or prevs x 0 < length nexts) h_is it.last;
      linked = subst (AreLinked (nexts_linked nexts prevs h n) (prevs_linked prevs h n)) (sym walked) linked;
      lists = ap lists_of walked
          ∙ map-set (λ (ring : List ℕ). drop 1 ring) rings l (list_at rings l ++ n ∷ [])
          ∙ ap (λ (ring : List ℕ). set (lists_of rings) l (drop 1 (ring ++ n ∷ []))) is;
    }

pub links_linked : (heads nexts prevs nexts' prevs' : List ℕ) (owners owners' : List (Option ℕ)) (l n h : ℕ) → AreLinks heads nexts prevs owners → l < length heads → n < length nexts → in_all n (rings_of heads nexts) ≡ 0 → h ≡ get_or heads l 0 → nexts' ≡ nexts_linked nexts prevs h n → prevs' ≡ prevs_linked prevs h n → owners' ≡ set owners n (Some l) → AreLinks heads nexts' prevs' owners' × (lists_of (rings_of heads nexts') ≡ set (lists_of (rings_of heads nexts)) l (list_at (lists_of (rings_of heads nexts)) l ++ n ∷ []))
links_linked heads nexts prevs nexts' prevs' owners owners' l n h k l_in n_in away h_is n_is p_is o_is =
    let it = linking heads nexts prevs owners l n k l_in n_in away in
    let n_is' : nexts' ≡ nexts_linked nexts prevs (get_or heads l 0) n = n_is ∙ ap (λ (x : ℕ). nexts_linked nexts prevs x n) h_is in
    let p_is' : prevs' ≡ prevs_linked prevs (get_or heads l 0) n = p_is ∙ ap (λ (x : ℕ). prevs_linked prevs x n) h_is in
    let lists : lists_of (rings_of heads nexts') ≡ set (lists_of (rings_of heads nexts)) l (list_at (lists_of (rings_of heads nexts)) l ++ n ∷ []) = ap (λ (xs : List ℕ). lists_of (rings_of heads xs)) n_is' ∙ it.lists in
    let long : length nexts' ≡ length nexts = ap (length {A = ℕ}) n_is ∙ nexts_length nexts prevs h n in
    let owned : AreOwned (set owners n (Some l)) (set (lists_of (rings_of heads nexts)) l (list_at (lists_of (rings_of heads nexts)) l ++ n ∷ [])) = owned_linked owners (lists_of (rings_of heads nexts)) n l k.owned (omega (arith, away, in_rings heads nexts n)) (omega (arith, k.as_many)) (omega (arith, long_lists heads nexts)) in (
      record {
        linked = subst (λ (xs : List ℕ). AreLinked xs prevs' (rings_of heads xs)) (sym n_is') (subst (λ (xs : List ℕ). AreLinked (nexts_linked nexts prevs (get_or heads l 0) n) xs (rings_of heads (nexts_linked nexts prevs (get_or heads l 0) n))) (sym p_is') it.linked);
        owned = subst (λ (xs : List (Option ℕ)). AreOwned xs (lists_of (rings_of heads nexts'))) (sym o_is) (subst (AreOwned (set owners n (Some l))) (sym lists) owned);
        as_many = ap (length {A = Option ℕ}) o_is ∙ length-set owners n (Some l) ∙ k.as_many ∙ sym long;
        small = omega (arith, k.small, long);
        few = k.few;
      },
      lists,
    )

-- a cell leaves its list
pub record Unlinking (heads nexts prevs : List ℕ) (n : ℕ) : Type 0 where
  pub cell_in : n < length nexts
  pub before_in : get_or prevs n 0 < length nexts
  pub after_in : get_or nexts n 0 < length nexts
  pub linked : AreLinked (nexts_unlinked nexts prevs n) (prevs_unlinked nexts prevs n) (rings_of heads (nexts_unlinked nexts prevs n))
  pub lists : lists_of (rings_of heads (nexts_unlinked nexts prevs n)) ≡ map (without n) (lists_of (rings_of heads nexts))

drop_without : (nexts prevs ring : List ℕ) (n : ℕ) → RingHead nexts prevs ring → count n ring ≡ count n (drop 1 ring) → drop 1 (without n ring) ≡ without n (drop 1 ring)
drop_without nexts prevs ring n (Head h xs is chain) inside =
    let differs : n ≡ h → ⊥ = λ e. omega (arith, ap (count n) is, ap (λ (ys : List ℕ). count n (drop 1 ys)) is, ap (λ (y : ℕ). count n (y ∷ [])) e, count_one n) in
    let gone : without n (h ∷ xs) ≡ h ∷ without n xs = rw (ne_eqb n h differs) refl in
    ap (λ (ys : List ℕ). drop 1 (without n ys)) is ∙ ap (λ (ys : List ℕ). drop 1 ys) gone ∙ sym (ap (λ (ys : List ℕ). without n (drop 1 ys)) is)

lists_without : (nexts prevs : List ℕ) (rings : List (List ℕ)) (n l : ℕ) → AreLinked nexts prevs rings → l < length rings → 0 < count n (drop 1 (list_at rings l)) → lists_of (map (without n) rings) ≡ map (without n) (lists_of rings)
lists_without nexts prevs rings n l h l_in on =
    let tail : List ℕ → List ℕ = λ (ring : List ℕ). drop 1 ring in
    let long : length (map (without n) rings) ≡ length rings = length-map rings (without n) in
    ext_get_or [] (lists_of (map (without n) rings)) (map (without n) (lists_of rings)) (length-map (map (without n) rings) tail ∙ long ∙ sym (length-map rings tail) ∙ sym (length-map (lists_of rings) (without n))) (λ m m_in.
    let m_in' : m < length rings = omega (arith, length-map (map (without n) rings) tail, long) in
    let inside : count n (list_at rings m) ≡ count n (drop 1 (list_at rings m)) =
    ⊎_elim
    (λ (same : m ≡ l). let it : count n (list_at rings l) ≡ count n (drop 1 (list_at rings l)) = omega (arith, on, count_drop n (list_at rings l), count_in_all n rings l, h.once n) in subst (λ (k : ℕ). count n (list_at rings k) ≡ count n (drop 1 (list_at rings k))) (sym same) it)
    (λ (other : m ≡ l → ⊥). omega (arith, h.once n, count_in_two n rings m l other, count_drop n (list_at rings l), count_drop n (list_at rings m)))
    (cases_eq m l) in
    lists_at (map (without n) rings) m (omega arith)
    ∙ ap tail (at_map (without n) rings m m_in')
    ∙ drop_without nexts prevs (list_at rings m) n (ring_head nexts prevs (list_at rings m) (h.ring m m_in')) inside
    ∙ ap (without n) (sym (lists_at rings m m_in'))
    ∙ sym (at_map (without n) (lists_of rings) m (omega (arith, length-map rings tail))))

pub unlinking : (heads nexts prevs : List ℕ) (owners : List (Option ℕ)) (n : ℕ) → AreLinks heads nexts prevs owners → 0 < in_all n (lists_of (rings_of heads nexts)) → Unlinking heads nexts prevs n
unlinking heads nexts prevs owners n k some =
    let rings : List (List ℕ) = rings_of heads nexts in
    let at = found_in n (lists_of rings) some in
    let l_in : at.0 < length rings = omega (arith, at.1, length-map rings (λ (ring : List ℕ). drop 1 ring)) in
    let on : 0 < count n (drop 1 (list_at rings at.0)) = omega (arith, at.2, ap (count n) (lists_at rings at.0 l_in)) in
    let u = unlinks_from nexts prevs rings n at.0 k.linked l_in on in
    let walked : rings_of heads (nexts_unlinked nexts prevs n) ≡ map (without n) rings = rings_walked (nexts_unlinked nexts prevs n) (prevs_unlinked nexts prevs n) heads (map (without n) rings) u.linked (heads_walked heads nexts ∙ sym (heads_without nexts prevs rings n at.0 k.linked l_in on)) in record {
      cell_in = k.linked.within n (omega (arith, on, count_drop n (list_at rings at.0), count_in_all n rings at.0));
      before_in = u.before;
      after_in = omega (arith, u.after, k.linked.cells);
      linked = subst (AreLinked (nexts_unlinked nexts prevs n) (prevs_unlinked nexts prevs n)) (sym walked) u.linked;
      lists = ap lists_of walked ∙ lists_without nexts prevs rings n at.0 k.linked l_in on;
    }

pub links_unlinked : (heads nexts prevs nexts' prevs' : List ℕ) (owners owners' : List (Option ℕ)) (n : ℕ) → AreLinks heads nexts prevs owners → 0 < in_all n (lists_of (rings_of heads nexts)) → nexts' ≡ nexts_unlinked nexts prevs n → prevs' ≡ prevs_unlinked nexts prevs n → owners' ≡ set owners n None → AreLinks heads nexts' prevs' owners' × (lists_of (rings_of heads nexts') ≡ map (without n) (lists_of (rings_of heads nexts)))
links_unlinked heads nexts prevs nexts' prevs' owners owners' n k some n_is p_is o_is =
    let u = unlinking heads nexts prevs owners n k some in
    let lists : lists_of (rings_of heads nexts') ≡ map (without n) (lists_of (rings_of heads nexts)) = ap (λ (xs : List ℕ). lists_of (rings_of heads xs)) n_is ∙ u.lists in
    let long : length nexts' ≡ length nexts = ap (length {A = ℕ}) n_is ∙ length-set nexts (get_or prevs n 0) (get_or nexts n 0) in
    let owned : AreOwned (set owners n None) (map (without n) (lists_of (rings_of heads nexts))) = owned_unlinked owners (lists_of (rings_of heads nexts)) n k.owned (omega (arith, k.as_many, u.cell_in)) in (
      record {
        linked = subst (λ (xs : List ℕ). AreLinked xs prevs' (rings_of heads xs)) (sym n_is) (subst (λ (xs : List ℕ). AreLinked (nexts_unlinked nexts prevs n) xs (rings_of heads (nexts_unlinked nexts prevs n))) (sym p_is) u.linked);
        owned = subst (λ (xs : List (Option ℕ)). AreOwned xs (lists_of (rings_of heads nexts'))) (sym o_is) (subst (AreOwned (set owners n None)) (sym lists) owned);
        as_many = ap (length {A = Option ℕ}) o_is ∙ length-set owners n None ∙ k.as_many ∙ sym long;
        small = omega (arith, k.small, long);
        few = k.few;
      },
      lists,
    )

-- a cell more
ring_grown : (nexts prevs : List ℕ) (rings : List (List ℕ)) (a b l : ℕ) → AreLinked nexts prevs rings → l < length rings → IsRing (nexts ++ a ∷ []) (prevs ++ b ∷ []) (list_at rings l)
ring_grown nexts prevs rings a b l h l_in =
    ring_same nexts prevs (nexts ++ a ∷ []) (prevs ++ b ∷ []) (list_at rings l) (h.ring l l_in)
    (λ x some. get_or_append_left nexts (a ∷ []) 0 x (h.within x (omega (arith, some, count_in_all x rings l))))
    (λ x some. get_or_append_left prevs (b ∷ []) 0 x (omega (arith, h.cells, h.within x (omega (arith, some, count_in_all x rings l)))))

linked_grown : (nexts prevs : List ℕ) (rings : List (List ℕ)) (a b : ℕ) → AreLinked nexts prevs rings → AreLinked (nexts ++ a ∷ []) (prevs ++ b ∷ []) rings
linked_grown nexts prevs rings a b h = record {
  cells = length-append nexts (a ∷ []) ∙ ap (λ (n : ℕ). n + 1) h.cells ∙ sym (length-append prevs (b ∷ []));
  ring = λ l l_in. ring_grown nexts prevs rings a b l h l_in;
  once = h.once;
  within = λ x some. omega (arith, h.within x some, length-append nexts (a ∷ []));
}

pub rings_grown : (heads nexts prevs : List ℕ) (owners : List (Option ℕ)) (a : ℕ) → AreLinks heads nexts prevs owners → rings_of heads (nexts ++ a ∷ []) ≡ rings_of heads nexts
rings_grown heads nexts prevs owners a k = rings_walked (nexts ++ a ∷ []) (prevs ++ a ∷ []) heads (rings_of heads nexts) (linked_grown nexts prevs (rings_of heads nexts) a a k.linked) (heads_walked heads nexts)

pub links_grown : (heads nexts prevs : List ℕ) (owners : List (Option ℕ)) (a : ℕ) → AreLinks heads nexts prevs owners → length nexts + 1 < 2 ^ 32 → AreLinks heads (nexts ++ a ∷ []) (prevs ++ a ∷ []) (owners ++ None ∷ [])
links_grown heads nexts prevs owners a k small =
    let rings : rings_of heads (nexts ++ a ∷ []) ≡ rings_of heads nexts = rings_grown heads nexts prevs owners a k in
    let long : length (nexts ++ a ∷ []) ≡ length nexts + 1 = length-append nexts (a ∷ []) in record {
      linked = subst (AreLinked (nexts ++ a ∷ []) (prevs ++ a ∷ [])) (sym rings) (linked_grown nexts prevs (rings_of heads nexts) a a k.linked);
      owned = subst (AreOwned (owners ++ None ∷ [])) (ap lists_of (sym rings)) (owned_more owners (lists_of (rings_of heads nexts)) k.owned);
      as_many = length-append owners (None ∷ []) ∙ ap (λ (n : ℕ). n + 1) k.as_many ∙ sym long;
      small = omega arith;
      few = k.few;
    }

-- a list more, whose head is a new cell
new_cell : (nexts prevs : List ℕ) (rings : List (List ℕ)) → AreLinked nexts prevs rings → in_all (length nexts) rings ≡ 0
new_cell nexts prevs rings h =
    ⊎_elim
    (λ (some : 0 < in_all (length nexts) rings). absurd (omega (arith, h.within (length nexts) some)))
    (λ (none : in_all (length nexts) rings ≤ 0). omega arith)
    (cases_lt 0 (in_all (length nexts) rings))

linked_listed : (nexts prevs : List ℕ) (rings : List (List ℕ)) → AreLinked nexts prevs rings → AreLinked (nexts ++ length nexts ∷ []) (prevs ++ length nexts ∷ []) (rings ++ (length nexts ∷ []) ∷ [])
linked_listed nexts prevs rings h =
    let c : ℕ = length nexts in
    let long : length (nexts ++ length nexts ∷ []) ≡ length nexts + 1 = length-append nexts (length nexts ∷ []) in
    let all : (x : ℕ) → in_all x (rings ++ (length nexts ∷ []) ∷ []) ≡ in_all x rings + count x (length nexts ∷ []) = λ x. in_all-append x rings (length nexts ∷ []) in record {
      cells = long ∙ ap (λ (n : ℕ). n + 1) h.cells ∙ sym (length-append prevs (length nexts ∷ []));
      ring = λ l l_in.
          ⊎_elim
          (λ (old : l < length rings). subst (IsRing (nexts ++ length nexts ∷ []) (prevs ++ length nexts ∷ [])) (sym (get_or_append_left rings ((length nexts ∷ []) ∷ []) [] l old)) (ring_grown nexts prevs rings (length nexts) (length nexts) l h old))
          (λ (new : length rings ≤ l).
          let last : length rings ≡ l = omega (arith, length-append rings ((length nexts ∷ []) ∷ [])) in
          let its : IsRing (nexts ++ length nexts ∷ []) (prevs ++ length nexts ∷ []) (length nexts ∷ []) = (get_or_push nexts (length nexts) 0 (length nexts) refl, get_or_push prevs (length nexts) 0 (length nexts) (sym h.cells)) in
          subst (IsRing (nexts ++ length nexts ∷ []) (prevs ++ length nexts ∷ [])) (sym (get_or_push rings (length nexts ∷ []) [] l last)) its)
          (cases_lt l (length rings));
      once = λ x. ⊎_elim
          (λ (same : x ≡ length nexts). let it : in_all (length nexts) rings + count (length nexts) (length nexts ∷ []) ≤ 1 = omega (arith, new_cell nexts prevs rings h, count_one (length nexts)) in omega (arith, all x, subst (λ (y : ℕ). in_all y rings + count y (length nexts ∷ []) ≤ 1) (sym same) it))
          (λ (other : x ≡ length nexts → ⊥). omega (arith, h.once x, all x, count_other x (length nexts) other))
          (cases_eq x (length nexts));
      within = λ x some. ⊎_elim
          (λ (same : x ≡ length nexts). omega arith)
          (λ (other : x ≡ length nexts → ⊥). omega (arith, h.within x (omega (arith, some, all x, count_other x (length nexts) other))))
          (cases_eq x (length nexts));
    }

pub links_listed : (heads nexts prevs heads' nexts' prevs' : List ℕ) (owners owners' : List (Option ℕ)) (c : ℕ) → AreLinks heads nexts prevs owners → c ≡ length nexts → heads' ≡ heads ++ c ∷ [] → nexts' ≡ nexts ++ c ∷ [] → prevs' ≡ prevs ++ c ∷ [] → owners' ≡ owners ++ None ∷ [] → length nexts + 1 < 2 ^ 32 → length heads + 1 < 2 ^ 32 → AreLinks heads' nexts' prevs' owners' × (lists_of (rings_of heads' nexts') ≡ lists_of (rings_of heads nexts) ++ [] ∷ [])
links_listed heads nexts prevs heads' nexts' prevs' owners owners' c k c_is h_is n_is p_is o_is small few =
    let h_is' : heads' ≡ heads ++ length nexts ∷ [] = h_is ∙ ap (λ (x : ℕ). heads ++ x ∷ []) c_is in
    let n_is' : nexts' ≡ nexts ++ length nexts ∷ [] = n_is ∙ ap (λ (x : ℕ). nexts ++ x ∷ []) c_is in
    let p_is' : prevs' ≡ prevs ++ length nexts ∷ [] = p_is ∙ ap (λ (x : ℕ). prevs ++ x ∷ []) c_is in
    let new : List (List ℕ) = rings_of heads nexts ++ (length nexts ∷ []) ∷ [] in
    let it : AreLinked nexts' prevs' new = subst (λ (xs : List ℕ). AreLinked xs prevs' new) (sym n_is') (subst (λ (xs : List ℕ). AreLinked (nexts ++ length nexts ∷ []) xs new) (sym p_is') (linked_listed nexts prevs (rings_of heads nexts) k.linked)) in
    let rings : rings_of heads' nexts' ≡ new = rings_walked nexts' prevs' heads' new it (h_is' ∙ ap (λ (xs : List ℕ). xs ++ length nexts ∷ []) (heads_walked heads nexts) ∙ sym (map-append head_of (rings_of heads nexts) ((length nexts ∷ []) ∷ []))) in
    let lists : lists_of (rings_of heads' nexts') ≡ lists_of (rings_of heads nexts) ++ [] ∷ [] = ap lists_of rings ∙ map-append (λ (ring : List ℕ). drop 1 ring) (rings_of heads nexts) ((length nexts ∷ []) ∷ []) in
    let long : length nexts' ≡ length nexts + 1 = ap (length {A = ℕ}) n_is ∙ length-append nexts (c ∷ []) in (
      record {
        linked = subst (AreLinked nexts' prevs') (sym rings) it;
        owned = subst (AreOwned owners') (sym lists) (subst (λ (xs : List (Option ℕ)). AreOwned xs (lists_of (rings_of heads nexts) ++ [] ∷ [])) (sym o_is) (owned_listed (owners ++ None ∷ []) (lists_of (rings_of heads nexts)) (owned_more owners (lists_of (rings_of heads nexts)) k.owned)));
        as_many = ap (length {A = Option ℕ}) o_is ∙ length-append owners (None ∷ []) ∙ ap (λ (n : ℕ). n + 1) k.as_many ∙ sym long;
        small = omega arith;
        few = omega (arith, ap (length {A = ℕ}) h_is, length-append heads (c ∷ []));
      },
      lists,
    )

-- while cells are added, with room for the rest
pub record Growing (heads₀ nexts₀ heads nexts prevs : List ℕ) (owners : List (Option ℕ)) (nexts_room prevs_room owners_room done more : ℕ) : Type 0 where
  pub links : AreLinks heads nexts prevs owners
  pub same_heads : heads ≡ heads₀
  pub same : rings_of heads nexts ≡ rings_of heads₀ nexts₀
  pub longer : length nexts ≡ length nexts₀ + done
  pub small : length nexts₀ + more < 2 ^ 32
  pub nexts_fit : length nexts₀ + more ≤ nexts_room
  pub prevs_fit : length nexts₀ + more ≤ prevs_room
  pub owners_fit : length nexts₀ + more ≤ owners_room

pub grows : (heads₀ nexts₀ heads nexts prevs nexts' prevs' : List ℕ) (owners owners' : List (Option ℕ)) (a b c a' b' c' done more : ℕ) → Growing heads₀ nexts₀ heads nexts prevs owners a b c done more → done < more → nexts' ≡ nexts ++ 0 ∷ [] → prevs' ≡ prevs ++ 0 ∷ [] → owners' ≡ owners ++ None ∷ [] → a' ≡ a → b' ≡ b → c' ≡ c → Growing heads₀ nexts₀ heads nexts' prevs' owners' a' b' c' (done + 1) more
grows heads₀ nexts₀ heads nexts prevs nexts' prevs' owners owners' a b c a' b' c' done more g below n_is p_is o_is a_is b_is c_is =
    let it : AreLinks heads (nexts ++ 0 ∷ []) (prevs ++ 0 ∷ []) (owners ++ None ∷ []) = links_grown heads nexts prevs owners 0 g.links (omega (arith, g.small, g.longer)) in record {
      links = subst (λ (xs : List ℕ). AreLinks heads xs prevs' owners') (sym n_is) (subst (λ (xs : List ℕ). AreLinks heads (nexts ++ 0 ∷ []) xs owners') (sym p_is) (subst (AreLinks heads (nexts ++ 0 ∷ []) (prevs ++ 0 ∷ [])) (sym o_is) it));
      same_heads = g.same_heads;
      same = ap (rings_of heads) n_is ∙ rings_grown heads nexts prevs owners 0 g.links ∙ g.same;
      longer = omega (arith, ap (length {A = ℕ}) n_is, length-append nexts (0 ∷ []), g.longer);
      small = g.small;
      nexts_fit = omega (arith, g.nexts_fit);
      prevs_fit = omega (arith, g.prevs_fit);
      owners_fit = omega (arith, g.owners_fit);
    }
