-- All cells of a ring go to the back of another.
use Rattle.std.proofs.Common.{append-nil, ◌≡◌, ℕ, zero, suc, ◌+◌, ◌<◌, ◌≤◌, ◌++◌, ◌≢◌, true, false, Option, Some, None, List, [], ◌∷◌, length, drop, get_or, set, refl, sym, ap, subst, ◌∙◌, ⊎_elim, arith, get_or-set_same, get_or-set_other}
use Rattle.std.specs.Prelude.{◌==◌, if◌then◌else◌, is_some}
use Rattle.std.proofs.lemmas.List.{length-set, map-set, set-get_or, get_or-map, append_assoc}
use Rattle.std.proofs.lemmas.Bool.{cases_eq, cases_lt}
use Rattle.arenaqueue.specs.Numbers.{list_at}
use Rattle.arenaqueue.specs.inner.Numbers.{count, in_all}
use Rattle.arenaqueue.specs.inner.Chains.{Leads}
use Rattle.arenalist.specs.inner.Rings.{Chain, IsRing, walk, rings_of, lists_of, AreLinked, nexts_spliced, prevs_spliced, around, IsRound}
use Rattle.arenalist.specs.inner.Links.{AreOwned, AreLinks, owners_given}
use Rattle.arenalist.specs.Arena.{spliced}
use Rattle.arenalist.specs.inner.Slots.{entry_of, entries, entries_of, IsArena}
use Rattle.arenaqueue.proofs.NumberLemmas.{count-append, count_one, count_other, count_head, in_all-set, count_in_all, count_in_two, apart}
use Rattle.arenalist.proofs.RingLemmas.{chain_bent, chain_join, last_in, ring_same, head_of, heads_of, rings_walked, heads_walked, lists_at}
use Rattle.arenalist.proofs.EntryLemmas.{entries_at}
use Rattle.arenalist.proofs.LinkLemmas.{long_rings, long_lists, ring_at, in_rings, its}

-- what is where three places are written
three_other : (xs : List ℕ) (i u j v k w b : ℕ) → b ≢ i → b ≢ j → b ≢ k → get_or (set (set (set xs i u) j v) k w) b 0 ≡ get_or xs b 0
three_other xs i u j v k w b not_i not_j not_k = get_or-set_other (set (set xs i u) j v) k b w 0 not_k ∙ get_or-set_other (set xs i u) j b v 0 not_j ∙ get_or-set_other xs i b u 0 not_i

three_first : (xs : List ℕ) (i u j v k w : ℕ) → i ≢ j → i ≢ k → i < length xs → get_or (set (set (set xs i u) j v) k w) i 0 ≡ u
three_first xs i u j v k w not_j not_k i_in = get_or-set_other (set (set xs i u) j v) k i w 0 not_k ∙ get_or-set_other (set xs i u) j i v 0 not_j ∙ get_or-set_same xs i u 0 i_in

three_second : (xs : List ℕ) (i u j v k w : ℕ) → j ≢ k → j < length xs → get_or (set (set (set xs i u) j v) k w) j 0 ≡ v
three_second xs i u j v k w not_k j_in = get_or-set_other (set (set xs i u) j v) k j w 0 not_k ∙ get_or-set_same (set xs i u) j v 0 (omega (arith, length-set xs i u))

three_third : (xs : List ℕ) (i u j v k w : ℕ) → k < length xs → get_or (set (set (set xs i u) j v) k w) k 0 ≡ w
three_third xs i u j v k w k_in = get_or-set_same (set (set xs i u) j v) k w 0 (omega (arith, length-set (set xs i u) j v, length-set xs i u))

three_long : (xs : List ℕ) (i u j v k w : ℕ) → length (set (set (set xs i u) j v) k w) ≡ length xs
three_long xs i u j v k w = length-set (set (set xs i u) j v) k w ∙ length-set (set xs i u) j v ∙ length-set xs i u

-- the two rings, one with no number of the other, and the second with a number after its head
pub record Two (nexts prevs : List ℕ) (t : ℕ) (ts : List ℕ) (f x : ℕ) (xs : List ℕ) : Type 0 where
  pub cells : length nexts ≡ length prevs
  pub to : Chain nexts prevs t ts t
  pub from : Chain nexts prevs f (x ∷ xs) f
  pub once : (b : ℕ) → count b (t ∷ ts) + count b (f ∷ []) + count b (x ∷ xs) ≤ 1
  pub within : (b : ℕ) → 0 < count b (t ∷ ts) + count b (f ∷ []) + count b (x ∷ xs) → b < length nexts

-- what was written
pub record Written (nexts prevs : List ℕ) (t : ℕ) (ts : List ℕ) (f x : ℕ) (xs : List ℕ) : Type 0 where
  pub last_to : 0 < count (get_or prevs t 0) (t ∷ ts)
  pub last_from : 0 < count (get_or prevs f 0) (x ∷ xs)
  pub next_other : (b : ℕ) → b ≢ get_or prevs t 0 → b ≢ get_or prevs f 0 → b ≢ f → get_or (nexts_spliced nexts prevs t f) b 0 ≡ get_or nexts b 0
  pub next_to : get_or (nexts_spliced nexts prevs t f) (get_or prevs t 0) 0 ≡ x
  pub next_from : get_or (nexts_spliced nexts prevs t f) (get_or prevs f 0) 0 ≡ t
  pub next_head : get_or (nexts_spliced nexts prevs t f) f 0 ≡ f
  pub prev_other : (b : ℕ) → b ≢ x → b ≢ t → b ≢ f → get_or (prevs_spliced nexts prevs t f) b 0 ≡ get_or prevs b 0
  pub prev_first : get_or (prevs_spliced nexts prevs t f) x 0 ≡ get_or prevs t 0
  pub prev_to : get_or (prevs_spliced nexts prevs t f) t 0 ≡ get_or prevs f 0
  pub prev_head : get_or (prevs_spliced nexts prevs t f) f 0 ≡ f

written : (nexts prevs : List ℕ) (t : ℕ) (ts : List ℕ) (f x : ℕ) (xs : List ℕ) → Two nexts prevs t ts f x xs → Written nexts prevs t ts f x xs
written nexts prevs t ts f x xs h =
    let first : get_or nexts f 0 ≡ x = h.from.0 in
    let p : ℕ = get_or prevs t 0 in
    let q : ℕ = get_or prevs f 0 in
    let last_to : 0 < count (get_or prevs t 0) (t ∷ ts) = last_in nexts prevs t ts t h.to in
    let last_from : 0 < count (get_or prevs f 0) (x ∷ xs) = last_in nexts prevs x xs f h.from.2 in
    let p_q : get_or prevs t 0 ≢ get_or prevs f 0 = apart (get_or prevs t 0) (get_or prevs f 0) (x ∷ xs) (omega (arith, h.once (get_or prevs t 0))) last_from in
    let p_f : get_or prevs t 0 ≢ f = apart (get_or prevs t 0) f (f ∷ []) (omega (arith, h.once (get_or prevs t 0))) (omega (arith, count_one f)) in
    let q_f : get_or prevs f 0 ≢ f = apart (get_or prevs f 0) f (f ∷ []) (omega (arith, h.once (get_or prevs f 0))) (omega (arith, count_one f)) in
    let x_t : x ≢ t = apart x t (t ∷ ts) (omega (arith, h.once x, count_head x xs)) (omega (arith, count_head t ts)) in
    let x_f : x ≢ f = apart x f (f ∷ []) (omega (arith, h.once x, count_head x xs)) (omega (arith, count_one f)) in
    let t_f : t ≢ f = apart t f (f ∷ []) (omega (arith, h.once t, count_head t ts)) (omega (arith, count_one f)) in
    let p_in : get_or prevs t 0 < length nexts = h.within (get_or prevs t 0) (omega (arith, last_to)) in
    let q_in : get_or prevs f 0 < length nexts = h.within (get_or prevs f 0) (omega (arith, last_from)) in
    let f_in : f < length nexts = h.within f (omega (arith, count_one f)) in
    let x_in : x < length prevs = omega (arith, h.cells, h.within x (omega (arith, count_head x xs))) in
    let t_in : t < length prevs = omega (arith, h.cells, h.within t (omega (arith, count_head t ts))) in record {
      last_to = last_to;
      last_from = last_from;
      next_other = λ b not_p not_q not_f. three_other nexts p (get_or nexts f 0) q t f f b not_p not_q not_f;
      next_to = three_first nexts p (get_or nexts f 0) q t f f p_q p_f p_in ∙ first;
      next_from = three_second nexts p (get_or nexts f 0) q t f f q_f q_in;
      next_head = three_third nexts p (get_or nexts f 0) q t f f f_in;
      prev_other = λ b not_x not_t not_f. three_other prevs (get_or nexts f 0) p t q f f b (λ e. not_x (e ∙ first)) not_t not_f;
      prev_first = ap (λ (y : ℕ). get_or (prevs_spliced nexts prevs t f) y 0) (sym first) ∙ three_first prevs (get_or nexts f 0) p t q f f (λ e. x_t (sym first ∙ e)) (λ e. x_f (sym first ∙ e)) (subst (λ (y : ℕ). y < length prevs) (sym first) x_in);
      prev_to = three_second prevs (get_or nexts f 0) p t q f f t_f t_in;
      prev_head = three_third prevs (get_or nexts f 0) p t q f f (omega (arith, h.cells));
    }

chain_spliced : (nexts prevs : List ℕ) (t : ℕ) (ts : List ℕ) (f x : ℕ) (xs : List ℕ) → Two nexts prevs t ts f x xs → Written nexts prevs t ts f x xs → Chain (nexts_spliced nexts prevs t f) (prevs_spliced nexts prevs t f) t (ts ++ x ∷ xs) t
chain_spliced nexts prevs t ts f x xs h w =
    let n' : List ℕ = nexts_spliced nexts prevs t f in
    let p' : List ℕ = prevs_spliced nexts prevs t f in
    let not_f : (b : ℕ) → 0 < count b (t ∷ ts) + count b (x ∷ xs) → b ≢ f = λ b some. apart b f (f ∷ []) (omega (arith, h.once b)) (omega (arith, count_one f)) in
    let front : Chain n' p' t ts x =
    chain_bent nexts prevs n' p' t ts t x h.to
    (λ b. omega (arith, h.once b))
    (λ b some differs. w.next_other b differs (apart b (get_or prevs f 0) (x ∷ xs) (omega (arith, h.once b)) w.last_from) (not_f b (omega arith)))
    w.next_to
    (λ b some. w.prev_other b (apart b x (x ∷ xs) (omega (arith, h.once b)) (omega (arith, count_head x xs))) (apart b t (t ∷ []) (omega (arith, h.once b)) (omega (arith, count_one t))) (not_f b (omega arith)))
    w.prev_first in
    let back : Chain n' p' x xs t =
    chain_bent nexts prevs n' p' x xs f t h.from.2
    (λ b. omega (arith, h.once b))
    (λ b some differs. w.next_other b (apart b (get_or prevs t 0) (t ∷ ts) (omega (arith, h.once b)) w.last_to) differs (not_f b (omega arith)))
    w.next_from
    (λ b some. w.prev_other b (apart b x (x ∷ []) (omega (arith, h.once b)) (omega (arith, count_one x))) (apart b t (t ∷ ts) (omega (arith, h.once b)) (omega (arith, count_head t ts))) (not_f b (omega arith)))
    w.prev_to in
    chain_join n' p' t ts x xs t front back

-- lists with two of them written
two_first : {X : Type 0} → (ls : List (List X)) (l m : ℕ) (xs ys : List X) → l ≢ m → l < length ls → list_at (set (set ls l xs) m ys) l ≡ xs
two_first ls l m xs ys differs l_in = get_or-set_other (set ls l xs) m l ys [] differs ∙ get_or-set_same ls l xs [] l_in

two_second : {X : Type 0} → (ls : List (List X)) (l m : ℕ) (xs ys : List X) → m < length ls → list_at (set (set ls l xs) m ys) m ≡ ys
two_second ls l m xs ys m_in = get_or-set_same (set ls l xs) m ys [] (omega (arith, length-set ls l xs))

two_other : {X : Type 0} → (ls : List (List X)) (l m : ℕ) (xs ys : List X) (k : ℕ) → k ≢ l → k ≢ m → list_at (set (set ls l xs) m ys) k ≡ list_at ls k
two_other ls l m xs ys k not_l not_m = get_or-set_other (set ls l xs) m k ys [] not_m ∙ get_or-set_other ls l k xs [] not_l

two_long : {X : Type 0} → (ls : List (List X)) (l m : ℕ) (xs ys : List X) → length (set (set ls l xs) m ys) ≡ length ls
two_long ls l m xs ys = length-set (set ls l xs) m ys ∙ length-set ls l xs

pub in_all-two : (b : ℕ) (ls : List (List ℕ)) (l m : ℕ) (xs ys : List ℕ) → l ≢ m → l < length ls → m < length ls → in_all b (set (set ls l xs) m ys) + count b (list_at ls l) + count b (list_at ls m) ≡ in_all b ls + count b xs + count b ys
in_all-two b ls l m xs ys differs l_in m_in =
    omega (arith, in_all-set b ls l xs l_in, in_all-set b (set ls l xs) m ys (omega (arith, length-set ls l xs)), ap (count b) (get_or-set_other ls l m xs [] (λ e. differs (sym e))))

linked_spliced : (nexts prevs : List ℕ) (rings : List (List ℕ)) (l m t : ℕ) (ts : List ℕ) (f x : ℕ) (xs : List ℕ) → AreLinked nexts prevs rings → l < length rings → m < length rings → l ≢ m → list_at rings l ≡ t ∷ ts → list_at rings m ≡ f ∷ x ∷ xs → Two nexts prevs t ts f x xs → AreLinked (nexts_spliced nexts prevs t f) (prevs_spliced nexts prevs t f) (set (set rings l (t ∷ (ts ++ x ∷ xs))) m (f ∷ []))
linked_spliced nexts prevs rings l m t ts f x xs k l_in m_in differs l_is m_is h =
    let n' : List ℕ = nexts_spliced nexts prevs t f in
    let p' : List ℕ = prevs_spliced nexts prevs t f in
    let new : List (List ℕ) = set (set rings l (t ∷ (ts ++ x ∷ xs))) m (f ∷ []) in
    let w = written nexts prevs t ts f x xs h in
    let long : length n' ≡ length nexts = three_long nexts (get_or prevs t 0) (get_or nexts f 0) (get_or prevs f 0) t f f in
    let all : (b : ℕ) → in_all b new ≡ in_all b rings = λ b. omega (arith, in_all-two b rings l m (t ∷ (ts ++ x ∷ xs)) (f ∷ []) differs l_in m_in, ap (count b) l_is, ap (count b) m_is, count-append b ts (x ∷ xs)) in record {
      cells = long ∙ h.cells ∙ sym (three_long prevs (get_or nexts f 0) (get_or prevs t 0) t (get_or prevs f 0) f f);
      ring = λ r r_in.
          ⊎_elim
          (λ (at_l : r ≡ l). rw (at_l, two_first rings l m (t ∷ (ts ++ x ∷ xs)) (f ∷ []) differs l_in) (chain_spliced nexts prevs t ts f x xs h w))
          (λ (not_l : r ≡ l → ⊥).
          ⊎_elim
          (λ (at_m : r ≡ m). rw (at_m, two_second rings l m (t ∷ (ts ++ x ∷ xs)) (f ∷ []) m_in) (w.next_head, w.prev_head))
          (λ (not_m : r ≡ m → ⊥).
          let away : (b : ℕ) → 0 < count b (list_at rings r) → count b (t ∷ ts) + count b (f ∷ x ∷ xs) ≡ 0 = λ b some. omega (arith, some, k.once b, count_in_two b rings r l not_l, count_in_two b rings r m not_m, ap (count b) l_is, ap (count b) m_is) in
          rw (two_other rings l m (t ∷ (ts ++ x ∷ xs)) (f ∷ []) r not_l not_m)
          (ring_same nexts prevs n' p' (list_at rings r) (k.ring r (omega (arith, two_long rings l m (t ∷ (ts ++ x ∷ xs)) (f ∷ []))))
          (λ b some. w.next_other b (apart b (get_or prevs t 0) (t ∷ ts) (omega (arith, away b some)) w.last_to) (apart b (get_or prevs f 0) (x ∷ xs) (omega (arith, away b some)) w.last_from) (apart b f (f ∷ []) (omega (arith, away b some)) (omega (arith, count_one f))))
          (λ b some. w.prev_other b (apart b x (x ∷ xs) (omega (arith, away b some)) (omega (arith, count_head x xs))) (apart b t (t ∷ ts) (omega (arith, away b some)) (omega (arith, count_head t ts))) (apart b f (f ∷ []) (omega (arith, away b some)) (omega (arith, count_one f))))))
          (cases_eq r m))
          (cases_eq r l);
      once = λ b. omega (arith, all b, k.once b);
      within = λ b some. omega (arith, long, k.within b (omega (arith, all b, some)));
    }

-- a walk is no longer than it may be
walk_most : (nexts : List ℕ) (fuel a z : ℕ) → length (walk nexts fuel a z) ≤ fuel
walk_most nexts zero a z = omega arith
walk_most nexts (suc fuel) a z = elim (get_or nexts a 0 == z) as (λ b. length (if b then [] else get_or nexts a 0 ∷ walk nexts fuel (get_or nexts a 0) z) ≤ suc fuel) [
  | true ↦ omega arith
  | false ↦ omega (arith, walk_most nexts fuel (get_or nexts a 0) z)
]

pub around_most : (nexts : List ℕ) (h : ℕ) → length (around nexts h) ≤ length nexts
around_most nexts h = walk_most nexts (length nexts) h h

-- while the cells of a ring are given to a list, with some still to do
pub record Todo (nexts : List ℕ) (owners₀ owners : List (Option ℕ)) (h l given cell : ℕ) (todo : List ℕ) : Type 0 where
  pub leads : Leads nexts cell todo h
  pub gives : owners_given owners todo l ≡ owners_given owners₀ (around nexts h) l
  pub counts : given + length todo ≡ length (around nexts h)
  pub within : (x : ℕ) → 0 < count x todo → x < length nexts
  pub apart : count h todo ≡ 0
  pub long : length owners ≡ length nexts

pub record Giving (nexts : List ℕ) (owners₀ owners : List (Option ℕ)) (h l given cell : ℕ) : Type 0 where
  pub todo : List ℕ
  pub is : Todo nexts owners₀ owners h l given cell todo

pub giving : (nexts : List ℕ) (owners : List (Option ℕ)) (h l cell : ℕ) → IsRound nexts h → length owners ≡ length nexts → cell ≡ get_or nexts h 0 → Giving nexts owners owners h l 0 cell
giving nexts owners h l cell r long is = record {
  todo = around nexts h;
  is = record {
    leads = subst (λ (c : ℕ). Leads nexts c (around nexts h) h) (sym is) r.leads;
    gives = refl;
    counts = omega arith;
    within = r.within;
    apart = r.apart;
    long = long;
  };
}

pub record Step (nexts : List ℕ) (owners₀ owners : List (Option ℕ)) (h l given cell : ℕ) : Type 0 where
  pub cell_in : cell < length nexts
  pub left : given < length (around nexts h)
  pub next : Giving nexts owners₀ (set owners cell (Some l)) h l (given + 1) (get_or nexts cell 0)

step_of : (nexts : List ℕ) (owners₀ owners : List (Option ℕ)) (h l given cell : ℕ) (todo : List ℕ) → Todo nexts owners₀ owners h l given cell todo → cell ≢ h → Step nexts owners₀ owners h l given cell
step_of nexts owners₀ owners h l given cell [] t differs = absurd (differs t.leads)
step_of nexts owners₀ owners h l given cell (x ∷ xs) t differs =
    let same : cell ≡ x = t.leads.0 in
    let x_in : x < length nexts = t.within x (omega (arith, count_head x xs)) in record {
      cell_in = subst (λ (y : ℕ). y < length nexts) (sym same) x_in;
      left = omega (arith, t.counts);
      next = record {
        todo = xs;
        is = record {
          leads = subst (λ (y : ℕ). Leads nexts (get_or nexts y 0) xs h) (sym same) t.leads.1;
          gives = ap (λ (y : ℕ). owners_given (set owners y (Some l)) xs l) same ∙ t.gives;
          counts = omega (arith, t.counts);
          within = λ y some. t.within y (omega (arith, some));
          apart = omega (arith, t.apart);
          long = length-set owners cell (Some l) ∙ t.long;
        };
      };
    }

pub step : (nexts : List ℕ) (owners₀ owners : List (Option ℕ)) (h l given cell : ℕ) → Giving nexts owners₀ owners h l given cell → cell ≢ h → Step nexts owners₀ owners h l given cell
step nexts owners₀ owners h l given cell g differs = step_of nexts owners₀ owners h l given cell g.todo g.is differs

all_given : (nexts : List ℕ) (owners₀ owners : List (Option ℕ)) (h l given cell : ℕ) (todo : List ℕ) → Todo nexts owners₀ owners h l given cell todo → cell ≡ h → (given ≡ length (around nexts h)) × (owners ≡ owners_given owners₀ (around nexts h) l)
all_given nexts owners₀ owners h l given cell [] t same = (omega (arith, t.counts), t.gives)
all_given nexts owners₀ owners h l given cell (x ∷ xs) t same =
    let again : h ≡ x = sym same ∙ t.leads.0 in
    absurd (omega (arith, t.apart, ap (λ (y : ℕ). count h (y ∷ [])) again, count_one h))

pub done : (nexts : List ℕ) (owners₀ owners : List (Option ℕ)) (h l given cell : ℕ) → Giving nexts owners₀ owners h l given cell → cell ≡ h → (given ≡ length (around nexts h)) × (owners ≡ owners_given owners₀ (around nexts h) l)
done nexts owners₀ owners h l given cell g same = all_given nexts owners₀ owners h l given cell g.todo g.is same

-- the owners once all cells of a list are given to another
given_other : (owners : List (Option ℕ)) (xs : List ℕ) (l b : ℕ) → count b xs ≡ 0 → get_or (owners_given owners xs l) b None ≡ get_or owners b None
given_other owners [] l b none = refl
given_other owners (x ∷ xs) l b none =
    given_other (set owners x (Some l)) xs l b (omega arith) ∙ get_or-set_other owners x b (Some l) None (λ e. omega (arith, none, ap (λ (y : ℕ). count b (y ∷ [])) e, count_one b))

pub given_long : (owners : List (Option ℕ)) (xs : List ℕ) (l : ℕ) → length (owners_given owners xs l) ≡ length owners
given_long owners [] l = refl
given_long owners (x ∷ xs) l = given_long (set owners x (Some l)) xs l ∙ length-set owners x (Some l)

given_in : (owners : List (Option ℕ)) (xs : List ℕ) (l b : ℕ) → 0 < count b xs → b < length owners → get_or (owners_given owners xs l) b None ≡ Some l
given_in owners [] l b some b_in = absurd (omega arith)
given_in owners (x ∷ xs) l b some b_in =
    ⊎_elim
    (λ (more : 0 < count b xs). given_in (set owners x (Some l)) xs l b more (omega (arith, length-set owners x (Some l))))
    (λ (none : count b xs ≤ 0).
    ⊎_elim
    (λ (same : b ≡ x). given_other (set owners x (Some l)) xs l b (omega arith) ∙ ap (λ (y : ℕ). get_or (set owners y (Some l)) b None) (sym same) ∙ get_or-set_same owners b (Some l) None b_in)
    (λ (other : b ≡ x → ⊥). absurd (omega (arith, some, count_other b x other)))
    (cases_eq b x))
    (cases_lt 0 (count b xs))

owned_spliced : (owners : List (Option ℕ)) (lists : List (List ℕ)) (l m : ℕ) → AreOwned owners lists → l < length lists → m < length lists → l ≢ m → ((b : ℕ) → in_all b lists ≤ 1) → ((b : ℕ) → 0 < in_all b lists → b < length owners) → AreOwned (owners_given owners (list_at lists m) l) (set (set lists l (list_at lists l ++ list_at lists m)) m [])
owned_spliced owners lists l m o l_in m_in differs once within =
    let new : List (List ℕ) = set (set lists l (list_at lists l ++ list_at lists m)) m [] in
    let at_l : (b : ℕ) → count b (list_at new l) ≡ count b (list_at lists l) + count b (list_at lists m) = λ b. ap (count b) (two_first lists l m (list_at lists l ++ list_at lists m) [] differs l_in) ∙ count-append b (list_at lists l) (list_at lists m) in
    let at_m : (b : ℕ) → count b (list_at new m) ≡ 0 = λ b. ap (count b) (two_second lists l m (list_at lists l ++ list_at lists m) [] m_in) in
    let at_other : (b k : ℕ) → k ≢ l → k ≢ m → count b (list_at new k) ≡ count b (list_at lists k) = λ b k not_l not_m. ap (count b) (two_other lists l m (list_at lists l ++ list_at lists m) [] k not_l not_m) in record {
      owned = λ b k some.
          ⊎_elim
          (λ (moved : 0 < count b (list_at lists m)).
          let it : get_or (owners_given owners (list_at lists m) l) b None ≡ Some l = given_in owners (list_at lists m) l b moved (within b (omega (arith, moved, count_in_all b lists m))) in
          ⊎_elim
          (λ (is : k ≡ l). it ∙ ap (λ (y : ℕ). Some y) (sym is))
          (λ (not_l : k ≡ l → ⊥).
          ⊎_elim
          (λ (is : k ≡ m). absurd (omega (arith, some, at_m b, ap (λ (y : ℕ). count b (list_at new y)) is)))
          (λ (not_m : k ≡ m → ⊥). absurd (omega (arith, some, moved, at_other b k not_l not_m, count_in_two b lists k m not_m, once b)))
          (cases_eq k m))
          (cases_eq k l))
          (λ (stays : count b (list_at lists m) ≤ 0).
          given_other owners (list_at lists m) l b (omega arith)
          ∙ o.owned b k (⊎_elim
          (λ (is : k ≡ l). omega (arith, some, stays, at_l b, ap (λ (y : ℕ). count b (list_at new y)) is, ap (λ (y : ℕ). count b (list_at lists y)) is))
          (λ (not_l : k ≡ l → ⊥).
          ⊎_elim
          (λ (is : k ≡ m). absurd (omega (arith, some, at_m b, ap (λ (y : ℕ). count b (list_at new y)) is)))
          (λ (not_m : k ≡ m → ⊥). omega (arith, some, at_other b k not_l not_m))
          (cases_eq k m))
          (cases_eq k l)))
          (cases_lt 0 (count b (list_at lists m)));
      held = λ b k is.
          ⊎_elim
          (λ (moved : 0 < count b (list_at lists m)).
          let it : Some l ≡ Some k = sym (given_in owners (list_at lists m) l b moved (within b (omega (arith, moved, count_in_all b lists m)))) ∙ is in
          let same : l ≡ k = cc in
          omega (arith, moved, at_l b, ap (λ (y : ℕ). count b (list_at new y)) same))
          (λ (stays : count b (list_at lists m) ≤ 0).
          let was : 0 < count b (list_at lists k) = o.held b k (sym (given_other owners (list_at lists m) l b (omega arith)) ∙ is) in
          let not_m : k ≡ m → ⊥ = λ e. omega (arith, was, stays, ap (λ (y : ℕ). count b (list_at lists y)) e) in
          ⊎_elim
          (λ (same : k ≡ l). omega (arith, was, at_l b, ap (λ (y : ℕ). count b (list_at new y)) same, ap (λ (y : ℕ). count b (list_at lists y)) same))
          (λ (not_l : k ≡ l → ⊥). omega (arith, was, at_other b k not_l not_m))
          (cases_eq k l))
          (cases_lt 0 (count b (list_at lists m)));
    }

-- links there lead where a chain goes
leads_chain : (nexts prevs : List ℕ) (a : ℕ) (xs : List ℕ) (z : ℕ) → Chain nexts prevs a xs z → Leads nexts (get_or nexts a 0) xs z
leads_chain nexts prevs a [] z h = h.0
leads_chain nexts prevs a (x ∷ xs) z h = (h.0, leads_chain nexts prevs x xs z h.2)

-- the cells of a list are those around its head
pub around_list : (heads nexts : List ℕ) (l : ℕ) → l < length heads → around nexts (get_or heads l 0) ≡ list_at (lists_of (rings_of heads nexts)) l
around_list heads nexts l l_in =
    sym (lists_at (rings_of heads nexts) l (omega (arith, long_rings heads nexts)) ∙ ap (λ (ring : List ℕ). drop 1 ring) (get_or-map (λ (x : ℕ). x ∷ walk nexts (length nexts) x x) heads l 0 [] l_in))

pub around_count : (heads nexts : List ℕ) (l h : ℕ) → l < length heads → h ≡ get_or heads l 0 → length (around nexts h) ≡ length (list_at (lists_of (rings_of heads nexts)) l)
around_count heads nexts l h l_in is = ap (λ (y : ℕ). length (around nexts y)) is ∙ ap (length {A = ℕ}) (around_list heads nexts l l_in)

-- where the list is empty nothing changes
unspliced_at : (ls : List (List ℕ)) (l m : ℕ) (ys : List ℕ) → list_at ls m ≡ ys → length ys ≡ 0 → set (set ls l (list_at ls l ++ ys)) m [] ≡ ls
unspliced_at ls l m [] is none = ap (λ (xs : List ℕ). set (set ls l xs) m []) (append-nil (list_at ls l)) ∙ ap (λ (ks : List (List ℕ)). set ks m []) (set-get_or ls l []) ∙ ap (set ls m) (sym is) ∙ set-get_or ls m []
unspliced_at ls l m (y ∷ ys) is none = absurd (omega arith)

pub unspliced : (ls : List (List ℕ)) (l m : ℕ) → length (list_at ls m) ≡ 0 → set (set ls l (list_at ls l ++ list_at ls m)) m [] ≡ ls
unspliced ls l m none = unspliced_at ls l m (list_at ls m) refl none

pub round : (heads nexts prevs : List ℕ) (owners : List (Option ℕ)) (l h : ℕ) → AreLinks heads nexts prevs owners → l < length heads → h ≡ get_or heads l 0 → IsRound nexts h
round heads nexts prevs owners l h k l_in is =
    let it = its heads nexts prevs owners l k l_in in
    let cells : list_at (lists_of (rings_of heads nexts)) l ≡ around nexts h = sym (around_list heads nexts l l_in) ∙ ap (around nexts) (sym is) in record {
      leads = subst (λ (y : ℕ). Leads nexts (get_or nexts y 0) (around nexts h) y) (sym is) (subst (λ (xs : List ℕ). Leads nexts (get_or nexts (get_or heads l 0) 0) xs (get_or heads l 0)) cells (leads_chain nexts prevs (get_or heads l 0) (list_at (lists_of (rings_of heads nexts)) l) (get_or heads l 0) it.chain));
      apart = ap (λ (y : ℕ). count y (around nexts h)) is ∙ ap (count (get_or heads l 0)) (sym cells) ∙ it.apart;
      within = λ x some. k.linked.within x (omega (arith, some, ap (count x) cells, count_in_all x (lists_of (rings_of heads nexts)) l, in_rings heads nexts x));
    }

-- what is known of two lists of which the second is spliced
pub record Splicing (heads nexts prevs : List ℕ) (l m : ℕ) : Type 0 where
  pub first_in : get_or nexts (get_or heads m 0) 0 < length nexts
  pub last_to_in : get_or prevs (get_or heads l 0) 0 < length nexts
  pub last_from_in : get_or prevs (get_or heads m 0) 0 < length nexts
  pub linked : AreLinked (nexts_spliced nexts prevs (get_or heads l 0) (get_or heads m 0)) (prevs_spliced nexts prevs (get_or heads l 0) (get_or heads m 0)) (rings_of heads (nexts_spliced nexts prevs (get_or heads l 0) (get_or heads m 0)))
  pub lists : lists_of (rings_of heads (nexts_spliced nexts prevs (get_or heads l 0) (get_or heads m 0))) ≡ set (set (lists_of (rings_of heads nexts)) l (list_at (lists_of (rings_of heads nexts)) l ++ list_at (lists_of (rings_of heads nexts)) m)) m []

splicing_at : (heads nexts prevs : List ℕ) (owners : List (Option ℕ)) (l m : ℕ) (ts ys : List ℕ) → AreLinks heads nexts prevs owners → l < length heads → m < length heads → l ≢ m → list_at (lists_of (rings_of heads nexts)) l ≡ ts → list_at (lists_of (rings_of heads nexts)) m ≡ ys → 0 < length ys → Splicing heads nexts prevs l m
splicing_at heads nexts prevs owners l m ts [] k l_in m_in differs l_is m_is some = absurd (omega arith)
splicing_at heads nexts prevs owners l m ts (x ∷ xs) k l_in m_in differs l_is m_is some =
    let rings : List (List ℕ) = rings_of heads nexts in
    let t : ℕ = get_or heads l 0 in
    let f : ℕ = get_or heads m 0 in
    let n' : List ℕ = nexts_spliced nexts prevs t f in
    let p' : List ℕ = prevs_spliced nexts prevs t f in
    let l_in' : l < length rings = omega (arith, long_rings heads nexts) in
    let m_in' : m < length rings = omega (arith, long_rings heads nexts) in
    let to_is : list_at rings l ≡ t ∷ ts = ring_at heads nexts l l_in ∙ ap (λ (zs : List ℕ). t ∷ zs) l_is in
    let from_is : list_at rings m ≡ f ∷ x ∷ xs = ring_at heads nexts m m_in ∙ ap (λ (zs : List ℕ). f ∷ zs) m_is in
    let both : (b : ℕ) → count b (t ∷ ts) + count b (f ∷ []) + count b (x ∷ xs) ≤ in_all b rings = λ b. omega (arith, count_in_two b rings l m differs, ap (count b) to_is, ap (count b) from_is) in
    let two : Two nexts prevs t ts f x xs = record {
      cells = k.linked.cells;
      to = subst (IsRing nexts prevs) to_is (k.linked.ring l l_in');
      from = subst (IsRing nexts prevs) from_is (k.linked.ring m m_in');
      once = λ b. omega (arith, both b, k.linked.once b);
      within = λ b there. k.linked.within b (omega (arith, both b, there));
    } in
    let w = written nexts prevs t ts f x xs two in
    let to_new : List ℕ = t ∷ (ts ++ x ∷ xs) in
    let new : List (List ℕ) = set (set rings l to_new) m (f ∷ []) in
    let linked : AreLinked n' p' new = linked_spliced nexts prevs rings l m t ts f x xs k.linked l_in' m_in' differs to_is from_is two in
    let heads_same : heads_of new ≡ heads_of rings =
    map-set head_of (set rings l to_new) m (f ∷ [])
    ∙ ap (λ (hs : List ℕ). set hs m f) (map-set head_of rings l to_new)
    ∙ ap (λ (hs : List ℕ). set (set hs l t) m f) (sym (heads_walked heads nexts))
    ∙ ap (λ (hs : List ℕ). set hs m f) (set-get_or heads l 0)
    ∙ set-get_or heads m 0
    ∙ heads_walked heads nexts in
    let walked : rings_of heads n' ≡ new = rings_walked n' p' heads new linked (heads_walked heads nexts ∙ sym heads_same) in
    let tail : List ℕ → List ℕ = λ (ring : List ℕ). drop 1 ring in record {
      first_in = two.within (get_or nexts f 0) (omega (arith, ap (λ (y : ℕ). count y (x ∷ xs)) two.from.0, count_head x xs));
      last_to_in = two.within (get_or prevs t 0) (omega (arith, w.last_to));
      last_from_in = two.within (get_or prevs f 0) (omega (arith, w.last_from));
      linked = subst (AreLinked n' p') (sym walked) linked;
      lists = ap lists_of walked
          ∙ map-set tail (set rings l to_new) m (f ∷ [])
          ∙ ap (λ (ls : List (List ℕ)). set ls m []) (map-set tail rings l to_new)
          ∙ ap (λ (zs : List ℕ). set (set (lists_of rings) l (zs ++ x ∷ xs)) m []) (sym l_is)
          ∙ ap (λ (zs : List ℕ). set (set (lists_of rings) l (list_at (lists_of rings) l ++ zs)) m []) (sym m_is);
    }

pub splicing : (heads nexts prevs : List ℕ) (owners : List (Option ℕ)) (l m : ℕ) → AreLinks heads nexts prevs owners → l < length heads → m < length heads → l ≢ m → 0 < length (list_at (lists_of (rings_of heads nexts)) m) → Splicing heads nexts prevs l m
splicing heads nexts prevs owners l m k l_in m_in differs some = splicing_at heads nexts prevs owners l m (list_at (lists_of (rings_of heads nexts)) l) (list_at (lists_of (rings_of heads nexts)) m) k l_in m_in differs refl refl some

pub links_spliced : (heads nexts prevs nexts' prevs' : List ℕ) (owners owners' : List (Option ℕ)) (l m t f : ℕ) → AreLinks heads nexts prevs owners → l < length heads → m < length heads → l ≢ m → 0 < length (list_at (lists_of (rings_of heads nexts)) m) → t ≡ get_or heads l 0 → f ≡ get_or heads m 0 → nexts' ≡ nexts_spliced nexts prevs t f → prevs' ≡ prevs_spliced nexts prevs t f → owners' ≡ owners_given owners (around nexts f) l → AreLinks heads nexts' prevs' owners' × (lists_of (rings_of heads nexts') ≡ set (set (lists_of (rings_of heads nexts)) l (list_at (lists_of (rings_of heads nexts)) l ++ list_at (lists_of (rings_of heads nexts)) m)) m [])
links_spliced heads nexts prevs nexts' prevs' owners owners' l m t f k l_in m_in differs some t_is f_is n_is p_is o_is =
    let it = splicing heads nexts prevs owners l m k l_in m_in differs some in
    let old : List (List ℕ) = lists_of (rings_of heads nexts) in
    let new : List (List ℕ) = set (set old l (list_at old l ++ list_at old m)) m [] in
    let n' : List ℕ = nexts_spliced nexts prevs (get_or heads l 0) (get_or heads m 0) in
    let p' : List ℕ = prevs_spliced nexts prevs (get_or heads l 0) (get_or heads m 0) in
    let n_is' : nexts' ≡ n' = n_is ∙ ap (λ (y : ℕ). nexts_spliced nexts prevs y f) t_is ∙ ap (nexts_spliced nexts prevs (get_or heads l 0)) f_is in
    let p_is' : prevs' ≡ p' = p_is ∙ ap (λ (y : ℕ). prevs_spliced nexts prevs y f) t_is ∙ ap (prevs_spliced nexts prevs (get_or heads l 0)) f_is in
    let cells : around nexts f ≡ list_at old m = ap (around nexts) f_is ∙ around_list heads nexts m m_in in
    let o_is' : owners' ≡ owners_given owners (list_at old m) l = o_is ∙ ap (λ (xs : List ℕ). owners_given owners xs l) cells in
    let lists : lists_of (rings_of heads nexts') ≡ new = ap (λ (xs : List ℕ). lists_of (rings_of heads xs)) n_is' ∙ it.lists in
    let long : length nexts' ≡ length nexts = ap (length {A = ℕ}) n_is' ∙ three_long nexts (get_or prevs (get_or heads l 0) 0) (get_or nexts (get_or heads m 0) 0) (get_or prevs (get_or heads m 0) 0) (get_or heads l 0) (get_or heads m 0) (get_or heads m 0) in
    let owned : AreOwned (owners_given owners (list_at old m) l) new =
    owned_spliced owners old l m k.owned (omega (arith, long_lists heads nexts)) (omega (arith, long_lists heads nexts)) differs
    (λ b. omega (arith, in_rings heads nexts b, k.linked.once b))
    (λ b there. omega (arith, k.as_many, k.linked.within b (omega (arith, in_rings heads nexts b, there)))) in (
      record {
        linked = subst (λ (xs : List ℕ). AreLinked xs prevs' (rings_of heads xs)) (sym n_is') (subst (λ (xs : List ℕ). AreLinked n' xs (rings_of heads n')) (sym p_is') it.linked);
        owned = subst (λ (xs : List (Option ℕ)). AreOwned xs (lists_of (rings_of heads nexts'))) (sym o_is') (subst (AreOwned (owners_given owners (list_at old m) l)) (sym lists) owned);
        as_many = ap (length {A = Option ℕ}) o_is' ∙ given_long owners (list_at old m) l ∙ k.as_many ∙ sym long;
        small = omega (arith, k.small, long);
        few = k.few;
      },
      lists,
    )

module _ {T : Type 0} where
  entries_append : (values : List (Option T)) (xs ys : List ℕ) → entries values (xs ++ ys) ≡ entries values xs ++ entries values ys
  entries_append values [] ys = refl
  entries_append values (x ∷ xs) ys =
      ap (λ (es : List (ℕ × T)). entry_of x (get_or values x None) ++ es) (entries_append values xs ys)
      ∙ sym (append_assoc (entry_of x (get_or values x None)) (entries values xs) (entries values ys))

  pub entries_spliced : (values : List (Option T)) (lists : List (List ℕ)) (l m : ℕ) → entries_of values (set (set lists l (list_at lists l ++ list_at lists m)) m []) ≡ spliced (entries_of values lists) l m
  entries_spliced values lists l m =
      map-set (entries values) (set lists l (list_at lists l ++ list_at lists m)) m []
      ∙ ap (λ (ls : List (List (ℕ × T))). set ls m []) (map-set (entries values) lists l (list_at lists l ++ list_at lists m))
      ∙ ap (λ (es : List (ℕ × T)). set (set (entries_of values lists) l es) m []) (entries_append values (list_at lists l) (list_at lists m))
      ∙ ap (λ (es : List (ℕ × T)). set (set (entries_of values lists) l (es ++ entries values (list_at lists m))) m []) (sym (entries_at values lists l))
      ∙ ap (λ (es : List (ℕ × T)). set (set (entries_of values lists) l (list_at (entries_of values lists) l ++ es)) m []) (sym (entries_at values lists m))

  one_entry : (x : ℕ) (o : Option T) (es : List (ℕ × T)) → is_some o ≡ true → length (entry_of x o ++ es) ≡ 1 + length es
  one_entry x None es has = cc
  one_entry x (Some v) es has = omega arith

  -- as many entries as cells, where each cell has a value
  pub entries_count : (values : List (Option T)) (xs : List ℕ) → ((x : ℕ) → 0 < count x xs → is_some (get_or values x None) ≡ true) → length (entries values xs) ≡ length xs
  entries_count values [] h = refl
  entries_count values (x ∷ xs) h = omega (arith, one_entry x (get_or values x None) (entries values xs) (h x (omega (arith, count_head x xs))), entries_count values xs (λ y some. h y (omega (arith, some))))

  pub arena_spliced : (heads : List ℕ) (lists : List (List ℕ)) (cells : ℕ) (values : List (Option T)) (free : List ℕ) (room l m : ℕ) → IsArena heads lists cells values free room → l < length lists → m < length lists → l ≢ m → IsArena heads (set (set lists l (list_at lists l ++ list_at lists m)) m []) cells values free room
  arena_spliced heads lists cells values free room l m k l_in m_in differs =
      let all : (b : ℕ) → in_all b (set (set lists l (list_at lists l ++ list_at lists m)) m []) ≡ in_all b lists = λ b. omega (arith, in_all-two b lists l m (list_at lists l ++ list_at lists m) [] differs l_in m_in, count-append b (list_at lists l) (list_at lists m)) in record {
        once = λ b. omega (arith, all b, k.once b);
        within = λ b there. k.within b (omega (arith, all b, there));
        as_many = k.as_many;
        valued = λ b there. k.valued b (omega (arith, all b, there));
        room_enough = k.room_enough;
      }
