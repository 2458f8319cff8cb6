-- What links and wakes do to lists of ranks.
use Rattle.std.proofs.Common.{◌≡◌, ℕ, zero, suc, ◌+◌, ◌<◌, ◌≤◌, ◌++◌, ◌≢◌, Some, List, [], ◌∷◌, length, replicate, drop, set, refl, ap, subst, ◌∙◌, ⊎_elim, inl, inr, arith, get_or-set_same, get_or-set_other}
use Rattle.std.specs.Prelude.{◌⊎◌}
use Rattle.std.specs.List.{slice_get}
use Rattle.std.proofs.lemmas.List.{length-set, length-append}
use Rattle.std.proofs.lemmas.Bool.{cases_eq}
use Rattle.arenaqueue.specs.Numbers.{list_at, sum_to}
use Rattle.arenaqueue.specs.inner.Numbers.{count, in_all}
use Rattle.arenaqueue.proofs.NumberLemmas.{count-append, count_one, count_other, in_all-set, count_in_all}
use Rattle.arenaqueue.proofs.SumLemmas.{sum_both, sum_zero, sum_most, sum_count}
use Rattle.moves.specs.inner.Links.{linked_ranks, AreListed}

-- how many ranks stand in lists that change
pub linked_ranks-set : (ls : List (List ℕ)) (l : ℕ) (xs : List ℕ) → l < length ls → linked_ranks (set ls l xs) + length (list_at ls l) ≡ linked_ranks ls + length xs
linked_ranks-set [] l xs h = absurd (omega arith)
linked_ranks-set (y ∷ ys) zero xs h = omega arith
linked_ranks-set (y ∷ ys) (suc l) xs h = omega (arith, linked_ranks-set ys l xs (omega arith))

pub most_linked : (ls : List (List ℕ)) (l : ℕ) → length (list_at ls l) ≤ linked_ranks ls
most_linked [] l = omega arith
most_linked (y ∷ ys) zero = omega arith
most_linked (y ∷ ys) (suc l) = omega (arith, most_linked ys l)

pub at_same : (ls : List (List ℕ)) (l : ℕ) (xs : List ℕ) → l < length ls → list_at (set ls l xs) l ≡ xs
at_same ls l xs h = get_or-set_same ls l xs [] h

pub at_other : (ls : List (List ℕ)) (l m : ℕ) (xs : List ℕ) → m ≢ l → list_at (set ls l xs) m ≡ list_at ls m
at_other ls l m xs h = get_or-set_other ls l m xs [] h

-- What waking does: ranks go from other lists to the worklist, and all stay in some list.
pub record Wakes (ls new : List (List ℕ)) : Type 0 where
  pub lists : length new ≡ length ls
  pub nodes : linked_ranks new ≡ linked_ranks ls
  pub all : (r : ℕ) → in_all r new ≡ in_all r ls
  pub fewer : (r l : ℕ) → 0 < l → count r (list_at new l) ≤ count r (list_at ls l)

pub wakes_none : (ls : List (List ℕ)) → Wakes ls ls
wakes_none ls = record { lists = refl; nodes = refl; all = λ r. refl; fewer = λ r l later. omega arith }

pub wakes_both : (ls new last : List (List ℕ)) → Wakes ls new → Wakes new last → Wakes ls last
wakes_both ls new last h g = record {
  lists = g.lists ∙ h.lists;
  nodes = g.nodes ∙ h.nodes;
  all = λ r. g.all r ∙ h.all r;
  fewer = λ r l later. omega (arith, g.fewer r l later, h.fewer r l later);
}

-- the lists once the ranks of one are put onto the worklist
abbrev woken_lists : List (List ℕ) → ℕ → List (List ℕ)
woken_lists ls l = set (set ls 0 (list_at ls 0 ++ list_at ls l)) l []

pub woken_work : (ls : List (List ℕ)) (l : ℕ) → 0 < l → l < length ls → list_at (woken_lists ls l) 0 ≡ list_at ls 0 ++ list_at ls l
woken_work ls l later within = at_other (set ls 0 (list_at ls 0 ++ list_at ls l)) l 0 [] (λ e. omega arith) ∙ at_same ls 0 (list_at ls 0 ++ list_at ls l) (omega arith)

pub woken_there : (ls : List (List ℕ)) (l : ℕ) → 0 < l → l < length ls → list_at (woken_lists ls l) l ≡ []
woken_there ls l later within = at_same (set ls 0 (list_at ls 0 ++ list_at ls l)) l [] (omega (arith, length-set ls 0 (list_at ls 0 ++ list_at ls l)))

pub woken_others : (ls : List (List ℕ)) (l m : ℕ) → 0 < m → m ≢ l → list_at (woken_lists ls l) m ≡ list_at ls m
woken_others ls l m later differs =
    at_other (set ls 0 (list_at ls 0 ++ list_at ls l)) l m [] differs
    ∙ at_other ls 0 m (list_at ls 0 ++ list_at ls l) (λ e. omega arith)

pub wakes_list : (ls : List (List ℕ)) (l : ℕ) → 0 < l → l < length ls → Wakes ls (woken_lists ls l)
wakes_list ls l later within =
    let there : list_at (set ls 0 (list_at ls 0 ++ list_at ls l)) l ≡ list_at ls l = at_other ls 0 l (list_at ls 0 ++ list_at ls l) (λ e. omega arith) in
    record {
      lists = length-set (set ls 0 (list_at ls 0 ++ list_at ls l)) l [] ∙ length-set ls 0 (list_at ls 0 ++ list_at ls l);
      nodes =
          omega (arith, linked_ranks-set (set ls 0 (list_at ls 0 ++ list_at ls l)) l [] (omega (arith, length-set ls 0 (list_at ls 0 ++ list_at ls l))), linked_ranks-set ls 0 (list_at ls 0 ++ list_at ls l) (omega arith), length-append (list_at ls 0) (list_at ls l), ap (length {A = ℕ}) there);
      all = λ r.
          omega (arith, in_all-set r (set ls 0 (list_at ls 0 ++ list_at ls l)) l [] (omega (arith, length-set ls 0 (list_at ls 0 ++ list_at ls l))), in_all-set r ls 0 (list_at ls 0 ++ list_at ls l) (omega arith), count-append r (list_at ls 0) (list_at ls l), ap (count r) there);
      fewer = λ r m positive.
          ⊎_elim
          (λ (same : m ≡ l).
          let none : count r (list_at (woken_lists ls l) m) ≡ 0 = rw same (ap (count r) (woken_there ls l later within)) in
          omega (arith, none))
          (λ (other : m ≢ l). omega (arith, ap (count r) (woken_others ls l m positive other)))
          (cases_eq m l);
    }

pub linked_woken : (ranks : ℕ) (ls new : List (List ℕ)) (W : ℕ → ℕ → Type 0) (R : ℕ → Type 0) → AreListed ranks ls W R → Wakes ls new → AreListed ranks new W R
linked_woken ranks ls new W R h wakes = record {
  ranks_only = λ r on. h.ranks_only r (omega (arith, wakes.all r));
  once = λ r. omega (arith, wakes.all r, h.once r);
  waits = λ r l later on. h.waits r l later (omega (arith, wakes.fewer r l later));
  rests = λ r is_rank none. h.rests r is_rank (omega (arith, wakes.all r));
}

-- what waiting and resting mean may change
pub changed : (ranks : ℕ) (ls : List (List ℕ)) (W V : ℕ → ℕ → Type 0) (R S : ℕ → Type 0) → AreListed ranks ls W R → ((r l : ℕ) → r < ranks → 0 < l → 0 < count r (list_at ls l) → W r l → V r l) → ((r : ℕ) → r < ranks → in_all r ls ≡ 0 → R r → S r) → AreListed ranks ls V S
changed ranks ls W V R S h waits rests = record {
  ranks_only = h.ranks_only;
  once = h.once;
  waits = λ r l later on. waits r l (h.ranks_only r (omega (arith, count_in_all r ls l))) later on (h.waits r l later on);
  rests = λ r is_rank none. rests r is_rank none (h.rests r is_rank none);
}

-- the first of the worklist is taken off
pub record IsTaken (ranks : ℕ) (ls new : List (List ℕ)) (rank : ℕ) (W : ℕ → ℕ → Type 0) (R : ℕ → Type 0) : Type 0 where
  pub linked : AreListed ranks new W (λ r. R r ⊎ (r ≡ rank))
  pub is_rank : rank < ranks
  pub in_none : in_all rank new ≡ 0
  pub lists : length new ≡ length ls
  pub nodes : linked_ranks new + 1 ≡ linked_ranks ls
  pub shorter : length (list_at new 0) + 1 ≡ length (list_at ls 0)

taken_entry : (ranks : ℕ) (ls new : List (List ℕ)) (rank : ℕ) (rest : List ℕ) (W : ℕ → ℕ → Type 0) (R : ℕ → Type 0) → AreListed ranks ls W R → 0 < length ls → list_at ls 0 ≡ rank ∷ rest → new ≡ set ls 0 rest → IsTaken ranks ls new rank W R
taken_entry ranks ls new rank rest W R h some first is =
    let all : (r : ℕ) → in_all r new + count r (rank ∷ []) ≡ in_all r ls = λ r.
    omega (arith, ap (in_all r) is, in_all-set r ls 0 rest some, ap (count r) first) in
    let others : (l : ℕ) → 0 < l → list_at new l ≡ list_at ls l = λ l later. ap (λ (m : List (List ℕ)). list_at m l) is ∙ at_other ls 0 l rest (λ e. omega arith) in
    let own : 0 < in_all rank ls = omega (arith, all rank, count_one rank) in
    record {
      linked = record {
        ranks_only = λ r on. h.ranks_only r (omega (arith, all r));
        once = λ r. omega (arith, all r, h.once r);
        waits = λ r l later on. h.waits r l later (omega (arith, ap (count r) (others l later)));
        rests = λ r is_rank none.
            ⊎_elim
            (λ (same : r ≡ rank). inr same)
            (λ (other : r ≢ rank). inl (h.rests r is_rank (omega (arith, all r, count_other r rank other))))
            (cases_eq r rank);
      };
      is_rank = h.ranks_only rank own;
      in_none = omega (arith, all rank, count_one rank, h.once rank);
      lists = ap (length {A = List ℕ}) is ∙ length-set ls 0 rest;
      nodes = omega (arith, ap linked_ranks is, linked_ranks-set ls 0 rest some, ap (length {A = ℕ}) first);
      shorter = omega (arith, ap (λ (m : List (List ℕ)). length (list_at m 0)) is, ap (length {A = ℕ}) (at_same ls 0 rest some), ap (length {A = ℕ}) first);
    }

pub taken : (ranks : ℕ) (ls new : List (List ℕ)) (rank : ℕ) (W : ℕ → ℕ → Type 0) (R : ℕ → Type 0) → AreListed ranks ls W R → 0 < length ls → slice_get (list_at ls 0) 0 ≡ Some rank → new ≡ set ls 0 (drop 1 (list_at ls 0)) → IsTaken ranks ls new rank W R
taken ranks ls new rank W R h some first is = by_list (list_at ls 0) refl first is
  where
    by_list : (xs : List ℕ) → list_at ls 0 ≡ xs → slice_get xs 0 ≡ Some rank → new ≡ set ls 0 (drop 1 xs) → IsTaken ranks ls new rank W R
    by_list [] e f g = cc
    by_list (other ∷ rest) e f g =
        let same : other ≡ rank = cc in
        taken_entry ranks ls new rank rest W R h some (rw same at e) g

-- the rank in hand is put into a list
pub linked_at : (ranks : ℕ) (ls new : List (List ℕ)) (l rank : ℕ) (W : ℕ → ℕ → Type 0) (R : ℕ → Type 0) → AreListed ranks ls W (λ r. R r ⊎ (r ≡ rank)) → rank < ranks → in_all rank ls ≡ 0 → l < length ls → (0 < l → W rank l) → new ≡ set ls l (list_at ls l ++ rank ∷ []) → AreListed ranks new W R
linked_at ranks ls new l rank W R h is_rank none within right is =
    let all : (r : ℕ) → in_all r new ≡ in_all r ls + count r (rank ∷ []) = λ r.
    omega (arith, ap (in_all r) is, in_all-set r ls l (list_at ls l ++ rank ∷ []) within, count-append r (list_at ls l) (rank ∷ [])) in
    let there : (r : ℕ) → count r (list_at new l) ≡ count r (list_at ls l) + count r (rank ∷ []) = λ r.
    omega (arith, ap (λ (m : List (List ℕ)). count r (list_at m l)) is, ap (count r) (at_same ls l (list_at ls l ++ rank ∷ []) within), count-append r (list_at ls l) (rank ∷ [])) in
    let others : (m : ℕ) → m ≢ l → list_at new m ≡ list_at ls m = λ m differs. ap (λ (k : List (List ℕ)). list_at k m) is ∙ at_other ls l m (list_at ls l ++ rank ∷ []) differs in
    record {
      ranks_only = λ r on.
          ⊎_elim
          (λ (same : r ≡ rank). rw same is_rank)
          (λ (other : r ≢ rank). h.ranks_only r (omega (arith, all r, count_other r rank other)))
          (cases_eq r rank);
      once = λ r.
          ⊎_elim
          (λ (same : r ≡ rank). let one : in_all rank new ≤ 1 = omega (arith, all rank, count_one rank, none) in rw same one)
          (λ (other : r ≢ rank). omega (arith, all r, count_other r rank other, h.once r))
          (cases_eq r rank);
      waits = λ r m later on.
          ⊎_elim
          (λ (same : r ≡ rank).
          ⊎_elim
          (λ (here : m ≡ l). rw (same, here) (right (omega arith)))
          (λ (elsewhere : m ≢ l).
          let on' : 0 < count rank (list_at new m) = subst (λ (k : ℕ). 0 < count k (list_at new m)) same on in
          absurd (omega (arith, ap (count rank) (others m elsewhere), count_in_all rank ls m)))
          (cases_eq m l))
          (λ (other : r ≢ rank).
          ⊎_elim
          (λ (here : m ≡ l).
          let on' : 0 < count r (list_at new l) = subst (λ (k : ℕ). 0 < count r (list_at new k)) here on in
          rw here (h.waits r l (omega arith) (omega (arith, there r, count_other r rank other))))
          (λ (elsewhere : m ≢ l). h.waits r m later (omega (arith, ap (count r) (others m elsewhere))))
          (cases_eq m l))
          (cases_eq r rank);
      rests = λ r within_ranks in_none.
          ⊎_elim
          (λ (rests : R r). rests)
          (λ (same : r ≡ rank).
          let none_now : in_all rank new ≡ 0 = subst (λ (k : ℕ). in_all k new ≡ 0) same in_none in
          absurd (omega (arith, all rank, count_one rank)))
          (h.rests r within_ranks (omega (arith, all r)));
    }

-- the nodes and the worklist once the rank in hand is put into a list
pub linked_nodes : (ls new : List (List ℕ)) (l rank : ℕ) → l < length ls → new ≡ set ls l (list_at ls l ++ rank ∷ []) → (length new ≡ length ls) × (linked_ranks new ≡ linked_ranks ls + 1)
linked_nodes ls new l rank within is = (
  ap (length {A = List ℕ}) is ∙ length-set ls l (list_at ls l ++ rank ∷ []),
  omega (arith, ap linked_ranks is, linked_ranks-set ls l (list_at ls l ++ rank ∷ []) within, length-append (list_at ls l) (rank ∷ [])),
)

pub linked_behind : (ls new : List (List ℕ)) (l rank : ℕ) → 0 < l → new ≡ set ls l (list_at ls l ++ rank ∷ []) → list_at new 0 ≡ list_at ls 0
linked_behind ls new l rank later is = ap (λ (m : List (List ℕ)). list_at m 0) is ∙ at_other ls l 0 (list_at ls l ++ rank ∷ []) (λ e. omega arith)

-- lists without entries
none_at : (n l : ℕ) → ◌≡◌ {A = List ℕ} (list_at (replicate n []) l) []
none_at zero l = refl
none_at (suc n) zero = refl
none_at (suc n) (suc l) = none_at n l

none_in_all : (n r : ℕ) → in_all r (replicate n []) ≡ 0
none_in_all zero r = refl
none_in_all (suc n) r = omega (arith, none_in_all n r)

none_held : (n : ℕ) → linked_ranks (replicate n []) ≡ 0
none_held zero = refl
none_held (suc n) = omega (arith, none_held n)

pub none_linked : (ranks n : ℕ) (W : ℕ → ℕ → Type 0) (R : ℕ → Type 0) → ((r : ℕ) → r < ranks → R r) → AreListed ranks (replicate n []) W R
none_linked ranks n W R rests = record {
  ranks_only = λ r on. absurd (omega (arith, none_in_all n r));
  once = λ r. omega (arith, none_in_all n r);
  waits = λ r l later on. absurd (omega (arith, ap (count r) (none_at n l)));
  rests = λ r is_rank none. rests r is_rank;
}

pub none_there : (n : ℕ) → (linked_ranks (replicate n []) ≡ 0) × (◌≡◌ {A = List ℕ} (list_at (replicate n []) 0) [])
none_there n = (none_held n, none_at n 0)

-- each rank that stands in a list counts once
pub sum_all : (n : ℕ) (ls : List (List ℕ)) → ((r : ℕ) → 0 < in_all r ls → r < n) → sum_to n (λ k. in_all k ls) ≡ linked_ranks ls
sum_all n [] h = sum_zero n (λ k. 0) (λ k l. refl)
sum_all n (xs ∷ ls) h =
    omega (arith, sum_both n (λ k. count k xs) (λ k. in_all k ls) (λ k. in_all k (xs ∷ ls)) (λ k. refl), sum_count n xs (λ r l. h r (omega (arith, l))), sum_all n ls (λ r l. h r (omega (arith, l))))

sum_less : (n x : ℕ) (f : ℕ → ℕ) → ((k : ℕ) → f k ≤ 1) → x < n → f x ≡ 0 → sum_to n f < n
sum_less zero x f h l e = absurd (omega arith)
sum_less (suc n) x f h l e =
    ⊎_elim
    (λ (same : n ≡ x). let none : f n ≡ 0 = rw same e in omega (arith, sum_most n f h))
    (λ (other : n ≢ x). omega (arith, sum_less n x f h (omega arith) e, h n))
    (cases_eq n x)

-- while a rank stands in no list, the lists have fewer entries than there are ranks
pub linked_less : (ranks rank : ℕ) (ls : List (List ℕ)) (W : ℕ → ℕ → Type 0) (R : ℕ → Type 0) → AreListed ranks ls W R → rank < ranks → in_all rank ls ≡ 0 → linked_ranks ls < ranks
linked_less ranks rank ls W R h is_rank none =
    omega (arith, sum_all ranks ls h.ranks_only, sum_less ranks rank (λ k. in_all k ls) h.once is_rank none)
