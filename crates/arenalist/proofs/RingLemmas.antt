-- What unlinking and linking do to rings.
use Rattle.std.proofs.Common.{append-nil, ◌≡◌, ℕ, zero, suc, ◌+◌, ◌<◌, ◌≤◌, ◌++◌, ◌≢◌, List, [], ◌∷◌, length, map, drop, get_or, set, refl, sym, ap, subst, ◌∙◌, ⊎_elim, inl, inr, arith, get_or-set_same, get_or-set_other}
use Rattle.std.specs.Prelude.{◌⊎◌, ◌==◌, if◌then◌else◌}
use Rattle.std.proofs.lemmas.List.{length-set, length-map, get_or-map, ext_get_or, map-set, set-get_or}
use Rattle.std.proofs.lemmas.Bool.{cases_eq, eq-eqb, ne_eqb}
use Rattle.arenaqueue.specs.Numbers.{list_at}
use Rattle.arenaqueue.specs.inner.Numbers.{count, in_all, without}
use Rattle.arenalist.specs.inner.Rings.{Chain, IsRing, walk, rings_of, lists_of, AreLinked, nexts_linked, prevs_linked}
use Rattle.arenaqueue.proofs.NumberLemmas.{count-append, count_one, count_other, count_head, in_all-set, count_in_all, count_in_two, cut_at, without_none, without_cut, in_all_without, count_drop, apart, at_map}
use Rattle.arenaqueue.proofs.SumLemmas.{length_most}

-- chains
pub chain_same : (nexts prevs nexts' prevs' : List ℕ) (a : ℕ) (xs : List ℕ) (z : ℕ) → Chain nexts prevs a xs z → ((b : ℕ) → 0 < count b (a ∷ xs) → get_or nexts' b 0 ≡ get_or nexts b 0) → ((b : ℕ) → 0 < count b xs + count b (z ∷ []) → get_or prevs' b 0 ≡ get_or prevs b 0) → Chain nexts' prevs' a xs z
chain_same nexts prevs nexts' prevs' a [] z h n p = (n a (omega (arith, count_one a)) ∙ h.0, p z (omega (arith, count_one z)) ∙ h.1)
chain_same nexts prevs nexts' prevs' a (x ∷ xs) z h n p =
    (n a (omega (arith, count_head a (x ∷ xs))) ∙ h.0, p x (omega (arith, count_head x xs)) ∙ h.1, chain_same nexts prevs nexts' prevs' x xs z h.2 (λ b some. n b (omega (arith, some))) (λ b some. p b (omega (arith, some))))

pub chain_split : (nexts prevs : List ℕ) (a : ℕ) (xs : List ℕ) (n : ℕ) (ys : List ℕ) (z : ℕ) → Chain nexts prevs a (xs ++ n ∷ ys) z → Chain nexts prevs a xs n × Chain nexts prevs n ys z
chain_split nexts prevs a [] n ys z h = ((h.0, h.1), h.2)
chain_split nexts prevs a (x ∷ xs) n ys z h =
    let rest = chain_split nexts prevs x xs n ys z h.2 in
    ((h.0, h.1, rest.0), rest.1)

pub chain_join : (nexts prevs : List ℕ) (a : ℕ) (xs : List ℕ) (n : ℕ) (ys : List ℕ) (z : ℕ) → Chain nexts prevs a xs n → Chain nexts prevs n ys z → Chain nexts prevs a (xs ++ n ∷ ys) z
chain_join nexts prevs a [] n ys z h k = (h.0, h.1, k)
chain_join nexts prevs a (x ∷ xs) n ys z h k = (h.0, h.1, chain_join nexts prevs x xs n ys z h.2 k)

-- the last before the end
pub last_in : (nexts prevs : List ℕ) (a : ℕ) (xs : List ℕ) (z : ℕ) → Chain nexts prevs a xs z → 0 < count (get_or prevs z 0) (a ∷ xs)
last_in nexts prevs a [] z h = let one : count (get_or prevs z 0) (a ∷ []) ≡ 1 = rw h.1 (count_one a) in omega arith
last_in nexts prevs a (x ∷ xs) z h = omega (arith, last_in nexts prevs x xs z h.2)

-- a chain to `z` goes to `m` once the last link is bent
pub chain_bent : (nexts prevs nexts' prevs' : List ℕ) (a : ℕ) (xs : List ℕ) (z m : ℕ) → Chain nexts prevs a xs z → ((b : ℕ) → count b (a ∷ xs) ≤ 1) → ((b : ℕ) → 0 < count b (a ∷ xs) → b ≢ get_or prevs z 0 → get_or nexts' b 0 ≡ get_or nexts b 0) → get_or nexts' (get_or prevs z 0) 0 ≡ m → ((b : ℕ) → 0 < count b xs → get_or prevs' b 0 ≡ get_or prevs b 0) → get_or prevs' m 0 ≡ get_or prevs z 0 → Chain nexts' prevs' a xs m
chain_bent nexts prevs nexts' prevs' a [] z m h once n to p back = (ap (λ (b : ℕ). get_or nexts' b 0) (sym h.1) ∙ to, back ∙ h.1)
chain_bent nexts prevs nexts' prevs' a (x ∷ xs) z m h once n to p back =
    let last = last_in nexts prevs x xs z h.2 in
    let not_first : a ≢ get_or prevs z 0 = λ e. let again : 0 < count a (x ∷ xs) = subst (λ (b : ℕ). 0 < count b (x ∷ xs)) (sym e) last in omega (arith, once a, count_head a (x ∷ xs)) in
    (n a (omega (arith, count_head a (x ∷ xs))) not_first ∙ h.0, p x (omega (arith, count_head x xs)) ∙ h.1, chain_bent nexts prevs nexts' prevs' x xs z m h.2 (λ b. omega (arith, once b)) (λ b some differs. n b (omega (arith, some)) differs) to (λ b some. p b (omega (arith, some))) back)

-- the neighbours of a number in a ring
pub record Between (nexts prevs : List ℕ) (h : ℕ) (xs : List ℕ) (n : ℕ) (ys : List ℕ) : Type 0 where
  pub before : 0 < count (get_or prevs n 0) (h ∷ xs)
  pub after : 0 < count (get_or nexts n 0) (h ∷ ys)
  pub bent : get_or prevs n 0 < length nexts → get_or nexts n 0 < length prevs → Chain (set nexts (get_or prevs n 0) (get_or nexts n 0)) (set prevs (get_or nexts n 0) (get_or prevs n 0)) h (xs ++ ys) h

pub between : (nexts prevs : List ℕ) (h : ℕ) (xs : List ℕ) (n : ℕ) (ys : List ℕ) → Chain nexts prevs h (xs ++ n ∷ ys) h → ((b : ℕ) → count b (h ∷ []) + count b xs + count b (n ∷ []) + count b ys ≤ 1) → Between nexts prevs h xs n ys
between nexts prevs h xs n [] chain once =
    let parts = chain_split nexts prevs h xs n [] h chain in
    let q_is : get_or nexts n 0 ≡ h = parts.1.0 in
    let last = last_in nexts prevs h xs n parts.0 in record {
      before = last;
      after = rw q_is (omega (arith, count_one h));
      bent = λ p_in q_in.
          let q_in' : h < length prevs = subst (λ (x : ℕ). x < length prevs) q_is q_in in
          let bent : Chain (set nexts (get_or prevs n 0) h) (set prevs h (get_or prevs n 0)) h xs h =
          chain_bent nexts prevs (set nexts (get_or prevs n 0) h) (set prevs h (get_or prevs n 0)) h xs n h parts.0
          (λ b. omega (arith, once b))
          (λ b some differs. get_or-set_other nexts (get_or prevs n 0) b h 0 differs)
          (get_or-set_same nexts (get_or prevs n 0) h 0 p_in)
          (λ b some. get_or-set_other prevs h b (get_or prevs n 0) 0 (λ e. omega (arith, once b, count_one b, ap (λ (x : ℕ). count b (x ∷ [])) e)))
          (get_or-set_same prevs h (get_or prevs n 0) 0 q_in') in
          let there : Chain (set nexts (get_or prevs n 0) h) (set prevs h (get_or prevs n 0)) h (xs ++ []) h = subst (λ (zs : List ℕ). Chain (set nexts (get_or prevs n 0) h) (set prevs h (get_or prevs n 0)) h zs h) (sym (append-nil xs)) bent in
          subst (λ (q : ℕ). Chain (set nexts (get_or prevs n 0) q) (set prevs q (get_or prevs n 0)) h (xs ++ []) h) (sym q_is) there;
    }
between nexts prevs h xs n (y ∷ ys) chain once =
    let parts = chain_split nexts prevs h xs n (y ∷ ys) h chain in
    let q_is : get_or nexts n 0 ≡ y = parts.1.0 in
    let last = last_in nexts prevs h xs n parts.0 in record {
      before = last;
      after = rw q_is (omega (arith, count_one y));
      bent = λ p_in q_in.
          let q_in' : y < length prevs = subst (λ (x : ℕ). x < length prevs) q_is q_in in
          let bent : Chain (set nexts (get_or prevs n 0) y) (set prevs y (get_or prevs n 0)) h xs y =
          chain_bent nexts prevs (set nexts (get_or prevs n 0) y) (set prevs y (get_or prevs n 0)) h xs n y parts.0
          (λ b. omega (arith, once b))
          (λ b some differs. get_or-set_other nexts (get_or prevs n 0) b y 0 differs)
          (get_or-set_same nexts (get_or prevs n 0) y 0 p_in)
          (λ b some. get_or-set_other prevs y b (get_or prevs n 0) 0 (λ e. omega (arith, once b, count_one b, ap (λ (x : ℕ). count b (x ∷ [])) e)))
          (get_or-set_same prevs y (get_or prevs n 0) 0 q_in') in
          let rest : Chain (set nexts (get_or prevs n 0) y) (set prevs y (get_or prevs n 0)) y ys h =
          chain_same nexts prevs (set nexts (get_or prevs n 0) y) (set prevs y (get_or prevs n 0)) y ys h parts.1.2
          (λ b some. get_or-set_other nexts (get_or prevs n 0) b y 0 (λ e. let there : 0 < count b (h ∷ xs) = subst (λ (x : ℕ). 0 < count x (h ∷ xs)) (sym e) last in omega (arith, once b)))
          (λ b some. get_or-set_other prevs y b (get_or prevs n 0) 0 (λ e. omega (arith, once b, count_one b, ap (λ (x : ℕ). count b (x ∷ [])) e))) in
          subst (λ (q : ℕ). Chain (set nexts (get_or prevs n 0) q) (set prevs q (get_or prevs n 0)) h (xs ++ y ∷ ys) h) (sym q_is) (chain_join (set nexts (get_or prevs n 0) y) (set prevs y (get_or prevs n 0)) h xs y ys h bent rest);
    }

-- a ring none of whose numbers was written
pub ring_same : (nexts prevs nexts' prevs' ring : List ℕ) → IsRing nexts prevs ring → ((b : ℕ) → 0 < count b ring → get_or nexts' b 0 ≡ get_or nexts b 0) → ((b : ℕ) → 0 < count b ring → get_or prevs' b 0 ≡ get_or prevs b 0) → IsRing nexts' prevs' ring
ring_same nexts prevs nexts' prevs' [] h n p = h
ring_same nexts prevs nexts' prevs' (a ∷ xs) h n p = chain_same nexts prevs nexts' prevs' a xs a h n (λ b some. p b (omega (arith, some)))

-- a ring that is taken apart
pub data RingCut (nexts prevs ring : List ℕ) (n : ℕ) : Type 0 where
  Ring : (h : ℕ) (xs ys : List ℕ) → ring ≡ h ∷ (xs ++ n ∷ ys) → Chain nexts prevs h (xs ++ n ∷ ys) h → RingCut nexts prevs ring n

pub ring_cut : (nexts prevs ring : List ℕ) (n : ℕ) → IsRing nexts prevs ring → 0 < count n (drop 1 ring) → RingCut nexts prevs ring n
ring_cut nexts prevs [] n h some = absurd h
ring_cut nexts prevs (a ∷ xs) n h some =
    let cut = cut_at n xs some in
    Ring a cut.front cut.back (ap (λ (ys : List ℕ). a ∷ ys) cut.is) (subst (λ (ys : List ℕ). Chain nexts prevs a ys a) cut.is h)

-- what is known of the ring that loses a number
pub record Lost (nexts prevs ring : List ℕ) (n : ℕ) : Type 0 where
  pub before : 0 < count (get_or prevs n 0) ring
  pub after : 0 < count (get_or nexts n 0) ring
  pub left : get_or prevs n 0 < length nexts → get_or nexts n 0 < length prevs → IsRing (set nexts (get_or prevs n 0) (get_or nexts n 0)) (set prevs (get_or nexts n 0) (get_or prevs n 0)) (without n ring)

lost_of : (nexts prevs ring : List ℕ) (n : ℕ) → RingCut nexts prevs ring n → ((b : ℕ) → count b ring ≤ 1) → Lost nexts prevs ring n
lost_of nexts prevs ring n (Ring h xs ys is chain) once =
    let each : (b : ℕ) → count b (h ∷ []) + count b xs + count b (n ∷ []) + count b ys ≤ 1 = λ b. omega (arith, once b, ap (count b) is, count-append b xs (n ∷ ys)) in
    let it = between nexts prevs h xs n ys chain each in
    let gone : without n ring ≡ h ∷ (xs ++ ys) = ap (without n) is ∙ without_cut n (h ∷ xs) ys (omega (arith, each n, count_one n)) (omega (arith, each n, count_one n)) in record {
      before = omega (arith, it.before, ap (count (get_or prevs n 0)) is, count-append (get_or prevs n 0) xs (n ∷ ys));
      after = omega (arith, it.after, ap (count (get_or nexts n 0)) is, count-append (get_or nexts n 0) xs (n ∷ ys));
      left = λ p_in q_in. rw gone (it.bent p_in q_in);
    }

pub lost : (nexts prevs ring : List ℕ) (n : ℕ) → IsRing nexts prevs ring → 0 < count n (drop 1 ring) → ((b : ℕ) → count b ring ≤ 1) → Lost nexts prevs ring n
lost nexts prevs ring n h some once = lost_of nexts prevs ring n (ring_cut nexts prevs ring n h some) once

-- what is known once a number is unlinked from its list
pub record Unlinks (nexts prevs : List ℕ) (rings : List (List ℕ)) (n : ℕ) : Type 0 where
  pub before : get_or prevs n 0 < length nexts
  pub after : get_or nexts n 0 < length prevs
  pub linked : AreLinked (set nexts (get_or prevs n 0) (get_or nexts n 0)) (set prevs (get_or nexts n 0) (get_or prevs n 0)) (map (without n) rings)

ring_left : (nexts prevs : List ℕ) (rings : List (List ℕ)) (n l m : ℕ) → AreLinked nexts prevs rings → l < length rings → 0 < count n (list_at rings l) → Lost nexts prevs (list_at rings l) n → get_or prevs n 0 < length nexts → get_or nexts n 0 < length prevs → m < length rings → IsRing (set nexts (get_or prevs n 0) (get_or nexts n 0)) (set prevs (get_or nexts n 0) (get_or prevs n 0)) (without n (list_at rings m))
ring_left nexts prevs rings n l m h l_in some lost p_in q_in m_in =
    ⊎_elim
    (λ (same : m ≡ l). rw same (lost.left p_in q_in))
    (λ (other : m ≡ l → ⊥).
    let away : (b : ℕ) → 0 < count b (list_at rings l) → count b (list_at rings m) ≡ 0 = λ b there. omega (arith, h.once b, count_in_two b rings m l other) in
    let whole : without n (list_at rings m) ≡ list_at rings m = without_none n (list_at rings m) (away n some) in
    let kept : IsRing (set nexts (get_or prevs n 0) (get_or nexts n 0)) (set prevs (get_or nexts n 0) (get_or prevs n 0)) (list_at rings m) =
    ring_same nexts prevs (set nexts (get_or prevs n 0) (get_or nexts n 0)) (set prevs (get_or nexts n 0) (get_or prevs n 0)) (list_at rings m) (h.ring m m_in)
    (λ b there. get_or-set_other nexts (get_or prevs n 0) b (get_or nexts n 0) 0 (λ e. omega (arith, there, ap (λ (x : ℕ). count x (list_at rings m)) e, away (get_or prevs n 0) lost.before)))
    (λ b there. get_or-set_other prevs (get_or nexts n 0) b (get_or prevs n 0) 0 (λ e. omega (arith, there, ap (λ (x : ℕ). count x (list_at rings m)) e, away (get_or nexts n 0) lost.after))) in
    rw whole kept)
    (cases_eq m l)

pub unlinks_from : (nexts prevs : List ℕ) (rings : List (List ℕ)) (n l : ℕ) → AreLinked nexts prevs rings → l < length rings → 0 < count n (drop 1 (list_at rings l)) → Unlinks nexts prevs rings n
unlinks_from nexts prevs rings n l h l_in some =
    let there : 0 < count n (list_at rings l) = omega (arith, count_drop n (list_at rings l)) in
    let gone = lost nexts prevs (list_at rings l) n (h.ring l l_in) some (λ b. omega (arith, h.once b, count_in_all b rings l)) in
    let p_in : get_or prevs n 0 < length nexts = h.within (get_or prevs n 0) (omega (arith, gone.before, count_in_all (get_or prevs n 0) rings l)) in
    let q_in : get_or nexts n 0 < length prevs = omega (arith, h.cells, h.within (get_or nexts n 0) (omega (arith, gone.after, count_in_all (get_or nexts n 0) rings l))) in record {
      before = p_in;
      after = q_in;
      linked = record {
        cells = length-set nexts (get_or prevs n 0) (get_or nexts n 0) ∙ h.cells ∙ sym (length-set prevs (get_or nexts n 0) (get_or prevs n 0));
        ring = λ m m_in.
            let m_in' : m < length rings = omega (arith, length-map rings (without n)) in
            rw (at_map (without n) rings m m_in') (ring_left nexts prevs rings n l m h l_in there gone p_in q_in m_in');
        once = λ x. omega (arith, h.once x, in_all_without n x rings);
        within = λ x on. omega (arith, h.within x (omega (arith, in_all_without n x rings)), length-set nexts (get_or prevs n 0) (get_or nexts n 0));
      };
    }

pub lists_at : (rings : List (List ℕ)) (l : ℕ) → l < length rings → list_at (lists_of rings) l ≡ drop 1 (list_at rings l)
lists_at rings l h = at_map (λ ring. drop 1 ring) rings l h

next_linked_last : (nexts prevs : List ℕ) (h n : ℕ) → get_or prevs h 0 < length nexts → n ≢ get_or prevs h 0 → get_or (nexts_linked nexts prevs h n) (get_or prevs h 0) 0 ≡ n
next_linked_last nexts prevs h n p_in differs = get_or-set_other (set nexts (get_or prevs h 0) n) n (get_or prevs h 0) h 0 (λ e. differs (sym e)) ∙ get_or-set_same nexts (get_or prevs h 0) n 0 p_in

next_linked_new : (nexts prevs : List ℕ) (h n : ℕ) → n < length nexts → get_or (nexts_linked nexts prevs h n) n 0 ≡ h
next_linked_new nexts prevs h n n_in = get_or-set_same (set nexts (get_or prevs h 0) n) n h 0 (omega (arith, length-set nexts (get_or prevs h 0) n))

next_linked_other : (nexts prevs : List ℕ) (h n b : ℕ) → b ≢ n → b ≢ get_or prevs h 0 → get_or (nexts_linked nexts prevs h n) b 0 ≡ get_or nexts b 0
next_linked_other nexts prevs h n b not_n not_p = get_or-set_other (set nexts (get_or prevs h 0) n) n b h 0 not_n ∙ get_or-set_other nexts (get_or prevs h 0) b n 0 not_p

prev_linked_new : (prevs : List ℕ) (h n : ℕ) → n < length prevs → n ≢ h → get_or (prevs_linked prevs h n) n 0 ≡ get_or prevs h 0
prev_linked_new prevs h n n_in differs = get_or-set_other (set prevs n (get_or prevs h 0)) h n n 0 differs ∙ get_or-set_same prevs n (get_or prevs h 0) 0 n_in

prev_linked_head : (prevs : List ℕ) (h n : ℕ) → h < length prevs → get_or (prevs_linked prevs h n) h 0 ≡ n
prev_linked_head prevs h n h_in = get_or-set_same (set prevs n (get_or prevs h 0)) h n 0 (omega (arith, length-set prevs n (get_or prevs h 0)))

prev_linked_other : (prevs : List ℕ) (h n b : ℕ) → b ≢ n → b ≢ h → get_or (prevs_linked prevs h n) b 0 ≡ get_or prevs b 0
prev_linked_other prevs h n b not_n not_h = get_or-set_other (set prevs n (get_or prevs h 0)) h b n 0 not_h ∙ get_or-set_other prevs n b (get_or prevs h 0) 0 not_n

pub ring_linked : (nexts prevs : List ℕ) (h n : ℕ) (xs : List ℕ) → Chain nexts prevs h xs h → ((b : ℕ) → count b (h ∷ xs) ≤ 1) → count n (h ∷ xs) ≡ 0 → n < length nexts → length nexts ≡ length prevs → h < length nexts → get_or prevs h 0 < length nexts → Chain (nexts_linked nexts prevs h n) (prevs_linked prevs h n) h (xs ++ n ∷ []) h
ring_linked nexts prevs h n xs chain once away n_in cells h_in p_in =
    let last = last_in nexts prevs h xs h chain in
    let not_last : n ≢ get_or prevs h 0 = apart n (get_or prevs h 0) (h ∷ xs) away last in
    let not_head : n ≢ h = apart n h (h ∷ xs) away (omega (arith, count_head h xs)) in
    let bent : Chain (nexts_linked nexts prevs h n) (prevs_linked prevs h n) h xs n =
    chain_bent nexts prevs (nexts_linked nexts prevs h n) (prevs_linked prevs h n) h xs h n chain once
    (λ b some differs. next_linked_other nexts prevs h n b (λ e. apart n b (h ∷ xs) away some (sym e)) differs)
    (next_linked_last nexts prevs h n p_in not_last)
    (λ b some. prev_linked_other prevs h n b (λ e. apart n b (h ∷ xs) away (omega (arith, some)) (sym e)) (λ e. omega (arith, once b, ap (λ (x : ℕ). count b (x ∷ [])) e, count_one b)))
    (prev_linked_new prevs h n (omega arith) not_head) in
    chain_join (nexts_linked nexts prevs h n) (prevs_linked prevs h n) h xs n [] h bent (next_linked_new nexts prevs h n n_in, prev_linked_head prevs h n (omega arith))

-- the ring and what is known of it, by its head
pub data RingHead (nexts prevs ring : List ℕ) : Type 0 where
  Head : (h : ℕ) (xs : List ℕ) → ring ≡ h ∷ xs → Chain nexts prevs h xs h → RingHead nexts prevs ring

pub ring_head : (nexts prevs ring : List ℕ) → IsRing nexts prevs ring → RingHead nexts prevs ring
ring_head nexts prevs [] h = absurd h
ring_head nexts prevs (a ∷ xs) h = Head a xs refl h

abbrev pub head_of : List ℕ → ℕ
head_of ring = get_or ring 0 0

-- what is known once a number is linked at the back of a list
pub record Links (nexts prevs : List ℕ) (rings : List (List ℕ)) (l n : ℕ) : Type 0 where
  pub head : head_of (list_at rings l) < length nexts
  pub last : get_or prevs (head_of (list_at rings l)) 0 < length nexts
  pub linked : AreLinked (nexts_linked nexts prevs (head_of (list_at rings l)) n) (prevs_linked prevs (head_of (list_at rings l)) n) (set rings l (list_at rings l ++ n ∷ []))

pub nexts_length : (nexts prevs : List ℕ) (h n : ℕ) → length (nexts_linked nexts prevs h n) ≡ length nexts
nexts_length nexts prevs h n = length-set (set nexts (get_or prevs h 0) n) n h ∙ length-set nexts (get_or prevs h 0) n

prevs_length : (prevs : List ℕ) (h n : ℕ) → length (prevs_linked prevs h n) ≡ length prevs
prevs_length prevs h n = length-set (set prevs n (get_or prevs h 0)) h n ∙ length-set prevs n (get_or prevs h 0)

links_ring : (nexts prevs : List ℕ) (rings : List (List ℕ)) (l n h : ℕ) (xs : List ℕ) → AreLinked nexts prevs rings → l < length rings → in_all n rings ≡ 0 → n < length nexts → list_at rings l ≡ h ∷ xs → Chain nexts prevs h xs h → Links nexts prevs rings l n
links_ring nexts prevs rings l n h xs k l_in away n_in is chain =
    let h_is : head_of (list_at rings l) ≡ h = ap head_of is in
    let on : (b : ℕ) → count b (list_at rings l) ≡ count b (h ∷ xs) = λ b. ap (count b) is in
    let once : (b : ℕ) → count b (h ∷ xs) ≤ 1 = λ b. omega (arith, on b, k.once b, count_in_all b rings l) in
    let away' : count n (h ∷ xs) ≡ 0 = omega (arith, on n, count_in_all n rings l) in
    let last = last_in nexts prevs h xs h chain in
    let h_in : h < length nexts = k.within h (omega (arith, on h, count_in_all h rings l, count_head h xs)) in
    let p_in : get_or prevs h 0 < length nexts = k.within (get_or prevs h 0) (omega (arith, last, on (get_or prevs h 0), count_in_all (get_or prevs h 0) rings l)) in
    let ring : Chain (nexts_linked nexts prevs h n) (prevs_linked prevs h n) h (xs ++ n ∷ []) h = ring_linked nexts prevs h n xs chain once away' n_in k.cells h_in p_in in
    let it : AreLinked (nexts_linked nexts prevs h n) (prevs_linked prevs h n) (set rings l (list_at rings l ++ n ∷ [])) = record {
      cells = nexts_length nexts prevs h n ∙ k.cells ∙ sym (prevs_length prevs h n);
      ring = λ m m_in.
          ⊎_elim
          (λ (same : m ≡ l).
          let there : list_at (set rings l (list_at rings l ++ n ∷ [])) l ≡ h ∷ (xs ++ n ∷ []) = get_or-set_same rings l (list_at rings l ++ n ∷ []) [] l_in ∙ ap (λ (ys : List ℕ). ys ++ n ∷ []) is in
          let its : IsRing (nexts_linked nexts prevs h n) (prevs_linked prevs h n) (list_at (set rings l (list_at rings l ++ n ∷ [])) l) = rw there ring in
          subst (λ (x : ℕ). IsRing (nexts_linked nexts prevs h n) (prevs_linked prevs h n) (list_at (set rings l (list_at rings l ++ n ∷ [])) x)) (sym same) its)
          (λ (other : m ≡ l → ⊥).
          let there : list_at (set rings l (list_at rings l ++ n ∷ [])) m ≡ list_at rings m = get_or-set_other rings l m (list_at rings l ++ n ∷ []) [] other in
          let not_on : (b : ℕ) → 0 < count b (h ∷ xs) → count b (list_at rings m) ≡ 0 = λ b some. omega (arith, k.once b, count_in_two b rings m l other, on b, some) in
          let n_away : count n (list_at rings m) ≡ 0 = omega (arith, count_in_all n rings m) in
          let its : IsRing (nexts_linked nexts prevs h n) (prevs_linked prevs h n) (list_at rings m) =
          ring_same nexts prevs (nexts_linked nexts prevs h n) (prevs_linked prevs h n) (list_at rings m) (k.ring m (omega (arith, length-set rings l (list_at rings l ++ n ∷ []))))
          (λ b some. next_linked_other nexts prevs h n b (λ e. apart n b (list_at rings m) n_away some (sym e)) (λ e. apart (get_or prevs h 0) b (list_at rings m) (not_on (get_or prevs h 0) last) some (sym e)))
          (λ b some. prev_linked_other prevs h n b (λ e. apart n b (list_at rings m) n_away some (sym e)) (λ e. apart h b (list_at rings m) (not_on h (omega (arith, count_head h xs))) some (sym e))) in
          subst (IsRing (nexts_linked nexts prevs h n) (prevs_linked prevs h n)) (sym there) its)
          (cases_eq m l);
      once = λ x.
          ⊎_elim
          (λ (same : x ≡ n).
          let one : in_all n (set rings l (list_at rings l ++ n ∷ [])) ≤ 1 = omega (arith, in_all-set n rings l (list_at rings l ++ n ∷ []) l_in, count-append n (list_at rings l) (n ∷ []), count_one n) in
          rw same one)
          (λ (other : x ≡ n → ⊥). omega (arith, k.once x, in_all-set x rings l (list_at rings l ++ n ∷ []) l_in, count-append x (list_at rings l) (n ∷ []), count_other x n other))
          (cases_eq x n);
      within = λ x some.
          ⊎_elim
          (λ (same : x ≡ n). omega (arith, nexts_length nexts prevs h n))
          (λ (other : x ≡ n → ⊥). omega (arith, nexts_length nexts prevs h n, k.within x (omega (arith, in_all-set x rings l (list_at rings l ++ n ∷ []) l_in, count-append x (list_at rings l) (n ∷ []), count_other x n other))))
          (cases_eq x n);
    } in record {
      head = omega arith;
      last = rw h_is p_in;
      linked = subst (λ (x : ℕ). AreLinked (nexts_linked nexts prevs x n) (prevs_linked prevs x n) (set rings l (list_at rings l ++ n ∷ []))) (sym h_is) it;
    }

links_head : (nexts prevs : List ℕ) (rings : List (List ℕ)) (l n : ℕ) → AreLinked nexts prevs rings → l < length rings → in_all n rings ≡ 0 → n < length nexts → RingHead nexts prevs (list_at rings l) → Links nexts prevs rings l n
links_head nexts prevs rings l n k l_in away n_in (Head h xs is chain) = links_ring nexts prevs rings l n h xs k l_in away n_in is chain

pub links : (nexts prevs : List ℕ) (rings : List (List ℕ)) (l n : ℕ) → AreLinked nexts prevs rings → l < length rings → in_all n rings ≡ 0 → n < length nexts → Links nexts prevs rings l n
links nexts prevs rings l n k l_in away n_in = links_head nexts prevs rings l n k l_in away n_in (ring_head nexts prevs (list_at rings l) (k.ring l l_in))

-- a walk along a chain
pub walked : (nexts prevs : List ℕ) (fuel a : ℕ) (xs : List ℕ) (z : ℕ) → Chain nexts prevs a xs z → length xs ≤ fuel → count z xs ≡ 0 → walk nexts fuel a z ≡ xs
walked nexts prevs zero a [] z h l none = refl
walked nexts prevs zero a (x ∷ xs) z h l none = absurd (omega arith)
walked nexts prevs (suc fuel) a [] z h l none = rw (eq-eqb (get_or nexts a 0) z h.0) refl
walked nexts prevs (suc fuel) a (x ∷ xs) z h l none =
    let differs : x ≡ z → ⊥ = λ e. omega (arith, ap (λ (y : ℕ). count z (y ∷ [])) e, count_one z) in
    let first : walk nexts (suc fuel) a z ≡ (if x == z then [] else x ∷ walk nexts fuel x z) = ap (λ (y : ℕ). if y == z then [] else y ∷ walk nexts fuel y z) h.0 in
    first ∙ rw (ne_eqb x z differs) (ap (λ (ys : List ℕ). x ∷ ys) (walked nexts prevs fuel x xs z h.2 (omega arith) (omega arith)))

-- the rings are what the walks from the heads give
ring_walked : (nexts prevs ring : List ℕ) → RingHead nexts prevs ring → ((b : ℕ) → count b ring ≤ 1) → ((b : ℕ) → 0 < count b ring → b < length nexts) → head_of ring ∷ walk nexts (length nexts) (head_of ring) (head_of ring) ≡ ring
ring_walked nexts prevs ring (Head h xs is chain) once within =
    let on : (b : ℕ) → count b ring ≡ count b (h ∷ xs) = λ b. ap (count b) is in
    let most : length xs ≤ length nexts = length_most (length nexts) xs (λ b some. within b (omega (arith, on b, some))) (λ b. omega (arith, on b, once b)) in
    let none : count h xs ≡ 0 = omega (arith, on h, once h, count_head h xs) in
    ap (λ (x : ℕ). x ∷ walk nexts (length nexts) x x) (ap head_of is) ∙ ap (λ (ys : List ℕ). h ∷ ys) (walked nexts prevs (length nexts) h xs h chain most none) ∙ sym is

abbrev pub heads_of : List (List ℕ) → List ℕ
heads_of rings = map head_of rings

pub rings_walked : (nexts prevs heads : List ℕ) (rings : List (List ℕ)) → AreLinked nexts prevs rings → heads ≡ heads_of rings → rings_of heads nexts ≡ rings
rings_walked nexts prevs heads rings h heads_is =
    let long : length heads ≡ length rings = ap (length {A = ℕ}) heads_is ∙ length-map rings head_of in
    ext_get_or [] (rings_of heads nexts) rings (length-map heads (λ (x : ℕ). x ∷ walk nexts (length nexts) x x) ∙ long) (λ l l_in.
    let l_in' : l < length rings = omega (arith, length-map heads (λ (x : ℕ). x ∷ walk nexts (length nexts) x x)) in
    let head : get_or heads l 0 ≡ head_of (list_at rings l) = ap (λ (xs : List ℕ). get_or xs l 0) heads_is ∙ get_or-map head_of rings l [] 0 l_in' in
    get_or-map (λ (x : ℕ). x ∷ walk nexts (length nexts) x x) heads l 0 [] (omega arith)
    ∙ ap (λ (x : ℕ). x ∷ walk nexts (length nexts) x x) head
    ∙ ring_walked nexts prevs (list_at rings l) (ring_head nexts prevs (list_at rings l) (h.ring l l_in')) (λ b. omega (arith, h.once b, count_in_all b rings l)) (λ b some. h.within b (omega (arith, some, count_in_all b rings l))))

heads_again : (f : ℕ → List ℕ) (heads : List ℕ) → map head_of (map (λ (h : ℕ). h ∷ f h) heads) ≡ heads
heads_again f [] = refl
heads_again f (h ∷ hs) = ap (λ (xs : List ℕ). h ∷ xs) (heads_again f hs)

pub heads_walked : (heads nexts : List ℕ) → heads ≡ heads_of (rings_of heads nexts)
heads_walked heads nexts = sym (heads_again (λ (h : ℕ). walk nexts (length nexts) h h) heads)

-- heads stay
head_without : (nexts prevs ring : List ℕ) (n : ℕ) → RingHead nexts prevs ring → ((b : ℕ) → count b ring ≤ 1) → (count n ring ≡ 0) ⊎ (0 < count n (drop 1 ring)) → head_of (without n ring) ≡ head_of ring
head_without nexts prevs ring n (Head h xs is chain) once (inl none) = ap head_of (without_none n ring none)
head_without nexts prevs ring n (Head h xs is chain) once (inr some) =
    let differs : n ≡ h → ⊥ = λ e. omega (arith, once n, ap (count n) is, ap (λ (ys : List ℕ). count n (drop 1 ys)) is, ap (λ (y : ℕ). count n (y ∷ [])) e, count_one n, some) in
    let gone : without n (h ∷ xs) ≡ h ∷ without n xs = rw (ne_eqb n h differs) refl in
    ap (λ (ys : List ℕ). head_of (without n ys)) is ∙ ap head_of gone ∙ sym (ap head_of is)

pub heads_without : (nexts prevs : List ℕ) (rings : List (List ℕ)) (n l : ℕ) → AreLinked nexts prevs rings → l < length rings → 0 < count n (drop 1 (list_at rings l)) → heads_of (map (without n) rings) ≡ heads_of rings
heads_without nexts prevs rings n l h l_in some =
    let long : length (heads_of (map (without n) rings)) ≡ length (heads_of rings) = length-map (map (without n) rings) head_of ∙ length-map rings (without n) ∙ sym (length-map rings head_of) in
    ext_get_or 0 (heads_of (map (without n) rings)) (heads_of rings) long (λ m m_in.
    let m_in' : m < length rings = omega (arith, length-map (map (without n) rings) head_of, length-map rings (without n)) in
    let one : (b : ℕ) → count b (list_at rings m) ≤ 1 = λ b. omega (arith, h.once b, count_in_all b rings m) in
    let where_is : (count n (list_at rings m) ≡ 0) ⊎ (0 < count n (drop 1 (list_at rings m))) =
    ⊎_elim
    (λ (same : m ≡ l). inr (rw same some))
    (λ (other : m ≡ l → ⊥). inl (omega (arith, h.once n, count_in_two n rings m l other, count_drop n (list_at rings l))))
    (cases_eq m l) in
    get_or-map head_of (map (without n) rings) m [] 0 (omega (arith, length-map rings (without n)))
    ∙ ap head_of (at_map (without n) rings m m_in')
    ∙ head_without nexts prevs (list_at rings m) n (ring_head nexts prevs (list_at rings m) (h.ring m m_in')) one where_is
    ∙ sym (get_or-map head_of rings m [] 0 m_in'))

pub heads_linked : (nexts prevs : List ℕ) (rings : List (List ℕ)) (l n : ℕ) → RingHead nexts prevs (list_at rings l) → heads_of (set rings l (list_at rings l ++ n ∷ [])) ≡ heads_of rings
heads_linked nexts prevs rings l n (Head h xs is chain) =
    let same : head_of (list_at rings l ++ n ∷ []) ≡ head_of (list_at rings l) = ap (λ (ys : List ℕ). head_of (ys ++ n ∷ [])) is ∙ sym (ap head_of is) in
    map-set head_of rings l (list_at rings l ++ n ∷ []) ∙ ap (set (heads_of rings) l) same ∙ sym (map-set head_of rings l (list_at rings l)) ∙ ap heads_of (set-get_or rings l [])
