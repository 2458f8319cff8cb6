-- What writing links does to chains.
use Rattle.std.proofs.Common.{◌≡◌, ℕ, zero, suc, ◌+◌, ◌<◌, ◌≤◌, ◌++◌, ◌≢◌, List, [], ◌∷◌, length, get_or, set, refl, sym, ap, subst, ◌∙◌, ⊎_elim, arith, get_or-set_same, get_or-set_other}
use Rattle.std.proofs.lemmas.List.{length-set, length-append, get_or_append_left, get_or_past, get_or_push}
use Rattle.std.proofs.lemmas.Bool.{cases_eq, cases_lt, eq-eqb, ne_eqb}
use Rattle.arenaqueue.specs.Numbers.{list_at}
use Rattle.arenaqueue.specs.inner.Numbers.{count, in_all}
use Rattle.arenaqueue.specs.inner.Chains.{Leads}
use Rattle.arenaqueue.specs.inner.Chains.{no_cell, steps, walked, last_or, AreChained, firsts_joined, nexts_joined}
use Rattle.arenaqueue.proofs.NumberLemmas.{count-append, count_one, count_other, count_head, in_all-set, count_in_all, count_in_two, in_all-append, get_or-push_default}
use Rattle.arenaqueue.proofs.SumLemmas.{length_most}

-- a chain none of whose cells was written
pub leads_same : (nexts nexts' : List ℕ) (c : ℕ) (xs : List ℕ) (z : ℕ) → Leads nexts c xs z → ((x : ℕ) → 0 < count x xs → get_or nexts' x 0 ≡ get_or nexts x 0) → Leads nexts' c xs z
leads_same nexts nexts' c [] z h same = h
leads_same nexts nexts' c (x ∷ xs) z h same =
    (h.0, subst (λ (y : ℕ). Leads nexts' y xs z) (sym (same x (omega (arith, count_head x xs)))) (leads_same nexts nexts' (get_or nexts x 0) xs z h.1 (λ y some. same y (omega (arith, some)))))

-- the last cell is one of the chain
pub last_in : (x : ℕ) (xs : List ℕ) → 0 < count (last_or x xs) (x ∷ xs)
last_in x [] = omega (arith, count_one x)
last_in x (y ∷ ys) = omega (arith, last_in y ys)

-- a chain goes to `m` once the link of its last cell is bent
pub leads_bent : (nexts nexts' : List ℕ) (c x : ℕ) (xs : List ℕ) (z m : ℕ) → Leads nexts c (x ∷ xs) z → ((y : ℕ) → count y (x ∷ xs) ≤ 1) → ((y : ℕ) → 0 < count y (x ∷ xs) → y ≢ last_or x xs → get_or nexts' y 0 ≡ get_or nexts y 0) → get_or nexts' (last_or x xs) 0 ≡ m → Leads nexts' c (x ∷ xs) m
leads_bent nexts nexts' c x [] z m h once same to = (h.0, to)
leads_bent nexts nexts' c x (y ∷ ys) z m h once same to =
    let last = last_in y ys in
    let not_first : x ≢ last_or y ys = λ e. let again : 0 < count x (y ∷ ys) = subst (λ (b : ℕ). 0 < count b (y ∷ ys)) (sym e) last in omega (arith, once x, count_head x (y ∷ ys)) in
    (h.0, subst (λ (n : ℕ). Leads nexts' n (y ∷ ys) m) (sym (same x (omega (arith, count_head x (y ∷ ys))) not_first)) (leads_bent nexts nexts' (get_or nexts x 0) y ys z m h.1 (λ b. omega (arith, once b)) (λ b some differs. same b (omega (arith, some)) differs) to))

pub leads_join : (nexts : List ℕ) (c : ℕ) (xs : List ℕ) (m : ℕ) (ys : List ℕ) (z : ℕ) → Leads nexts c xs m → Leads nexts m ys z → Leads nexts c (xs ++ ys) z
leads_join nexts c [] m ys z h k = subst (λ (d : ℕ). Leads nexts d ys z) (sym h) k
leads_join nexts c (x ∷ xs) m ys z h k = (h.0, leads_join nexts (get_or nexts x 0) xs m ys z h.1 k)

-- a chain that does not begin at its end has a first cell, and one that does has none
pub leads_some : (nexts : List ℕ) (c : ℕ) (xs : List ℕ) (z : ℕ) → Leads nexts c xs z → c ≢ z → (ys : List ℕ) × (xs ≡ c ∷ ys)
leads_some nexts c [] z h differs = absurd (differs h)
leads_some nexts c (x ∷ xs) z h differs = (xs, ap (λ (y : ℕ). y ∷ xs) (sym h.0))

pub leads_none : (nexts : List ℕ) (c : ℕ) (xs : List ℕ) (z : ℕ) → Leads nexts c xs z → count z xs ≡ 0 → c ≡ z → xs ≡ []
leads_none nexts c [] z h none is = refl
leads_none nexts c (x ∷ xs) z h none is = absurd (omega (arith, none, count_head x xs, ap (λ (y : ℕ). count y (x ∷ xs)) (sym h.0 ∙ is)))

-- the walk is along the chain
pub steps_are : (nexts : List ℕ) (n c : ℕ) (xs : List ℕ) → Leads nexts c xs no_cell → length xs ≤ n → count no_cell xs ≡ 0 → steps nexts n c ≡ xs
steps_are nexts zero c [] h few none = refl
steps_are nexts zero c (x ∷ xs) h few none = absurd (omega arith)
steps_are nexts (suc n) c [] h few none = rw (eq-eqb c no_cell h) refl
steps_are nexts (suc n) c (x ∷ xs) h few none =
    let differs : c ≡ no_cell → ⊥ = λ e. omega (arith, none, count_head x xs, ap (λ (y : ℕ). count y (x ∷ xs)) (sym h.0 ∙ e)) in
    rw (ne_eqb c no_cell differs)
    (ap (λ (d : ℕ). d ∷ steps nexts n (get_or nexts d 0)) h.0
    ∙ ap (λ (ys : List ℕ). x ∷ ys) (steps_are nexts n (get_or nexts x 0) xs h.1 (omega (arith, few)) (omega (arith, none))))

pub last_tail : (x : ℕ) (xs : List ℕ) → 0 < length xs → last_or 0 xs ≡ last_or x xs
last_tail x [] some = absurd (omega arith)
last_tail x (y ∷ ys) some = refl

pub last-append : (d : ℕ) (xs : List ℕ) (y : ℕ) (ys : List ℕ) → last_or d (xs ++ y ∷ ys) ≡ last_or y ys
last-append d [] y ys = refl
last-append d (x ∷ xs) y ys = last-append x xs y ys

listed_within : (chains : List (List ℕ)) (l : ℕ) → 0 < length (list_at chains l) → l < length chains
listed_within [] l some = absurd (omega arith)
listed_within (xs ∷ chains) zero some = omega arith
listed_within (xs ∷ chains) (suc l) some = omega (arith, listed_within chains l some)

-- what is known of chains
module _ (firsts lasts nexts : List ℕ) (free : ℕ) (chains : List (List ℕ)) (spares : List ℕ) (h : AreChained firsts lasts nexts free chains spares) where
  pub chain_once : (l x : ℕ) → count x (list_at chains l) ≤ 1
  chain_once l x = omega (arith, h.once x, count_in_all x chains l)

  pub chain_in : (l x : ℕ) → 0 < count x (list_at chains l) → x < length nexts
  chain_in l x some = h.within x (omega (arith, some, count_in_all x chains l))

  pub chain_few : (l : ℕ) → length (list_at chains l) ≤ length nexts
  chain_few l = length_most (length nexts) (list_at chains l) (chain_in l) (chain_once l)

  pub spares_few : length spares ≤ length nexts
  spares_few = length_most (length nexts) spares (λ x some. h.within x (omega (arith, some))) (λ x. omega (arith, h.once x))

  pub no_end : (l : ℕ) → count no_cell (list_at chains l) ≡ 0
  no_end l =
      ⊎_elim
      (λ (some : 0 < count no_cell (list_at chains l)). absurd (omega (arith, chain_in l no_cell some, h.small)))
      (λ (none : count no_cell (list_at chains l) ≤ 0). omega arith)
      (cases_lt 0 (count no_cell (list_at chains l)))

  pub walk_is : (l : ℕ) → l < length firsts → walked nexts (get_or firsts l 0) ≡ list_at chains l
  walk_is l l_in = steps_are nexts (length nexts) (get_or firsts l 0) (list_at chains l) (h.leads l l_in) (chain_few l) (no_end l)

  -- the chain of a list that has a first cell
  pub chain_some : (l : ℕ) → l < length firsts → get_or firsts l 0 ≢ no_cell → (ys : List ℕ) × (list_at chains l ≡ get_or firsts l 0 ∷ ys)
  chain_some l l_in differs = leads_some nexts (get_or firsts l 0) (list_at chains l) no_cell (h.leads l l_in) differs

  pub chain_none : (l : ℕ) → l < length firsts → get_or firsts l 0 ≡ no_cell → list_at chains l ≡ []
  chain_none l l_in is = leads_none nexts (get_or firsts l 0) (list_at chains l) no_cell (h.leads l l_in) (no_end l) is

-- one list is written, and the spare cells: the others stay
pub record Change (firsts lasts nexts : List ℕ) (chains : List (List ℕ)) (spares : List ℕ) (l : ℕ) (firsts' lasts' nexts' : List ℕ) (free' : ℕ) (ys spares' : List ℕ) : Type 0 where
  pub list_in : l < length firsts
  pub long_firsts : length firsts' ≡ length firsts
  pub other_firsts : (m : ℕ) → m ≢ l → get_or firsts' m 0 ≡ get_or firsts m 0
  pub long_lasts : length lasts' ≡ length lasts
  pub other_lasts : (m : ℕ) → m ≢ l → get_or lasts' m 0 ≡ get_or lasts m 0
  pub long_nexts : length nexts' ≡ length nexts
  pub other_nexts : (x : ℕ) → count x (list_at chains l) + count x spares ≡ 0 → get_or nexts' x 0 ≡ get_or nexts x 0
  pub leads : Leads nexts' (get_or firsts' l 0) ys no_cell
  pub ends : 0 < length ys → last_or 0 ys ≡ get_or lasts' l 0
  pub loose : Leads nexts' free' spares' no_cell
  pub same : (x : ℕ) → count x ys + count x spares' ≡ count x (list_at chains l) + count x spares

pub changed : (firsts lasts nexts : List ℕ) (free : ℕ) (chains : List (List ℕ)) (spares : List ℕ) (l : ℕ) (firsts' lasts' nexts' : List ℕ) (free' : ℕ) (ys spares' : List ℕ) → AreChained firsts lasts nexts free chains spares → Change firsts lasts nexts chains spares l firsts' lasts' nexts' free' ys spares' → AreChained firsts' lasts' nexts' free' (set chains l ys) spares'
changed firsts lasts nexts free chains spares l firsts' lasts' nexts' free' ys spares' h k =
    let l_in : l < length chains = omega (arith, k.list_in, h.as_many) in
    let all : (x : ℕ) → in_all x (set chains l ys) + count x spares' ≡ in_all x chains + count x spares = λ x. omega (arith, k.same x, in_all-set x chains l ys l_in) in
    let here : list_at (set chains l ys) l ≡ ys = get_or-set_same chains l ys [] l_in in
    let there : (m : ℕ) → m ≢ l → list_at (set chains l ys) m ≡ list_at chains m = λ m other. get_or-set_other chains l m ys [] other in record {
      as_many = length-set chains l ys ∙ h.as_many ∙ sym k.long_firsts;
      pairs = k.long_lasts ∙ h.pairs ∙ sym k.long_firsts;
      leads = λ m m_in.
          ⊎_elim
          (λ (is : m ≡ l). rw (is, here) k.leads)
          (λ (other : m ≡ l → ⊥).
          rw (there m other, k.other_firsts m other)
          (leads_same nexts nexts' (get_or firsts m 0) (list_at chains m) no_cell (h.leads m (omega (arith, m_in, k.long_firsts)))
          (λ x some. k.other_nexts x (omega (arith, some, h.once x, count_in_two x chains m l other, count_in_all x chains m)))))
          (cases_eq m l);
      ends = λ m some.
          ⊎_elim
          (λ (is : m ≡ l). rw (is, here) (k.ends (rw (is, here) at some)))
          (λ (other : m ≡ l → ⊥). rw (there m other, k.other_lasts m other) (h.ends m (rw (there m other) at some)))
          (cases_eq m l);
      loose = k.loose;
      once = λ x. omega (arith, h.once x, all x);
      within = λ x some. omega (arith, h.within x (omega (arith, some, all x)), k.long_nexts);
      small = omega (arith, h.small, k.long_nexts);
    }

module _ (firsts lasts nexts : List ℕ) (free : ℕ) (chains : List (List ℕ)) (spares : List ℕ) (h : AreChained firsts lasts nexts free chains spares) where
  -- the first cell of a list is the first spare one then
  pub popped : (l x : ℕ) (xs : List ℕ) → l < length firsts → list_at chains l ≡ x ∷ xs → AreChained (set firsts l (get_or nexts x 0)) lasts (set nexts x free) x (set chains l xs) (x ∷ spares)
  popped l x xs l_in is =
      let here : (y : ℕ) → count y (list_at chains l) ≡ count y (x ∷ xs) = λ y. ap (count y) is in
      let x_in : x < length nexts = chain_in firsts lasts nexts free chains spares h l x (omega (arith, here x, count_head x xs)) in
      let leads : Leads nexts (get_or firsts l 0) (x ∷ xs) no_cell = subst (λ (ys : List ℕ). Leads nexts (get_or firsts l 0) ys no_cell) is (h.leads l l_in) in
      let apart : (y : ℕ) → count y (x ∷ xs) + count y spares ≤ 1 = λ y. omega (arith, h.once y, count_in_all y chains l, here y) in
      changed firsts lasts nexts free chains spares l (set firsts l (get_or nexts x 0)) lasts (set nexts x free) x xs (x ∷ spares) h (record {
        list_in = l_in;
        long_firsts = length-set firsts l (get_or nexts x 0);
        other_firsts = λ m other. get_or-set_other firsts l m (get_or nexts x 0) 0 other;
        long_lasts = refl;
        other_lasts = λ m other. refl;
        long_nexts = length-set nexts x free;
        other_nexts = λ y none. get_or-set_other nexts x y free 0 (λ e. omega (arith, none, here y, count_head x xs, ap (λ (z : ℕ). count z (x ∷ xs)) e));
        leads = rw (get_or-set_same firsts l (get_or nexts x 0) 0 l_in)
            (leads_same nexts (set nexts x free) (get_or nexts x 0) xs no_cell leads.1
            (λ y some. get_or-set_other nexts x y free 0 (λ e. omega (arith, some, apart x, count_head x xs, ap (λ (z : ℕ). count z xs) e))));
        ends = λ some. last_tail x xs some ∙ ap (last_or 0) (sym is) ∙ h.ends l (omega (arith, ap (length {A = ℕ}) is));
        loose = (
          refl,
          rw (get_or-set_same nexts x free 0 x_in)
              (leads_same nexts (set nexts x free) free spares no_cell h.loose
              (λ y some. get_or-set_other nexts x y free 0 (λ e. omega (arith, some, apart x, count_head x xs, ap (λ (z : ℕ). count z spares) e)))),
        );
        same = λ y. omega (arith, here y);
      })

  -- all cells of a list are spare ones then
  pub loosened : (l x : ℕ) (xs : List ℕ) → l < length firsts → list_at chains l ≡ x ∷ xs → AreChained (set firsts l no_cell) lasts (set nexts (last_or x xs) free) x (set chains l []) ((x ∷ xs) ++ spares)
  loosened l x xs l_in is =
      let here : (y : ℕ) → count y (list_at chains l) ≡ count y (x ∷ xs) = λ y. ap (count y) is in
      let last_in' : 0 < count (last_or x xs) (x ∷ xs) = last_in x xs in
      let end_in : last_or x xs < length nexts = chain_in firsts lasts nexts free chains spares h l (last_or x xs) (omega (arith, here (last_or x xs), last_in')) in
      let leads : Leads nexts (get_or firsts l 0) (x ∷ xs) no_cell = subst (λ (ys : List ℕ). Leads nexts (get_or firsts l 0) ys no_cell) is (h.leads l l_in) in
      let once : (y : ℕ) → count y (x ∷ xs) + count y spares ≤ 1 = λ y. omega (arith, h.once y, count_in_all y chains l, here y) in
      changed firsts lasts nexts free chains spares l (set firsts l no_cell) lasts (set nexts (last_or x xs) free) x [] ((x ∷ xs) ++ spares) h (record {
        list_in = l_in;
        long_firsts = length-set firsts l no_cell;
        other_firsts = λ m other. get_or-set_other firsts l m no_cell 0 other;
        long_lasts = refl;
        other_lasts = λ m other. refl;
        long_nexts = length-set nexts (last_or x xs) free;
        other_nexts = λ y none. get_or-set_other nexts (last_or x xs) y free 0 (λ e. omega (arith, none, here y, last_in', ap (λ (z : ℕ). count z (x ∷ xs)) e));
        leads = get_or-set_same firsts l no_cell 0 l_in;
        ends = λ some. absurd (omega arith);
        loose = leads_join (set nexts (last_or x xs) free) x (x ∷ xs) free spares no_cell
            (leads_bent nexts (set nexts (last_or x xs) free) x x xs no_cell free (refl, leads.1) (λ y. omega (arith, once y))
            (λ y some differs. get_or-set_other nexts (last_or x xs) y free 0 differs)
            (get_or-set_same nexts (last_or x xs) free 0 end_in))
            (leads_same nexts (set nexts (last_or x xs) free) free spares no_cell h.loose
            (λ y some. get_or-set_other nexts (last_or x xs) y free 0 (λ e. omega (arith, some, once y, last_in', ap (λ (z : ℕ). count z (x ∷ xs)) e))));
        same = λ y. omega (arith, here y, count-append y (x ∷ xs) spares);
      })

  -- spare cells that are a chain by themselves go to the back of a list
  module _ (l z : ℕ) (zs rest nexts' : List ℕ) (free' : ℕ) (l_in : l < length firsts) (parts : (y : ℕ) → count y spares ≡ count y (z ∷ zs) + count y rest) (long : length nexts' ≡ length nexts) (same : (y : ℕ) → count y spares ≡ 0 → get_or nexts' y 0 ≡ get_or nexts y 0) (new : Leads nexts' z (z ∷ zs) no_cell) (left : Leads nexts' free' rest no_cell) where
    joined_empty : get_or firsts l 0 ≡ no_cell → AreChained (set firsts l z) (set lasts l (last_or z zs)) nexts' free' (set chains l (list_at chains l ++ z ∷ zs)) rest
    joined_empty none =
        let is : list_at chains l ≡ [] = chain_none firsts lasts nexts free chains spares h l l_in none in
        let all : list_at chains l ++ z ∷ zs ≡ z ∷ zs = ap (λ (ys : List ℕ). ys ++ z ∷ zs) is in
        subst (λ (ys : List ℕ). AreChained (set firsts l z) (set lasts l (last_or z zs)) nexts' free' (set chains l ys) rest) (sym all)
        (changed firsts lasts nexts free chains spares l (set firsts l z) (set lasts l (last_or z zs)) nexts' free' (z ∷ zs) rest h (record {
          list_in = l_in;
          long_firsts = length-set firsts l z;
          other_firsts = λ m other. get_or-set_other firsts l m z 0 other;
          long_lasts = length-set lasts l (last_or z zs);
          other_lasts = λ m other. get_or-set_other lasts l m (last_or z zs) 0 other;
          long_nexts = long;
          other_nexts = λ y none. same y (omega (arith, none));
          leads = rw (get_or-set_same firsts l z 0 l_in) new;
          ends = λ some. sym (get_or-set_same lasts l (last_or z zs) 0 (omega (arith, h.pairs)));
          loose = left;
          same = λ y. omega (arith, parts y, ap (count y) is);
        }))

    joined_behind : (x : ℕ) (xs : List ℕ) → list_at chains l ≡ x ∷ xs → AreChained firsts (set lasts l (last_or z zs)) (set nexts' (last_or x xs) z) free' (set chains l (list_at chains l ++ z ∷ zs)) rest
    joined_behind x xs is =
        let here : (y : ℕ) → count y (list_at chains l) ≡ count y (x ∷ xs) = λ y. ap (count y) is in
        let end : 0 < count (last_or x xs) (x ∷ xs) = last_in x xs in
        let end_in : last_or x xs < length nexts' = omega (arith, long, chain_in firsts lasts nexts free chains spares h l (last_or x xs) (omega (arith, here (last_or x xs), end))) in
        let once : (y : ℕ) → count y (x ∷ xs) + count y spares ≤ 1 = λ y. omega (arith, h.once y, count_in_all y chains l, here y) in
        let leads : Leads nexts (get_or firsts l 0) (x ∷ xs) no_cell = subst (λ (ys : List ℕ). Leads nexts (get_or firsts l 0) ys no_cell) is (h.leads l l_in) in
        let off : (y : ℕ) → 0 < count y spares → get_or (set nexts' (last_or x xs) z) y 0 ≡ get_or nexts' y 0 = λ y some. get_or-set_other nexts' (last_or x xs) y z 0 (λ e. omega (arith, some, once y, end, ap (λ (b : ℕ). count b (x ∷ xs)) e)) in
        let front : Leads (set nexts' (last_or x xs) z) (get_or firsts l 0) (x ∷ xs) z =
        leads_bent nexts (set nexts' (last_or x xs) z) (get_or firsts l 0) x xs no_cell z leads (λ y. omega (arith, once y))
        (λ y some differs. get_or-set_other nexts' (last_or x xs) y z 0 differs ∙ same y (omega (arith, some, once y)))
        (get_or-set_same nexts' (last_or x xs) z 0 end_in) in
        let back : Leads (set nexts' (last_or x xs) z) z (z ∷ zs) no_cell = leads_same nexts' (set nexts' (last_or x xs) z) z (z ∷ zs) no_cell new (λ y some. off y (omega (arith, some, parts y))) in
        let all : list_at chains l ++ z ∷ zs ≡ (x ∷ xs) ++ z ∷ zs = ap (λ (ys : List ℕ). ys ++ z ∷ zs) is in
        changed firsts lasts nexts free chains spares l firsts (set lasts l (last_or z zs)) (set nexts' (last_or x xs) z) free' (list_at chains l ++ z ∷ zs) rest h (record {
          list_in = l_in;
          long_firsts = refl;
          other_firsts = λ m other. refl;
          long_lasts = length-set lasts l (last_or z zs);
          other_lasts = λ m other. get_or-set_other lasts l m (last_or z zs) 0 other;
          long_nexts = length-set nexts' (last_or x xs) z ∙ long;
          other_nexts = λ y none. get_or-set_other nexts' (last_or x xs) y z 0 (λ e. omega (arith, none, here y, end, ap (λ (b : ℕ). count b (x ∷ xs)) e)) ∙ same y (omega (arith, none));
          leads = rw all (leads_join (set nexts' (last_or x xs) z) (get_or firsts l 0) (x ∷ xs) z (z ∷ zs) no_cell front back);
          ends = λ some. last-append 0 (list_at chains l) z zs ∙ sym (get_or-set_same lasts l (last_or z zs) 0 (omega (arith, h.pairs)));
          loose = leads_same nexts' (set nexts' (last_or x xs) z) free' rest no_cell left (λ y some. off y (omega (arith, some, parts y)));
          same = λ y. omega (arith, parts y, count-append y (list_at chains l) (z ∷ zs));
        })

    pub joined : AreChained (firsts_joined firsts l z) (set lasts l (last_or z zs)) (nexts_joined firsts lasts nexts' l z) free' (set chains l (list_at chains l ++ z ∷ zs)) rest
    joined =
        ⊎_elim
        (λ (none : get_or firsts l 0 ≡ no_cell). rw (eq-eqb (get_or firsts l 0) no_cell none) (joined_empty none))
        (λ (some : get_or firsts l 0 ≡ no_cell → ⊥).
        let it = chain_some firsts lasts nexts free chains spares h l l_in some in
        let last : last_or (get_or firsts l 0) it.0 ≡ get_or lasts l 0 = ap (last_or 0) (sym it.1) ∙ h.ends l (omega (arith, ap (length {A = ℕ}) it.1)) in
        rw (ne_eqb (get_or firsts l 0) no_cell some, ← last) (joined_behind (get_or firsts l 0) it.0 it.1))
        (cases_eq (get_or firsts l 0) no_cell)

  -- one more list, which is empty
  pub listed : (d : ℕ) → AreChained (firsts ++ no_cell ∷ []) (lasts ++ d ∷ []) nexts free (chains ++ [] ∷ []) spares
  listed d =
      let long_chains : length (chains ++ [] ∷ []) ≡ length chains + 1 = length-append chains ([] ∷ []) in
      let at : (m : ℕ) → list_at (chains ++ [] ∷ []) m ≡ list_at chains m = λ m. get_or-push_default [] chains m in record {
        as_many = omega (arith, long_chains, length-append firsts (no_cell ∷ []), h.as_many);
        pairs = omega (arith, length-append lasts (d ∷ []), length-append firsts (no_cell ∷ []), h.pairs);
        leads = λ m m_in.
            ⊎_elim
            (λ (old : m < length firsts). rw (at m, get_or_append_left firsts (no_cell ∷ []) 0 m old) (h.leads m old))
            (λ (past : length firsts ≤ m).
            let is : length firsts ≡ m = omega (arith, m_in, length-append firsts (no_cell ∷ [])) in
            rw (at m, get_or_past chains m [] (omega (arith, h.as_many)), get_or_push firsts no_cell 0 m is) refl)
            (cases_lt m (length firsts));
        ends = λ m some.
            let some' : 0 < length (list_at chains m) = rw (at m) at some in
            let m_in : m < length lasts = omega (arith, h.as_many, h.pairs, listed_within chains m some') in
            rw (at m, get_or_append_left lasts (d ∷ []) 0 m m_in) (h.ends m some');
        loose = h.loose;
        once = λ x. omega (arith, h.once x, in_all-append x chains []);
        within = λ x some. h.within x (omega (arith, some, in_all-append x chains []));
        small = h.small;
      }

  -- one more cell, which is the first spare one
  pub spread : length nexts < no_cell → AreChained firsts lasts (nexts ++ free ∷ []) (length nexts) chains (length nexts ∷ spares)
  spread few =
      let long : length (nexts ++ free ∷ []) ≡ length nexts + 1 = length-append nexts (free ∷ []) in
      let old : (x : ℕ) → 0 < in_all x chains + count x spares → get_or (nexts ++ free ∷ []) x 0 ≡ get_or nexts x 0 = λ x some. get_or_append_left nexts (free ∷ []) 0 x (h.within x some) in
      let absent : in_all (length nexts) chains + count (length nexts) spares ≡ 0 =
      ⊎_elim
      (λ (some : 0 < in_all (length nexts) chains + count (length nexts) spares). absurd (omega (arith, h.within (length nexts) some)))
      (λ (none : in_all (length nexts) chains + count (length nexts) spares ≤ 0). omega arith)
      (cases_lt 0 (in_all (length nexts) chains + count (length nexts) spares)) in record {
        as_many = h.as_many;
        pairs = h.pairs;
        leads = λ m m_in. leads_same nexts (nexts ++ free ∷ []) (get_or firsts m 0) (list_at chains m) no_cell (h.leads m m_in) (λ x some. old x (omega (arith, some, count_in_all x chains m)));
        ends = h.ends;
        loose = (
          refl,
          rw (get_or_push nexts free 0 (length nexts) refl)
              (leads_same nexts (nexts ++ free ∷ []) free spares no_cell h.loose (λ x some. old x (omega (arith, some)))),
        );
        once = λ x.
            ⊎_elim
            (λ (is : x ≡ length nexts). omega (arith, absent, count_one (length nexts), ap (λ (y : ℕ). in_all y chains) is, ap (λ (y : ℕ). count y spares) is, ap (λ (y : ℕ). count y (length nexts ∷ [])) is))
            (λ (other : x ≡ length nexts → ⊥). omega (arith, h.once x, count_other x (length nexts) other))
            (cases_eq x (length nexts));
        within = λ x some.
            ⊎_elim
            (λ (is : x ≡ length nexts). omega (arith, is, long))
            (λ (other : x ≡ length nexts → ⊥). omega (arith, long, h.within x (omega (arith, some, count_other x (length nexts) other))))
            (cases_eq x (length nexts));
        small = omega (arith, long, few);
      }
