-- The way home is a cycle, a cycle is a way home, and a walk that comes back has a way home.
use Rattle.std.proofs.Common.{◌≡◌, ◌≢◌, ℕ, zero, suc, ◌-◌, ◌<◌, ◌≤◌, true, ◌==◌, Option, Some, None, List, [], ◌∷◌, ◌++◌, length, map, get_or, refl, sym, ap, subst, ◌∙◌, ⊎_elim, arith}
use Rattle.std.specs.Prelude.{if◌then◌else◌, nat_le, nat_lt, option_map, option_and_then}
use Rattle.std.specs.List.{slice_get, list_all}
use Rattle.std.proofs.lemmas.Option.{none-some, same_Some, slice_get_within, slice_get_past, slice_get-get_or}
use Rattle.std.proofs.lemmas.Bool.{cases_eq, cases_lt, eq-eqb, ne_eqb, and_parts, and_from, leb-true, le-leb, ltb-true, lt-ltb}
use Rattle.waitgraph.specs.inner.Causes.{Walks, next_in, way_round}
use Rattle.waitgraph.specs.Causes.{after_steps, IsCycle}
use Rattle.waitgraph.proofs.PigeonLemmas.{twice}

-- the ranks are those of a way home: each waits for the next, which is not home, and the last for home
abbrev pub IsWay : Walks → ℕ → List ℕ → Type 0
IsWay walks home [] = ⊥
IsWay walks home (rank ∷ []) = next_in walks rank ≡ Some home
IsWay walks home (rank ∷ (next ∷ rest)) = (next_in walks rank ≡ Some next) × (next ≢ home) × IsWay walks home (next ∷ rest)

-- a way home that begins at the rank
pub record HasWay (walks : Walks) (home rank : ℕ) (ranks : List ℕ) : Type 0 where
  pub rest : List ℕ
  pub begins : ranks ≡ rank ∷ rest
  pub is_way : IsWay walks home (rank ∷ rest)

mapped : (rank : ℕ) (o : Option (List ℕ)) (ranks : List ℕ) → option_map (λ more. rank ∷ more) o ≡ Some ranks → (more : List ℕ) × (o ≡ Some more) × (ranks ≡ rank ∷ more)
mapped rank None ranks h = absurd (none-some ranks h)
mapped rank (Some more) ranks h = (more, refl, sym (same_Some (rank ∷ more) ranks h))

pub way_home_is : (walks : Walks) (most home rank : ℕ) (ranks : List ℕ) → way_round walks most home rank ≡ Some ranks → HasWay walks home rank ranks
way_home_is walks zero home rank ranks h = absurd (none-some ranks h)
way_home_is walks (suc most) home rank ranks h =
    by_next walks most home rank ranks (next_in walks rank) refl (λ next more there. way_home_is walks most home next more there) h
  where
    goes_on : (walks : Walks) (home rank next : ℕ) (ranks more : List ℕ) → next_in walks rank ≡ Some next → next ≢ home → ranks ≡ rank ∷ more → HasWay walks home next more → HasWay walks home rank ranks
    goes_on walks home rank next ranks more is other e way =
        record {
          rest = next ∷ way.rest;
          begins = e ∙ ap (λ (rest : List ℕ). rank ∷ rest) way.begins;
          is_way = (is, other, way.is_way);
        }

    by_next : (walks : Walks) (most home rank : ℕ) (ranks : List ℕ) (present : Option ℕ) → next_in walks rank ≡ present → ((next : ℕ) (more : List ℕ) → way_round walks most home next ≡ Some more → HasWay walks home next more) → option_and_then (λ next. if next == home then Some (rank ∷ []) else option_map (λ ranks. rank ∷ ranks) (way_round walks most home next)) present ≡ Some ranks → HasWay walks home rank ranks
    by_next walks most home rank ranks None is later h = absurd (none-some ranks h)
    by_next walks most home rank ranks (Some next) is later h =
        ⊎_elim
        (λ (same : next ≡ home).
        let end : ◌≡◌ {A = Option (List ℕ)} (Some (rank ∷ [])) (Some ranks) = rw (eq-eqb next home same) at h in
        record { rest = []; begins = sym (same_Some (rank ∷ []) ranks end); is_way = is ∙ ap (λ (k : ℕ). Some k) same })
        (λ (other : next ≢ home).
        let parts = mapped rank (way_round walks most home next) ranks (rw (ne_eqb next home other) at h) in
        goes_on walks home rank next ranks parts.0 is other parts.2 (later next parts.0 parts.1))
        (cases_eq next home)

-- after so many steps the walk comes home, and not before
pub record ComesHome (walks : Walks) (home rank steps : ℕ) : Type 0 where
  pub some : 0 < steps
  pub comes : after_steps (next_in walks) steps rank ≡ Some home
  pub not_before : (early : ℕ) → 0 < early → early < steps → after_steps (next_in walks) early rank ≡ Some home → ⊥

comes_home : (walks : Walks) (home rank : ℕ) (rest : List ℕ) → IsWay walks home (rank ∷ rest) → ComesHome walks home rank (length (rank ∷ rest))
comes_home walks home rank [] way =
    record {
      some = omega arith;
      comes = rw way refl;
      not_before = λ early low high h. omega arith;
    }
comes_home walks home rank (next ∷ rest) way =
    let later = comes_home walks home next rest way.2 in
    record {
      some = omega arith;
      comes = rw way.0 later.comes;
      not_before = λ early low high h. not_at walks home rank next early (length (next ∷ rest)) way.0 way.1 later.not_before low high h;
    }
  where
    not_at : (walks : Walks) (home rank next early steps : ℕ) → next_in walks rank ≡ Some next → next ≢ home → ((early : ℕ) → 0 < early → early < steps → after_steps (next_in walks) early next ≡ Some home → ⊥) → 0 < early → early < suc steps → after_steps (next_in walks) early rank ≡ Some home → ⊥
    not_at walks home rank next zero steps is other later low high h = omega arith
    not_at walks home rank next (suc zero) steps is other later low high h = other (same_Some next home (rw is at h))
    not_at walks home rank next (suc (suc early)) steps is other later low high h = later (suc early) (omega arith) (omega arith) (rw is at h)

pub comes_home_at : (walks : Walks) (home : ℕ) (ranks : List ℕ) (index rank : ℕ) → IsWay walks home ranks → slice_get ranks index ≡ Some rank → ComesHome walks home rank (length ranks - index)
comes_home_at walks home [] index rank way h = absurd way
comes_home_at walks home (first ∷ rest) zero rank way h =
    let same : first ≡ rank = same_Some first rank h in
    let whole : length (first ∷ rest) ≡ length (first ∷ rest) - 0 = omega arith in
    subst (λ (r : ℕ). ComesHome walks home r (length (first ∷ rest) - 0)) same
    (subst (λ (steps : ℕ). ComesHome walks home first steps) whole (comes_home walks home first rest way))
comes_home_at walks home (first ∷ []) (suc index) rank way h = absurd (none-some rank h)
comes_home_at walks home (first ∷ (next ∷ rest)) (suc index) rank way h =
    let left : length (next ∷ rest) - index ≡ length (first ∷ (next ∷ rest)) - suc index = omega arith in
    subst (λ (steps : ℕ). ComesHome walks home rank steps) left (comes_home_at walks home (next ∷ rest) index rank way.2 h)

same_time : (walks : Walks) (home rank a b : ℕ) → ComesHome walks home rank a → ComesHome walks home rank b → a ≡ b
same_time walks home rank a b at_a at_b =
    ⊎_elim
    (λ (less : a < b). absurd (at_b.not_before a at_a.some less at_a.comes))
    (λ (not_less : b ≤ a).
    ⊎_elim
    (λ (less : b < a). absurd (at_a.not_before b at_b.some less at_b.comes))
    (λ (not_more : a ≤ b). omega arith)
    (cases_lt b a))
    (cases_lt a b)

-- what a way home says of its ranks, one for all
way_map : (walks : Walks) (home rank : ℕ) (rest : List ℕ) → IsWay walks home (rank ∷ rest) → map (next_in walks) (rank ∷ rest) ≡ map (λ r. Some r) (rest ++ home ∷ [])
way_map walks home rank [] way = ap (λ (o : Option ℕ). o ∷ []) way
way_map walks home rank (next ∷ rest) way =
    ap (λ (o : Option ℕ). o ∷ map (next_in walks) (next ∷ rest)) way.0 ∙ ap (λ (os : List (Option ℕ)). Some next ∷ os) (way_map walks home next rest way.2)

way_above : (walks : Walks) (home rank : ℕ) (rest : List ℕ) → IsWay walks home (rank ∷ rest) → list_all (nat_le home) rest ≡ true → list_all (nat_lt home) rest ≡ true
way_above walks home rank [] way all = refl
way_above walks home rank (next ∷ rest) way all =
    let both = and_parts (nat_le home next) (list_all (nat_le home) rest) all in
    let low : home ≤ next = leb-true home next both.0 in
    let other = way.1 in
    let less : home < next = omega (arith, low, other) in
    and_from (nat_lt home next) (list_all (nat_lt home) rest) (lt-ltb home next less) (way_above walks home next rest way.2 both.1)

-- a way home from the lowest rank is a cycle
pub way_is_cycle : (walks : Walks) (home : ℕ) (rest : List ℕ) → IsWay walks home (home ∷ rest) → list_all (nat_le home) (home ∷ rest) ≡ true → IsCycle (next_in walks) home rest
way_is_cycle walks home rest way all =
    (way_map walks home home rest way, way_above walks home home rest way (and_parts (nat_le home home) (list_all (nat_le home) rest) all).1)

-- no rank stands twice in a way home
way_distinct : (walks : Walks) (home : ℕ) (ranks : List ℕ) (index other rank : ℕ) → IsWay walks home ranks → slice_get ranks index ≡ Some rank → slice_get ranks other ≡ Some rank → index ≡ other
way_distinct walks home ranks index other rank way h k =
    let times = same_time walks home rank (length ranks - index) (length ranks - other) (comes_home_at walks home ranks index rank way h) (comes_home_at walks home ranks other rank way k) in
    omega (arith, slice_get_within ranks index rank h, slice_get_within ranks other rank k)

-- a cycle is a way home
after_first : {A : Type 0} → List A → List A
after_first [] = []
after_first (x ∷ xs) = xs

map_way : (walks : Walks) (home rank : ℕ) (rest : List ℕ) → map (next_in walks) (rank ∷ rest) ≡ map (λ r. Some r) (rest ++ home ∷ []) → list_all (nat_lt home) rest ≡ true → IsWay walks home (rank ∷ rest)
unfolding after_first
map_way walks home rank [] is above = same_Some (next_in walks rank) (Some home) (ap (λ (os : List (Option ℕ)). slice_get os 0) is)
map_way walks home rank (next ∷ rest) is above =
    let both = and_parts (nat_lt home next) (list_all (nat_lt home) rest) above in
    let less : home < next = ltb-true home next both.0 in (
      same_Some (next_in walks rank) (Some next) (ap (λ (os : List (Option ℕ)). slice_get os 0) is),
      (λ (same : next ≡ home). omega (arith, less, same)),
      map_way walks home next rest (ap (λ (os : List (Option ℕ)). after_first os) is) both.1,
    )

pub cycle_is_way : (walks : Walks) (low : ℕ) (rest : List ℕ) → IsCycle (next_in walks) low rest → IsWay walks low (low ∷ rest)
cycle_is_way walks low rest cycle = map_way walks low low rest cycle.0 cycle.1

-- and the search finds it, since it has no more ranks than there are
way_found : (walks : Walks) (most home rank : ℕ) (rest : List ℕ) → IsWay walks home (rank ∷ rest) → length (rank ∷ rest) ≤ most → way_round walks most home rank ≡ Some (rank ∷ rest)
way_found walks zero home rank rest way few = absurd (omega (arith, few))
way_found walks (suc most) home rank [] way few = rw (way, eq-eqb home home refl) refl
way_found walks (suc most) home rank (next ∷ rest) way few =
    rw (way.0, ne_eqb next home way.1, way_found walks most home next rest way.2 (omega (arith, few))) refl

has_next : (walks : Walks) (home : ℕ) (ranks : List ℕ) (index rank : ℕ) → IsWay walks home ranks → slice_get ranks index ≡ Some rank → (next : ℕ) × (next_in walks rank ≡ Some next)
has_next walks home [] index rank way h = absurd (none-some rank h)
has_next walks home (first ∷ []) zero rank way h = (home, ap (next_in walks) (sym (same_Some first rank h)) ∙ way)
has_next walks home (first ∷ []) (suc index) rank way h = absurd (none-some rank h)
has_next walks home (first ∷ (second ∷ rest)) zero rank way h = (second, ap (next_in walks) (sym (same_Some first rank h)) ∙ way.0)
has_next walks home (first ∷ (second ∷ rest)) (suc index) rank way h = has_next walks home (second ∷ rest) index rank way.2 h

next_within : (walks : Walks) (rank next : ℕ) → next_in walks rank ≡ Some next → rank < length walks
next_within walks rank next is =
    ⊎_elim
    (λ (within : rank < length walks). within)
    (λ (past : length walks ≤ rank). absurd (none-some next (rw (slice_get_past walks rank past) at is)))
    (cases_lt rank (length walks))

way_short : (walks : Walks) (home : ℕ) (ranks : List ℕ) → IsWay walks home ranks → length ranks ≤ length walks
way_short walks home ranks way =
    ⊎_elim
    (λ (more : length walks < length ranks).
    let there : (place : ℕ) → place ≤ length walks → slice_get ranks place ≡ Some (get_or ranks place 0) =
    λ place few. slice_get-get_or ranks place 0 (omega (arith, few, more)) in
    let pair = twice (length walks) (λ place. get_or ranks place 0)
    (λ place few. let next = has_next walks home ranks place (get_or ranks place 0) way (there place few) in next_within walks (get_or ranks place 0) next.0 next.1) in
    let same = way_distinct walks home ranks pair.first pair.second (get_or ranks pair.first 0) way
    (there pair.first (omega (arith, pair.before, pair.within)))
    (there pair.second pair.within ∙ ap (λ (r : ℕ). Some r) (sym pair.same)) in
    absurd (omega (arith, pair.before, same)))
    (λ (few : length ranks ≤ length walks). few)
    (cases_lt (length walks) (length ranks))

pub cycle_found : (walks : Walks) (low : ℕ) (rest : List ℕ) → IsCycle (next_in walks) low rest → way_round walks (length walks) low low ≡ Some (low ∷ rest)
cycle_found walks low rest cycle =
    let way = cycle_is_way walks low rest cycle in
    way_found walks (length walks) low low rest way (way_short walks low (low ∷ rest) way)

above_no_lower : (low : ℕ) (ranks : List ℕ) → list_all (nat_lt low) ranks ≡ true → list_all (nat_le low) ranks ≡ true
above_no_lower low [] all = refl
above_no_lower low (first ∷ rest) all =
    let both = and_parts (nat_lt low first) (list_all (nat_lt low) rest) all in
    let less : low < first = ltb-true low first both.0 in
    and_from (nat_le low first) (list_all (nat_le low) rest) (le-leb low first (omega (arith, less))) (above_no_lower low rest both.1)

pub cycle_no_lower : (walks : Walks) (low : ℕ) (rest : List ℕ) → IsCycle (next_in walks) low rest → list_all (nat_le low) (low ∷ rest) ≡ true
cycle_no_lower walks low rest cycle =
    and_from (nat_le low low) (list_all (nat_le low) rest) (le-leb low low (omega arith)) (above_no_lower low rest cycle.1)

-- a walk that comes home in so many steps and goes by no lower rank has a way home, all of whose ranks are no lower
pub record HasWayHome (walks : Walks) (most home rank low : ℕ) : Type 0 where
  pub ranks : List ℕ
  pub is_way : way_round walks most home rank ≡ Some ranks
  pub no_lower : list_all (nat_le low) ranks ≡ true

more_steps : (walks : Walks) (steps next home : ℕ) → next ≢ home → after_steps (next_in walks) steps next ≡ Some home → 0 < steps
more_steps walks zero next home other comes = absurd (other (same_Some next home comes))
more_steps walks (suc steps) next home other comes = omega arith

pub finds_way : (walks : Walks) (most steps home rank low : ℕ) → 0 < steps → steps ≤ most → after_steps (next_in walks) steps rank ≡ Some home → ((some by : ℕ) → some < steps → after_steps (next_in walks) some rank ≡ Some by → low ≤ by) → HasWayHome walks most home rank low
finds_way walks zero steps home rank low some few comes above = absurd (omega arith)
finds_way walks (suc most) zero home rank low some few comes above = absurd (omega arith)
finds_way walks (suc most) (suc steps) home rank low some few comes above =
    by_next walks most steps home rank low (next_in walks rank) refl comes (above 0 rank (omega arith) refl)
    (λ next is. λ more there. finds_way walks most steps home next low more (omega arith) there (λ early by less here. above (suc early) by (omega arith) (rw is here)))
  where
    by_next : (walks : Walks) (most steps home rank low : ℕ) (present : Option ℕ) → next_in walks rank ≡ present → option_and_then (after_steps (next_in walks) steps) present ≡ Some home → low ≤ rank → ((next : ℕ) → next_in walks rank ≡ Some next → 0 < steps → after_steps (next_in walks) steps next ≡ Some home → HasWayHome walks most home next low) → HasWayHome walks (suc most) home rank low
    by_next walks most steps home rank low None is comes above later = absurd (none-some home comes)
    by_next walks most steps home rank low (Some next) is comes above later =
        ⊎_elim
        (λ (same : next ≡ home).
        record {
          ranks = rank ∷ [];
          is_way = rw (is, eq-eqb next home same) refl;
          no_lower = rw (le-leb low rank above) refl;
        })
        (λ (other : next ≢ home).
        let way = later next is (more_steps walks steps next home other comes) comes in
        record {
          ranks = rank ∷ way.ranks;
          is_way = rw (is, ne_eqb next home other, way.is_way) refl;
          no_lower = rw (le-leb low rank above) way.no_lower;
        })
        (cases_eq next home)
