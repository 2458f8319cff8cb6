-- Where walks end, over waits in which no rank waits for one that waits for none.
use Rattle.std.proofs.Common.{inl, inr, ◌≡◌, ℕ, zero, suc, ◌+◌, ◌-◌, ◌<◌, ◌≤◌, ◌⊎◌, true, Option, Some, None, List, ◌∷◌, ◌++◌, length, refl, sym, ap, ◌∙◌, ⊎_elim, arith}
use Rattle.std.specs.Prelude.{nat_le, option_and_then, unwrap_or}
use Rattle.std.specs.List.{list_all, filter_map, range_with_len}
use Rattle.std.proofs.lemmas.Option.{none-some, same_Some, slice_get_past}
use Rattle.std.proofs.lemmas.Bool.{cases_lt}
use Rattle.waitgraph.specs.Causes.{CauseView, CycleOf, MissingOf, StarvedOf, after_steps, IsCycle, IsEnd, ComesTo}
use Rattle.waitgraph.specs.inner.Causes.{Walks, hop_in, to_of, next_in, way_round, cycle_at, missing_at, starved_at, causes_in, end_to, end_at}
use Rattle.waitgraph.specs.declared.next_hop.NextHop.{NextHop}
use Rattle.waitgraph.specs.declared.next_hop.NextHop.TheVariants.{To, Lacks, Nobody}
use Rattle.waitgraph.proofs.AmongLemmas.{Among, among_left, among_right, given_among, range_among}
use Rattle.waitgraph.proofs.CycleLemmas.{way_home_is, way_is_cycle, HasWayHome, finds_way}
use Rattle.waitgraph.proofs.PigeonLemmas.{twice, lowest_of}

-- from a rank that waits the walk goes on, or ends
pub record IsWaiting (walks : Walks) (rank : ℕ) : Type 0 where
  pub there : NextHop
  pub goes_there : hop_in walks rank ≡ Some there

-- for whom a rank waits, waits too
pub record WalkGoesOn (walks : Walks) : Type 0 where
  pub goes_on : (rank next : ℕ) → next_in walks rank ≡ Some next → IsWaiting walks next

pub waiting_is_rank : (walks : Walks) (rank : ℕ) → IsWaiting walks rank → rank < length walks
waiting_is_rank walks rank waiting =
    ⊎_elim
    (λ (within : rank < length walks). within)
    (λ (past : length walks ≤ rank). absurd (none-some waiting.there (rw (slice_get_past walks rank past) at waiting.goes_there)))
    (cases_lt rank (length walks))

-- a walk of more steps goes on from where fewer steps come
after_on : (walks : Walks) (a b : ℕ) (o : Option ℕ) → ((k : ℕ) → after_steps (next_in walks) (a + b) k ≡ option_and_then (after_steps (next_in walks) b) (after_steps (next_in walks) a k)) → option_and_then (after_steps (next_in walks) (a + b)) o ≡ option_and_then (after_steps (next_in walks) b) (option_and_then (after_steps (next_in walks) a) o)
after_on walks a b None later = refl
after_on walks a b (Some k) later = later k

after_both : (walks : Walks) (a b rank : ℕ) → after_steps (next_in walks) (a + b) rank ≡ option_and_then (after_steps (next_in walks) b) (after_steps (next_in walks) a rank)
after_both walks zero b rank = let e : 0 + b ≡ b = omega arith in rw e refl
after_both walks (suc a) b rank =
    let e : suc a + b ≡ suc (a + b) = omega arith in
    rw e (after_on walks a b (next_in walks rank) (λ k. after_both walks a b k))

after_then : (walks : Walks) (a b whole rank there : ℕ) → a + b ≡ whole → after_steps (next_in walks) a rank ≡ Some there → after_steps (next_in walks) whole rank ≡ after_steps (next_in walks) b there
after_then walks a b whole rank there e h = rw (← e) (after_both walks a b rank ∙ rw h refl)

-- the walk ends
record ComesToEnd (walks : Walks) (rank : ℕ) : Type 0 where
  steps : ℕ
  end : ℕ
  cause : CauseView
  comes_there : after_steps (next_in walks) steps rank ≡ Some end
  ends : end_at walks end ≡ Some cause

-- the walk goes on for so many steps
record Stands (walks : Walks) (rank steps : ℕ) : Type 0 where
  there : ℕ
  comes_there : after_steps (next_in walks) steps rank ≡ Some there
  is_waiting : IsWaiting walks there

record StepsOn (walks : Walks) (rank : ℕ) (most : ℕ) : Type 0 where
  at : (steps : ℕ) → steps ≤ most → Stands walks rank steps

one_step : (walks : Walks) (rank : ℕ) (there : NextHop) → hop_in walks rank ≡ Some there → ((cause : CauseView) × (end_at walks rank ≡ Some cause)) ⊎ ((next : ℕ) × (next_in walks rank ≡ Some next))
one_step walks rank (To k) is = inr (k, rw is refl)
one_step walks rank (Lacks k) is = inl (MissingOf rank k, rw is refl)
one_step walks rank Nobody is = inl (StarvedOf rank, rw is refl)

stands_here : (walks : Walks) (rank steps : ℕ) → IsWaiting walks rank → steps ≤ 0 → Stands walks rank steps
stands_here walks rank zero waiting few = record { there = rank; comes_there = refl; is_waiting = waiting }
stands_here walks rank (suc steps) waiting few = absurd (omega arith)

stands_on : (walks : Walks) (rank next most steps : ℕ) → IsWaiting walks rank → next_in walks rank ≡ Some next → StepsOn walks next most → steps ≤ suc most → Stands walks rank steps
stands_on walks rank next most zero waiting is later few = record { there = rank; comes_there = refl; is_waiting = waiting }
stands_on walks rank next most (suc steps) waiting is later few =
    let rest = later.at steps (omega arith) in
    record { there = rest.there; comes_there = rw is rest.comes_there; is_waiting = rest.is_waiting }

runs : (walks : Walks) → WalkGoesOn walks → (most rank : ℕ) → IsWaiting walks rank → ComesToEnd walks rank ⊎ StepsOn walks rank most
runs walks on zero rank waiting = inr (record { at = λ steps few. stands_here walks rank steps waiting few })
runs walks on (suc most) rank waiting =
    by_step walks on most rank waiting (λ next more. runs walks on most next more) (one_step walks rank waiting.there waiting.goes_there)
  where
    by_rest : (walks : Walks) (most rank next : ℕ) → IsWaiting walks rank → next_in walks rank ≡ Some next → ComesToEnd walks next ⊎ StepsOn walks next most → ComesToEnd walks rank ⊎ StepsOn walks rank (suc most)
    by_rest walks most rank next waiting is (inl found) = inl (record { steps = suc found.steps; end = found.end; cause = found.cause; comes_there = rw is found.comes_there; ends = found.ends })
    by_rest walks most rank next waiting is (inr later) = inr (record { at = λ steps few. stands_on walks rank next most steps waiting is later few })

    by_step : (walks : Walks) → WalkGoesOn walks → (most rank : ℕ) → IsWaiting walks rank → ((next : ℕ) → IsWaiting walks next → ComesToEnd walks next ⊎ StepsOn walks next most) → ((cause : CauseView) × (end_at walks rank ≡ Some cause)) ⊎ ((next : ℕ) × (next_in walks rank ≡ Some next)) → ComesToEnd walks rank ⊎ StepsOn walks rank (suc most)
    by_step walks on most rank waiting rest (inl ends) = inl (record { steps = 0; end = rank; cause = ends.0; comes_there = refl; ends = ends.1 })
    by_step walks on most rank waiting rest (inr next) = by_rest walks most rank next.0 waiting next.1 (rest next.0 (on.goes_on rank next.0 next.1))

-- the rank to which the walk comes
there_of : Walks → ℕ → ℕ → ℕ
there_of walks rank steps = unwrap_or (after_steps (next_in walks) steps rank) 0

comes_to : (walks : Walks) (rank most steps : ℕ) → StepsOn walks rank most → steps ≤ most → after_steps (next_in walks) steps rank ≡ Some (there_of walks rank steps)
unfolding there_of
comes_to walks rank most steps on few = let here = on.at steps few in rw here.comes_there refl

stays_below : (walks : Walks) (rank most steps : ℕ) → StepsOn walks rank most → steps ≤ most → there_of walks rank steps < length walks
unfolding there_of
stays_below walks rank most steps on few = let here = on.at steps few in rw here.comes_there (waiting_is_rank walks here.there here.is_waiting)

-- the walk comes to a cycle whose lowest rank is `low`
pub record ComesToCycle (walks : Walks) (rank : ℕ) : Type 0 where
  pub steps : ℕ
  pub low : ℕ
  pub comes_there : after_steps (next_in walks) steps rank ≡ Some low
  pub is_rank : low < length walks
  pub way : HasWayHome walks (length walks) low low low

-- where the walk comes after `first` steps it comes again after `second`; `place` steps on is the lowest rank
above_there : (walks : Walks) (rank most first second place more by : ℕ) → StepsOn walks rank most → first < second → second ≤ most → there_of walks rank first ≡ there_of walks rank second → place < second - first → ((other : ℕ) → other < second - first → there_of walks rank (first + place) ≤ there_of walks rank (first + other)) → more < second - first → after_steps (next_in walks) more (there_of walks rank (first + place)) ≡ Some by → there_of walks rank (first + place) ≤ by
above_there walks rank most first second place more by on before within same low is_lowest less here =
    let start = comes_to walks rank most (first + place) on (omega arith) in
    let whole = after_then walks (first + place) more (first + place + more) rank (there_of walks rank (first + place)) refl start in
    ⊎_elim
    (λ (once : place + more < second - first).
    let there = comes_to walks rank most (first + (place + more)) on (omega arith) in
    let sum : first + place + more ≡ first + (place + more) = omega arith in
    let is : there_of walks rank (first + (place + more)) ≡ by = same_Some (there_of walks rank (first + (place + more))) by (sym there ∙ ap (λ (n : ℕ). after_steps (next_in walks) n rank) (sym sum) ∙ whole ∙ here) in
    omega (arith, is_lowest (place + more) once))
    (λ (twice_round : second - first ≤ place + more).
    let rest : first + ((place + more) - (second - first)) ≤ most = omega arith in
    let there = comes_to walks rank most (first + ((place + more) - (second - first))) on rest in
    let back = after_then walks first ((place + more) - (second - first)) (first + ((place + more) - (second - first))) rank (there_of walks rank first) refl (comes_to walks rank most first on (omega arith)) in
    let around = after_then walks second ((place + more) - (second - first)) (first + place + more) rank (there_of walks rank first) (omega arith) (comes_to walks rank most second on within ∙ ap (λ (k : ℕ). Some k) (sym same)) in
    let is : there_of walks rank (first + ((place + more) - (second - first))) ≡ by = same_Some (there_of walks rank (first + ((place + more) - (second - first)))) by (sym there ∙ back ∙ sym around ∙ whole ∙ here) in
    omega (arith, is_lowest ((place + more) - (second - first)) (omega arith)))
    (cases_lt (place + more) (second - first))

back_there : (walks : Walks) (rank most first second place : ℕ) → StepsOn walks rank most → first < second → second ≤ most → there_of walks rank first ≡ there_of walks rank second → place < second - first → after_steps (next_in walks) (second - first) (there_of walks rank (first + place)) ≡ Some (there_of walks rank (first + place))
back_there walks rank most first second place on before within same low =
    let start = comes_to walks rank most (first + place) on (omega arith) in
    let whole = after_then walks (first + place) (second - first) (second + place) rank (there_of walks rank (first + place)) (omega arith) start in
    let around = after_then walks second place (second + place) rank (there_of walks rank first) refl (comes_to walks rank most second on within ∙ ap (λ (k : ℕ). Some k) (sym same)) in
    let back = after_then walks first place (first + place) rank (there_of walks rank first) refl (comes_to walks rank most first on (omega arith)) in
    sym whole ∙ around ∙ sym back ∙ start

cycle_from : (walks : Walks) (rank first second : ℕ) → StepsOn walks rank (length walks) → first < second → second ≤ length walks → there_of walks rank first ≡ there_of walks rank second → (place : ℕ) → place < second - first → ((other : ℕ) → other < second - first → there_of walks rank (first + place) ≤ there_of walks rank (first + other)) → ComesToCycle walks rank
cycle_from walks rank first second on before within same place low is_lowest =
    let most = length walks in
    record {
      steps = first + place;
      low = there_of walks rank (first + place);
      comes_there = comes_to walks rank (length walks) (first + place) on (omega arith);
      is_rank = stays_below walks rank (length walks) (first + place) on (omega arith);
      way = finds_way walks (length walks) (second - first) (there_of walks rank (first + place)) (there_of walks rank (first + place)) (there_of walks rank (first + place)) (omega arith) (omega arith)
          (back_there walks rank (length walks) first second place on before within same low)
          (λ more by less here. above_there walks rank (length walks) first second place more by on before within same low is_lowest less here);
    }

-- a walk that goes on for as many steps as there are ranks comes to a cycle
comes_round : (walks : Walks) (rank : ℕ) → StepsOn walks rank (length walks) → ComesToCycle walks rank
comes_round walks rank on =
    let pair = twice (length walks) (there_of walks rank) (λ steps few. stays_below walks rank (length walks) steps on few) in
    let count : suc (pair.second - pair.first - 1) ≡ pair.second - pair.first = omega (arith, pair.before) in
    let lowest = lowest_of (λ more. there_of walks rank (pair.first + more)) (pair.second - pair.first - 1) in
    cycle_from walks rank pair.first pair.second on pair.before pair.within pair.same lowest.place (omega (arith, lowest.within))
    (λ other less. lowest.is_lowest other (omega arith))

-- a rank's cycle, by its way home
pub record TellsCycle (walks : Walks) (rank : ℕ) (ranks : List ℕ) : Type 0 where
  pub rest : List ℕ
  pub begins : ranks ≡ rank ∷ rest
  pub is_cycle : IsCycle (next_in walks) rank rest

pub told_by_way : (walks : Walks) (most rank : ℕ) (ranks : List ℕ) → way_round walks most rank rank ≡ Some ranks → list_all (nat_le rank) ranks ≡ true → TellsCycle walks rank ranks
told_by_way walks most rank ranks is_way all =
    let way = way_home_is walks most rank rank ranks is_way in
    record {
      rest = way.rest;
      begins = way.begins;
      is_cycle = way_is_cycle walks rank way.rest way.is_way (ap (λ (rs : List ℕ). list_all (nat_le rank) rs) (sym way.begins) ∙ all);
    }

cycle_listed : (walks : Walks) (rank : ℕ) (cause : CauseView) → rank < length walks → cycle_at walks rank ≡ Some cause → Among cause (causes_in walks)
cycle_listed walks rank cause is_rank is =
    among_left cause (filter_map (cycle_at walks) (range_with_len 0 (length walks)) ++ filter_map (missing_at walks) (range_with_len 0 (length walks))) (filter_map (starved_at walks) (range_with_len 0 (length walks)))
    (among_left cause (filter_map (cycle_at walks) (range_with_len 0 (length walks))) (filter_map (missing_at walks) (range_with_len 0 (length walks)))
    (given_among rank cause (cycle_at walks) (range_with_len 0 (length walks)) (range_among rank 0 (length walks) (omega arith) (omega arith)) is))

missing_listed : (walks : Walks) (rank : ℕ) (cause : CauseView) → rank < length walks → missing_at walks rank ≡ Some cause → Among cause (causes_in walks)
missing_listed walks rank cause is_rank is =
    among_left cause (filter_map (cycle_at walks) (range_with_len 0 (length walks)) ++ filter_map (missing_at walks) (range_with_len 0 (length walks))) (filter_map (starved_at walks) (range_with_len 0 (length walks)))
    (among_right cause (filter_map (cycle_at walks) (range_with_len 0 (length walks))) (filter_map (missing_at walks) (range_with_len 0 (length walks)))
    (given_among rank cause (missing_at walks) (range_with_len 0 (length walks)) (range_among rank 0 (length walks) (omega arith) (omega arith)) is))

starved_listed : (walks : Walks) (rank : ℕ) (cause : CauseView) → rank < length walks → starved_at walks rank ≡ Some cause → Among cause (causes_in walks)
starved_listed walks rank cause is_rank is =
    among_right cause (filter_map (cycle_at walks) (range_with_len 0 (length walks)) ++ filter_map (missing_at walks) (range_with_len 0 (length walks))) (filter_map (starved_at walks) (range_with_len 0 (length walks)))
    (given_among rank cause (starved_at walks) (range_with_len 0 (length walks)) (range_among rank 0 (length walks) (omega arith) (omega arith)) is)

-- the end of a walk is listed
end_listed : (walks : Walks) (rank : ℕ) (cause : CauseView) → rank < length walks → end_at walks rank ≡ Some cause → Among cause (causes_in walks)
end_listed walks rank cause is_rank is = by_hop (hop_in walks rank) refl is
  where
    by_hop : (o : Option NextHop) → hop_in walks rank ≡ o → option_and_then (end_to rank) o ≡ Some cause → Among cause (causes_in walks)
    by_hop None at is = absurd (none-some cause is)
    by_hop (Some (To next)) at is = absurd (none-some cause is)
    by_hop (Some (Lacks peer)) at is = missing_listed walks rank cause is_rank (rw at is)
    by_hop (Some Nobody) at is = starved_listed walks rank cause is_rank (rw at is)

-- and it is an end
pub is_an_end : (walks : Walks) (rank : ℕ) (cause : CauseView) → end_at walks rank ≡ Some cause → IsEnd (next_in walks) (end_at walks) rank cause
is_an_end walks rank (CycleOf ranks) is = absurd (by_hop (hop_in walks rank) is)
  where
    by_hop : (o : Option NextHop) → option_and_then (end_to rank) o ≡ Some (CycleOf ranks) → ⊥
    by_hop None is = none-some (CycleOf ranks) is
    by_hop (Some (To next)) is = none-some (CycleOf ranks) is
    by_hop (Some (Lacks peer)) is = cc is
    by_hop (Some Nobody) is = cc is
is_an_end walks rank (MissingOf waiting peer) is = is
is_an_end walks rank (StarvedOf waiting) is = is

pub end_is_waiting : (walks : Walks) (rank : ℕ) (cause : CauseView) (o : Option NextHop) → hop_in walks rank ≡ o → option_and_then (end_to rank) o ≡ Some cause → IsWaiting walks rank
end_is_waiting walks rank cause None is h = absurd (none-some cause h)
end_is_waiting walks rank cause (Some there) is h = record { there = there; goes_there = is }

pub next_is_waiting : (walks : Walks) (rank next : ℕ) (o : Option NextHop) → hop_in walks rank ≡ o → option_and_then to_of o ≡ Some next → IsWaiting walks rank
next_is_waiting walks rank next None is h = absurd (none-some next h)
next_is_waiting walks rank next (Some there) is h = record { there = there; goes_there = is }

-- the end of a walk, which is listed
pub record HasEnd (walks : Walks) (rank : ℕ) : Type 0 where
  pub cause : CauseView
  pub is_listed : Among cause (causes_in walks)
  pub ends : ComesTo (next_in walks) (end_at walks) rank cause

pub walk_ends : (walks : Walks) → WalkGoesOn walks → (rank : ℕ) → IsWaiting walks rank → HasEnd walks rank
walk_ends walks on rank waiting =
    by_run walks rank (runs walks on (length walks) rank waiting)
  where
    by_cycle : (walks : Walks) (rank : ℕ) → ComesToCycle walks rank → HasEnd walks rank
    by_cycle walks rank found =
        let ranks = found.way.ranks in
        let told = told_by_way walks (length walks) found.low found.way.ranks found.way.is_way found.way.no_lower in
        record {
          cause = CycleOf found.way.ranks;
          is_listed = cycle_listed walks found.low (CycleOf found.way.ranks) found.is_rank (rw (found.way.is_way, found.way.no_lower) refl);
          ends = record { steps = found.steps; end = found.low; comes_there = found.comes_there; is_end = (told.rest, told.begins, told.is_cycle) };
        }

    by_run : (walks : Walks) (rank : ℕ) → ComesToEnd walks rank ⊎ StepsOn walks rank (length walks) → HasEnd walks rank
    by_run walks rank (inl found) =
        record {
          cause = found.cause;
          is_listed = end_listed walks found.end found.cause
              (waiting_is_rank walks found.end (end_is_waiting walks found.end found.cause (hop_in walks found.end) refl found.ends))
              found.ends;
          ends = record { steps = found.steps; end = found.end; comes_there = found.comes_there; is_end = is_an_end walks found.end found.cause found.ends };
        }
    by_run walks rank (inr on) = by_cycle walks rank (comes_round walks rank on)
