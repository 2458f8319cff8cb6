-- Each listed cause is the end of a walk, and none is listed twice.
use Rattle.std.proofs.Common.{◌≡◌, ℕ, zero, suc, ◌+◌, ◌-◌, ◌<◌, ◌≤◌, ◌==◌, Bool, true, false, Option, Some, None, List, [], ◌∷◌, ◌++◌, length, refl, sym, ap, subst, ◌∙◌, ⊎_elim, arith}
use Rattle.std.specs.Prelude.{if◌then◌else◌, nat_le, option_map, option_and_then}
use Rattle.std.specs.List.{slice_get, list_all, filter_map, cons_option, range_with_len}
use Rattle.std.proofs.lemmas.Option.{none-some, same_Some}
use Rattle.std.proofs.lemmas.Bool.{cases_lt}
use Rattle.callstore.proofs.PlaceLemmas.{slice_get-front}
use Rattle.waitgraph.specs.Causes.{CauseView, CycleOf, MissingOf, StarvedOf, ComesTo, TellsCauses}
use Rattle.waitgraph.specs.inner.Causes.{Walks, hop_in, lacked_by, next_in, lacks_in, way_round, cycle_by, cycle_at, missing_at, starved_to, starved_at, causes_in, end_at}
use Rattle.waitgraph.specs.declared.next_hop.NextHop.{NextHop}
use Rattle.waitgraph.specs.declared.next_hop.NextHop.TheVariants.{To, Lacks, Nobody}
use Rattle.waitgraph.specs.Held.{Set}
use Rattle.waitgraph.proofs.AmongLemmas.{Among, among_in, in_among, among_both, among_given, among_range}
use Rattle.waitgraph.proofs.WalkLaws.{IsWaiting, WalkGoesOn, walk_ends, told_by_way, is_an_end, end_is_waiting, next_is_waiting}

-- what it means that the cycle of a rank is listed
record IsCycleOf (walks : Walks) (rank : ℕ) (cause : CauseView) : Type 0 where
  ranks : List ℕ
  is_way : way_round walks (length walks) rank rank ≡ Some ranks
  all : list_all (nat_le rank) ranks ≡ true
  is : cause ≡ CycleOf ranks

cycle_parts : (walks : Walks) (rank : ℕ) (cause : CauseView) → cycle_at walks rank ≡ Some cause → IsCycleOf walks rank cause
cycle_parts walks rank cause h =
    by_way walks rank cause (way_round walks (length walks) rank rank) refl h
  where
    by_test : (walks : Walks) (rank : ℕ) (cause : CauseView) (ranks : List ℕ) (test : Bool) → way_round walks (length walks) rank rank ≡ Some ranks → list_all (nat_le rank) ranks ≡ test → (if test then Some (CycleOf ranks) else None) ≡ Some cause → IsCycleOf walks rank cause
    by_test walks rank cause ranks true way all h = record { ranks = ranks; is_way = way; all = all; is = sym (same_Some (CycleOf ranks) cause h) }
    by_test walks rank cause ranks false way all h = absurd (none-some cause h)

    by_way : (walks : Walks) (rank : ℕ) (cause : CauseView) (o : Option (List ℕ)) → way_round walks (length walks) rank rank ≡ o → option_and_then (cycle_by rank) o ≡ Some cause → IsCycleOf walks rank cause
    by_way walks rank cause None way h = absurd (none-some cause h)
    by_way walks rank cause (Some ranks) way h = by_test walks rank cause ranks (list_all (nat_le rank) ranks) way refl h

-- what it means that a missing call of a rank is listed
record IsMissingOf (walks : Walks) (rank : ℕ) (cause : CauseView) : Type 0 where
  peer : ℕ
  lacks : lacks_in walks rank ≡ Some peer
  is : cause ≡ MissingOf rank peer

missing_parts : (walks : Walks) (rank : ℕ) (cause : CauseView) → missing_at walks rank ≡ Some cause → IsMissingOf walks rank cause
missing_parts walks rank cause h =
    by_peer walks rank cause (lacks_in walks rank) refl h
  where
    by_peer : (walks : Walks) (rank : ℕ) (cause : CauseView) (o : Option ℕ) → lacks_in walks rank ≡ o → option_map (MissingOf rank) o ≡ Some cause → IsMissingOf walks rank cause
    by_peer walks rank cause None lacks h = absurd (none-some cause h)
    by_peer walks rank cause (Some peer) lacks h = record { peer = peer; lacks = lacks; is = sym (same_Some (MissingOf rank peer) cause h) }

missing_ends : (walks : Walks) (rank : ℕ) (cause : CauseView) → missing_at walks rank ≡ Some cause → end_at walks rank ≡ Some cause
missing_ends walks rank cause is = by_hop (hop_in walks rank) refl is
  where
    by_hop : (o : Option NextHop) → hop_in walks rank ≡ o → option_map (MissingOf rank) (option_and_then lacked_by o) ≡ Some cause → end_at walks rank ≡ Some cause
    by_hop None at is = absurd (none-some cause is)
    by_hop (Some (To next)) at is = absurd (none-some cause is)
    by_hop (Some (Lacks peer)) at is = rw at is
    by_hop (Some Nobody) at is = absurd (none-some cause is)

-- what it means that a rank is listed which waits for a message that nobody may send
starved_parts : (walks : Walks) (rank : ℕ) (cause : CauseView) → starved_at walks rank ≡ Some cause → (end_at walks rank ≡ Some cause) × (cause ≡ StarvedOf rank)
starved_parts walks rank cause is = by_hop (hop_in walks rank) refl is
  where
    by_hop : (o : Option NextHop) → hop_in walks rank ≡ o → option_and_then (starved_to rank) o ≡ Some cause → (end_at walks rank ≡ Some cause) × (cause ≡ StarvedOf rank)
    by_hop None at is = absurd (none-some cause is)
    by_hop (Some (To next)) at is = absurd (none-some cause is)
    by_hop (Some (Lacks peer)) at is = absurd (none-some cause is)
    by_hop (Some Nobody) at is = (rw at is, sym (same_Some (StarvedOf rank) cause is))

-- a rank that waits, and whose walk ends with the cause
pub record HasStart (walks : Walks) (cause : CauseView) : Type 0 where
  pub rank : ℕ
  pub is_waiting : IsWaiting walks rank
  pub ends : ComesTo (next_in walks) (end_at walks) rank cause

way_waits : (walks : Walks) (most home rank : ℕ) (ranks : List ℕ) → way_round walks most home rank ≡ Some ranks → IsWaiting walks rank
way_waits walks zero home rank ranks h = absurd (none-some ranks h)
way_waits walks (suc most) home rank ranks h =
    by_next walks most home rank ranks (next_in walks rank) refl h
  where
    by_next : (walks : Walks) (most home rank : ℕ) (ranks : List ℕ) (o : Option ℕ) → next_in walks rank ≡ o → option_and_then (λ next. if next == home then Some (rank ∷ []) else option_map (λ ranks. rank ∷ ranks) (way_round walks most home next)) o ≡ Some ranks → IsWaiting walks rank
    by_next walks most home rank ranks None is h = absurd (none-some ranks h)
    by_next walks most home rank ranks (Some next) is h = next_is_waiting walks rank next (hop_in walks rank) refl is

-- the end of a walk at the rank itself
starts_there : (walks : Walks) (rank : ℕ) (cause : CauseView) → end_at walks rank ≡ Some cause → HasStart walks cause
starts_there walks rank cause is = record {
  rank = rank;
  is_waiting = end_is_waiting walks rank cause (hop_in walks rank) refl is;
  ends = record { steps = 0; end = rank; comes_there = refl; is_end = is_an_end walks rank cause is };
}

pub each_is_an_end : (walks : Walks) (cause : CauseView) → Among cause (causes_in walks) → HasStart walks cause
each_is_an_end walks cause h =
    ⊎_elim
    (λ front. ⊎_elim (of_cycle walks cause) (of_missing walks cause) (among_both cause (filter_map (cycle_at walks) (range_with_len 0 (length walks))) (filter_map (missing_at walks) (range_with_len 0 (length walks))) front))
    (of_starved walks cause)
    (among_both cause (filter_map (cycle_at walks) (range_with_len 0 (length walks)) ++ filter_map (missing_at walks) (range_with_len 0 (length walks))) (filter_map (starved_at walks) (range_with_len 0 (length walks))) h)
  where
    of_cycle : (walks : Walks) (cause : CauseView) → Among cause (filter_map (cycle_at walks) (range_with_len 0 (length walks))) → HasStart walks cause
    of_cycle walks cause h =
        let found = among_given cause (cycle_at walks) (range_with_len 0 (length walks)) h in
        let parts = cycle_parts walks found.0 cause found.2 in
        let told = told_by_way walks (length walks) found.0 parts.ranks parts.is_way parts.all in
        subst (λ (c : CauseView). HasStart walks c) (sym parts.is)
        (record {
          rank = found.0;
          is_waiting = way_waits walks (length walks) found.0 found.0 parts.ranks parts.is_way;
          ends = record { steps = 0; end = found.0; comes_there = refl; is_end = (told.rest, told.begins, told.is_cycle) };
        })

    of_missing : (walks : Walks) (cause : CauseView) → Among cause (filter_map (missing_at walks) (range_with_len 0 (length walks))) → HasStart walks cause
    of_missing walks cause h =
        let found = among_given cause (missing_at walks) (range_with_len 0 (length walks)) h in
        starts_there walks found.0 cause (missing_ends walks found.0 cause found.2)

    of_starved : (walks : Walks) (cause : CauseView) → Among cause (filter_map (starved_at walks) (range_with_len 0 (length walks))) → HasStart walks cause
    of_starved walks cause h =
        let found = among_given cause (starved_at walks) (range_with_len 0 (length walks)) h in
        starts_there walks found.0 cause (starved_parts walks found.0 cause found.2).0

-- what one number alone gives stands once
given_behind : {B : Type 0} (y : B) (h : ℕ → Option B) (a n other : ℕ) → ((r s : ℕ) → h r ≡ Some y → h s ≡ Some y → r ≡ s) → h a ≡ Some y → slice_get (filter_map h (range_with_len (a + 1) n)) other ≡ Some y → ⊥
given_behind {B} y h a n other alone is later =
    let found = among_given y h (range_with_len (a + 1) n) (in_among y (filter_map h (range_with_len (a + 1) n)) (other, later)) in
    let low = among_range found.0 (a + 1) n found.1 in
    let same = alone a found.0 is found.2 in
    omega (arith, low.0)

pub given_once : {B : Type 0} (y : B) (h : ℕ → Option B) (a n index other : ℕ) → ((r s : ℕ) → h r ≡ Some y → h s ≡ Some y → r ≡ s) → slice_get (filter_map h (range_with_len a n)) index ≡ Some y → slice_get (filter_map h (range_with_len a n)) other ≡ Some y → index ≡ other
given_once y h a zero index other alone p q = absurd (none-some y p)
given_once {B} y h a (suc n) index other alone p q =
    by_first y h a n index other alone (h a) refl (λ i j p q. given_once y h (a + 1) n i j alone p q) p q
  where
    by_index : {B : Type 0} (y z : B) (h : ℕ → Option B) (a n index other : ℕ) → ((r s : ℕ) → h r ≡ Some y → h s ≡ Some y → r ≡ s) → h a ≡ Some z → ((i j : ℕ) → slice_get (filter_map h (range_with_len (a + 1) n)) i ≡ Some y → slice_get (filter_map h (range_with_len (a + 1) n)) j ≡ Some y → i ≡ j) → slice_get (z ∷ filter_map h (range_with_len (a + 1) n)) index ≡ Some y → slice_get (z ∷ filter_map h (range_with_len (a + 1) n)) other ≡ Some y → index ≡ other
    by_index y z h a n zero zero alone is later p q = refl
    by_index y z h a n zero (suc other) alone is later p q = absurd (given_behind y h a n other alone (is ∙ p) q)
    by_index y z h a n (suc index) zero alone is later p q = absurd (given_behind y h a n index alone (is ∙ q) p)
    by_index y z h a n (suc index) (suc other) alone is later p q = ap (λ (n : ℕ). suc n) (later index other p q)

    by_first : {B : Type 0} (y : B) (h : ℕ → Option B) (a n index other : ℕ) → ((r s : ℕ) → h r ≡ Some y → h s ≡ Some y → r ≡ s) → (o : Option B) → h a ≡ o → ((i j : ℕ) → slice_get (filter_map h (range_with_len (a + 1) n)) i ≡ Some y → slice_get (filter_map h (range_with_len (a + 1) n)) j ≡ Some y → i ≡ j) → slice_get (cons_option o (filter_map h (range_with_len (a + 1) n))) index ≡ Some y → slice_get (cons_option o (filter_map h (range_with_len (a + 1) n))) other ≡ Some y → index ≡ other
    by_first y h a n index other alone None is later p q = later index other p q
    by_first y h a n index other alone (Some z) is later p q = by_index y z h a n index other alone is later p q

-- the place after the first of two lists
behind_front : {A : Type 0} (xs ys : List A) (index : ℕ) → length xs ≤ index → slice_get (xs ++ ys) index ≡ slice_get ys (index - length xs)
behind_front [] ys index past = let e : index - 0 ≡ index = omega arith in rw e refl
behind_front (x ∷ xs) ys zero past = absurd (omega arith)
behind_front (x ∷ xs) ys (suc index) past =
    let e : suc index - suc (length xs) ≡ index - length xs = omega arith in
    rw e (behind_front xs ys index (omega arith))

cycles_alone : (walks : Walks) (cause : CauseView) (r s : ℕ) → cycle_at walks r ≡ Some cause → cycle_at walks s ≡ Some cause → r ≡ s
cycles_alone walks cause r s p q =
    let one = cycle_parts walks r cause p in
    let two = cycle_parts walks s cause q in
    let told_one = told_by_way walks (length walks) r one.ranks one.is_way one.all in
    let told_two = told_by_way walks (length walks) s two.ranks two.is_way two.all in
    let same : one.ranks ≡ two.ranks = cc (one.is, two.is) in
    same_Some r s (ap (λ (ranks : List ℕ). slice_get ranks 0) (sym told_one.begins ∙ same ∙ told_two.begins))

missing_alone : (walks : Walks) (cause : CauseView) (r s : ℕ) → missing_at walks r ≡ Some cause → missing_at walks s ≡ Some cause → r ≡ s
missing_alone walks cause r s p q =
    let one = missing_parts walks r cause p in
    let two = missing_parts walks s cause q in
    cc (one.is, two.is)

starved_alone : (walks : Walks) (cause : CauseView) (r s : ℕ) → starved_at walks r ≡ Some cause → starved_at walks s ≡ Some cause → r ≡ s
starved_alone walks cause r s p q =
    let one = (starved_parts walks r cause p).1 in
    let two = (starved_parts walks s cause q).1 in
    cc (one, two)

-- the cause stands in a list at most once
abbrev Once : CauseView → List CauseView → Type 0
Once cause causes = (index other : ℕ) → slice_get causes index ≡ Some cause → slice_get causes other ≡ Some cause → index ≡ other

both_once : (cause : CauseView) (xs ys : List CauseView) → Once cause xs → Once cause ys → (Among cause xs → Among cause ys → ⊥) → Once cause (xs ++ ys)
both_once cause xs ys front_once behind_once apart index other p q =
    ⊎_elim
    (λ (front : index < length xs).
    let here = sym (slice_get-front xs ys index front) ∙ p in
    ⊎_elim
    (λ (front_too : other < length xs). front_once index other here (sym (slice_get-front xs ys other front_too) ∙ q))
    (λ (behind : length xs ≤ other).
    absurd (apart (in_among cause xs (index, here)) (in_among cause ys (other - length xs, sym (behind_front xs ys other behind) ∙ q))))
    (cases_lt other (length xs)))
    (λ (behind : length xs ≤ index).
    let here = sym (behind_front xs ys index behind) ∙ p in
    ⊎_elim
    (λ (front : other < length xs).
    absurd (apart (in_among cause xs (other, sym (slice_get-front xs ys other front) ∙ q)) (in_among cause ys (index - length xs, here))))
    (λ (behind_too : length xs ≤ other).
    let places = behind_once (index - length xs) (other - length xs) here (sym (behind_front xs ys other behind_too) ∙ q) in
    omega arith)
    (cases_lt other (length xs)))
    (cases_lt index (length xs))

pub none_twice : (walks : Walks) (index other : ℕ) (cause : CauseView) → slice_get (causes_in walks) index ≡ Some cause → slice_get (causes_in walks) other ≡ Some cause → index ≡ other
none_twice walks index other cause p q =
    both_once cause (filter_map (cycle_at walks) (range_with_len 0 (length walks)) ++ filter_map (missing_at walks) (range_with_len 0 (length walks))) (filter_map (starved_at walks) (range_with_len 0 (length walks)))
    (both_once cause (filter_map (cycle_at walks) (range_with_len 0 (length walks))) (filter_map (missing_at walks) (range_with_len 0 (length walks)))
    (λ i j h k. given_once cause (cycle_at walks) 0 (length walks) i j (cycles_alone walks cause) h k)
    (λ i j h k. given_once cause (missing_at walks) 0 (length walks) i j (missing_alone walks cause) h k)
    (λ cycles missing.
    let one = among_given cause (cycle_at walks) (range_with_len 0 (length walks)) cycles in
    let two = among_given cause (missing_at walks) (range_with_len 0 (length walks)) missing in
    let is_cycle = (cycle_parts walks one.0 cause one.2).is in
    let is_missing = (missing_parts walks two.0 cause two.2).is in
    cc (is_cycle, is_missing)))
    (λ i j h k. given_once cause (starved_at walks) 0 (length walks) i j (starved_alone walks cause) h k)
    (λ front starved.
    let two = among_given cause (starved_at walks) (range_with_len 0 (length walks)) starved in
    let is_starved = (starved_parts walks two.0 cause two.2).1 in
    ⊎_elim
    (λ (cycles : Among cause (filter_map (cycle_at walks) (range_with_len 0 (length walks)))).
    let one = among_given cause (cycle_at walks) (range_with_len 0 (length walks)) cycles in
    let is_cycle = (cycle_parts walks one.0 cause one.2).is in
    cc (is_cycle, is_starved))
    (λ (missing : Among cause (filter_map (missing_at walks) (range_with_len 0 (length walks)))).
    let one = among_given cause (missing_at walks) (range_with_len 0 (length walks)) missing in
    let is_missing = (missing_parts walks one.0 cause one.2).is in
    cc (is_missing, is_starved))
    (among_both cause (filter_map (cycle_at walks) (range_with_len 0 (length walks))) (filter_map (missing_at walks) (range_with_len 0 (length walks))) front))
    index other p q

-- what is said of walks that go on from held ranks alone, and from each
pub walks_tell : (walks : Walks) (held : Set) → ((rank : ℕ) → held rank ≡ true → IsWaiting walks rank) → ((rank : ℕ) → IsWaiting walks rank → held rank ≡ true) → WalkGoesOn walks → TellsCauses (next_in walks) (end_at walks) held (causes_in walks)
walks_tell walks held waits are on = record {
  each_walk_ends = λ rank h.
      let end = walk_ends walks on rank (waits rank h) in
      (end.cause, among_in end.cause (causes_in walks) end.is_listed, end.ends);
  each_is_an_end = λ cause listed.
      let start = each_is_an_end walks cause (in_among cause (causes_in walks) listed) in
      (start.rank, are start.rank start.is_waiting, start.ends);
  none_twice = λ index other cause h k. none_twice walks index other cause h k;
}
