-- Stands that some run passes are no further than the stands of now, which are further or the same.
use Rattle.moves.specs.declared.reading.Reading.{Reading}
use Rattle.std.proofs.Common.{◌≡◌, ◌≢◌, ◌⊎◌, ℕ, suc, ◌<◌, ◌≤◌, true, false, Some, List, [], ◌∷◌, length, get_or, sum, nat_le, nat_lt, inl, inr, refl, sym, ap, subst, ◌∙◌, ⊎_elim, arith}
use mathlib.Core.HLevel.{⊥_prop}
use Rattle.std.specs.Prelude.{All}
use Rattle.std.specs.List.{range_with_len}
use Rattle.std.proofs.Math.Logic.{∥∥₁_elim}
use Rattle.std.proofs.lemmas.Bool.{cases_eq, false≢true, and_from}
use Rattle.std.proofs.lemmas.Bool.Decides.{nat_tests}
use Rattle.std.proofs.lemmas.Option.{same_Some}
use Rattle.std.proofs.lemmas.List.Elements.{All-head, All-tail}
use Rattle.std.proofs.lemmas.List.FromFn.{length-range_with_len, get_or-range_with_len, length-map-range_with_len, get_or-map-range_with_len}
use Rattle.std.proofs.lemmas.List.Sums.{list_all-from_AllPass, sum_by-cons}
use Rattle.mpigroup.specs.declared.limits.TheConstants.{MOST_RANKS}
use Rattle.mpigroup.specs.Groups.{Groups}
use Rattle.callstore.specs.Recordings.{Lists}
use Rattle.moves.specs.Runs.{State, StandsNoLater}
use Rattle.moves.specs.Needs.{can_move}
use Rattle.moves.specs.Stands.{stands_of}
use Rattle.moves.proofs.NeedLemmas.{can_move_is_persistent}
use Rattle.moves.proofs.RunLemmas.{reached_below, reached_ranks}
use Rattle.moves.proofs.StandLemmas.{every_maximal_run_ends_at_the_stands}
use Rattle.watches.specs.Stands.{shown_places, is_no_lower, is_further, Passes, IsPassed}
use Rattle.watches.specs.Publications.{last_published, ArePassed, IsNoFurther}
use Rattle.watches.specs.declared.stands.Stands.{Stands}

-- where no number is lower in the second list, its sum is greater, or it is the first
more_or_same : (xs ys : List ℕ) → length xs ≡ length ys → ((k : ℕ) → k < length xs → get_or xs k 0 ≤ get_or ys k 0) → (sum xs < sum ys) ⊎ (xs ≡ ys)
more_or_same [] [] l h = inr refl
more_or_same [] (y ∷ ys) l h = absurd (omega (arith, l))
more_or_same (x ∷ xs) [] l h = absurd (omega (arith, l))
more_or_same (x ∷ xs) (y ∷ ys) l h =
    let here : x ≤ y = h 0 (omega arith) in
    let first = sum_by-cons (λ n. n) x xs in
    let second = sum_by-cons (λ n. n) y ys in
    ⊎_elim
    (λ (more : sum xs < sum ys). inl (omega (arith, here, first, second, more)))
    (λ (same : xs ≡ ys). ⊎_elim
    (λ (is : x ≡ y). inr (cc (is, same)))
    (λ (other : x ≢ y). let lower : x < y = omega (arith, here, other) in inl (omega (arith, lower, first, second, ap sum same)))
    (cases_eq x y))
    (more_or_same xs ys (omega (arith, l)) (λ k within. h (suc k) (omega (arith, within))))

place_shown : (s : State) (k : ℕ) → k < MOST_RANKS → get_or (shown_places s) k 0 ≡ get_or s k 0
unfolding shown_places
place_shown s k within = get_or-map-range_with_len (λ rank. get_or s rank 0) 0 MOST_RANKS k k 0 within (omega arith)

places_shown : (s : State) → length (shown_places s) ≡ MOST_RANKS
unfolding shown_places
places_shown s = length-map-range_with_len (λ rank. get_or s rank 0) 0 MOST_RANKS

place_no_lower : (s t : State) → StandsNoLater s t → (k : ℕ) → k < MOST_RANKS → get_or (shown_places s) k 0 ≤ get_or (shown_places t) k 0
place_no_lower s t later k within = omega (arith, place_shown s k within, place_shown t k within, later.stands k)

places_no_lower : (s t : State) → StandsNoLater s t → is_no_lower (shown_places s) (shown_places t) ≡ true
unfolding is_no_lower
places_no_lower s t later =
    list_all-from_AllPass (λ rank. nat_le (get_or (shown_places s) rank 0) (get_or (shown_places t) rank 0)) (range_with_len 0 MOST_RANKS) (λ k d below.
    let within : k < MOST_RANKS = omega (arith, below, length-range_with_len 0 MOST_RANKS) in
    let here : get_or (range_with_len 0 MOST_RANKS) k d ≡ k = get_or-range_with_len 0 MOST_RANKS k d within ∙ omega arith in
    let lower : get_or (shown_places s) (get_or (range_with_len 0 MOST_RANKS) k d) 0 ≤ get_or (shown_places t) (get_or (range_with_len 0 MOST_RANKS) k d) 0 =
    subst (λ (r : ℕ). get_or (shown_places s) r 0 ≤ get_or (shown_places t) r 0) (sym here) (place_no_lower s t later k within) in grind (arith, nat_tests, lower))

further_or_same : (s t : State) → StandsNoLater s t → (is_further (shown_places s) (shown_places t) ≡ true) ⊎ (shown_places s ≡ shown_places t)
further_or_same s t later =
    ⊎_elim
    (λ (more : sum (shown_places s) < sum (shown_places t)). inl (and_from (is_no_lower (shown_places s) (shown_places t)) (nat_lt (sum (shown_places s)) (sum (shown_places t))) (places_no_lower s t later) (grind (arith, nat_tests, more))))
    (λ (same : shown_places s ≡ shown_places t). inr same)
    (more_or_same (shown_places s) (shown_places t) (places_shown s ∙ sym (places_shown t)) (λ k within. place_no_lower s t later k (omega (arith, within, places_shown s))))

module _ (reading : Reading) (groups : Groups) (recording : Lists) where
  abbrev now : State
  now = stands_of reading groups recording

  below_now : (places : List ℕ) (p : Passes reading groups recording places) → StandsNoLater p.state now
  below_now places p =
      let end = (every_maximal_run_ends_at_the_stands reading groups recording).1 in
      reached_below (can_move reading groups recording) (length recording) p.state now (can_move_is_persistent reading groups recording) end.is_stuck
      (reached_ranks (can_move reading groups recording) (length recording) now end.is_reached) p.is_reached

  -- the stands of now are further than what some run passes, or the same
  ahead_or_same : (places : List ℕ) → Passes reading groups recording places → (is_further places (shown_places now) ≡ true) ⊎ (places ≡ shown_places now)
  ahead_or_same places p =
      subst (λ (xs : List ℕ). (is_further xs (shown_places now) ≡ true) ⊎ (xs ≡ shown_places now)) (sym p.are_its_places) (further_or_same p.state now (below_now places p))

  neither : (last stands : Stands) → stands.places ≡ shown_places now → is_further last.places stands.places ≡ false → stands ≢ last → Passes reading groups recording last.places → ⊥
  neither last stands are no_further other p =
      ⊎_elim
      (λ (further : is_further last.places (shown_places now) ≡ true). false≢true (sym no_further ∙ (ap (is_further last.places) are ∙ further)))
      (λ (same : last.places ≡ shown_places now). other (ap (λ (places : List ℕ). record { places = places }) (are ∙ sym same)))
      (ahead_or_same last.places p)

last_has : (P : Stands → Type 0) (list : List Stands) (last : Stands) → last_published list ≡ Some last → All P list → P last
last_has P [] last is all = absurd cc
last_has P (x ∷ []) last is all = subst P (same_Some x last is) (All-head P x [] all)
last_has P (x ∷ y ∷ ys) last is all = last_has P (y ∷ ys) last is (All-tail P x (y ∷ ys) all)

-- where all publications are passed, the stands of now are further than the last of them, or the same
pub now_is_no_less : (reading : Reading) (groups : Groups) (recording : Lists) (stands : Stands) (list : List Stands) → stands.places ≡ shown_places (stands_of reading groups recording) → ArePassed reading groups recording list → IsNoFurther stands list → ⊥
now_is_no_less reading groups recording stands list are passed refused =
    ∥∥₁_elim (last_has (λ (s : Stands). IsPassed reading groups recording s.places) list refused.last refused.is_last passed) ⊥_prop (neither reading groups recording refused.last stands are refused.no_further refused.other)
