-- What steps do to stands, and why maximal runs of a persistent rule end alike.
use Rattle.std.proofs.Common.{◌≡◌, ℕ, zero, suc, ◌+◌, ◌<◌, ◌≤◌, ◌++◌, ◌≢◌, Bool, true, false, Option, Some, None, List, [], ◌∷◌, length, replicate, get_or, set, refl, sym, ap, subst, ◌∙◌, ⊎_elim, arith, get_or-set_same, get_or-set_other}
use Rattle.std.specs.Prelude.{find}
use Rattle.std.specs.List.{range_with_len}
use Rattle.std.proofs.lemmas.List.{length-set, length-replicate, ext_get_or}
use Rattle.std.specs.Option.{option_map_or}
use Rattle.std.proofs.lemmas.Option.{none-some, same_Some}
use Rattle.std.proofs.lemmas.Bool.{cases_eq, cases_lt, false≢true, cases_Bool}
use Rattle.moves.specs.Runs.{State, Rule, start, moved, Step, AreSteps, last_state, IsRun, run_end, NoneCanMove, IsMaximal, IsReached, lowest, lowest_steps, StandsNoLater, IsPersistent, IsBounded, total, lowest_run, AnyEndIsTheEnd, MaximalRunsEndAlike}

pub below_same : (s : State) → StandsNoLater s s
below_same s = record { ranks = refl; stands = λ rank. omega arith }

pub below_both : (s t : State) → StandsNoLater s t → StandsNoLater t s → s ≡ t
below_both s t st ts =
    ext_get_or 0 s t st.ranks (λ rank within. omega (arith, st.stands rank, ts.stands rank))

-- a rank past the last stands at 0
pub get_start : (n k : ℕ) → ◌≡◌ {A = ℕ} (get_or (replicate n 0) k 0) 0
get_start zero k = refl
get_start (suc n) zero = refl
get_start (suc n) (suc k) = get_start n k

start_below : (ranks : ℕ) (s : State) → length s ≡ ranks → StandsNoLater (start ranks) s
start_below ranks s l = record { ranks = length-replicate ranks 0 ∙ sym l; stands = λ rank. rw (get_start ranks rank) (omega arith) }

length_moved : (s : State) (rank : ℕ) → length (moved s rank) ≡ length s
length_moved s rank = length-set s rank (get_or s rank 0 + 1)

pub steps_keep_ranks : (can : Rule) (s : State) (states : List State) → AreSteps can s states → length (last_state s states) ≡ length s
steps_keep_ranks can s [] h = refl
steps_keep_ranks can s (t ∷ rest) h =
    steps_keep_ranks can t rest h.1 ∙ ap length h.0.moves_on ∙ length_moved s h.0.rank

moved_stand_below : (s u : State) (rank k : ℕ) → get_or s k 0 ≤ get_or u k 0 → rank < length s → get_or s rank 0 < get_or u rank 0 → get_or (moved s rank) k 0 ≤ get_or u k 0
moved_stand_below s u rank k h is_rank behind =
    ⊎_elim
    (λ e. rw e (rw (get_or-set_same s rank (get_or s rank 0 + 1) 0 is_rank) (omega arith)))
    (λ e. rw (get_or-set_other s rank k (get_or s rank 0 + 1) 0 e) h)
    (cases_eq k rank)

-- a rank that is not as far as `u` may move, and then is at most there
moved_below : (s u : State) (rank : ℕ) → StandsNoLater s u → rank < length s → get_or s rank 0 < get_or u rank 0 → StandsNoLater (moved s rank) u
moved_below s u rank h is_rank behind = record {
  ranks = length_moved s rank ∙ h.ranks;
  stands = λ k. moved_stand_below s u rank k (h.stands k) is_rank behind;
}

-- a step from below a stuck state stays below it
pub step_below : (can : Rule) (s t u : State) → IsPersistent can → NoneCanMove can u → StandsNoLater s u → Step can s t → StandsNoLater t u
step_below can s t u persistent stuck below step =
    ⊎_elim
    (λ behind. rw step.moves_on (moved_below s u step.rank below step.is_rank behind))
    (λ level.
    let same : get_or s step.rank 0 ≡ get_or u step.rank 0 = omega (arith, below.stands step.rank) in
    let is_rank : step.rank < length u = omega (arith, below.ranks, step.is_rank) in
    let can_in_u : can u step.rank ≡ true = persistent s u step.rank below same step.can_move in
    absurd (false≢true (sym (stuck step.rank is_rank) ∙ can_in_u)))
    (cases_lt (get_or s step.rank 0) (get_or u step.rank 0))

pub steps_below : (can : Rule) (s u : State) (states : List State) → IsPersistent can → NoneCanMove can u → StandsNoLater s u → AreSteps can s states → StandsNoLater (last_state s states) u
steps_below can s u [] persistent stuck below h = below
steps_below can s u (t ∷ rest) persistent stuck below h =
    steps_below can t u rest persistent stuck (step_below can s t u persistent stuck below h.0) h.1

-- what a run reaches is below every stuck state
pub run_below : (can : Rule) (ranks : ℕ) (u : State) (states : List State) → IsPersistent can → NoneCanMove can u → length u ≡ ranks → IsRun can ranks states → StandsNoLater (run_end ranks states) u
run_below can ranks u states persistent stuck l h =
    steps_below can (start ranks) u states persistent stuck (start_below ranks u l) h

pub run_keeps_ranks : (can : Rule) (ranks : ℕ) (states : List State) → IsRun can ranks states → length (run_end ranks states) ≡ ranks
run_keeps_ranks can ranks states h = steps_keep_ranks can (start ranks) states h ∙ length-replicate ranks 0

pub reached_below : (can : Rule) (ranks : ℕ) (s u : State) → IsPersistent can → NoneCanMove can u → length u ≡ ranks → IsReached can ranks s → StandsNoLater s u
reached_below can ranks s u persistent stuck l reached =
    subst (λ (x : State). StandsNoLater x u) reached.ends_there (run_below can ranks u reached.states persistent stuck l reached.is_run)

pub reached_ranks : (can : Rule) (ranks : ℕ) (s : State) → IsReached can ranks s → length s ≡ ranks
reached_ranks can ranks s reached = ap length (sym reached.ends_there) ∙ run_keeps_ranks can ranks reached.states reached.is_run

pub any_end_is_the_end : AnyEndIsTheEnd
any_end_is_the_end can ranks s persistent reached stuck = record {
  is_reached = reached;
  is_stuck = stuck;
  of_all = λ states maximal.
      below_both (run_end ranks states) s
      (run_below can ranks s states persistent stuck (reached_ranks can ranks s reached) maximal.is_run)
      (reached_below can ranks s (run_end ranks states) persistent maximal.is_stuck (run_keeps_ranks can ranks states maximal.is_run) reached);
}

-- what a search for the first number of a range finds, and what it means that it finds none
found_in : (p : ℕ → Bool) (a n r : ℕ) → find p (range_with_len a n) ≡ Some r → (p r ≡ true) × (r < a + n)
found_in p a zero r h = absurd (none-some r h)
found_in p a (suc n) r h =
    ⊎_elim
    (λ (yes : p a ≡ true).
    let e : a ≡ r = same_Some a r (rw yes at h) in
    (subst (λ x. p x ≡ true) e yes, omega arith))
    (λ (no : p a ≡ false).
    let later = found_in p (a + 1) n r (rw no at h) in
    (later.0, omega (arith, later.1)))
    (cases_Bool (p a))

none_in : (p : ℕ → Bool) (a n r : ℕ) → find p (range_with_len a n) ≡ None → a ≤ r → r < a + n → p r ≡ false
none_in p a zero r h from to = absurd (omega arith)
none_in p a (suc n) r h from to =
    ⊎_elim
    (λ (yes : p a ≡ true). absurd (none-some a (sym (rw yes at h))))
    (λ (no : p a ≡ false).
    ⊎_elim
    (λ (e : r ≡ a). rw e no)
    (λ (e : r ≢ a). none_in p (a + 1) n r (rw no at h) (omega arith) (omega arith))
    (cases_eq r a))
    (cases_Bool (p a))

pub lowest_found : (can : Rule) (s : State) (rank : ℕ) → lowest can s ≡ Some rank → (can s rank ≡ true) × (rank < length s)
lowest_found can s rank h = let f = found_in (can s) 0 (length s) rank h in (f.0, omega (arith, f.1))

pub lowest_none : (can : Rule) (s : State) → lowest can s ≡ None → NoneCanMove can s
lowest_none can s h rank is_rank = none_in (can s) 0 (length s) rank h (omega arith) (omega arith)

-- the steps by a rule are steps by each one that lets more ranks move
pub steps_by_more : (can more : Rule) → ((s : State) (rank : ℕ) → can s rank ≡ true → more s rank ≡ true) → (s : State) (states : List State) → AreSteps can s states → AreSteps more s states
steps_by_more can more lets s [] steps = steps
steps_by_more can more lets s (t ∷ rest) steps = (
  record { rank = steps.0.rank; is_rank = steps.0.is_rank; can_move = lets s steps.0.rank steps.0.can_move; moves_on = steps.0.moves_on },
  steps_by_more can more lets t rest steps.1,
)

steps_on : (can : Rule) (most : ℕ) (s : State) (found : Option ℕ) → lowest can s ≡ found → ((t : State) → AreSteps can t (lowest_steps can most t)) → AreSteps can s (option_map_or (λ rank. moved s rank ∷ lowest_steps can most (moved s rank)) found [])
steps_on can most s None h rest = tt
steps_on can most s (Some rank) h rest =
    let f = lowest_found can s rank h in
    (record { rank = rank; is_rank = f.1; can_move = f.0; moves_on = refl }, rest (moved s rank))

pub lowest_steps_are_steps : (can : Rule) (most : ℕ) (s : State) → AreSteps can s (lowest_steps can most s)
lowest_steps_are_steps can zero s = tt
lowest_steps_are_steps can (suc most) s = steps_on can most s (lowest can s) refl (lowest_steps_are_steps can most)

pub total_set : (s : List ℕ) (i v : ℕ) → i < length s → total (set s i v) + get_or s i 0 ≡ total s + v
total_set [] i v h = absurd (omega arith)
total_set (x ∷ xs) zero v h = omega arith
total_set (x ∷ xs) (suc i) v h = omega (arith, total_set xs i v (omega arith))

pub total_moved : (s : State) (rank : ℕ) → rank < length s → total (moved s rank) ≡ total s + 1
total_moved s rank h = omega (arith, total_set s rank (get_or s rank 0 + 1) h)

pub total_most : (s t : List ℕ) → length s ≡ length t → ((k : ℕ) → get_or s k 0 ≤ get_or t k 0) → total s ≤ total t
total_most [] [] l h = omega arith
total_most [] (y ∷ ys) l h = absurd (omega arith)
total_most (x ∷ xs) [] l h = absurd (omega arith)
total_most (x ∷ xs) (y ∷ ys) l h = omega (arith, h 0, total_most xs ys (omega arith) (λ k. h (suc k)))

pub total_less : (s t : List ℕ) (i : ℕ) → length s ≡ length t → ((k : ℕ) → get_or s k 0 ≤ get_or t k 0) → get_or s i 0 < get_or t i 0 → total s < total t
total_less [] [] i l h less = absurd (omega arith)
total_less [] (y ∷ ys) i l h less = absurd (omega arith)
total_less (x ∷ xs) [] i l h less = absurd (omega arith)
total_less (x ∷ xs) (y ∷ ys) zero l h less = omega (arith, less, total_most xs ys (omega arith) (λ k. h (suc k)))
total_less (x ∷ xs) (y ∷ ys) (suc i) l h less =
    omega (arith, h 0, total_less xs ys i (omega arith) (λ k. h (suc k)) less)

-- once all calls are completed no rank can move
spent : (can : Rule) (calls : List ℕ) (s : State) → IsBounded can calls → StandsNoLater s calls → total calls ≤ total s → NoneCanMove can s
spent can calls s bounded below all rank is_rank =
    ⊎_elim
    (λ (yes : can s rank ≡ true). absurd (omega (arith, total_less s calls rank below.ranks below.stands (bounded s rank yes))))
    (λ (no : can s rank ≡ false). no)
    (cases_Bool (can s rank))

ends_on : (can : Rule) (calls : List ℕ) (most : ℕ) (s : State) (found : Option ℕ) → IsBounded can calls → StandsNoLater s calls → total calls ≤ suc most + total s → lowest can s ≡ found → ((t : State) → StandsNoLater t calls → total calls ≤ most + total t → NoneCanMove can (last_state t (lowest_steps can most t))) → NoneCanMove can (last_state s (option_map_or (λ rank. moved s rank ∷ lowest_steps can most (moved s rank)) found []))
ends_on can calls most s None bounded below all h rest = lowest_none can s h
ends_on can calls most s (Some rank) bounded below all h rest =
    let f = lowest_found can s rank h in
    rest (moved s rank) (moved_below s calls rank below f.1 (bounded s rank f.0)) (omega (arith, total_moved s rank f.1))

lowest_steps_end : (can : Rule) (calls : List ℕ) (most : ℕ) (s : State) → IsBounded can calls → StandsNoLater s calls → total calls ≤ most + total s → NoneCanMove can (last_state s (lowest_steps can most s))
lowest_steps_end can calls zero s bounded below all = spent can calls s bounded below (omega arith)
lowest_steps_end can calls (suc most) s bounded below all =
    ends_on can calls most s (lowest can s) bounded below all refl
    (λ t t_below t_all. lowest_steps_end can calls most t bounded t_below t_all)

pub lowest_run_is_maximal : (can : Rule) (calls : List ℕ) → IsBounded can calls → IsMaximal can (length calls) (lowest_run can (length calls) (total calls))
lowest_run_is_maximal can calls bounded = record {
  is_run = lowest_steps_are_steps can (total calls) (start (length calls));
  is_stuck = lowest_steps_end can calls (total calls) (start (length calls)) bounded (start_below (length calls) calls refl) (omega arith);
}

pub maximal_runs_end_alike : MaximalRunsEndAlike
maximal_runs_end_alike can calls persistent bounded =
    let maximal = lowest_run_is_maximal can calls bounded in (
      maximal,
      any_end_is_the_end can (length calls) (run_end (length calls) (lowest_run can (length calls) (total calls))) persistent
          (record { states = lowest_run can (length calls) (total calls); is_run = maximal.is_run; ends_there = refl })
          maximal.is_stuck,
    )

-- one step on from what is reached
last_push : (s t : State) (states : List State) → last_state s (states ++ t ∷ []) ≡ t
last_push s t [] = refl
last_push s t (u ∷ rest) = last_push u t rest

steps_push : (can : Rule) (s t : State) (states : List State) → AreSteps can s states → Step can (last_state s states) t → AreSteps can s (states ++ t ∷ [])
steps_push can s t [] steps step = (step, tt)
steps_push can s t (u ∷ rest) steps step = (steps.0, steps_push can u t rest steps.1 step)

pub reached_step : (can : Rule) (ranks : ℕ) (s t : State) → IsReached can ranks s → Step can s t → IsReached can ranks t
reached_step can ranks s t reached step = record {
  states = reached.states ++ t ∷ [];
  is_run = steps_push can (start ranks) t reached.states reached.is_run (subst (λ (u : State). Step can u t) (sym reached.ends_there) step);
  ends_there = last_push (start ranks) t reached.states;
}

pub reached_start : (can : Rule) (ranks : ℕ) → IsReached can ranks (start ranks)
reached_start can ranks = record { states = []; is_run = tt; ends_there = refl }
