-- What calls pay for, as they arrive, are reached and are passed, and as waves come to be complete.
use Rattle.std.proofs.Common.{◌≡◌, ℕ, zero, suc, ◌+◌, ◌*◌, ◌<◌, ◌≤◌, ◌≢◌, true, false, Option, Some, None, List, [], ◌∷◌, length, get_or, refl, ap, subst, ◌∙◌, ⊎_elim, inl, inr, arith}
use Rattle.std.specs.Prelude.{◌⊎◌, nat_lt}
use Rattle.std.specs.List.{slice_get}
use Rattle.std.proofs.lemmas.List.{length-append}
use Rattle.std.proofs.lemmas.Option.{slice_get_within}
use Rattle.std.proofs.lemmas.Bool.{cases_eq, cases_lt, cases_Bool, leb-true, le-leb}
use Rattle.mpicall.specs.declared.call.Call.{Call}
use Rattle.mpigroup.specs.Groups.{Groups}
use Rattle.callstore.specs.Places.{places_from}
use Rattle.callstore.specs.Recordings.{Lists, calls_of, appended, GoesOn}
use Rattle.callstore.specs.Waves.{does_join, wave_of}
use Rattle.callstore.proofs.RequestLemmas.{place_within}
use Rattle.callstore.proofs.WaveLemmas.{the_call_in_a_wave_joins_it, no_other_call_is_in_a_wave}
use Rattle.moves.specs.Runs.{State, moved}
use Rattle.moves.specs.Stands.{call_count}
use Rattle.moves.specs.declared.progress.Progress.{Progress}
use Rattle.arenaqueue.specs.Numbers.{sum_to}
use Rattle.arenaqueue.specs.inner.Numbers.{count}
use Rattle.arenaqueue.proofs.SumLemmas.{sum_least, sum_both, sum_zero, sum_count}
use Rattle.moves.specs.inner.Waiting.{complete_of, NeedsWave, done_in, done_of, paid_by, paid, cost_of}
use Rattle.moves.proofs.StayLemmas.{wave_stays}
use Rattle.moves.proofs.WaveLemmas.{earlier_place}
use Rattle.moves.proofs.WaitLemmas.{open_parts}
use Rattle.moves.proofs.ReachLemmas.{moved_other, moved_own, appended_length}
use Rattle.moves.proofs.AnalyserLemmas.{goes_on_by}

-- sums
pub sum_more : (n i m : ℕ) (f g : ℕ → ℕ) → i < n → ((k : ℕ) → k < n → k ≢ i → f k ≤ g k) → f i + m ≤ g i → sum_to n f + m ≤ sum_to n g
sum_more zero i m f g within h more = absurd (omega arith)
sum_more (suc n) i m f g within h more =
    ⊎_elim
    (λ (last : n ≡ i).
    let here : f n + m ≤ g n = rw last more in
    omega (arith, here, sum_least n f g (λ k l. h k (omega arith) (λ e. omega arith))))
    (λ (before : n ≢ i). omega (arith, h n (omega arith) before, sum_more n i m f g (omega arith) (λ k l. h k (omega arith)) more))
    (cases_eq n i)

pub sum_longer : (n m : ℕ) (f : ℕ → ℕ) → n ≤ m → sum_to n f ≤ sum_to m f
sum_longer n zero f h =
    let none : n ≡ 0 = omega arith in
    rw none (omega arith)
sum_longer n (suc m) f h =
    ⊎_elim
    (λ (same : n ≡ suc m). rw same (omega arith))
    (λ (less : n ≢ suc m). omega (arith, sum_longer n m f (omega arith)))
    (cases_eq n (suc m))

-- at most one number gives something, and it gives one at most
pub sum_at_most_one : (n i : ℕ) (f : ℕ → ℕ) → ((k : ℕ) → k < n → k ≢ i → f k ≡ 0) → f i ≤ 1 → sum_to n f ≤ 1
sum_at_most_one zero i f h one = omega arith
sum_at_most_one (suc n) i f h one =
    ⊎_elim
    (λ (last : n ≡ i).
    let here : f n ≤ 1 = rw last one in
    omega (arith, here, sum_zero n f (λ k l. h k (omega arith) (λ e. omega arith))))
    (λ (before : n ≢ i). omega (arith, h n (omega arith) before, sum_at_most_one n i f (λ k l. h k (omega arith)) one))
    (cases_eq n i)

-- the sum from the first number on
pub sum_first : (n : ℕ) (f : ℕ → ℕ) → sum_to (suc n) f ≡ f 0 + sum_to n (λ k. f (suc k))
sum_first zero f = omega arith
sum_first (suc n) f = omega (arith, sum_first n f)

sum_times : (n c : ℕ) (f : ℕ → ℕ) → sum_to n (λ k. c * f k) ≡ c * sum_to n f
sum_times zero c f = omega arith
sum_times (suc n) c f = omega (arith, sum_times n c f)

-- a call whose wave was complete is so with each further one
done_least : (progress new : Progress) (wave : Option (ℕ × ℕ)) → ((comm : ℕ) → complete_of progress comm ≤ complete_of new comm) → done_in progress wave ≤ done_in new wave
done_least progress new None h = omega arith
done_least progress new (Some (comm, wave)) h =
    ⊎_elim
    (λ (yes : nat_lt wave (complete_of progress comm) ≡ true).
    let now : nat_lt wave (complete_of new comm) ≡ true = le-leb (suc wave) (complete_of new comm) (omega (arith, leb-true (suc wave) (complete_of progress comm) yes, h comm)) in
    rw (yes, now) (omega arith))
    (λ (no : nat_lt wave (complete_of progress comm) ≡ false). rw no (omega arith))
    (cases_Bool (nat_lt wave (complete_of progress comm)))

done_most : (progress : Progress) (wave : Option (ℕ × ℕ)) → done_in progress wave ≤ 1
done_most progress None = omega arith
done_most progress (Some (comm, wave)) =
    ⊎_elim
    (λ (yes : nat_lt wave (complete_of progress comm) ≡ true). rw yes (omega arith))
    (λ (no : nat_lt wave (complete_of progress comm) ≡ false). rw no (omega arith))
    (cases_Bool (nat_lt wave (complete_of progress comm)))

done_newly : (progress new : Progress) (comm : ℕ) → complete_of new comm ≡ complete_of progress comm + 1 → done_in progress (Some (comm, complete_of progress comm)) + 1 ≤ done_in new (Some (comm, complete_of progress comm))
done_newly progress new comm one =
    let now : nat_lt (complete_of progress comm) (complete_of new comm) ≡ true = le-leb (suc (complete_of progress comm)) (complete_of new comm) (omega (arith, one)) in
    ⊎_elim
    (λ (yes : nat_lt (complete_of progress comm) (complete_of progress comm) ≡ true). absurd (omega (arith, leb-true (suc (complete_of progress comm)) (complete_of progress comm) yes)))
    (λ (no : nat_lt (complete_of progress comm) (complete_of progress comm) ≡ false). rw (no, now) (omega arith))
    (cases_Bool (nat_lt (complete_of progress comm) (complete_of progress comm)))

-- a recording that goes on has as many such calls, or more
done_on : (recording longer : Lists) (progress : Progress) (rank : ℕ) → GoesOn recording longer → done_of recording progress rank ≤ done_of longer progress rank
done_on recording longer progress rank goes_on =
    let long : length (calls_of recording rank) ≤ length (calls_of longer rank) = omega (arith, ap (length {A = Call}) (goes_on.goes_on rank), length-append (calls_of recording rank) (goes_on.more rank)) in
    let same = sum_least (length (calls_of recording rank)) (λ place. done_in progress (wave_of recording rank place)) (λ place. done_in progress (wave_of longer rank place))
    (λ place within. omega (arith, ap (done_in progress) (wave_stays recording longer rank place goes_on within))) in
    let more = sum_longer (length (calls_of recording rank)) (length (calls_of longer rank)) (λ place. done_in progress (wave_of longer rank place)) long in
    omega (arith, same, more)

long_on : (recording longer : Lists) (rank : ℕ) → GoesOn recording longer → length (calls_of recording rank) ≤ length (calls_of longer rank)
long_on recording longer rank goes_on = omega (arith, ap (length {A = Call}) (goes_on.goes_on rank), length-append (calls_of recording rank) (goes_on.more rank))

pub paid_on : (recording longer : Lists) (s : State) (progress : Progress) (rank : ℕ) → GoesOn recording longer → paid_by recording s progress rank ≤ paid_by longer s progress rank
paid_on recording longer s progress rank goes_on = omega (arith, long_on recording longer rank goes_on, done_on recording longer progress rank goes_on)

-- a call arrives
pub paid_ahead : (recording : Lists) (s : State) (progress : Progress) (rank : ℕ) (call : Call) → rank < length recording → paid recording s progress ≤ paid (appended recording rank call) s progress
paid_ahead recording s progress rank call is_rank =
    let goes_on = goes_on_by recording rank call is_rank in
    let most = sum_least (length recording) (paid_by recording s progress) (paid_by (appended recording rank call) s progress) (λ other within. paid_on recording (appended recording rank call) s progress other goes_on) in
    subst (λ (n : ℕ). paid recording s progress ≤ sum_to n (paid_by (appended recording rank call) s progress)) goes_on.same_ranks most

pub paid_there : (recording : Lists) (s : State) (progress : Progress) (rank : ℕ) (call : Call) → rank < length recording → get_or s rank 0 ≡ length (calls_of recording rank) → paid recording s progress + 16 ≤ paid (appended recording rank call) s progress
paid_there recording s progress rank call is_rank at_end =
    let goes_on = goes_on_by recording rank call is_rank in
    let most = sum_more (length recording) rank 16 (paid_by recording s progress) (paid_by (appended recording rank call) s progress) is_rank
    (λ other within differs. paid_on recording (appended recording rank call) s progress other goes_on)
    (omega (arith, appended_length recording rank call is_rank, at_end, done_on recording (appended recording rank call) progress rank goes_on)) in
    subst (λ (n : ℕ). paid recording s progress + 16 ≤ sum_to n (paid_by (appended recording rank call) s progress)) goes_on.same_ranks most

-- the reaching of a place costs no more where no call is there
pub cost_cases : (calls : List Call) (place : ℕ) → ((cost_of (slice_get calls place) ≡ 3) × (slice_get calls place ≡ None)) ⊎ ((cost_of (slice_get calls place) ≡ 16) × (place < length calls))
cost_cases calls place = by_call (slice_get calls place) refl
  where
    by_call : (there : Option Call) → slice_get calls place ≡ there → ((cost_of (slice_get calls place) ≡ 3) × (slice_get calls place ≡ None)) ⊎ ((cost_of (slice_get calls place) ≡ 16) × (place < length calls))
    by_call None e = inl (ap cost_of e, e)
    by_call (Some call) e = inr (ap cost_of e, slice_get_within calls place call e)

-- a rank moves on
pub paid_moved : (recording : Lists) (s : State) (progress : Progress) (rank : ℕ) → rank < length recording → rank < length s → paid recording s progress + cost_of (slice_get (calls_of recording rank) (get_or s rank 0 + 1)) ≤ paid recording (moved s rank) progress + 1
paid_moved recording s progress rank is_rank in_s =
    let own : get_or (moved s rank) rank 0 ≡ get_or s rank 0 + 1 = moved_own s rank in_s in
    let others : (other : ℕ) → other < length recording → other ≢ rank → paid_by recording s progress other ≤ paid_by recording (moved s rank) progress other = λ other within differs. omega (arith, moved_other s rank other differs) in
    ⊎_elim
    (λ (none : (cost_of (slice_get (calls_of recording rank) (get_or s rank 0 + 1)) ≡ 3) × (slice_get (calls_of recording rank) (get_or s rank 0 + 1) ≡ None)).
    omega (arith, none.0, sum_more (length recording) rank 2 (paid_by recording s progress) (paid_by recording (moved s rank) progress) is_rank others (omega (arith, own))))
    (λ (some : (cost_of (slice_get (calls_of recording rank) (get_or s rank 0 + 1)) ≡ 16) × (get_or s rank 0 + 1 < length (calls_of recording rank))).
    omega (arith, some.0, sum_more (length recording) rank 15 (paid_by recording s progress) (paid_by recording (moved s rank) progress) is_rank others (omega (arith, own, some.1))))
    (cost_cases (calls_of recording rank) (get_or s rank 0 + 1))

-- waves come to be complete
done_more : (recording : Lists) (progress new : Progress) (rank : ℕ) → ((comm : ℕ) → complete_of progress comm ≤ complete_of new comm) → done_of recording progress rank ≤ done_of recording new rank
done_more recording progress new rank h =
    sum_least (length (calls_of recording rank)) (λ place. done_in progress (wave_of recording rank place)) (λ place. done_in new (wave_of recording rank place)) (λ place within. done_least progress new (wave_of recording rank place) h)

pub paid_waves : (recording : Lists) (s : State) (progress new : Progress) → ((comm : ℕ) → complete_of progress comm ≤ complete_of new comm) → paid recording s progress ≤ paid recording s new
paid_waves recording s progress new h =
    sum_least (length recording) (paid_by recording s progress) (paid_by recording s new) (λ rank within. omega (arith, done_more recording progress new rank h))

-- a rank that waits for a wave has a call in the next one
done_waiter : (groups : Groups) (recording : Lists) (s : State) (progress new : Progress) (rank comm : ℕ) → ((c : ℕ) → complete_of progress c ≤ complete_of new c) → complete_of new comm ≡ complete_of progress comm + 1 → NeedsWave groups recording s progress rank comm → done_of recording progress rank + 1 ≤ done_of recording new rank
done_waiter groups recording s progress new rank comm h one needs =
    let is_in = open_parts groups recording progress rank needs.start comm needs.is_joined in
    let later = the_call_in_a_wave_joins_it recording rank needs.start comm is_in.wave is_in.there in
    let there = earlier_place (places_from 0 (does_join comm) (calls_of recording rank)) (complete_of progress comm) is_in.wave needs.start is_in.least later in
    let joined = no_other_call_is_in_a_wave recording rank there.0 comm (complete_of progress comm) there.1 in
    sum_more (length (calls_of recording rank)) there.0 1 (λ place. done_in progress (wave_of recording rank place)) (λ place. done_in new (wave_of recording rank place))
    (place_within (does_join comm) (calls_of recording rank) (complete_of progress comm) there.0 there.1)
    (λ place within differs. done_least progress new (wave_of recording rank place) h)
    (rw joined (done_newly progress new comm one))

pub paid_waiters : (groups : Groups) (recording : Lists) (s : State) (progress new : Progress) (comm : ℕ) (entries : List ℕ) → ((c : ℕ) → complete_of progress c ≤ complete_of new c) → complete_of new comm ≡ complete_of progress comm + 1 → ((rank : ℕ) → count rank entries ≤ 1) → ((rank : ℕ) → 0 < count rank entries → rank < length recording) → ((rank : ℕ) → 0 < count rank entries → NeedsWave groups recording s progress rank comm) → paid recording s progress + 4 * length entries ≤ paid recording s new
paid_waiters groups recording s progress new comm entries h one once ranks needs =
    let each : (rank : ℕ) → rank < length recording → paid_by recording s progress rank + 4 * count rank entries ≤ paid_by recording s new rank = λ rank within.
    ⊎_elim
    (λ (on : 0 < count rank entries). omega (arith, once rank, done_waiter groups recording s progress new rank comm h one (needs rank on)))
    (λ (off : count rank entries ≤ 0). omega (arith, done_more recording progress new rank h))
    (cases_lt 0 (count rank entries)) in
    omega (arith, sum_least (length recording) (λ rank. paid_by recording s progress rank + 4 * count rank entries) (paid_by recording s new) each, sum_both (length recording) (paid_by recording s progress) (λ rank. 4 * count rank entries) (λ rank. paid_by recording s progress rank + 4 * count rank entries) (λ rank. refl), sum_times (length recording) 4 (λ rank. count rank entries), sum_count (length recording) entries ranks)

-- no more is paid than 22 a call
done_within : (recording : Lists) (progress : Progress) (rank : ℕ) → done_of recording progress rank ≤ length (calls_of recording rank)
done_within recording progress rank = sum_ones (length (calls_of recording rank)) (λ place. done_in progress (wave_of recording rank place)) (λ place. done_most progress (wave_of recording rank place))
  where
    sum_ones : (n : ℕ) (f : ℕ → ℕ) → ((k : ℕ) → f k ≤ 1) → sum_to n f ≤ n
    sum_ones zero f h = omega arith
    sum_ones (suc n) f h = omega (arith, sum_ones n f h, h n)

calls_sum : (recording : Lists) → sum_to (length recording) (λ rank. length (calls_of recording rank)) ≡ call_count recording
calls_sum [] = refl
calls_sum (calls ∷ recording) =
    sum_first (length recording) (λ rank. length (calls_of (calls ∷ recording) rank))
    ∙ ap (λ (n : ℕ). length calls + n) (calls_sum recording)

pub paid_most : (recording : Lists) (s : State) (progress : Progress) → ((rank : ℕ) → get_or s rank 0 ≤ length (calls_of recording rank)) → paid recording s progress ≤ 22 * call_count recording
paid_most recording s progress within =
    omega (arith, sum_least (length recording) (paid_by recording s progress) (λ rank. 22 * length (calls_of recording rank)) (λ rank is_rank. omega (arith, within rank, done_within recording progress rank)), sum_times (length recording) 22 (λ rank. length (calls_of recording rank)), calls_sum recording)
