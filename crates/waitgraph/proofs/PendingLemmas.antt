-- Held ranks where pending calls and sinks are known: the search finds the greatest deadlocked set.
use Rattle.moves.specs.declared.reading.Reading.{Reading}
use Rattle.std.proofs.Common.{◌≡◌, ℕ, zero, suc, ◌<◌, Bool, true, false, not, ◌&&◌, ◌||◌, Option, Some, None, List, [], ◌∷◌, length, refl, sym, ap, ◌∙◌, ⊎_elim}
use Rattle.std.specs.Prelude.{slice_index, nat_lt}
use Rattle.std.specs.List.{slice_get, list_any, list_all}
use Rattle.std.proofs.lemmas.Option.{slice_get_within}
use Rattle.std.proofs.lemmas.Bool.{cases_Bool, false≢true, and_parts, and_from, or_left, or_right, or_parts, not-true, not_from_false, not_from_true, ltb-true, lt-ltb, false_from_ne_true}
use Rattle.mpicall.specs.Ending.{ends_list}
use Rattle.mpicall.specs.declared.call.Call.{Call}
use Rattle.mpicall.specs.declared.call.Call.TheVariants.{Open}
use Rattle.mpigroup.specs.Groups.{Groups}
use Rattle.callstore.specs.Recordings.{Lists, calls_of}
use Rattle.moves.specs.Needs.{needs_of, is_met}
use Rattle.moves.specs.Runs.{State}
use Rattle.moves.specs.Stands.{stands_of}
use Rattle.moves.specs.declared.need.Need.{Need}
use Rattle.pairing.specs.LeftOpen.{leaves_open}
use Rattle.pairing.proofs.RankLemmas.{calls_past}
use Rattle.waitgraph.specs.Held.{Set, is_missing, is_blocked, waits_for}
use Rattle.waitgraph.specs.Stuck.{rank_needed}
use Rattle.waitgraph.specs.Pending.{Known, none_known, Waited, waited_of, pass_all_or_one, is_over}
use Rattle.waitgraph.specs.PendingHeld.{may_come, may_move, IsDeadlockedBy, IsHeldBy, AreHeldBy, TheHeldByPendingAreTheGreatest, WithoutPendingTheHeldAreTheSame}
use Rattle.waitgraph.specs.inner.PendingLoose.{others_of, frees, are_free, is_held_by}
use Rattle.waitgraph.specs.inner.Least.{after_rounds, IsWithin, IsRising, MakesBelow}
use Rattle.waitgraph.proofs.LeastLemmas.{rounds_give_the_least_set}
use Rattle.waitgraph.proofs.StuckLemmas.{ends_without_needs}

all_more : {A : Type 0} (p q : A → Bool) → ((x : A) → p x ≡ true → q x ≡ true) → (xs : List A) → list_all p xs ≡ true → list_all q xs ≡ true
all_more p q more [] h = refl
all_more p q more (x ∷ xs) h =
    let both = and_parts (p x) (list_all p xs) h in
    and_from (q x) (list_all q xs) (more x both.0) (all_more p q more xs both.1)

one_more : {A : Type 0} (p q : A → Bool) → ((x : A) → p x ≡ true → q x ≡ true) → (xs : List A) → list_any p xs ≡ true → list_any q xs ≡ true
one_more p q more [] h = absurd (false≢true h)
one_more p q more (x ∷ xs) h =
    ⊎_elim
    (λ (is : p x ≡ true). or_left (q x) (list_any q xs) (more x is))
    (λ (no : p x ≡ false).
    let rest : list_any p xs ≡ true = rw no at h in
    or_right (q x) (list_any q xs) (one_more p q more xs rest))
    (cases_Bool (p x))

pass_more : {A : Type 0} (is_all : Bool) (p q : A → Bool) → ((x : A) → p x ≡ true → q x ≡ true) → (xs : List A) → pass_all_or_one is_all p xs ≡ true → pass_all_or_one is_all q xs ≡ true
pass_more true p q more xs h = all_more p q more xs h
pass_more false p q more xs h = one_more p q more xs h

-- a wait is over too by a test that passes no less
pub over_more : (p q : Need → Bool) → ((need : Need) → p need ≡ true → q need ≡ true) → (waited : Waited) → is_over p waited ≡ true → is_over q waited ≡ true
over_more p q more waited h =
    pass_more waited.is_all (λ part. pass_all_or_one part.is_all p part.needs) (λ part. pass_all_or_one part.is_all q part.needs)
    (λ part. pass_more part.is_all p q more part.needs) waited.parts h

-- what may come though a larger set stays
pub come_less : (recording : Lists) (stands : State) (set larger : Set) → IsWithin set larger → (need : Need) → may_come recording stands larger need ≡ true → may_come recording stands set need ≡ true
come_less recording stands set larger within need h =
    ⊎_elim
    (λ (met : is_met stands need ≡ true). or_left (is_met stands need) (not (is_blocked recording set need)) met)
    (λ (unmet : is_met stands need ≡ false).
    let free : not (is_blocked recording larger need) ≡ true = rw unmet at h in
    let apart = or_parts (larger (rank_needed need)) (is_missing recording need) (not-true (is_blocked recording larger need) free) in
    let outside : set (rank_needed need) ≡ false =
    false_from_ne_true (set (rank_needed need)) (λ is. false≢true (sym apart.0 ∙ within (rank_needed need) is)) in
    let free_too : is_blocked recording set need ≡ false = rw (outside, apart.1) refl in
    or_right (is_met stands need) (not (is_blocked recording set need)) (not_from_false (is_blocked recording set need) free_too))
    (cases_Bool (is_met stands need))

pub move_less : (reading : Reading) (groups : Groups) (recording : Lists) (known : Known) (set larger : Set) → IsWithin set larger → (rank : ℕ) → may_move reading groups recording known larger rank ≡ true → may_move reading groups recording known set rank ≡ true
move_less reading groups recording known set larger within rank h =
    over_more (may_come recording (stands_of reading groups recording) larger) (may_come recording (stands_of reading groups recording) set)
    (come_less recording (stands_of reading groups recording) set larger within) (waited_of reading groups recording known rank) h

pub fewer_others : (ranks : ℕ) (a b : Set) → IsWithin a b → IsWithin (others_of ranks b) (others_of ranks a)
fewer_others ranks a b within rank h =
    let both = and_parts (nat_lt rank ranks) (not (b rank)) h in
    let outside : a rank ≡ false = false_from_ne_true (a rank) (λ is. false≢true (sym (not-true (b rank) both.1) ∙ within rank is)) in
    and_from (nat_lt rank ranks) (not (a rank)) both.0 (not_from_false (a rank) outside)

pub frees_more : (reading : Reading) (groups : Groups) (recording : Lists) (known : Known) → IsRising (frees reading groups recording known)
frees_more reading groups recording known a b within rank h =
    let both = and_parts (nat_lt rank (length recording)) (may_move reading groups recording known (others_of (length recording) a) rank) h in
    and_from (nat_lt rank (length recording)) (may_move reading groups recording known (others_of (length recording) b) rank) both.0
    (move_less reading groups recording known (others_of (length recording) b) (others_of (length recording) a) (fewer_others (length recording) a b within) rank both.1)

pub frees_ranks : (reading : Reading) (groups : Groups) (recording : Lists) (known : Known) → MakesBelow (length recording) (frees reading groups recording known)
frees_ranks reading groups recording known set rank h =
    ltb-true rank (length recording) (and_parts (nat_lt rank (length recording)) (may_move reading groups recording known (others_of (length recording) set) rank) h).0

-- the ranks that the search finds are a deadlocked set
pub found_deadlocked : (reading : Reading) (groups : Groups) (recording : Lists) (known : Known) → IsDeadlockedBy reading groups recording known (is_held_by reading groups recording known)
found_deadlocked reading groups recording known rank held =
    let both = and_parts (nat_lt rank (length recording)) (not (are_free reading groups recording known rank)) held in
    false_from_ne_true (may_move reading groups recording known (is_held_by reading groups recording known) rank)
    (λ moves.
    let free = (rounds_give_the_least_set (frees reading groups recording known) (length recording) (frees_more reading groups recording known) (frees_ranks reading groups recording known)).0 rank
    (and_from (nat_lt rank (length recording)) (may_move reading groups recording known (is_held_by reading groups recording known) rank) both.0 moves) in
    false≢true (sym (not-true (are_free reading groups recording known rank) both.1) ∙ free))

-- a rank that has no call where it stands waits for nothing
none_waited : (reading : Reading) (groups : Groups) (recording : Lists) (known : Known) (set : Set) (rank : ℕ) → slice_get (calls_of recording rank) (slice_index (stands_of reading groups recording) rank) ≡ None → may_move reading groups recording known set rank ≡ true
none_waited reading groups recording known set rank none = rw none refl

-- so a rank of a deadlocked set is one of the recording
deadlocked_within : (reading : Reading) (groups : Groups) (recording : Lists) (known : Known) (set : Set) (rank : ℕ) → may_move reading groups recording known set rank ≡ false → rank < length recording
deadlocked_within reading groups recording known set rank stays =
    by_present (slice_get (calls_of recording rank) (slice_index (stands_of reading groups recording) rank)) refl
  where
    by_present : (o : Option Call) → slice_get (calls_of recording rank) (slice_index (stands_of reading groups recording) rank) ≡ o → rank < length recording
    by_present None none = absurd (false≢true (sym stays ∙ none_waited reading groups recording known set rank none))
    by_present (Some call) is = calls_past recording rank (slice_index (stands_of reading groups recording) rank) (slice_get_within (calls_of recording rank) (slice_index (stands_of reading groups recording) rank) call is)

-- and none of its ranks is free, after any rounds
not_free : (reading : Reading) (groups : Groups) (recording : Lists) (known : Known) (set : Set) → IsDeadlockedBy reading groups recording known set → (rounds rank : ℕ) → set rank ≡ true → after_rounds (frees reading groups recording known) rounds rank ≡ false
not_free reading groups recording known set dead zero rank member = refl
not_free reading groups recording known set dead (suc rounds) rank member =
    false_from_ne_true (frees reading groups recording known (after_rounds (frees reading groups recording known) rounds) rank)
    (λ free.
    let moves = (and_parts (nat_lt rank (length recording)) (may_move reading groups recording known (others_of (length recording) (after_rounds (frees reading groups recording known) rounds)) rank) free).1 in
    let within : IsWithin set (others_of (length recording) (after_rounds (frees reading groups recording known) rounds)) =
    λ k is. and_from (nat_lt k (length recording)) (not (after_rounds (frees reading groups recording known) rounds k))
    (lt-ltb k (length recording) (deadlocked_within reading groups recording known set k (dead k is)))
    (not_from_false (after_rounds (frees reading groups recording known) rounds k) (not_free reading groups recording known set dead rounds k is)) in
    false≢true (sym (dead rank member) ∙ move_less reading groups recording known set (others_of (length recording) (after_rounds (frees reading groups recording known) rounds)) within rank moves))

-- as each held rank is
pub held_within : (reading : Reading) (groups : Groups) (recording : Lists) (known : Known) (rank : ℕ) → IsHeldBy reading groups recording known rank → rank < length recording
held_within reading groups recording known rank held = deadlocked_within reading groups recording known held.0 rank (held.1 rank held.2)

pub found_greatest : (reading : Reading) (groups : Groups) (recording : Lists) (known : Known) (set : Set) → IsDeadlockedBy reading groups recording known set → (rank : ℕ) → set rank ≡ true → is_held_by reading groups recording known rank ≡ true
found_greatest reading groups recording known set dead rank member =
    and_from (nat_lt rank (length recording)) (not (are_free reading groups recording known rank))
    (lt-ltb rank (length recording) (deadlocked_within reading groups recording known set rank (dead rank member)))
    (not_from_false (are_free reading groups recording known rank) (not_free reading groups recording known set dead (length recording) rank member))

pub held_found_by : (reading : Reading) (groups : Groups) (recording : Lists) (known : Known) → AreHeldBy reading groups recording known (is_held_by reading groups recording known)
held_found_by reading groups recording known rank = (
  λ held. (is_held_by reading groups recording known, found_deadlocked reading groups recording known, held),
  λ h. found_greatest reading groups recording known h.0 h.1 rank h.2,
)

pub the_held_by_pending_are_the_greatest : TheHeldByPendingAreTheGreatest
the_held_by_pending_are_the_greatest reading groups recording known = record {
  held = is_held_by reading groups recording known;
  are_held = held_found_by reading groups recording known;
  is_deadlocked = found_deadlocked reading groups recording known;
  is_greatest = found_greatest reading groups recording known;
}

-- Without pending calls and sinks.

all_or_none : (met blocked : Need → Bool) (needs : List Need) → list_all (λ need. met need || not (blocked need)) needs ≡ not (list_any (λ need. not (met need) && blocked need) needs)
all_or_none met blocked [] = refl
all_or_none met blocked (need ∷ needs) =
    let rest = all_or_none met blocked needs in
    ⊎_elim
    (λ (is : met need ≡ true). rw is rest)
    (λ (no : met need ≡ false).
    ⊎_elim
    (λ (stays : blocked need ≡ true). rw (no, stays) refl)
    (λ (comes : blocked need ≡ false). rw (no, comes) rest)
    (cases_Bool (blocked need)))
    (cases_Bool (met need))

one_part : (b : Bool) → (b && true) ≡ b
one_part true = refl
one_part false = refl

pub opens_end : (call : Call) → leaves_open call ≡ true → ends_list call ≡ true
opens_end Open h = refl
opens_end _ h = absurd (false≢true h)

moves_if_none_waits : (reading : Reading) (groups : Groups) (recording : Lists) (set : Set) (rank : ℕ) → may_move reading groups recording none_known set rank ≡ not (waits_for reading groups recording set rank)
moves_if_none_waits reading groups recording set rank =
    by_present (slice_get (calls_of recording rank) (slice_index (stands_of reading groups recording) rank)) refl
  where
    s : State
    s = stands_of reading groups recording

    by_present : (o : Option Call) → slice_get (calls_of recording rank) (slice_index (stands_of reading groups recording) rank) ≡ o → may_move reading groups recording none_known set rank ≡ not (waits_for reading groups recording set rank)
    by_present None is = rw is refl
    by_present (Some call) is =
        ⊎_elim
        (λ (opens : leaves_open call ≡ true).
        let none = ends_without_needs reading groups recording rank (slice_index (stands_of reading groups recording) rank) call is (opens_end call opens) in
        let left : may_move reading groups recording none_known set rank ≡ true = rw (is, opens) refl in
        left ∙ sym (ap (λ (needs : List Need). not (list_any (λ need. not (is_met (stands_of reading groups recording) need) && is_blocked recording set need) needs)) none))
        (λ (goes : leaves_open call ≡ false).
        let left : may_move reading groups recording none_known set rank ≡ (list_all (may_come recording (stands_of reading groups recording) set) (needs_of reading groups recording rank (slice_index (stands_of reading groups recording) rank)) && true) =
        rw (is, goes) refl in
        left ∙ one_part _ ∙ all_or_none (is_met (stands_of reading groups recording)) (is_blocked recording set) (needs_of reading groups recording rank (slice_index (stands_of reading groups recording) rank)))
        (cases_Bool (leaves_open call))

pub without_pending_the_held_are_the_same : WithoutPendingTheHeldAreTheSame
without_pending_the_held_are_the_same reading groups recording rank = (
  λ h. (h.0, λ k is. not_false (waits_for reading groups recording h.0 k) (sym (moves_if_none_waits reading groups recording h.0 k) ∙ h.1 k is), h.2),
  λ h. (h.0, λ k is. moves_if_none_waits reading groups recording h.0 k ∙ not_from_true (waits_for reading groups recording h.0 k) (h.1 k is), h.2),
)
  where
    not_false : (b : Bool) → not b ≡ false → b ≡ true
    not_false true h = refl
    not_false false h = sym h
