-- The search for ranks that are held among some.
use Rattle.std.proofs.Common.{◌≡◌, ℕ, zero, suc, ◌<◌, Bool, true, false, not, ◌&&◌, ◌||◌, Option, Some, None, List, length, refl, sym, ap, ◌∙◌, ⊎_elim}
use Rattle.std.specs.Prelude.{slice_index, nat_lt}
use Rattle.std.specs.List.{slice_get, filter, range_with_len}
use Rattle.std.proofs.lemmas.Bool.{cases_Bool, false≢true, and_parts, and_from, or_left, or_right, or_parts, not-true, not_from_false, not_from_true, ltb-true, lt-ltb, false_from_ne_true}
use Rattle.std.proofs.lemmas.Option.{slice_get_within}
use Rattle.mpicall.specs.declared.call.Call.{Call}
use Rattle.callstore.specs.Recordings.{calls_of}
use Rattle.pairing.proofs.RankLemmas.{calls_past}
use Rattle.waitgraph.specs.Disagreements.{is_barred}
use Rattle.waitgraph.specs.Held.{Set}
use Rattle.waitgraph.specs.HeldAmong.{AreAgreedStands, IsAmong, IsDeadlockedAmong, ListsHeldAmong, asked_in}
use Rattle.waitgraph.specs.Pending.{Waited, waited_at, is_over}
use Rattle.waitgraph.specs.PendingHeld.{may_come}
use Rattle.waitgraph.specs.declared.may_move.Scene.{Scene}
use Rattle.waitgraph.specs.inner.Among.{stays_in, frees_among, free_among}
use Rattle.waitgraph.specs.inner.Least.{after_rounds, IsWithin, IsClosedUnder, IsRising, MakesBelow}
use Rattle.waitgraph.specs.inner.Loose.{set_of}
use Rattle.waitgraph.specs.inner.PendingLoose.{others_of}
use Rattle.waitgraph.specs.inner.Scenes.{staying, comes, known_in}
use Rattle.waitgraph.proofs.FreeLemmas.{filter_same}
use Rattle.waitgraph.proofs.LeastLemmas.{rounds_give_the_least_set}
use Rattle.waitgraph.proofs.PendingLemmas.{over_more, come_less, fewer_others}
use Rattle.waitgraph.proofs.SweepLemmas.{same_bool}

-- the rank waits where the scene has it for a wave that disagrees
abbrev barred : Scene → ℕ → Bool
barred scene rank = is_barred scene.world.now.pairs.groups scene.world.now.pairs.recording rank (slice_index scene.stands.now rank)

-- what it waits for comes though the set stays
abbrev waited : Scene → ℕ → Waited
waited scene rank = waited_at scene.world.now.reading scene.world.now.pairs.groups scene.world.now.pairs.recording (known_in scene) rank (slice_index scene.stands.now rank)

abbrev moves : Scene → Set → ℕ → Bool
moves scene set rank = is_over (may_come scene.world.now.pairs.recording scene.stands.now set) (waited scene rank)

-- who may move is the same by the marks
moves_same : (scene : Scene) (marks : List Bool) (rank : ℕ) → length marks ≡ length scene.world.now.pairs.recording → is_over (comes scene marks) (waited scene rank) ≡ moves scene (others_of (length scene.world.now.pairs.recording) (set_of marks)) rank
moves_same scene marks rank len = ap (λ (n : ℕ). moves scene (others_of n (set_of marks)) rank) len

both_not : (b m : Bool) → (not b && m) ≡ not (b || not m)
both_not true m = refl
both_not false true = refl
both_not false false = refl

-- what the code finds of a rank is the rule
pub free_if_asked : (scene : Scene) (asked marks : List Bool) (rank : ℕ) → rank < length scene.world.now.pairs.recording → length marks ≡ length scene.world.now.pairs.recording → asked_in asked rank ≡ true → (not (barred scene rank) && is_over (comes scene marks) (waited scene rank)) ≡ frees_among scene asked (set_of marks) rank
free_if_asked scene asked marks rank within len is =
    let n = length scene.world.now.pairs.recording in
    rw (lt-ltb rank n within, is)
    (ap (λ (m : Bool). not (barred scene rank) && m) (moves_same scene marks rank len)
    ∙ both_not (barred scene rank) (moves scene (others_of n (set_of marks)) rank))

pub free_unasked : (scene : Scene) (asked marks : List Bool) (rank : ℕ) → rank < length scene.world.now.pairs.recording → asked_in asked rank ≡ false → true ≡ frees_among scene asked (set_of marks) rank
free_unasked scene asked marks rank within isnt = rw (lt-ltb rank (length scene.world.now.pairs.recording) within, isnt) refl

-- a rank that stays while a set does stays while more do
stays_more : (scene : Scene) (set larger : Set) (rank : ℕ) → IsWithin set larger → stays_in scene set rank ≡ true → stays_in scene larger rank ≡ true
stays_more scene set larger rank within stays =
    ⊎_elim
    (λ (is : barred scene rank ≡ true). or_left (barred scene rank) (not (moves scene larger rank)) is)
    (λ (isnt : barred scene rank ≡ false).
    let stuck : not (moves scene set rank) ≡ true = rw isnt at stays in
    or_right (barred scene rank) (not (moves scene larger rank))
    (not_from_false (moves scene larger rank)
    (false_from_ne_true (moves scene larger rank)
    (λ moving.
    false≢true
    (sym (not-true (moves scene set rank) stuck)
    ∙ over_more (may_come scene.world.now.pairs.recording scene.stands.now larger) (may_come scene.world.now.pairs.recording scene.stands.now set)
    (come_less scene.world.now.pairs.recording scene.stands.now set larger within) (waited scene rank) moving)))))
    (cases_Bool (barred scene rank))

-- a rule's parts
frees_parts : (scene : Scene) (asked : List Bool) (set : Set) (rank : ℕ) → asked_in asked rank ≡ true → frees_among scene asked set rank ≡ true → stays_in scene (others_of (length scene.world.now.pairs.recording) set) rank ≡ false
frees_parts scene asked set rank is frees =
    let n = length scene.world.now.pairs.recording in
    let either = (and_parts (nat_lt rank n) (not (asked_in asked rank) || not (stays_in scene (others_of n set) rank)) frees).1 in
    let not_stays : not (stays_in scene (others_of n set) rank) ≡ true = rw is at either in
    not-true (stays_in scene (others_of n set) rank) not_stays

pub rising : (scene : Scene) (asked : List Bool) → IsRising (frees_among scene asked)
rising scene asked a b within rank frees =
    let n = length scene.world.now.pairs.recording in
    let both = and_parts (nat_lt rank n) (not (asked_in asked rank) || not (stays_in scene (others_of n a) rank)) frees in
    and_from (nat_lt rank n) (not (asked_in asked rank) || not (stays_in scene (others_of n b) rank)) both.0
    (⊎_elim
    (λ (is : asked_in asked rank ≡ true).
    or_right (not (asked_in asked rank)) (not (stays_in scene (others_of n b) rank))
    (not_from_false (stays_in scene (others_of n b) rank)
    (false_from_ne_true (stays_in scene (others_of n b) rank)
    (λ stays.
    false≢true
    (sym (frees_parts scene asked a rank is frees)
    ∙ stays_more scene (others_of n b) (others_of n a) rank (fewer_others n a b within) stays)))))
    (λ (isnt : asked_in asked rank ≡ false). or_left (not (asked_in asked rank)) (not (stays_in scene (others_of n b) rank)) (not_from_false (asked_in asked rank) isnt))
    (cases_Bool (asked_in asked rank)))

pub below : (scene : Scene) (asked : List Bool) → MakesBelow (length scene.world.now.pairs.recording) (frees_among scene asked)
below scene asked set rank frees =
    let n = length scene.world.now.pairs.recording in
    ltb-true rank n (and_parts (nat_lt rank n) (not (asked_in asked rank) || not (stays_in scene (others_of n set) rank)) frees).0

pub free_closed : (scene : Scene) (asked : List Bool) → IsClosedUnder (frees_among scene asked) (free_among scene asked)
free_closed scene asked = (rounds_give_the_least_set (frees_among scene asked) (length scene.world.now.pairs.recording) (rising scene asked) (below scene asked)).0

pub marks_are_free : (scene : Scene) (asked marks : List Bool) → IsWithin (set_of marks) (free_among scene asked) → IsClosedUnder (frees_among scene asked) (set_of marks) → (rank : ℕ) → set_of marks rank ≡ free_among scene asked rank
marks_are_free scene asked marks within closed rank =
    same_bool (set_of marks rank) (free_among scene asked rank) (within rank)
    ((rounds_give_the_least_set (frees_among scene asked) (length scene.world.now.pairs.recording) (rising scene asked) (below scene asked)).1 (set_of marks) closed rank)

-- the ranks that aren't free
abbrev left_in : Scene → List Bool → Set
left_in scene asked = others_of (length scene.world.now.pairs.recording) (free_among scene asked)

-- each of them is asked for, and stays while all of them do
found_deadlocked : (scene : Scene) (asked : List Bool) → IsDeadlockedAmong scene.world.now.reading scene.world.now.pairs.groups scene.world.now.pairs.recording (known_in scene) (asked_in asked) scene.stands.now (left_in scene asked)
found_deadlocked scene asked rank held =
    let n = length scene.world.now.pairs.recording in
    let both = and_parts (nat_lt rank n) (not (free_among scene asked rank)) held in
    let not_freed : frees_among scene asked (free_among scene asked) rank ≡ false =
    false_from_ne_true (frees_among scene asked (free_among scene asked) rank)
    (λ freed. false≢true (sym (not-true (free_among scene asked rank) both.1) ∙ free_closed scene asked rank freed)) in
    let neither : (not (asked_in asked rank) || not (stays_in scene (left_in scene asked) rank)) ≡ false = rw both.0 at not_freed in
    let apart = or_parts (not (asked_in asked rank)) (not (stays_in scene (left_in scene asked) rank)) neither in
    record { is_asked = not_false (asked_in asked rank) apart.0; stays = not_false (stays_in scene (left_in scene asked) rank) apart.1 }
  where
    not_false : (b : Bool) → not b ≡ false → b ≡ true
    not_false true isnt = refl
    not_false false isnt = sym isnt

-- a rank that stays is one of the recording
staying_within : (scene : Scene) (set : Set) (rank : ℕ) → stays_in scene set rank ≡ true → rank < length scene.world.now.pairs.recording
staying_within scene set rank stays = by_present (slice_get (calls_of scene.world.now.pairs.recording rank) (slice_index scene.stands.now rank)) refl
  where
    none_stays : slice_get (calls_of scene.world.now.pairs.recording rank) (slice_index scene.stands.now rank) ≡ None → stays_in scene set rank ≡ false
    none_stays none = rw none refl

    by_present : (o : Option Call) → slice_get (calls_of scene.world.now.pairs.recording rank) (slice_index scene.stands.now rank) ≡ o → rank < length scene.world.now.pairs.recording
    by_present None none = absurd (false≢true (sym (none_stays none) ∙ stays))
    by_present (Some call) is =
        calls_past scene.world.now.pairs.recording rank (slice_index scene.stands.now rank)
        (slice_get_within (calls_of scene.world.now.pairs.recording rank) (slice_index scene.stands.now rank) call is)

-- and none of a deadlocked set is free, after any rounds
not_free : (scene : Scene) (asked : List Bool) (set : Set) → IsDeadlockedAmong scene.world.now.reading scene.world.now.pairs.groups scene.world.now.pairs.recording (known_in scene) (asked_in asked) scene.stands.now set → (rounds rank : ℕ) → set rank ≡ true → after_rounds (frees_among scene asked) rounds rank ≡ false
not_free scene asked set dead zero rank member = refl
not_free scene asked set dead (suc rounds) rank member =
    let n = length scene.world.now.pairs.recording in
    let so_far = after_rounds (frees_among scene asked) rounds in
    false_from_ne_true (frees_among scene asked so_far rank)
    (λ freed.
    let within : IsWithin set (others_of n so_far) =
    λ k is. and_from (nat_lt k n) (not (so_far k))
    (lt-ltb k n (staying_within scene set k (dead k is).stays))
    (not_from_false (so_far k) (not_free scene asked set dead rounds k is)) in
    false≢true
    (sym (frees_parts scene asked so_far rank (dead rank member).is_asked freed)
    ∙ stays_more scene set (others_of n so_far) rank within (dead rank member).stays))

-- the ranks without a mark are those that are held
pub lists_among : (scene : Scene) (asked marks : List Bool) (ranks : List ℕ) → AreAgreedStands scene.world.now.reading scene.world.now.pairs.groups scene.world.now.pairs.recording scene.stands.now → length marks ≡ length scene.world.now.pairs.recording → ((rank : ℕ) → set_of marks rank ≡ free_among scene asked rank) → ranks ≡ filter (staying marks) (range_with_len 0 (length scene.world.now.pairs.recording)) → ListsHeldAmong scene.world.now.reading scene.world.now.pairs.groups scene.world.now.pairs.recording (known_in scene) (asked_in asked) ranks
lists_among scene asked marks ranks end len are is = record {
  stands = scene.stands.now;
  are_stands = end;
  held = left_in scene asked;
  are_held = λ rank. (
    λ held. (left_in scene asked, found_deadlocked scene asked, held),
    λ h.
        and_from (nat_lt rank (length scene.world.now.pairs.recording)) (not (free_among scene asked rank))
        (lt-ltb rank (length scene.world.now.pairs.recording) (staying_within scene h.0 rank (h.1 rank h.2).stays))
        (not_from_false (free_among scene asked rank) (not_free scene asked h.0 h.1 (length scene.world.now.pairs.recording) rank h.2)),
  );
  lists = is
      ∙ filter_same (staying marks) (left_in scene asked)
      (λ rank.
      ap (λ (n : ℕ). nat_lt rank n && not (set_of marks rank)) len
      ∙ ap (λ (b : Bool). nat_lt rank (length scene.world.now.pairs.recording) && not b) (are rank))
      (range_with_len 0 (length scene.world.now.pairs.recording));
}
