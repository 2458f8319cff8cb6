-- The search's sweeps over what it sees.
use Rattle.std.proofs.Common.{◌≡◌, ℕ, ◌<◌, Bool, not, ◌&&◌, List, [], ◌∷◌, length, refl, sym, ap, ◌∙◌}
use Rattle.std.specs.Prelude.{slice_index, nat_lt}
use Rattle.std.specs.List.{slice_get, filter, range_with_len}
use Rattle.std.proofs.lemmas.Bool.{lt-ltb}
use Rattle.moves.specs.declared.reading.Reading.{Reading}
use Rattle.mpigroup.specs.Groups.{Groups}
use Rattle.callstore.specs.Recordings.{Lists}
use Rattle.moves.specs.Runs.{State}
use Rattle.waitgraph.specs.Pending.{Known, waited_at, is_over}
use Rattle.waitgraph.specs.PendingHeld.{may_come, may_move, ListsHeldBy}
use Rattle.waitgraph.specs.PendingStays.{FitsSinks, StayPutBy}
use Rattle.waitgraph.specs.inner.Least.{IsWithin, IsClosedUnder, IsRising, MakesBelow}
use Rattle.waitgraph.specs.inner.Loose.{set_of}
use Rattle.waitgraph.specs.inner.PendingLoose.{others_of, is_held_by, held_by_pending}
use Rattle.waitgraph.specs.inner.Scenes.{IsScene, staying, comes, known_in, frees_in, free_in, held_in}
use Rattle.waitgraph.specs.declared.may_move.Scene.{Scene}
use Rattle.waitgraph.proofs.AmongLemmas.{Among, in_among, kept_among}
use Rattle.waitgraph.proofs.LeastLemmas.{rounds_give_the_least_set}
use Rattle.waitgraph.proofs.PendingLemmas.{frees_more, frees_ranks, held_found_by}
use Rattle.waitgraph.proofs.PendingStaysLemmas.{held_ranks_stay_by}
use Rattle.waitgraph.proofs.SweepLemmas.{same_bool}

-- what the code finds of a rank is the rule
pub moves_is : (scene : Scene) (marks : List Bool) (rank : ℕ) → IsScene scene → rank < length scene.world.now.pairs.recording → length marks ≡ length scene.world.now.pairs.recording → is_over (comes scene marks) (waited_at scene.world.now.reading scene.world.now.pairs.groups scene.world.now.pairs.recording (known_in scene) rank (slice_index scene.stands.now rank)) ≡ frees_in scene (set_of marks) rank
moves_is scene marks rank is within len =
    let reading = scene.world.now.reading in
    let groups = scene.world.now.pairs.groups in
    let recording = scene.world.now.pairs.recording in
    let known = known_in scene in
    ap (λ (n : ℕ). is_over (may_come scene.world.now.pairs.recording scene.stands.now (others_of n (set_of marks))) (waited_at scene.world.now.reading scene.world.now.pairs.groups scene.world.now.pairs.recording (known_in scene) rank (slice_index scene.stands.now rank))) len
    ∙ ap (λ (s : State). is_over (may_come scene.world.now.pairs.recording s (others_of (length scene.world.now.pairs.recording) (set_of marks))) (waited_at scene.world.now.reading scene.world.now.pairs.groups scene.world.now.pairs.recording (known_in scene) rank (slice_index s rank))) is.stands
    ∙ sym (ap (λ (b : Bool). b && may_move scene.world.now.reading scene.world.now.pairs.groups scene.world.now.pairs.recording (known_in scene) (others_of (length scene.world.now.pairs.recording) (set_of marks)) rank) (lt-ltb rank (length scene.world.now.pairs.recording) within))

pub rising : (scene : Scene) → IsRising (frees_in scene)
rising scene = frees_more scene.world.now.reading scene.world.now.pairs.groups scene.world.now.pairs.recording (known_in scene)

pub below : (scene : Scene) → MakesBelow (length scene.world.now.pairs.recording) (frees_in scene)
below scene = frees_ranks scene.world.now.reading scene.world.now.pairs.groups scene.world.now.pairs.recording (known_in scene)

pub free_closed : (scene : Scene) → IsClosedUnder (frees_in scene) (free_in scene)
free_closed scene = (rounds_give_the_least_set (frees_in scene) (length scene.world.now.pairs.recording) (rising scene) (below scene)).0

pub marks_are_free : (scene : Scene) (marks : List Bool) → IsWithin (set_of marks) (free_in scene) → IsClosedUnder (frees_in scene) (set_of marks) → (rank : ℕ) → set_of marks rank ≡ free_in scene rank
marks_are_free scene marks within closed rank =
    same_bool (set_of marks rank) (free_in scene rank) (within rank)
    ((rounds_give_the_least_set (frees_in scene) (length scene.world.now.pairs.recording) (rising scene) (below scene)).1 (set_of marks) closed rank)

pub filter_same : (f g : ℕ → Bool) → ((rank : ℕ) → f rank ≡ g rank) → (ranks : List ℕ) → filter f ranks ≡ filter g ranks
filter_same f g same [] = refl
filter_same f g same (rank ∷ ranks) = rw (same rank, filter_same f g same ranks) refl

-- the ranks without a mark are held
pub unmarked_are : (scene : Scene) (marks : List Bool) → length marks ≡ length scene.world.now.pairs.recording → ((rank : ℕ) → set_of marks rank ≡ free_in scene rank) → filter (staying marks) (range_with_len 0 (length scene.world.now.pairs.recording)) ≡ held_in scene
unmarked_are scene marks len are =
    filter_same (staying marks) (others_of (length scene.world.now.pairs.recording) (free_in scene))
    (λ rank.
    ap (λ (n : ℕ). nat_lt rank n && not (set_of marks rank)) len
    ∙ ap (λ (b : Bool). nat_lt rank (length scene.world.now.pairs.recording) && not b) (are rank))
    (range_with_len 0 (length scene.world.now.pairs.recording))

-- and listed so
pub lists_held : (reading : Reading) (groups : Groups) (recording : Lists) (known : Known) → ListsHeldBy reading groups recording known (held_by_pending reading groups recording known)
lists_held reading groups recording known = (is_held_by reading groups recording known, held_found_by reading groups recording known, refl)

-- and each stays
pub list_stays_by : (reading : Reading) (groups : Groups) (recording : Lists) (known : Known) (ranks : List ℕ) → ListsHeldBy reading groups recording known ranks → FitsSinks recording known.sinks → StayPutBy reading groups recording known ranks
list_stays_by reading groups recording known ranks lists fits index rank there =
    let among : Among rank (filter lists.0 (range_with_len 0 (length recording))) =
    in_among rank (filter lists.0 (range_with_len 0 (length recording))) (index, sym (ap (λ (rs : List ℕ). slice_get rs index) lists.2) ∙ there) in
    held_ranks_stay_by reading groups recording known rank fits ((lists.1 rank).0 (kept_among rank lists.0 (range_with_len 0 (length recording)) among).1)
