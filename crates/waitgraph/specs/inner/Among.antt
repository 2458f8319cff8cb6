-- What the search for ranks that are held among some sees, and whom it marks: those that aren't asked for, and those
-- that may move on while the ones without a mark stay.
use Rattle.std.specs.Prelude.{ℕ, Bool, not, ◌&&◌, ◌||◌, nat_lt, List, length}
use Rattle.waitgraph.specs.Held.{Set}
use Rattle.waitgraph.specs.HeldAmong.{asked_in, stays_among}
use Rattle.waitgraph.specs.declared.may_move.Scene.{Scene}
use Rattle.waitgraph.specs.inner.Least.{SetRule, after_rounds}
use Rattle.waitgraph.specs.inner.PendingLoose.{others_of}
use Rattle.waitgraph.specs.inner.Scenes.{known_in}

-- the rank stays where the scene has it, while those of the set do
abbrev pub stays_in : Scene → Set → ℕ → Bool
stays_in scene = stays_among scene.world.now.reading scene.world.now.pairs.groups scene.world.now.pairs.recording (known_in scene) scene.stands.now

-- who is marked
abbrev pub frees_among : Scene → List Bool → SetRule
frees_among scene asked set rank =
    nat_lt rank (length scene.world.now.pairs.recording)
    && (not (asked_in asked rank) || not (stays_in scene (others_of (length scene.world.now.pairs.recording) set) rank))

-- the least set that is marked so
abbrev pub free_among : Scene → List Bool → Set
free_among scene asked = after_rounds (frees_among scene asked) (length scene.world.now.pairs.recording)
