-- How far ranks were moved on that never get past a call which waits for a wave that disagrees.
use Rattle.std.specs.Prelude.{◌≡◌, ℕ, ◌<◌, Bool, true, false, length}
use Rattle.moves.specs.Runs.{State, Rule, IsReached, total}
use Rattle.moves.specs.declared.world.World.{World}
use Rattle.waitgraph.specs.Disagreements.{moves_agreed}

-- who can move on so
abbrev pub rule_of : World → Rule
rule_of w = moves_agreed w.reading w.pairs.groups w.pairs.recording

-- moves were made, as is said, or none
pub record Moved (w : World) (old new : State) (more : Bool) : Type 0 where
  pub reached : IsReached (rule_of w) (length w.pairs.recording) new
  pub same : more ≡ false → new ≡ old
  pub some : more ≡ true → total old < total new

-- and the rank can't move on from there
pub record MovedOn (w : World) (rank : ℕ) (old new : State) (more : Bool) : Type 0 where
  pub moved : Moved w old new more
  pub cannot : rule_of w new rank ≡ false

-- and where none was made, none of the first ranks can
pub record SweptOn (w : World) (ranks : ℕ) (old new : State) (more : Bool) : Type 0 where
  pub moved : Moved w old new more
  pub none : more ≡ false → (rank : ℕ) → rank < ranks → rule_of w new rank ≡ false
