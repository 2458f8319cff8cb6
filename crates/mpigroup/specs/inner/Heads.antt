-- What proofs and private contracts cite, in addition to the definitions of `specs/Heads.antt`.
use Rattle.std.specs.Prelude.{ℕ, ◌≤◌, ◌<◌, IsTrue, length}
use Rattle.std.specs.List.{list_all}
use Rattle.mpigroup.specs.declared.limits.TheConstants.{MOST_RANKS, MOST_COMMS}
use Rattle.mpigroup.specs.Groups.{Groups}
use Rattle.mpigroup.specs.HeadText.{is_group}

-- so many ranks, and so many groups besides the world's, each with ranks of the run, none twice
pub record AreSound (ranks : ℕ) (further : Groups) : Type 0 where
  pub least : 1 ≤ ranks
  pub most : ranks ≤ MOST_RANKS
  pub few : length further < MOST_COMMS
  pub groups : IsTrue (list_all (is_group ranks) further)
