-- The waves of a communicator that its first member has a call in.
use Rattle.std.proofs.Common.{ℕ, ◌≤◌, Option, Some, None, length, arith}
use Rattle.std.specs.Option.{option_map_or}
use Rattle.mpigroup.specs.Groups.{Groups, world_rank_of}
use Rattle.callstore.specs.Recordings.{Lists, calls_of}
use Rattle.callstore.specs.Places.{places}
use Rattle.callstore.specs.Waves.{does_join}
use Rattle.callstore.proofs.PlacesLemmas.{places_most}
use Rattle.findings.specs.Findings.{waves_in}

-- no more waves than calls
pub most_waves : (groups : Groups) (recording : Lists) (comm : ℕ) → waves_in groups recording comm ≤ option_map_or (λ rank. length (calls_of recording rank)) (world_rank_of groups comm 0) 0
most_waves groups recording comm = by_rank (world_rank_of groups comm 0)
  where
    by_rank : (rank : Option ℕ) → option_map_or (λ rank. length (places (does_join comm) (calls_of recording rank))) rank 0 ≤ option_map_or (λ rank. length (calls_of recording rank)) rank 0
    by_rank None = omega arith
    by_rank (Some rank) = places_most 0 (does_join comm) (calls_of recording rank)
