-- Arrivals: records of many ranks as they are read, in any mix. Those are kept that have no fault. How
-- records are read is this project's own; MPI says nothing of it.
use Rattle.mpicall.specs.Names.{Rank}
use Rattle.moves.specs.declared.reading.Reading.{Reading}
use Rattle.std.specs.Prelude.{◌≡◌, ℕ, ◌==◌, is_none, List, [], ◌∷◌, ◌++◌, replicate, if◌then◌else◌}
use Rattle.mpicall.specs.declared.call.Call.{Call}
use Rattle.mpigroup.specs.Groups.{Groups, ranks_of}
use Rattle.callstore.specs.Recordings.{Lists, calls_of, appended}
use Rattle.pairing.specs.Faults.{fault_of, IsLawful}
use Rattle.moves.specs.Stands.{stands_of}

-- a call and the rank that made it
abbrev pub Arrival : Type 0
Arrival = ℕ × Call

-- the recording once the call has arrived: with the call where it has no fault after its rank's calls so far
abbrev pub kept_one : Groups → Lists → Arrival → Lists
kept_one groups recording arrival =
    if is_none (fault_of groups arrival.0 (calls_of recording arrival.0) arrival.1)
    then appended recording arrival.0 arrival.1
    else recording

-- the recording once all have arrived, in their order
abbrev pub kept_from : Groups → Lists → List Arrival → Lists
kept_from groups recording [] = recording
kept_from groups recording (arrival ∷ rest) = kept_from groups (kept_one groups recording arrival) rest

-- the recording of the arrivals that are kept
abbrev pub kept_of : Groups → List Arrival → Lists
kept_of groups arrivals = kept_from groups (replicate (ranks_of groups) []) arrivals

-- the new recording is kept of the arrivals and one more, whatever arrivals the old one is kept of
abbrev pub IsKeptOn : Groups → Lists → Lists → Arrival → Type 0
IsKeptOn groups old new arrival = (arrivals : List Arrival) → old ≡ kept_of groups arrivals → new ≡ kept_of groups (arrivals ++ arrival ∷ [])

-- the calls of one rank among the arrivals, in their order
abbrev pub calls_by : Rank → List Arrival → List Call
calls_by rank [] = []
calls_by rank (arrival ∷ rest) = if arrival.0 == rank then arrival.1 ∷ calls_by rank rest else calls_by rank rest

-- Law: what is kept is lawful.
abbrev pub KeptIsLawful : Type 0
KeptIsLawful = (groups : Groups) (arrivals : List Arrival) → IsLawful groups (kept_of groups arrivals)

-- Law: however the ranks' records are mixed, the same recording is kept. If each rank's calls arrive in the
-- same order in both, the two mixes give one recording.
abbrev pub MixesAreKeptAlike : Type 0
MixesAreKeptAlike =
    (groups : Groups) (a b : List Arrival) → ((rank : Rank) → calls_by rank a ≡ calls_by rank b) →
    kept_of groups a ≡ kept_of groups b

-- Law: however the ranks' records are mixed, the ranks come to stand alike. If each rank's calls arrive in
-- the same order in both, the stands of what is kept of the two mixes are the same.
abbrev pub MixesStandAlike : Type 0
MixesStandAlike =
    (reading : Reading) (groups : Groups) (a b : List Arrival) → ((rank : ℕ) → calls_by rank a ≡ calls_by rank b) →
    stands_of reading groups (kept_of groups a) ≡ stands_of reading groups (kept_of groups b)
