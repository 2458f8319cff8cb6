-- What proofs and private contracts cite, in addition to the definitions of `specs/Waits.antt`.
use Rattle.moves.specs.declared.reading.Reading.{Reading}
use Rattle.std.specs.Prelude.{length, map}
use Rattle.std.specs.List.{range_with_len}
use Rattle.mpigroup.specs.Groups.{Groups}
use Rattle.callstore.specs.Recordings.{Lists}
use Rattle.moves.specs.Runs.{State}
use Rattle.moves.specs.Stands.{stands_of}
use Rattle.waitgraph.specs.Stuck.{unmet_at}
use Rattle.waitgraph.specs.Waits.{Waits}

-- the unmet needs of each rank in a state
abbrev pub waits_at : Reading → Groups → Lists → State → Waits
waits_at reading groups recording stands = map (unmet_at reading groups recording stands) (range_with_len 0 (length recording))

-- and at the stands
abbrev pub waits_of : Reading → Groups → Lists → Waits
waits_of reading groups recording = waits_at reading groups recording (stands_of reading groups recording)
