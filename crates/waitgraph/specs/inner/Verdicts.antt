-- The verdict as the search finds it.
use Rattle.moves.specs.declared.reading.Reading.{Reading}
use Rattle.mpigroup.specs.Groups.{Groups}
use Rattle.callstore.specs.Recordings.{Lists}
use Rattle.waitgraph.specs.Held.{is_some_left_open}
use Rattle.waitgraph.specs.Verdicts.{verdict_by}
use Rattle.waitgraph.specs.inner.Held.{held_of}
use Rattle.waitgraph.specs.declared.verdict.Verdict.{Verdict}

-- the verdict by the held ranks
abbrev pub verdict_of : Reading → Groups → Lists → Verdict
verdict_of reading groups recording = verdict_by (held_of reading groups recording) (is_some_left_open recording)
