-- A wait graph as the search finds it.
use Rattle.moves.specs.declared.reading.Reading.{Reading}
use Rattle.std.specs.Prelude.{◌≡◌, ℕ}
use Rattle.mpigroup.specs.Groups.{Groups}
use Rattle.callstore.specs.Recordings.{Lists}
use Rattle.waitgraph.specs.Graphs.{GraphView}
use Rattle.waitgraph.specs.Held.{is_some_left_open}
use Rattle.waitgraph.specs.Waits.{needs_in}
use Rattle.waitgraph.specs.inner.Causes.{causes_of}
use Rattle.waitgraph.specs.inner.Held.{held_of}
use Rattle.findings.specs.Findings.{findings_of}
use Rattle.waitgraph.specs.Stuck.{stuck_of, unmet_of}

-- the graph is the one that the search finds of the recording
pub record IsGraphBy (reading : Reading) (groups : Groups) (recording : Lists) (graph : GraphView) : Type 0 where
  pub stuck : graph.stuck ≡ stuck_of reading groups recording
  pub held : graph.held ≡ held_of reading groups recording
  pub left_open : graph.left_open ≡ is_some_left_open recording
  pub unmet : (rank : ℕ) → needs_in graph.waits rank ≡ unmet_of reading groups recording rank
  pub causes : graph.causes ≡ causes_of reading groups recording
  pub findings : graph.findings ≡ findings_of groups recording
