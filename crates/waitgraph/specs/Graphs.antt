-- What contracts see of a wait graph.
use Rattle.mpicall.specs.Names.{Rank}
use Rattle.moves.specs.declared.reading.Reading.{Reading}
use Rattle.std.specs.Prelude.{◌≡◌, ℕ, Bool, List}
use Rattle.mpigroup.specs.Groups.{Groups}
use Rattle.callstore.specs.Recordings.{Lists}
use Rattle.waitgraph.specs.Causes.{CauseView, AreCauses}
use Rattle.waitgraph.specs.Held.{ListsHeld, is_some_left_open}
use Rattle.waitgraph.specs.Waits.{Waits, needs_in}
use Rattle.findings.specs.Findings.{findings_of}
use Rattle.waitgraph.specs.Stuck.{stuck_of, unmet_of}
use Rattle.findings.specs.declared.finding.Finding.{Finding}
use Rattle.waitgraph.specs.declared.awaited.Awaited.{Awaited}

-- the stuck ranks, the held ones, whether some list was left open, the unmet needs of each rank, what is awaited at
-- opens, the causes and the findings
pub record GraphView : Type 0 where
  pub stuck : List ℕ
  pub held : List ℕ
  pub left_open : Bool
  pub waits : Waits
  pub at_open : List (List Awaited)
  pub causes : List CauseView
  pub findings : List Finding

-- the graph is that of the recording
pub record IsGraphOf (reading : Reading) (groups : Groups) (recording : Lists) (graph : GraphView) : Type 0 where
  pub stuck : graph.stuck ≡ stuck_of reading groups recording
  pub held : ListsHeld reading groups recording graph.held
  pub left_open : graph.left_open ≡ is_some_left_open recording
  pub unmet : (rank : Rank) → needs_in graph.waits rank ≡ unmet_of reading groups recording rank
  pub causes : AreCauses reading groups recording graph.causes
  pub findings : graph.findings ≡ findings_of groups recording
