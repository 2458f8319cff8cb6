-- What the printing of held ranks at their opens cites.
use Rattle.mpicall.specs.Names.{Rank}
use Rattle.std.specs.Prelude.{◌≡◌, List, codes, slice_index}
use Rattle.serde_json.specs.Data.{Data, object, member, no_members}
use Rattle.moves.specs.Stands.{stands_of}
use Rattle.waitgraph.specs.Pending.{view_of}
use Rattle.waitgraph.specs.declared.awaited.Awaited.{Awaited}
use Rattle.report.specs.JsonReport.{numeral, spaced, each}
use Rattle.report.specs.PendingReport.{pending_fields, awaited_data}
use Rattle.report.specs.declared.write.opened.Opened.{Opened}
use Rattle.waitgraph.specs.Stuck.{stuck_of, unmet_of}
use Rattle.waitgraph.specs.Waits.{needs_in}
use Rattle.report.specs.declared.pending.PendingRun.{PendingRun}

-- the graph has the stuck ranks and the unmet needs of the recording
pub record TellsOf (run : PendingRun) : Type 0 where
  pub stuck : run.graph.now.stuck ≡ stuck_of run.analyser.now.reading run.analyser.now.groups run.analyser.now.recording
  pub unmet : (rank : Rank) → needs_in run.graph.now.waits rank ≡ unmet_of run.analyser.now.reading run.analyser.now.groups run.analyser.now.recording rank

-- a rank at its open with its pending call and what it waits for
abbrev pub opened_data : Opened → List Awaited → Data
opened_data opened awaits =
    object (member (codes "at") (numeral (slice_index (stands_of opened.analyser.now.reading opened.analyser.now.groups opened.analyser.now.recording) opened.rank))
    (member (codes "call") (spaced (pending_fields (view_of opened.call.now)))
    (member (codes "needs") (each awaited_data awaits)
    (member (codes "rank") (numeral opened.rank) no_members))))
