-- The verdict over a run where pending calls and sinks are known.
use Rattle.mpicall.specs.Names.{Rank}
use Rattle.moves.specs.declared.reading.Reading.{Reading}
use Rattle.std.specs.Prelude.{◌≡◌, ◌↔◌, ◌<◌, Bool, true, not, ◌&&◌, length}
use Rattle.mpigroup.specs.Groups.{Groups}
use Rattle.callstore.specs.Recordings.{Lists, IsClosed}
use Rattle.moves.specs.Stands.{stands_of, is_at_end}
use Rattle.waitgraph.specs.Graphs.{GraphView}
use Rattle.waitgraph.specs.Pending.{Known}
use Rattle.waitgraph.specs.PendingHeld.{IsHeldBy}
use Rattle.waitgraph.specs.PendingNeeds.{is_at_open}
use Rattle.waitgraph.specs.PendingGraphs.{IsGraphWith}
use Rattle.waitgraph.specs.Verdicts.{verdict_by}
use Rattle.waitgraph.specs.declared.verdict.Verdict.{Verdict}
use Rattle.waitgraph.specs.declared.verdict.Verdict.TheVariants.{Free, Hang}

-- the rank stands at its Finalize
abbrev pub is_at_finalize : Reading → Groups → Lists → Rank → Bool
is_at_finalize reading groups recording rank =
    is_at_end recording (stands_of reading groups recording) rank && not (is_at_open recording (stands_of reading groups recording) rank)

-- the verdict is hang exactly if some rank is held, and free exactly if each stands at its Finalize; else it is unfinished
pub record IsVerdictBy (reading : Reading) (groups : Groups) (recording : Lists) (known : Known) (verdict : Verdict) : Type 0 where
  pub hang : (verdict ≡ Hang) ↔ ((rank : Rank) × IsHeldBy reading groups recording known rank)
  pub free : (verdict ≡ Free) ↔ ((rank : Rank) → rank < length recording → is_at_finalize reading groups recording rank ≡ true)

-- Law: over every closed recording, the graph with what is known has this verdict.
abbrev pub GraphsHaveTheVerdict : Type 0
GraphsHaveTheVerdict =
    (reading : Reading) (groups : Groups) (recording : Lists) (known : Known) (graph : GraphView) → IsClosed recording →
    IsGraphWith reading groups recording known graph →
    IsVerdictBy reading groups recording known (verdict_by graph.held graph.left_open)
