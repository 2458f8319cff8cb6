-- What contracts see of a wait graph where pending calls and sinks are known.
use Rattle.mpicall.specs.Names.{Rank, Place}
use Rattle.moves.specs.declared.reading.Reading.{Reading}
use Rattle.std.specs.Prelude.{◌≡◌, Bool, false, not, ◌&&◌, ◌||◌, ◌==◌, is_some, List, length}
use Rattle.std.specs.List.{filter, list_any, range_with_len}
use Rattle.mpigroup.specs.Groups.{Groups}
use Rattle.callstore.specs.Recordings.{Lists, IsClosed}
use Rattle.findings.specs.Findings.{findings_of}
use Rattle.findings.specs.declared.finding.Finding.{Finding}
use Rattle.findings.specs.declared.finding.Finding.TheVariants as finding
use Rattle.waitgraph.specs.Graphs.{GraphView, IsGraphOf}
use Rattle.waitgraph.specs.Held.{Set, is_some_left_open}
use Rattle.waitgraph.specs.Pending.{Known, none_known, sink_for}
use Rattle.waitgraph.specs.PendingHeld.{AreHeldBy, ListsHeldBy}
use Rattle.waitgraph.specs.PendingNeeds.{ListsAwaited}
use Rattle.waitgraph.specs.PendingCauses.{AreCausesBy}
use Rattle.waitgraph.specs.Stuck.{is_stuck, stuck_of, unmet_of}
use Rattle.waitgraph.specs.Waits.{needs_in}
use Rattle.waitgraph.specs.declared.pending.Sink.{Sink}

-- the place is that of a sink
abbrev pub is_sink_at : List Sink → Rank → Place → Bool
is_sink_at sinks rank place = list_any (λ sink. sink.rank == rank && sink.place == place) sinks

-- it isn't known that something is wrong: the request is that of a sink, or a sink may take the message
abbrev pub is_left_out : Groups → Lists → List Sink → Finding → Bool
is_left_out groups recording sinks (finding.Request rank place req) = is_sink_at sinks rank place
is_left_out groups recording sinks (finding.Unreceived rank place) = is_some (sink_for groups recording sinks rank place)
is_left_out groups recording sinks _ = false

-- the other findings
abbrev pub findings_by : Groups → Lists → List Sink → List Finding
findings_by groups recording sinks = filter (λ one. not (is_left_out groups recording sinks one)) (findings_of groups recording)

-- some list was left open, or some rank is stuck that isn't held, so that without held ranks the run is unfinished
abbrev pub IsUnfinished : Reading → Groups → Lists → Known → Bool → Type 0
IsUnfinished reading groups recording known unfinished =
    (held : Set) × AreHeldBy reading groups recording known held
    × (unfinished ≡ (is_some_left_open recording || list_any (λ rank. is_stuck reading groups recording rank && not (held rank)) (range_with_len 0 (length recording))))

-- the graph is that of the recording by what is known of how lists go on
pub record IsGraphWith (reading : Reading) (groups : Groups) (recording : Lists) (known : Known) (graph : GraphView) : Type 0 where
  pub stuck : graph.stuck ≡ stuck_of reading groups recording
  pub held : ListsHeldBy reading groups recording known graph.held
  pub left_open : IsUnfinished reading groups recording known graph.left_open
  pub unmet : (rank : Rank) → needs_in graph.waits rank ≡ unmet_of reading groups recording rank
  pub at_open : ListsAwaited reading groups recording known graph.at_open
  pub causes : AreCausesBy reading groups recording known graph.causes
  pub findings : graph.findings ≡ findings_by groups recording known.sinks

-- Law: over every closed recording, it is the graph without pending calls and sinks where none is known.
abbrev pub WithoutPendingItIsTheGraph : Type 0
WithoutPendingItIsTheGraph =
    (reading : Reading) (groups : Groups) (recording : Lists) (graph : GraphView) → IsClosed recording →
    IsGraphWith reading groups recording none_known graph → IsGraphOf reading groups recording graph
