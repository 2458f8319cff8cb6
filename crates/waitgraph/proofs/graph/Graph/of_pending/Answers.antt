use Rattle.moves.specs.declared.reading.Reading.{Reading}
use Rattle.std.proofs.Common.{List, map, subst}
use Rattle.mpigroup.specs.Groups.{Groups}
use Rattle.callstore.specs.Recordings.{Lists}
use Rattle.waitgraph.specs.Pending.{Known, view_of}
use Rattle.waitgraph.specs.declared.pending.Sink.{Sink}
use Rattle.waitgraph.specs.PendingGraphs.{IsGraphWith}
use Rattle.waitgraph.proofs.FreeLemmas.{list_stays_by}
use Rattle.waitgraph.proofs.graph.Graph.of_pending.Goals as goal

pub returns-clause-graph : goal.returns-clause-graph
returns-clause-graph c =
    let known : Known = record { pending = map view_of c.args.pending.now; sinks = c.args.sinks.now } in
    subst (λ (reading : Reading). IsGraphWith reading c.args.analyser.now.groups c.args.analyser.now.recording known c.in_ok-graph.graph) c.world-world.ensures.reading
    (subst (λ (groups : Groups). IsGraphWith c.world-world.result.now.reading groups c.args.analyser.now.recording known c.in_ok-graph.graph) c.world-world.ensures.groups
    (subst (λ (recording : Lists). IsGraphWith c.world-world.result.now.reading c.world-world.result.now.pairs.groups recording known c.in_ok-graph.graph) c.world-world.ensures.recording
    (subst (λ (sinks : List Sink). IsGraphWith c.world-world.result.now.reading c.world-world.result.now.pairs.groups c.world-world.result.now.pairs.recording (record { pending = map view_of c.args.pending.now; sinks = sinks }) c.in_ok-graph.graph) c.in_ok-table.ensures c.in_ok-graph.ensures)))

pub returns-clause-stays : goal.returns-clause-stays
returns-clause-stays c fits =
    let known : Known = record { pending = map view_of c.args.pending.now; sinks = c.args.sinks.now } in
    list_stays_by c.args.analyser.now.reading c.args.analyser.now.groups c.args.analyser.now.recording known c.in_ok-graph.graph.held (returns-clause-graph c).held fits
