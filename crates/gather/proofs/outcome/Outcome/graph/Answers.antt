-- The graph of an outcome, as the search finds it, is that of the recording.
use Rattle.std.proofs.Common.{subst}
use Rattle.moves.specs.Analysed.{Analysed}
use Rattle.waitgraph.specs.Graphs.{IsGraphOf}
use Rattle.waitgraph.proofs.DeadlockLemmas.{deadlocked_if}
use Rattle.waitgraph.proofs.CauseLemmas.{graph_is}
use Rattle.gather.proofs.outcome.Outcome.graph.Goals as goal

pub returns : goal.returns
returns c =
    let at = c.self.inside.analyser in
    subst (λ (a : Analysed). IsGraphOf a.reading a.groups a.recording c.self.inside.graph) c.self.view_is
    (graph_is at.reading at.groups at.recording c.self.inside.graph
    (deadlocked_if at.reading at.groups at.recording c.self.invariant.0) c.self.invariant.1)
