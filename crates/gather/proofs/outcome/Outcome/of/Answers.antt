-- The records of an outcome are closed, and its wait graph is the one that the search finds.
use Rattle.std.proofs.Common.{rules}
use Rattle.std.proofs.lemmas.Grind.{merely}
use Rattle.waitgraph.specs.Graphs.{IsGraphOf}
use Rattle.waitgraph.proofs.CauseLemmas.{graph_found}
use Rattle.gather.proofs.outcome.Outcome.of.Goals as goal

pub invariant_of-result : goal.invariant_of-result
invariant_of-result c =
    let is : IsGraphOf c.args.analyser.reading c.args.analyser.groups c.args.analyser.recording c.in-Ok.graph = search rules in
    (merely c.requires, graph_found c.args.analyser.reading c.args.analyser.groups c.args.analyser.recording c.in-Ok.graph c.requires is)
