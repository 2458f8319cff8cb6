use Rattle.report.proofs.pending.write_pending.Goals as goal

pub write_told-requires-clause-graph : goal.write_told-requires-clause-graph
write_told-requires-clause-graph g c = record { stuck = c.requires.graph.1.stuck; unmet = c.requires.graph.1.unmet }
