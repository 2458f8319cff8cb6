-- The lines of the ranks so far are printed.
use Rattle.std.proofs.Common.{flat_map, map}
use Rattle.std.specs.List.{range_with_len}
use Rattle.waitgraph.specs.Pending.{view_of}
use Rattle.report.specs.PendingReport.{lines_of_rank}
use Rattle.report.specs.inner.Printing.{Prints}
use Rattle.report.proofs.write.pending.write_ranks.Given as goal

abbrev pub invariant-loop-rank : goal.invariant-loop-rank
invariant-loop-rank g l = Prints g.O.Output.written g.O.Output.failures l.fn.out l.fn.printer l.out l.printer (flat_map (lines_of_rank l.run.analyser.now.reading l.run.analyser.now.groups l.run.analyser.now.recording (map view_of l.run.pending.now) l.run.graph.now.at_open) (range_with_len 0 l.rank))
