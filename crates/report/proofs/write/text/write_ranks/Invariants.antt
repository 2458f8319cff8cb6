-- The texts of the elements so far are printed.
use Rattle.std.proofs.Common.{flat_map, take}
use Rattle.report.specs.TextReport.{rank_lines}
use Rattle.report.specs.inner.Printing.{Prints}
use Rattle.report.proofs.write.text.write_ranks.Given as goal

abbrev pub invariant-loop-rank : goal.invariant-loop-rank
invariant-loop-rank g l = Prints g.O.Output.written g.O.Output.failures l.fn.out l.fn.printer l.out l.printer (flat_map (rank_lines l.analyser.reading l.analyser.groups l.analyser.recording) (take l.rank-index l.ranks))
