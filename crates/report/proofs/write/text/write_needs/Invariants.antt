-- The texts of the elements so far are printed.
use Rattle.std.proofs.Common.{flat_map, take}
use Rattle.report.specs.TextReport.{unmet_line}
use Rattle.report.specs.inner.Printing.{Prints}
use Rattle.report.proofs.write.text.write_needs.Given as goal

abbrev pub invariant-loop-need : goal.invariant-loop-need
invariant-loop-need g l = Prints g.O.Output.written g.O.Output.failures l.fn.out l.fn.printer l.out l.printer (flat_map (unmet_line l.analyser.reading l.analyser.groups l.analyser.recording l.rank) (take l.need-index l.needs))
