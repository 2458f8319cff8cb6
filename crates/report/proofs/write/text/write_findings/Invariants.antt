-- The texts of the elements so far are printed.
use Rattle.std.proofs.Common.{flat_map, take}
use Rattle.report.specs.TextReport.{finding_line}
use Rattle.report.specs.inner.Printing.{Prints}
use Rattle.report.proofs.write.text.write_findings.Given as goal

abbrev pub invariant-loop-finding : goal.invariant-loop-finding
invariant-loop-finding g l = Prints g.O.Output.written g.O.Output.failures l.fn.out l.fn.printer l.out l.printer (flat_map finding_line (take l.finding-index l.findings))
