-- The texts of the elements so far are printed.
use Rattle.std.proofs.Common.{flat_map, take}
use Rattle.waitgraph.specs.Causes.{view_of}
use Rattle.report.specs.TextReport.{cause_line}
use Rattle.report.specs.inner.Printing.{Prints}
use Rattle.report.proofs.write.text.write_causes.Given as goal

abbrev pub invariant-loop-cause : goal.invariant-loop-cause
invariant-loop-cause g l = Prints g.O.Output.written g.O.Output.failures l.fn.out l.fn.printer l.out l.printer (flat_map (λ cause. cause_line (view_of cause)) (take l.cause-index l.causes))
