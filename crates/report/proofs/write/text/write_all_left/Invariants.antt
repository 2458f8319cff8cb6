-- The texts of the elements so far are printed.
use Rattle.std.proofs.Common.{flat_map, take}
use Rattle.report.specs.Judged.{left_line}
use Rattle.report.specs.inner.Printing.{Prints}
use Rattle.report.proofs.write.text.write_all_left.Given as goal

abbrev pub invariant-loop-one : goal.invariant-loop-one
invariant-loop-one g l = Prints g.O.Output.written g.O.Output.failures l.fn.out l.fn.printer l.out l.printer (flat_map left_line (take l.one-index l.left))
