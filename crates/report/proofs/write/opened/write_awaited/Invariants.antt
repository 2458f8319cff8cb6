-- The lines so far are printed.
use Rattle.std.proofs.Common.{flat_map, take}
use Rattle.waitgraph.specs.Pending.{view_of}
use Rattle.report.specs.PendingReport.{awaited_line}
use Rattle.report.specs.inner.Printing.{Prints}
use Rattle.report.proofs.write.opened.write_awaited.Given as goal

abbrev pub invariant-loop-one : goal.invariant-loop-one
invariant-loop-one g l = Prints g.O.Output.written g.O.Output.failures l.fn.out l.fn.printer l.out l.printer (flat_map (awaited_line l.opened.analyser.now.reading l.opened.analyser.now.groups l.opened.analyser.now.recording (view_of l.opened.call.now) l.opened.rank) (take l.one-index l.awaits))
