-- One more is printed, and at the end all are.
use Rattle.std.proofs.Common.{refl}
use Rattle.waitgraph.specs.Pending.{view_of}
use Rattle.report.specs.PendingReport.{awaited_line}
use Rattle.report.proofs.PrintingLemmas.{prints_next}
use Rattle.report.proofs.PrintedLists.{prints_end}
use Rattle.report.proofs.write.opened.write_awaited.Goals as goal

pub loop-one-preserved : goal.loop-one-preserved
loop-one-preserved g c =
    prints_next g.O.Output.written g.O.Output.failures (awaited_line c.args.opened.now.analyser.now.reading c.args.opened.now.analyser.now.groups c.args.opened.now.analyser.now.recording (view_of c.args.opened.now.call.now) c.args.opened.now.rank) c.args.awaits.now c.loop-one.one-index _ _
    c.args.out.now c.loop-one.out c.write_line.new.out c.args.printer.now c.loop-one.printer c.write_line.new.printer
    c.loop-one-test.true refl c.loop-one.invariant c.write_line.ensures

pub returns : goal.returns
returns g c =
    prints_end g.O.Output.written g.O.Output.failures (awaited_line c.args.opened.now.analyser.now.reading c.args.opened.now.analyser.now.groups c.args.opened.now.analyser.now.recording (view_of c.args.opened.now.call.now) c.args.opened.now.rank) c.args.awaits.now c.loop-one.one-index
    c.args.out.now c.loop-one.out c.args.printer.now c.loop-one.printer c.loop-one-test.false c.loop-one.invariant
