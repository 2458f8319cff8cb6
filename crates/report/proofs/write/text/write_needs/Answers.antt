-- One more is printed, and at the end all are.
use Rattle.std.proofs.Common.{refl}
use Rattle.report.specs.TextReport.{unmet_line}
use Rattle.report.proofs.PrintingLemmas.{prints_next}
use Rattle.report.proofs.PrintedLists.{prints_end}
use Rattle.report.proofs.write.text.write_needs.Goals as goal

pub loop-need-preserved : goal.loop-need-preserved
loop-need-preserved g c =
    prints_next g.O.Output.written g.O.Output.failures (unmet_line c.args.analyser.now.reading c.args.analyser.now.groups c.args.analyser.now.recording c.args.rank) c.args.needs.now c.loop-need.need-index _ _
    c.args.out.now c.loop-need.out c.write_unmet.new.out c.args.printer.now c.loop-need.printer c.write_unmet.new.printer
    c.loop-need-test.true refl c.loop-need.invariant c.write_unmet.ensures

pub returns : goal.returns
returns g c =
    prints_end g.O.Output.written g.O.Output.failures (unmet_line c.args.analyser.now.reading c.args.analyser.now.groups c.args.analyser.now.recording c.args.rank) c.args.needs.now c.loop-need.need-index
    c.args.out.now c.loop-need.out c.args.printer.now c.loop-need.printer c.loop-need-test.false c.loop-need.invariant
