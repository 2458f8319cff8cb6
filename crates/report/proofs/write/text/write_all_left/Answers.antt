-- One more is printed, and at the end all are.
use Rattle.std.proofs.Common.{refl}
use Rattle.report.specs.Judged.{left_line}
use Rattle.report.proofs.PrintingLemmas.{prints_next}
use Rattle.report.proofs.PrintedLists.{prints_end}
use Rattle.report.proofs.write.text.write_all_left.Goals as goal

pub loop-one-preserved : goal.loop-one-preserved
loop-one-preserved g c =
    prints_next g.O.Output.written g.O.Output.failures left_line c.args.left.now c.loop-one.one-index _ _
    c.args.out.now c.loop-one.out c.write_left.new.out c.args.printer.now c.loop-one.printer c.write_left.new.printer
    c.loop-one-test.true refl c.loop-one.invariant c.write_left.ensures

pub returns : goal.returns
returns g c =
    prints_end g.O.Output.written g.O.Output.failures left_line c.args.left.now c.loop-one.one-index
    c.args.out.now c.loop-one.out c.args.printer.now c.loop-one.printer c.loop-one-test.false c.loop-one.invariant
