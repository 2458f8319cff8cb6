-- One more is printed, and at the end all are.
use Rattle.waitgraph.specs.Causes.{view_of}
use Rattle.waitgraph.specs.declared.cause.Cause.{Cause}
use Rattle.report.specs.TextReport.{cause_line}
use Rattle.report.proofs.PrintingLemmas.{prints_next}
use Rattle.report.proofs.PrintedLists.{prints_end}
use Rattle.report.proofs.write.text.write_causes.Goals as goal

pub loop-cause-preserved : goal.loop-cause-preserved
loop-cause-preserved g c =
    prints_next g.O.Output.written g.O.Output.failures (λ (cause : Cause). cause_line (view_of cause)) c.args.causes.now c.loop-cause.cause-index c.cause-item.result c.cause-item.result
    c.args.out.now c.loop-cause.out c.write_cause.new.out c.args.printer.now c.loop-cause.printer c.write_cause.new.printer
    c.loop-cause-test.true c.cause-item.is c.loop-cause.invariant c.write_cause.ensures

pub returns : goal.returns
returns g c =
    prints_end g.O.Output.written g.O.Output.failures (λ (cause : Cause). cause_line (view_of cause)) c.args.causes.now c.loop-cause.cause-index
    c.args.out.now c.loop-cause.out c.args.printer.now c.loop-cause.printer c.loop-cause-test.false c.loop-cause.invariant
