-- One more is printed, and at the end all are.
use Rattle.std.proofs.Common.{refl}
use Rattle.report.specs.TextReport.{finding_line}
use Rattle.report.proofs.PrintingLemmas.{prints_next}
use Rattle.report.proofs.PrintedLists.{prints_end}
use Rattle.report.proofs.write.text.write_findings.Goals as goal

pub loop-finding-preserved : goal.loop-finding-preserved
loop-finding-preserved g c =
    prints_next g.O.Output.written g.O.Output.failures finding_line c.args.findings.now c.loop-finding.finding-index _ _
    c.args.out.now c.loop-finding.out c.write_finding.new.out c.args.printer.now c.loop-finding.printer c.write_finding.new.printer
    c.loop-finding-test.true refl c.loop-finding.invariant c.write_finding.ensures

pub returns : goal.returns
returns g c =
    prints_end g.O.Output.written g.O.Output.failures finding_line c.args.findings.now c.loop-finding.finding-index
    c.args.out.now c.loop-finding.out c.args.printer.now c.loop-finding.printer c.loop-finding-test.false c.loop-finding.invariant
