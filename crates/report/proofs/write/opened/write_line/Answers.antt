use Rattle.report.proofs.OpenedLemmas.{prints_awaited}
use Rattle.report.proofs.write.opened.write_line.Goals as goal

pub returns : goal.returns
returns g c =
    prints_awaited g.O.Output.written g.O.Output.failures c.args.out.now c.write_front.new.out c.write_items.new.out c.write_end.new.out
    c.args.printer.now c.write_front.new.printer c.write_items.new.printer c.write_end.new.printer _ _ _ _ _ _ _
    c.write_front.ensures c.write_items.ensures c.items.ensures c.write_end.ensures
