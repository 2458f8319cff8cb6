use Rattle.report.proofs.PrintingLemmas.{prints_cycle}
use Rattle.report.proofs.write.text.write_cycle.Goals as goal

pub returns : goal.returns
returns g c =
    prints_cycle g.O.Output.written g.O.Output.failures c.args.out.now c.write_piece.new.out c.write_rank_fields.new.out c.write_piece-2.new.out
    c.args.printer.now c.write_piece.new.printer c.write_rank_fields.new.printer c.write_piece-2.new.printer c.args.ranks.now
    c.write_piece.ensures c.write_rank_fields.ensures c.write_piece-2.ensures
