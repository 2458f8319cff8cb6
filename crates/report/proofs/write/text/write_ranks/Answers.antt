-- One more is printed, and at the end all are.
use Rattle.std.proofs.Common.{get_or, refl}
use Rattle.report.specs.TextReport.{rank_lines}
use Rattle.report.proofs.PrintingLemmas.{prints_next}
use Rattle.report.proofs.PrintedLists.{prints_end}
use Rattle.report.proofs.write.text.write_ranks.Goals as goal

pub loop-rank-preserved : goal.loop-rank-preserved
loop-rank-preserved g c =
    prints_next g.O.Output.written g.O.Output.failures (rank_lines c.args.analyser.now.reading c.args.analyser.now.groups c.args.analyser.now.recording) c.args.ranks.now c.loop-rank.rank-index (get_or c.args.ranks.now c.loop-rank.rank-index 0) 0
    c.args.out.now c.loop-rank.out c.write_rank.new.out c.args.printer.now c.loop-rank.printer c.write_rank.new.printer
    c.loop-rank-test.true refl c.loop-rank.invariant c.write_rank.ensures

pub returns : goal.returns
returns g c =
    prints_end g.O.Output.written g.O.Output.failures (rank_lines c.args.analyser.now.reading c.args.analyser.now.groups c.args.analyser.now.recording) c.args.ranks.now c.loop-rank.rank-index
    c.args.out.now c.loop-rank.out c.args.printer.now c.loop-rank.printer c.loop-rank-test.false c.loop-rank.invariant
