-- One more is printed, and at the end all are.
use Rattle.std.proofs.Common.{ℕ, ◌∷◌, get_or, refl}
use Rattle.std.specs.Fmt.{decimal}
use Rattle.mpicall.specs.Spelling.{space}
use Rattle.report.proofs.PrintingLemmas.{prints_next}
use Rattle.report.proofs.PrintedLists.{prints_end}
use Rattle.report.proofs.write.text.write_rank_fields.Goals as goal

pub loop-rank-preserved : goal.loop-rank-preserved
loop-rank-preserved g c =
    prints_next g.O.Output.written g.O.Output.failures (λ (rank : ℕ). space ∷ decimal rank) c.args.ranks.now c.loop-rank.rank-index (get_or c.args.ranks.now c.loop-rank.rank-index 0) 0
    c.args.out.now c.loop-rank.out c.write_rank_field.new.out c.args.printer.now c.loop-rank.printer c.write_rank_field.new.printer
    c.loop-rank-test.true refl c.loop-rank.invariant c.write_rank_field.ensures

pub returns : goal.returns
returns g c =
    prints_end g.O.Output.written g.O.Output.failures (λ (rank : ℕ). space ∷ decimal rank) c.args.ranks.now c.loop-rank.rank-index
    c.args.out.now c.loop-rank.out c.args.printer.now c.loop-rank.printer c.loop-rank-test.false c.loop-rank.invariant
