-- One more is printed, and at the end all are.
use Rattle.std.proofs.Common.{◌∷◌, refl}
use Rattle.mpicall.specs.Spelling.{space}
use Rattle.waitgraph.specs.declared.pending.Item.{Item}
use Rattle.report.specs.PendingReport.{item_text}
use Rattle.report.proofs.PrintingLemmas.{prints_next}
use Rattle.report.proofs.PrintedLists.{prints_end}
use Rattle.report.proofs.write.opened.write_items.Goals as goal

pub loop-item-preserved : goal.loop-item-preserved
loop-item-preserved g c =
    prints_next g.O.Output.written g.O.Output.failures (λ (one : Item). space ∷ item_text one) c.args.items.now c.loop-item.item-index _ _
    c.args.out.now c.loop-item.out c.write_item.new.out c.args.printer.now c.loop-item.printer c.write_item.new.printer
    c.loop-item-test.true refl c.loop-item.invariant c.write_item.ensures

pub returns : goal.returns
returns g c =
    prints_end g.O.Output.written g.O.Output.failures (λ (one : Item). space ∷ item_text one) c.args.items.now c.loop-item.item-index
    c.args.out.now c.loop-item.out c.args.printer.now c.loop-item.printer c.loop-item-test.false c.loop-item.invariant
