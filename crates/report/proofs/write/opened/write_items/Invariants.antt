-- The texts of the items so far are printed.
use Rattle.std.proofs.Common.{◌∷◌, flat_map, take}
use Rattle.mpicall.specs.Spelling.{space}
use Rattle.report.specs.PendingReport.{item_text}
use Rattle.report.specs.inner.Printing.{Prints}
use Rattle.report.proofs.write.opened.write_items.Given as goal

abbrev pub invariant-loop-item : goal.invariant-loop-item
invariant-loop-item g l = Prints g.O.Output.written g.O.Output.failures l.fn.out l.fn.printer l.out l.printer (flat_map (λ one. space ∷ item_text one) (take l.item-index l.items))
